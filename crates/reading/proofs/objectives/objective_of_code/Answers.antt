-- The check's cause, 7, or else the value of the objective that the code names.
use Rattle.std.proofs.Common.{refl, ap, Ok, arith}
use Rattle.refusals.proofs.Laws.{ends_by, went_on_by, answer_ended, answer_went_on}
use Rattle.reading.specs.Reading.{code_answer}
use Rattle.reading.proofs.Readings.{part-long, named}
use Rattle.reading.proofs.objectives.objective_of_code.Goals as goal

pub returns-in_err-net : goal.returns-in_err-net
unfolding code_answer
returns-in_err-net c = answer_ended _ _ refl c.from_residual.ensures.1 (rw c.in_err-net.was at c.check_part.ensures)

pub returns-in_err-objective : goal.returns-in_err-objective
unfolding code_answer
returns-in_err-objective c =
    let r = rw c.in_ok-net.was at c.check_part.ensures in
    let e = named _ _ _ (rw c.objective_at.ensures at c.ok_or.ensures.value) in
    answer_went_on _ _ refl r.checked (ends_by _ _ e _ c.from_residual-in_err-objective.ensures.1 c.in_err-objective.was)

pub value-requires : goal.value-requires
value-requires c = let r = rw c.in_ok-net.was at c.check_part.ensures in omega (arith, part-long _ _ _ _ _ _ r)

pub returns : goal.returns
unfolding code_answer
returns c =
    let r = rw c.in_ok-net.was at c.check_part.ensures in
    let o = r.opened in
    let e = named _ _ _ (rw c.objective_at.ensures at c.ok_or.ensures.value) in
    let v = rw (o.layout, o.bytes) at c.value.ensures in
    answer_went_on _ _ refl r.checked (went_on_by _ _ e c.in_ok-objective.was (λ q. ap Ok (rw (← q) at v)))
