-- Where x is not refused, the value on the network.
use Rattle.std.proofs.Common.{refl, ap, Ok, arith}
use Rattle.refusals.proofs.Laws.{ends, went_on}
use Rattle.reading.specs.Reading.{objective_answer}
use Rattle.reading.proofs.Readings.{part-long}
use Rattle.reading.proofs.objectives.objective.Goals as goal

pub returns-in_err-check_part : goal.returns-in_err-check_part
unfolding objective_answer
returns-in_err-check_part c = ends _ c.from_residual.ensures.1 (rw c.in_err-check_part.was at c.check_part.ensures) refl

pub value-requires : goal.value-requires
value-requires c = let r = rw c.in_ok-check_part.was at c.check_part.ensures in omega (arith, part-long _ _ _ _ _ _ r)

pub returns : goal.returns
unfolding objective_answer
returns c =
    let r = rw c.in_ok-check_part.was at c.check_part.ensures in
    let o = r.opened in
    went_on refl r.checked (ap Ok (rw (o.layout, o.bytes) at c.value.ensures))
