-- No axis: the record check, then 7 with the code.
use Rattle.std.proofs.Common.{refl, sym}
use Rattle.refusals.specs.Refusals.{refuse_unless}
use Rattle.refusals.proofs.Laws.{answer_ended, answer_went_on, answer-refused}
use Rattle.kernel.proofs.sens.id_at.Goals as goal

pub returns-in_err-check_records-in-None : goal.returns-in_err-check_records-in-None
returns-in_err-check_records-in-None c =
    rw c.in-None.is (answer_ended _ _ c.check_records.ensures c.from_residual.ensures.1 c.in_err-check_records-in-None.was)

pub returns-in_ok-check_records-in-None : goal.returns-in_ok-check_records-in-None
unfolding refuse_unless
returns-in_ok-check_records-in-None c = rw c.in-None.is (answer_went_on _ _ c.check_records.ensures c.in_ok-check_records-in-None.was (sym (answer-refused _ refl)))
