-- 6 ends it, or the room decides.
use Rattle.std.proofs.Common.{sym, ◌∙◌}
use Rattle.entries.proofs.Answers.{given, stopped, went_on}
use Rattle.entries.proofs.kkt_checked.Goals as goal

pub returns-in_err-solution_cause : goal.returns-in_err-solution_cause
returns-in_err-solution_cause c = stopped _ (sym c.solution_cause.ensures ∙ c.in_err-solution_cause.was) c.from_residual.ensures.1

pub invariant_of-p : goal.invariant_of-p
invariant_of-p c = record { given = given c.args.net.now.laid (sym c.solution_cause.ensures ∙ c.in_ok-solution_cause.was) }

pub returns : goal.returns
returns c = went_on (sym c.solution_cause.ensures ∙ c.in_ok-solution_cause.was) c.kkt_written.ensures
