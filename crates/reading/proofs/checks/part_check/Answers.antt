-- The network is let go.
use Rattle.std.proofs.Common.{sym, ◌∙◌}
use Rattle.refusals.proofs.Laws.{leaves}
use Rattle.reading.proofs.checks.part_check.Goals as goal

pub returns-in_err-check_part : goal.returns-in_err-check_part
returns-in_err-check_part c = leaves c.from_residual.ensures.1 ∙ sym (rw c.in_err-check_part.was at c.check_part.ensures)

pub returns : goal.returns
returns c = let r = rw c.in_ok-check_part.was at c.check_part.ensures in sym r.checked
