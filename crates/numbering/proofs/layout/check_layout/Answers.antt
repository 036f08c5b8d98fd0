-- The check's cause is passed on, or the counts of its pass make the layout.
use Rattle.std.proofs.Common.{refl}
use Rattle.refusals.proofs.Laws.{ends_by, went_on_by}
use Rattle.numbering.proofs.layout.check_layout.Goals as goal

pub returns-in_err-counted : goal.returns-in_err-counted
returns-in_err-counted c = ends_by _ _ c.check_counting.ensures _ c.from_residual.ensures.1 c.in_err-counted.was

pub returns : goal.returns
returns c = went_on_by _ _ c.check_counting.ensures c.in_ok-counted.was (λ e. rw (← e) refl)
