-- The check's cause is passed on, or the layout is taken from its answer.
use Rattle.std.proofs.Common.{sym, ap, Ok}
use Rattle.refusals.proofs.Laws.{ends_by, went_on_by}
use Rattle.numbering.specs.declared.CheckedLayout.{CheckedLayout}
use Rattle.numbering.proofs.SocWrLayout.new.Goals as goal

pub returns-in_err-check_layout : goal.returns-in_err-check_layout
returns-in_err-check_layout c = ends_by _ _ c.check_layout.ensures _ c.from_residual.ensures.1 c.in_err-check_layout.was

pub returns : goal.returns
returns c = went_on_by _ _ c.check_layout.ensures c.in_ok-check_layout.was (λ e. sym (ap (λ (x : CheckedLayout). Ok x.layout) e))
