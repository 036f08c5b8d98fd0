-- The check's answer without the counts.
use Rattle.std.proofs.Common.{sym, ◌∙◌}
use Rattle.refusals.proofs.Laws.{leaves, refused_by, held_by}
use Rattle.record_check.proofs.check_records.Goals as goal

pub returns-in_err-check_counting : goal.returns-in_err-check_counting
returns-in_err-check_counting c = leaves c.from_residual.ensures.1 ∙ sym (refused_by _ _ c.check_counting.ensures c.in_err-check_counting.was)

pub returns : goal.returns
returns c = sym (held_by _ _ c.check_counting.ensures c.in_ok-check_counting.was).0
