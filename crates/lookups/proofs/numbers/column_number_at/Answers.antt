-- The check's cause, and else what is asked of its network.
use Rattle.std.proofs.Common.{refl}
use Rattle.refusals.proofs.Laws.{ends, went_on}
use Rattle.lookups.proofs.numbers.column_number_at.Goals as goal

pub returns-in_err-new : goal.returns-in_err-new
returns-in_err-new c = ends _ c.from_residual.ensures.1 (rw c.in_err-new.was at c.new.ensures) refl

pub returns : goal.returns
returns c =
    let o = rw c.in_ok-new.was at c.new.ensures in
    went_on refl o.accepted (rw (o.layout, o.bytes) at c.column_asked.ensures)
