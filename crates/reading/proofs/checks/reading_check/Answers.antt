-- The record check's cause, or else 6.
use Rattle.std.proofs.Common.{refl}
use Rattle.refusals.proofs.Laws.{ends, went_on}
use Rattle.reading.specs.Reading.{reading_check}
use Rattle.reading.proofs.checks.reading_check.Goals as goal

pub returns-in_err-net : goal.returns-in_err-net
unfolding reading_check
returns-in_err-net c = ends _ c.from_residual.ensures.1 (rw c.in_err-net.was at c.new.ensures) refl

pub returns : goal.returns
unfolding reading_check
returns c =
    let o = rw c.in_ok-net.was at c.new.ensures in
    went_on refl o.accepted (rw (o.layout, o.bytes) at c.solution_cause.ensures)
