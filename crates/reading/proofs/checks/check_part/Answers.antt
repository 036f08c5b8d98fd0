-- The record check's cause, or 6, or else the network.
use Rattle.std.proofs.Common.{refl, sym, ◌∙◌}
use Rattle.refusals.proofs.Laws.{leaves, or_else_refused, went_on}
use Rattle.reading.specs.Reading.{part_check}
use Rattle.reading.proofs.checks.check_part.Goals as goal

pub returns-in_err-net : goal.returns-in_err-net
unfolding part_check
returns-in_err-net c = rw (leaves c.from_residual.ensures.1) (or_else_refused _ (rw c.in_err-net.was at c.new.ensures))

pub returns-in_err-x_cause : goal.returns-in_err-x_cause
unfolding part_check
returns-in_err-x_cause c =
    let o = rw c.in_ok-net.was at c.new.ensures in
    let e = rw (o.layout, o.bytes) at c.x_cause.ensures in
    rw (leaves c.from_residual-in_err-x_cause.ensures.1) (sym (went_on refl o.accepted e) ∙ c.in_err-x_cause.was)

pub returns : goal.returns
unfolding part_check
returns c =
    let o = rw c.in_ok-net.was at c.new.ensures in
    let e = rw (o.layout, o.bytes) at c.x_cause.ensures in
    record { opened = o; checked = sym (went_on refl o.accepted e) ∙ c.in_ok-x_cause.was }
