-- The first record that has a cause ends the loop with it.
use Rattle.std.proofs.Common.{◌≡◌, sym, ◌∙◌, arith}
use Rattle.refusals.proofs.Laws.{leaves}
use Rattle.records.proofs.Causes.{first-none, first_more, first_found}
use Rattle.record_check.proofs.bus_causes.Goals as goal

pub loop-i-init : goal.loop-i-init
loop-i-init c = first-none _ _

pub returns-in_err-bus_cause : goal.returns-in_err-bus_cause
returns-in_err-bus_cause c =
    let here = rw (c.record.ensures.bytes, c.record.ensures.place) at c.bus_cause.ensures in
    leaves c.from_residual.ensures.1 ∙ sym (first_found _ _ _ c.loop-i.invariant here _ (omega arith) c.in_err-bus_cause.was)

pub loop-i-preserved : goal.loop-i-preserved
loop-i-preserved c =
    let here = rw (c.record.ensures.bytes, c.record.ensures.place) at c.bus_cause.ensures in
    first_more _ _ _ c.loop-i.invariant here c.in_ok-bus_cause.was

pub returns : goal.returns
returns c =
    let e : c.loop-i.i ≡ c.args.run.count = omega arith in
    rw (← e) (sym c.loop-i.invariant)
