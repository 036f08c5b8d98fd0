-- `bus_columns::inner::counts::count_own` meets its contract. Assumes nothing.
use Rattle.std.proofs.Common.{sym, ap, ◌∙◌, arith, Float}
use Rattle.std.specs.Float.Ieee.{neg, ne}
use Rattle.lists.specs.UpTo.{bit}
use Rattle.rows.specs.Rows.{zero64}
use Rattle.numbering.specs.Network.{grid}
use Rattle.bus_columns.proofs.Counts.{own-length}
use Rattle.bus_columns.proofs.inner.counts.count_own.Goals as goal

pub returns-then-voltage_bound_active : goal.returns-then-voltage_bound_active
returns-then-voltage_bound_active c =
    let G = grid c.args.net.now in
    let i = c.args.i in
    let b = c.bus-r.ensures in
    let at = rw (b.place, b.bytes) at c.voltage_bound_active.ensures in
    let t = ap bit (sym at ∙ c.if-voltage_bound_active.true) in
    let e1 = ap (λ (x : Float). bit (ne (neg x) zero64)) (rw (b.place, b.bytes) at c.gs.ensures) in
    let e2 = ap (λ (x : Float). bit (ne x zero64)) (rw (b.place, b.bytes) at c.bs.ensures) in
    record {
      value = omega (arith, own-length G i, t, e1, e2, c.bit_nonzero.ensures.value, c.bit_nonzero-2.ensures.value);
      upper_bound = omega (arith, c.bit_nonzero.ensures.upper_bound, c.bit_nonzero-2.ensures.upper_bound);
    }

pub returns : goal.returns
returns c =
    let G = grid c.args.net.now in
    let i = c.args.i in
    let b = c.bus-r.ensures in
    let at = rw (b.place, b.bytes) at c.voltage_bound_active.ensures in
    let t = ap bit (sym at ∙ c.if-voltage_bound_active.false) in
    let e1 = ap (λ (x : Float). bit (ne (neg x) zero64)) (rw (b.place, b.bytes) at c.gs.ensures) in
    let e2 = ap (λ (x : Float). bit (ne x zero64)) (rw (b.place, b.bytes) at c.bs.ensures) in
    record {
      value = omega (arith, own-length G i, t, e1, e2, c.bit_nonzero.ensures.value, c.bit_nonzero-2.ensures.value);
      upper_bound = omega (arith, c.bit_nonzero.ensures.upper_bound, c.bit_nonzero-2.ensures.upper_bound);
    }
