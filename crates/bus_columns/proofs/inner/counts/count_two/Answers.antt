-- `bus_columns::inner::counts::count_two` meets its contract: a cell of w is there where its coefficient is not zero. Assumes nothing.
use Rattle.std.proofs.Common.{ℕ, ap, ◌∙◌, arith, Float}
use Rattle.std.specs.Float.Ieee.{ne}
use Rattle.lists.specs.UpTo.{bit}
use Rattle.rows.specs.Rows.{zero64}
use Rattle.numbering.specs.Network.{grid}
use Rattle.bus_columns.proofs.Counts.{rows-length}
use Rattle.bus_columns.proofs.inner.counts.count_two.Goals as goal

pub returns : goal.returns
returns c =
    let a = c.args in
    let b = c.branch-r.ensures in
    let f : Float → ℕ = λ x. bit (ne x zero64) in
    let p = c.bit_nonzero.ensures in
    let q = c.bit_nonzero-2.ensures in
    let s = rows-length (grid a.net.now) a.p a.q a.e in
    record {
      value = omega (arith, s, p.value ∙ ap f (rw (b.place, b.bytes) at c.w_at.ensures), q.value ∙ ap f (rw (b.place, b.bytes) at c.w_at-2.ensures));
      upper_bound = omega (arith, p.upper_bound, q.upper_bound);
    }
