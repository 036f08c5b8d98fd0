use Rattle.std.proofs.Common.{◌≡◌, refl, ap, ◌∙◌, arith}
use Rattle.lists.specs.UpTo.{up_to, bit}
use Rattle.lists.proofs.Sums.{sum-next, bit_le}
use Rattle.numbering.specs.Network.{grid}
use Rattle.lists.proofs.Tests.{as_bit}
use Rattle.cells.proofs.Puts.{columns-none, column}
use Rattle.record_columns.proofs.inner.branches.put_flows.Goals as goal

pub loop-e-init : goal.loop-e-init
unfolding up_to
loop-e-init c = record { ranked = refl; few = omega arith; bound = omega arith; written = columns-none }

pub loop-e-preserved : goal.loop-e-preserved
loop-e-preserved c =
    let o = c.loop-e.invariant in
    let w = c.put_flow.ensures in
    let r = c.branch-net.ensures in
    let on = c.thermal_limit_active in
    let b : c.from-rank.result ≡ bit on.result = c.from-rank.ensures ∙ as_bit on.result in
    let limited = ap bit (rw (r.place, r.bytes) at on.ensures) in
    record {
      ranked = omega (arith, b, limited, o.ranked, sum-next c.loop-e.e (λ i. bit ((grid c.args.net.now).limited i)));
      few = omega (arith, b, bit_le on.result, o.few);
      bound = omega (arith, w.upper_bound, o.bound);
      written = column _ c.loop-e.e o.written w.puts c.end_column.ensures;
    }
