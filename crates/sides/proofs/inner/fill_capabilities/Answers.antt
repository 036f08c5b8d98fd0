-- `sides::inner::fill_capabilities` meets its contract: each turn writes one element of each of the four blocks, which lie behind each other where the
-- layout says. Assumes nothing.
use Rattle.std.proofs.Common.{◌≤◌, ◌+◌, arith}
use Rattle.numbering.specs.Layout.{layout_row, ncon_of}
use Rattle.numbering.specs.declared.SocWrLayout.{SocWrLayout}
use Rattle.numbering.specs.declared.RowName.TheVariants.{Pgub, Pglb, Qgub, Qglb}
use Rattle.numbering.proofs.Numbers.{layout_row_lem, layout-ncon}
use Rattle.sides.specs.Sides.{side_at, block_run}
use Rattle.sides.proofs.Across.{across_none, across_four, across_all}
use Rattle.sides.proofs.inner.fill_capabilities.Goals as goal

-- the blocks lie behind each other, and end among all rows
order : (l : SocWrLayout)
    → (layout_row l (Pgub 0) + l.k ≤ layout_row l (Pglb 0)) × (layout_row l (Pglb 0) + l.k ≤ layout_row l (Qgub 0))
    × (layout_row l (Qgub 0) + l.k ≤ layout_row l (Qglb 0)) × (layout_row l (Qglb 0) + l.k ≤ ncon_of l)
order l = simp (layout_row_lem l, layout-ncon l) (omega arith, omega arith, omega arith, omega arith)

pub loop-g-init : goal.loop-g-init
loop-g-init c =
    let o = order c.args.net.now.layout in
    let p = c.pgub_row-pgub.ensures in
    let q = c.pglb_row-pglb.ensures in
    let u = c.qgub_row-qgub.ensures in
    let v = c.qglb_row-qglb.ensures in
    record {
      first = rw (p, q) o.0;
      second = rw (q, u) o.1;
      third = rw (u, v) o.2;
      fourth = rw v (omega arith);
      across = across_none _ _ (omega arith, (rw (p, q) o.0, (rw (q, u) o.1, (rw (u, v) o.2, tt))));
    }

pub loop-g-preserved : goal.loop-g-preserved
unfolding side_at
loop-g-preserved c =
    let a = c.args in
    let o = c.loop-g.invariant in
    let f = side_at a.net.now.layout a.net.now.bytes.now in
    let next = across_four (f Pgub) (f Pglb) (f Qgub) (f Qglb) o.across (omega arith) in
    record {
      first = o.first;
      second = o.second;
      third = o.third;
      fourth = o.fourth;
      across = next c.bound_side.ensures.rhs c.bound_side-in-loop-g.ensures.rhs c.bound_side-in-loop-g-2.ensures.rhs c.bound_side-in-loop-g-3.ensures.rhs;
    }

pub returns : goal.returns
unfolding block_run
returns c =
    let o = c.loop-g.invariant in
    rw (← c.pgub_row-pgub.ensures, ← c.pglb_row-pglb.ensures, ← c.qgub_row-qgub.ensures, ← c.qglb_row-qglb.ensures) (across_all (omega arith) o.across)
