-- `sides::inner::fill_buses` meets its contract: each turn writes one element of each of the four blocks, which lie behind each other where the layout says.
-- Assumes nothing.
use Rattle.std.proofs.Common.{◌≤◌, ◌+◌, arith}
use Rattle.numbering.specs.Layout.{layout_row, ncon_of}
use Rattle.numbering.specs.declared.SocWrLayout.{SocWrLayout}
use Rattle.numbering.specs.declared.RowName.TheVariants.{Pbal, Qbal, Wub, Wlb}
use Rattle.numbering.proofs.Numbers.{layout_row_lem, layout-ncon}
use Rattle.rows.specs.Rows.{b}
use Rattle.sides.specs.Sides.{side_at, block_run}
use Rattle.sides.proofs.Across.{across_none, across_four, across_all}
use Rattle.sides.proofs.inner.fill_buses.Goals as goal

-- the blocks lie behind each other, and end among all rows
order : (l : SocWrLayout)
    → (layout_row l (Pbal 0) + l.n ≤ layout_row l (Qbal 0)) × (layout_row l (Qbal 0) + l.n ≤ layout_row l (Wub 0))
    × (layout_row l (Wub 0) + l.n ≤ layout_row l (Wlb 0)) × (layout_row l (Wlb 0) + l.n ≤ ncon_of l)
order l = simp (layout_row_lem l, layout-ncon l) (omega arith, omega arith, omega arith, omega arith)

pub loop-i-init : goal.loop-i-init
loop-i-init c =
    let o = order c.args.net.now.layout in
    let p = c.pbal_row-pbal.ensures in
    let q = c.qbal_row-qbal.ensures in
    let u = c.wub_row-wub.ensures in
    let v = c.wlb_row-wlb.ensures in
    record {
      first = rw (p, q) o.0;
      second = rw (q, u) o.1;
      third = rw (u, v) o.2;
      fourth = rw v (omega arith);
      across = across_none _ _ (omega arith, (rw (p, q) o.0, (rw (q, u) o.1, (rw (u, v) o.2, tt))));
    }

pub loop-i-preserved : goal.loop-i-preserved
unfolding side_at b
loop-i-preserved c =
    let a = c.args in
    let o = c.loop-i.invariant in
    let r = c.bus-r.ensures in
    let f = side_at a.net.now.layout a.net.now.bytes.now in
    let next = across_four (f Pbal) (f Qbal) (f Wub) (f Wlb) o.across (omega arith) in
    record {
      first = o.first;
      second = o.second;
      third = o.third;
      fourth = o.fourth;
      across = next (rw (r.place, r.bytes) at c.pd.ensures) (rw (r.place, r.bytes) at c.qd.ensures) c.bound_side.ensures.rhs c.bound_side-in-loop-i.ensures.rhs;
    }

pub returns : goal.returns
unfolding block_run
returns c =
    let o = c.loop-i.invariant in
    rw (← c.pbal_row-pbal.ensures, ← c.qbal_row-qbal.ensures, ← c.wub_row-wub.ensures, ← c.wlb_row-wlb.ensures) (across_all (omega arith) o.across)
