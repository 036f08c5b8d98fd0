-- `sides::inner::fill_branches` meets its contract: each turn writes an element of angub and of anglb, and a limited branch's six behind them. Assumes nothing.
use Rattle.std.proofs.Common.{◌≡◌, ap, arith, length, length-append, length-set}
use Rattle.lists.specs.UpTo.{up_to, each, when}
use Rattle.lists.proofs.Each.{each_more}
use Rattle.numbering.specs.declared.RowName.TheVariants.{Angub, Anglb, Thermal}
use Rattle.numbering.proofs.Numbers.{layout_row_lem, layout-ncon}
use Rattle.rows.specs.Rows.{b}
use Rattle.sides.specs.Sides.{side_at, block_run, rating_sides, ratings_at, thermal_run}
use Rattle.sides.proofs.Ratings.{ratings_room}
use Rattle.sides.proofs.Behind.{behind-none, filled-none, behind_more, behind-length, behind-all}
use Rattle.sides.proofs.inner.fill_branches.Goals.{then-on, else-on}
use Rattle.sides.proofs.inner.fill_branches.Goals as goal

pub loop-e-init : goal.loop-e-init
unfolding up_to
loop-e-init c =
    let l = c.args.net.now.layout in
    let p = layout_row_lem l (Angub 0) in
    let q = layout_row_lem l (Anglb 0) in
    let t = layout_row_lem l (Thermal 0 0) in
    let e = layout-ncon l in
    record {
      first = omega arith;
      second = omega arith;
      third = omega arith;
      behind = behind-none _ _ _ _ (omega arith);
      stop = omega arith;
    }

pub put_six-requires : goal.put_six-requires
unfolding ratings_at b rating_sides
put_six-requires c =
    let a = c.args in
    let o = c.loop-e in
    let h : when c.thermal_limit_active-on.result (rating_sides c.rating-rate_a.result) ≡ ratings_at a.net.now.layout a.net.now.bytes.now o.e = cc in
    let k = rw c.if-on.true at h in
    simp length-set (omega (arith, ap length k, behind-length o.invariant.behind, ratings_room a.net.now.layout a.net.now.bytes.now a.net.now.laid o.e (omega arith)))

pub overflow_add-next : goal.overflow_add-next
unfolding ratings_at b rating_sides
overflow_add-next c =
    let a = c.args in
    let o = c.loop-e in
    let h : when c.thermal_limit_active-on.result (rating_sides c.rating-rate_a.result) ≡ ratings_at a.net.now.layout a.net.now.bytes.now o.e = cc in
    let k = rw c.if-on.true at h in
    omega (arith, ap length k, behind-length o.invariant.behind, ratings_room a.net.now.layout a.net.now.bytes.now a.net.now.laid o.e (omega arith))

pub loop-e-preserved : goal.loop-e-preserved
unfolding ratings_at b rating_sides
loop-e-preserved c =
    let a = c.args in
    let e = c.loop-e.e in
    let o = c.loop-e.invariant in
    let f = ratings_at a.net.now.layout a.net.now.bytes.now in
    let g = side_at a.net.now.layout a.net.now.bytes.now in
    let v = c.angle_rhs-v.ensures in
    let h : when c.thermal_limit_active-on.result (rating_sides c.rating-rate_a.result) ≡ f e = cc in
    let s = ap length (each_more f e) in
    elim c.if-on.branch [
      | then-on w ↦
          let k = rw w.if-on.true at h in
          record {
            first = o.first;
            second = o.second;
            third = o.third;
            behind = rw w.out-is (behind_more (g Angub) (g Anglb) f o.behind (omega arith) o.first o.second v.value v.value_2 o.stop (rw k at w.put_six.ensures));
            stop = rw w.next-is (omega (arith, ap length k, o.stop, s, length-append (each e f) (f e)));
          }
      | else-on w ↦
          let k = rw w.if-on.false at h in
          record {
            first = o.first;
            second = o.second;
            third = o.third;
            behind = rw w.out-is (behind_more (g Angub) (g Anglb) f o.behind (omega arith) o.first o.second v.value v.value_2 o.stop (filled-none k));
            stop = rw w.next-is (omega (arith, ap length k, o.stop, s, length-append (each e f) (f e)));
          }
    ]

pub returns : goal.returns
unfolding block_run thermal_run
returns c =
    let o = c.loop-e.invariant in
    rw (← c.angub_row-angub.ensures, ← c.anglb_row-anglb.ensures, ← c.thermal_row-next.ensures) (behind-all _ _ _ (omega arith) o.behind)
