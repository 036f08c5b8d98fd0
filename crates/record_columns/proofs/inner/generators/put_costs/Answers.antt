use Rattle.std.proofs.Common.{◌+◌, ◌≡◌, refl, ap, sym, ◌∙◌, arith}
use Rattle.lists.specs.UpTo.{up_to, sum, bit}
use Rattle.lists.proofs.Sums.{sum-next}
use Rattle.numbering.specs.Layout.{layout_row}
use Rattle.numbering.specs.Network.{grid}
use Rattle.numbering.specs.declared.ColumnName.TheVariants.{CostOf}
use Rattle.numbering.specs.declared.RowName.TheVariants.{Segment}
use Rattle.numbering.proofs.Numbers.{layout-column, layout_row_lem}
use Rattle.cells.proofs.Puts.{columns-none}
use Rattle.records.proofs.Segments.{segments-fit}
use Rattle.record_columns.proofs.Written.{costs_are, more-columns, with-cost, without-cost}
use Rattle.record_columns.proofs.inner.generators.put_costs.Goals as goal
use Rattle.record_columns.proofs.inner.generators.put_costs.Goals.{then-piecewise, else-piecewise}

pub loop-g-init : goal.loop-g-init
unfolding up_to
loop-g-init c =
    let l = c.args.net.now.layout in
    record {
      base_row = c.segment_row-base.ensures;
      base_bound = omega (arith, c.segment_row-base.ensures, layout_row_lem l (Segment 0 0));
      first_bound = omega (arith, c.cost_column-c.ensures, layout-column l (CostOf 0));
      segments = refl;
      bound = omega arith;
      column = omega arith;
      few = omega arith;
      written = columns-none;
    }

pub overflow_add-base : goal.overflow_add-base
overflow_add-base c =
    let a = c.args.net.now.laid.accepted in
    let o = c.loop-g.invariant in
    omega (arith, segments-fit a c.loop-g.g c.loop-g-test.true, o.base_bound, o.segments, a.few-segments)

pub put_ones-requires : goal.put_ones-requires
put_ones-requires c =
    let a = c.args.net.now.laid.accepted in
    let o = c.loop-g.invariant in
    let r = c.generator-r.ensures in
    let count = rw (r.place, r.bytes) at c.segments-count.ensures.value in
    let fit = segments-fit a c.loop-g.g c.loop-g-test.true in
    (omega (arith, fit, o.segments, o.bound, a.few-segments, c.requires), omega (arith, fit, count, a.few-segments), omega (arith, fit, o.base_bound, o.segments, a.few-segments))

pub end_column-requires : goal.end_column-requires
end_column-requires c =
    let a = c.args.net.now.laid.accepted in
    let o = c.loop-g.invariant in
    let r = c.generator-r.ensures in
    let count = rw (r.place, r.bytes) at c.segments-count.ensures.value in
    let fit = segments-fit a c.loop-g.g c.loop-g-test.true in (
      omega (arith, o.few, o.first_bound, c.args.net.now.laid.range.k-range),
      omega (arith, fit, count, o.segments, o.bound, c.put_ones.ensures.upper_bound, a.few-segments, c.requires),
    )

pub overflow_add-seg : goal.overflow_add-seg
overflow_add-seg c =
    let a = c.args.net.now.laid.accepted in
    let r = c.generator-r.ensures in
    let count = rw (r.place, r.bytes) at c.segments-count.ensures.value in
    omega (arith, segments-fit a c.loop-g.g c.loop-g-test.true, count, c.loop-g.invariant.segments, a.few-segments)

pub loop-g-preserved : goal.loop-g-preserved
loop-g-preserved c =
    let net = c.args.net.now in
    let l = net.layout in
    let b = net.bytes.now in
    let G = grid net in
    let g = c.loop-g.g in
    let o = c.loop-g.invariant in
    let r = c.generator-r.ensures in
    let count = rw (r.place, r.bytes) at c.segments-count.ensures.value in
    let segments : c.loop-g.seg + c.segments-count.result ≡ sum (g + 1) G.segments = omega (arith, count, o.segments, sum-next g G.segments) in
    let more = more-columns l b g in
    let active = sym (rw (r.place, r.bytes) at c.piecewise.ensures) in
    let row : c.segment_row-base.result + c.loop-g.seg ≡ layout_row l (Segment (sum g G.segments) 0) =
    omega (arith, o.base_row, o.segments, layout_row_lem l (Segment 0 0), layout_row_lem l (Segment (sum g G.segments) 0)) in
    elim c.if-piecewise.branch [
      | then-piecewise w ↦
          let on = active ∙ w.if-piecewise.true in
          let cells = rw (costs_are l b g row count) at w.put_ones.ensures.puts in
          let one = ap bit on in
          record {
            base_row = o.base_row;
            base_bound = o.base_bound;
            first_bound = o.first_bound;
            segments = segments;
            bound = rw w.cells-is (omega (arith, w.put_ones.ensures.upper_bound, o.bound));
            column = omega (arith, w.c-is, o.column, one, more);
            few = omega (arith, w.c-is, o.few);
            written = rw (w.starts-is, w.cells-is) (with-cost l b g o.written o.column on cells w.end_column.ensures);
          }
      | else-piecewise w ↦
          let off = active ∙ w.if-piecewise.false in
          let zero = ap bit off in
          record {
            base_row = o.base_row;
            base_bound = o.base_bound;
            first_bound = o.first_bound;
            segments = segments;
            bound = rw w.cells-is (omega (arith, o.bound));
            column = omega (arith, w.c-is, o.column, zero, more);
            few = omega (arith, w.c-is, o.few);
            written = rw (w.starts-is, w.cells-is) (without-cost l b g o.written off);
          }
    ]
