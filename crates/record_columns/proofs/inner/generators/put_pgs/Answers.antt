use Rattle.std.proofs.Common.{◌≡◌, ap, refl, arith}
use Rattle.lists.specs.UpTo.{up_to, sum}
use Rattle.lists.proofs.Sums.{sum-next}
use Rattle.numbering.specs.Network.{grid}
use Rattle.numbering.specs.declared.ColumnName.TheVariants.{Pg}
use Rattle.numbering.proofs.Numbers.{layout-column}
use Rattle.cells.proofs.Puts.{columns-none, column}
use Rattle.records.proofs.Segments.{segments-fit, segments-below}
use Rattle.record_columns.proofs.inner.generators.put_pgs.Goals as goal

pub loop-g-init : goal.loop-g-init
unfolding up_to
loop-g-init c =
    record { col_bound = omega (arith, layout-column c.args.net.now.layout (Pg 0)); segments = refl; bound = omega arith; written = columns-none }

pub put_pg-requires : goal.put_pg-requires
put_pg-requires c =
    let o = c.loop-g.invariant in
    let a = c.args.net.now.laid.accepted in
    record {
      g_lt_k = (c.loop-g-test.true, omega (arith, segments-below a c.loop-g.g (omega arith), o.segments, o.bound, a.few-segments, a.few_generators, c.requires));
      seg_value = o.segments;
    }

pub end_column-requires : goal.end_column-requires
end_column-requires c =
    let o = c.loop-g.invariant in
    let a = c.args.net.now.laid.accepted in (
      omega (arith, o.col_bound, a.few_generators),
      omega (
        arith,
        segments-fit a c.loop-g.g c.loop-g-test.true,
        c.put_pg.ensures.upper_bound,
        o.segments,
        o.bound,
        a.few-segments,
        a.few_generators,
        c.requires,
      ),
    )

pub overflow_add-seg : goal.overflow_add-seg
overflow_add-seg c =
    let a = c.args.net.now.laid.accepted in
    let r = c.generator.ensures in
    let count = rw (r.place, r.bytes) at c.segments-seg.ensures.value in
    omega (arith, segments-fit a c.loop-g.g c.loop-g-test.true, count, c.loop-g.invariant.segments, a.few-segments)

pub loop-g-preserved : goal.loop-g-preserved
loop-g-preserved c =
    let g = c.loop-g.g in
    let o = c.loop-g.invariant in
    let w = c.put_pg.ensures in
    let r = c.generator.ensures in
    let count = rw (r.place, r.bytes) at c.segments-seg.ensures.value in
    record {
      col_bound = o.col_bound;
      segments = omega (arith, count, o.segments, sum-next g (grid c.args.net.now).segments);
      bound = omega (arith, w.upper_bound, o.bound, count);
      written = column _ g o.written w.puts c.end_column.ensures;
    }

pub returns-clause-upper_bound : goal.returns-clause-upper_bound
returns-clause-upper_bound c =
    let e : c.loop-g.g ≡ c.args.net.now.layout.k = omega arith in
    let all = ap (λ n. sum n (grid c.args.net.now).segments) e in
    omega (arith, c.loop-g.invariant.bound, c.loop-g.invariant.segments, all, c.args.net.now.laid.accepted.counts-add)
