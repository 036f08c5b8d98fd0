use Rattle.std.proofs.Common.{ℕ, ◌+◌, refl, ap, ◌∙◌, arith}
use Rattle.numbering.specs.Layout.{layout_row}
use Rattle.numbering.specs.Network.{grid}
use Rattle.numbering.specs.declared.RowName.TheVariants.{Pbal, Pgub, Pglb, Segment}
use Rattle.numbering.proofs.Laid.{laid-row}
use Rattle.matrix.specs.Columns.{pg_cells}
use Rattle.cells.proofs.Puts.{then}
use Rattle.records.proofs.Segments.{segments-fit}
use Rattle.record_columns.specs.Writers.{head, pair}
use Rattle.record_columns.proofs.Written.{slopes_are}
use Rattle.record_columns.proofs.inner.generators.put_pg.Goals as goal

pub put_slopes-requires : goal.put_slopes-requires
put_slopes-requires c =
    let r = c.generator-r.ensures in
    let count = rw (r.place, r.bytes) at c.segments.ensures.value in
    let fit = segments-fit c.args.net.now.laid.accepted c.args.g c.requires.g_lt_k.0 in
    (omega (arith, c.put_head.ensures.upper_bound, c.requires.g_lt_k), omega (arith, fit, count, c.requires.seg_value))

pub returns : goal.returns
unfolding pg_cells head pair
returns c =
    let net = c.args.net.now in
    let l = net.layout in
    let row = laid-row l net.bytes.now net.laid in
    let r = c.generator-r.ensures in
    let bus = rw (r.place, r.bytes) at c.gen_bus.ensures in
    let balance = c.pbal_row-balance.ensures ∙ ap (λ (i : ℕ). layout_row l (Pbal i)) bus ∙ row (Pbal ((grid net).gen_bus c.args.g)) refl in
    let upper = c.pgub_row.ensures ∙ row (Pgub c.args.g) refl in
    let lower = c.pglb_row.ensures ∙ row (Pglb c.args.g) refl in
    let first = rw (balance, upper, lower, r.place, r.bytes) at c.put_head.ensures.puts in
    let count = rw (r.place, r.bytes) at c.segments.ensures.value in
    let seg = c.requires.seg_value in
    let e =
    slopes_are l net.bytes.now c.args.g (ap (λ (r : ℕ). l.n + l.m + l.k + r) seg) (ap (λ (r : ℕ). layout_row l (Segment r 0)) seg) count in
    record {
      puts = then first (rw e at c.put_slopes.ensures.puts);
      upper_bound = omega (arith, c.put_head.ensures.upper_bound, c.put_slopes.ensures.upper_bound, count);
    }
