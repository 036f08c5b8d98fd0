use Rattle.std.proofs.Common.{arith}
use Rattle.numbering.specs.declared.ColumnName.TheVariants.{Qg}
use Rattle.numbering.proofs.Numbers.{layout-column}
use Rattle.cells.proofs.Puts.{no-column, column}
use Rattle.record_columns.proofs.inner.generators.put_qgs.Goals as goal

pub loop-g-init : goal.loop-g-init
loop-g-init c = record { col_bound = omega (arith, layout-column c.args.net.now.layout (Qg 0)); bound = omega arith; written = no-column _ }

pub loop-g-preserved : goal.loop-g-preserved
loop-g-preserved c =
    let o = c.loop-g.invariant in
    let w = c.put_qg.ensures in
    record {
      col_bound = o.col_bound;
      bound = omega (arith, w.upper_bound, o.bound);
      written = column _ c.loop-g.g o.written w.puts c.end_column.ensures;
    }
