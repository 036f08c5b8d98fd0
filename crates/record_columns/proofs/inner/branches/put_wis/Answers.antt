use Rattle.std.proofs.Common.{arith}
use Rattle.numbering.specs.declared.ColumnName.TheVariants.{Wi}
use Rattle.numbering.proofs.Numbers.{layout-column}
use Rattle.cells.proofs.Puts.{no-column, column}
use Rattle.record_columns.proofs.inner.branches.put_wis.Goals as goal

pub loop-e-init : goal.loop-e-init
loop-e-init c = record { col_bound = omega (arith, layout-column c.args.net.now.layout (Wi 0)); bound = omega arith; written = no-column _ }

pub loop-e-preserved : goal.loop-e-preserved
loop-e-preserved c =
    let o = c.loop-e.invariant in
    let w = c.put_wi.ensures in
    record {
      col_bound = o.col_bound;
      bound = omega (arith, w.upper_bound, o.bound);
      written = column _ c.loop-e.e o.written w.puts c.end_column.ensures;
    }
