use Rattle.std.proofs.Common.{◌≤◌, ◌+◌}
use Rattle.lists.specs.UpTo.{each}
use Rattle.numbering.specs.Layout.{layout_row}
use Rattle.numbering.specs.declared.RowName.TheVariants.{Segment}
use Rattle.cells.specs.Puts.{PutsCells}
use Rattle.record_columns.specs.Writers.{slopes}
use Rattle.record_columns.proofs.inner.generators.put_slopes.Given as goal

abbrev pub invariant-loop-t : goal.invariant-loop-t
invariant-loop-t l =
    let N = l.net.layout in
    record {
      bound : l.cells.at ≤ l.initial.cells.at + l.t;
      written : PutsCells (each l.t (slopes l.net.bytes.now (N.n + N.m + N.k + l.seg) (layout_row N (Segment l.seg 0)))) l.initial.cells l.cells;
    }
