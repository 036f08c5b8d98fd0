use Rattle.std.proofs.Common.{◌≤◌, ◌+◌, ◌≡◌, length}
use Rattle.lists.specs.UpTo.{each, sum}
use Rattle.numbering.specs.Layout.{layout_row}
use Rattle.numbering.specs.Network.{grid}
use Rattle.numbering.specs.declared.RowName.TheVariants.{Segment}
use Rattle.cells.specs.Puts.{PutsColumns}
use Rattle.record_columns.specs.Writers.{cost_turn}
use Rattle.record_columns.proofs.inner.generators.put_costs.Given as goal

abbrev pub invariant-loop-g : goal.invariant-loop-g
invariant-loop-g l =
    let turn = cost_turn (grid l.net) in
    record {
      base_row : l.base ≡ layout_row l.net.layout (Segment 0 0);
      base_bound : l.base ≤ 900000;
      first_bound : l.initial.c ≤ 900000;
      segments : l.seg ≡ sum l.g (grid l.net).segments;
      bound : l.cells.at ≤ l.initial.cells.at + l.seg;
      column : l.c ≡ l.initial.c + length (each l.g turn);
      few : l.c ≤ l.initial.c + l.g;
      written : PutsColumns (each l.g turn) l.initial.c l.initial.starts l.initial.cells l.starts l.cells;
    }
