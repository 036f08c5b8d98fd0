-- `cost::inner::total_cost` meets its contract: one generator more in each turn, whose segments start where those before it end.
-- Assumes nothing.
use Rattle.std.proofs.Common.{◌+◌, ◌≡◌}
use Rattle.records.specs.Network.{segments_before}
use Rattle.numbering.specs.Layout.{layout_column}
use Rattle.numbering.specs.Network.{grid}
use Rattle.numbering.specs.declared.ColumnName.TheVariants.{Pg}
use Rattle.cost.proofs.Costs.{total_so_far}
use Rattle.cost.proofs.inner.total_cost.Given as goal

abbrev pub invariant-loop-g : goal.invariant-loop-g
invariant-loop-g i =
    let l = i.net.layout in
    (i.pg ≡ layout_column l (Pg 0)) × (i.first ≡ l.n + l.m + l.k + segments_before l.n l.m i.net.bytes.now i.g) × (i.sum ≡ total_so_far (grid i.net) i.x i.g)
