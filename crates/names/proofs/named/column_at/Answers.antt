-- `names::named::column_at` meets its contract: the block that p is in and the record there make a name that stands at p. Assumes nothing.
use Rattle.std.proofs.Common.{◌≡◌, ap, ◌∙◌, arith, length}
use Rattle.numbering.specs.Numbering.{cost_columns}
use Rattle.numbering.proofs.Entered.{column_blocks_lem}
use Rattle.names.proofs.Standing.{column-total, plain-column-stands, cost-inside, cost-stands}
use Rattle.names.proofs.named.column_at.Goals as goal

pub block_of-block-requires : goal.block_of-block-requires
block_of-block-requires c =
    let w = c.args.net.now in
    rw c.column_sizes-sizes.ensures (column-total w.layout w.bytes.now w.laid c.args.p c.requires)

pub returns-then-block-lt-COST : goal.returns-then-block-lt-COST
returns-then-block-lt-COST c =
    let w = c.args.net.now in
    let r = rw c.column_sizes-sizes.ensures at c.block_of-block.ensures.in_block in
    plain-column-stands w.layout w.bytes.now w.laid c.args.p c.block_of-block.result r c.if-block-lt-COST.true _ c.plain_column.ensures

pub locate-g-requires : goal.locate-g-requires
locate-g-requires c =
    let w = c.args.net.now in
    let lengths = c.column_sizes-sizes.ensures in
    let many = ap length lengths ∙ column_blocks_lem w.layout in
    let last : c.block_of-block.result.item ≡ cost_columns = omega (arith, c.block_of-block.ensures.item_in_bounds) in
    let g = c.generators.ensures in
    rw (g.bytes, g.first, g.count) (cost-inside w.layout w.bytes.now w.laid c.args.p c.block_of-block.result (rw lengths at c.block_of-block.ensures.in_block) last)

pub returns : goal.returns
returns c =
    let w = c.args.net.now in
    let lengths = c.column_sizes-sizes.ensures in
    let many = ap length lengths ∙ column_blocks_lem w.layout in
    let last : c.block_of-block.result.item ≡ cost_columns = omega (arith, c.block_of-block.ensures.item_in_bounds) in
    let g = c.generators.ensures in
    cost-stands w.layout w.bytes.now w.laid c.args.p c.block_of-block.result (rw lengths at c.block_of-block.ensures.in_block) last
    c.locate-g.result (rw (g.bytes, g.first, g.count) at c.locate-g.ensures)
