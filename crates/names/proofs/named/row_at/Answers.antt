-- `names::named::row_at` meets its contract: the block that p is in, the record there and the place make a name that stands at p. Assumes nothing.
use Rattle.std.proofs.Common.{◌≡◌, ap, ◌∙◌, arith, length}
use Rattle.numbering.specs.Numbering.{thermal_rows}
use Rattle.numbering.proofs.Entered.{row_blocks_lem}
use Rattle.names.proofs.Standing.{row-total, plain-row-stands, segment_in, segment-stands, jabr-stands, thermal_in_lem, thermal-stands}
use Rattle.names.proofs.named.row_at.Goals as goal

pub block_of-block-requires : goal.block_of-block-requires
block_of-block-requires c =
    let w = c.args.net.now in
    rw c.row_sizes-sizes.ensures (row-total w.layout w.bytes.now w.laid c.args.p c.requires)

pub returns-then-block-lt-SEGMENT : goal.returns-then-block-lt-SEGMENT
returns-then-block-lt-SEGMENT c =
    let w = c.args.net.now in
    let r = rw c.row_sizes-sizes.ensures at c.block_of-block.ensures.in_block in
    plain-row-stands w.layout w.bytes.now w.laid c.args.p c.block_of-block.result r c.if-block-lt-SEGMENT.true _ c.plain_row.ensures

pub locate-g-requires : goal.locate-g-requires
locate-g-requires c =
    let w = c.args.net.now in
    let r = rw c.row_sizes-sizes.ensures at c.block_of-block.ensures.in_block in
    let g = c.generators.ensures in
    rw (g.bytes, g.first, g.count) (segment_in w.layout w.bytes.now w.laid c.args.p c.block_of-block.result r c.if-block-eq-SEGMENT.true)

pub returns-then-block-eq-SEGMENT : goal.returns-then-block-eq-SEGMENT
returns-then-block-eq-SEGMENT c =
    let w = c.args.net.now in
    let r = rw c.row_sizes-sizes.ensures at c.block_of-block.ensures.in_block in
    let g = c.generators.ensures in
    segment-stands w.layout w.bytes.now w.laid c.args.p c.block_of-block.result r c.if-block-eq-SEGMENT.true c.locate-g.result
    (rw (g.bytes, g.first, g.count) at c.locate-g.ensures)

pub returns-then-block-eq-JABR : goal.returns-then-block-eq-JABR
returns-then-block-eq-JABR c =
    let w = c.args.net.now in
    let r = rw c.row_sizes-sizes.ensures at c.block_of-block.ensures.in_block in
    jabr-stands w.layout w.bytes.now w.laid c.args.p c.block_of-block.result r c.if-block-eq-JABR.true

pub locate-e-requires : goal.locate-e-requires
locate-e-requires c =
    let w = c.args.net.now in
    let lengths = c.row_sizes-sizes.ensures in
    let many = ap length lengths ∙ row_blocks_lem w.layout in
    let last : c.block_of-block.result.item ≡ thermal_rows = omega (arith, c.block_of-block.ensures.item_in_bounds) in
    let b = c.branches.ensures in
    rw (b.bytes, b.first, b.count) (thermal_in_lem w.layout w.bytes.now w.laid c.args.p c.block_of-block.result (rw lengths at c.block_of-block.ensures.in_block) last)

pub returns : goal.returns
returns c =
    let w = c.args.net.now in
    let lengths = c.row_sizes-sizes.ensures in
    let many = ap length lengths ∙ row_blocks_lem w.layout in
    let last : c.block_of-block.result.item ≡ thermal_rows = omega (arith, c.block_of-block.ensures.item_in_bounds) in
    let b = c.branches.ensures in
    thermal-stands w.layout w.bytes.now w.laid c.args.p c.block_of-block.result (rw lengths at c.block_of-block.ensures.in_block) last
    c.locate-e.result (rw (b.bytes, b.first, b.count) at c.locate-e.ensures)
