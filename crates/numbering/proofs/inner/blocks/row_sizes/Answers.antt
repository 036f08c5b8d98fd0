-- `numbering::inner::blocks::row_sizes` meets its contract: each length is that of the table's block. Assumes nothing.
use Rattle.std.proofs.Common.{one-mul}
use Rattle.numbering.specs.Blocks.{size, start}
use Rattle.numbering.specs.Numbering.{row_table}
use Rattle.numbering.specs.Layout.{layout_rows, sizes_of}
use Rattle.numbering.proofs.inner.blocks.row_sizes.Goals as goal

pub returns : goal.returns
unfolding sizes_of layout_rows row_table size start
returns c = simp one-mul
