-- `numbering::SocWrLayout::row_count` meets its contract: all rows end where the block after the last would start. Assumes nothing.
use Rattle.numbering.specs.Blocks.{total}
use Rattle.numbering.specs.Numbering.{row_table}
use Rattle.numbering.specs.Layout.{layout_rows, ncon_of}
use Rattle.numbering.proofs.SocWrLayout.row_count.Goals as goal

pub returns : goal.returns
unfolding ncon_of total layout_rows row_table
returns c = c.row_start.ensures.value
