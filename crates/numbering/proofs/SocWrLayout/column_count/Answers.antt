-- `numbering::SocWrLayout::column_count` meets its contract: all columns end where the block after the last would start. Assumes nothing.
use Rattle.numbering.specs.Blocks.{total}
use Rattle.numbering.specs.Numbering.{column_table}
use Rattle.numbering.specs.Layout.{layout_columns, nvar_of}
use Rattle.numbering.proofs.SocWrLayout.column_count.Goals as goal

pub returns : goal.returns
unfolding nvar_of total layout_columns column_table
returns c = c.column_start.ensures.value
