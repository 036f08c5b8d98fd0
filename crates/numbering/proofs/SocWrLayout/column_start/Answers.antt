-- The lengths before a block, added up, are where it starts.
use Rattle.std.proofs.Common.{ℕ, ap, ◌∙◌, List, length, arith}
use Rattle.numbering.specs.Layout.{layout_columns, start_in}
use Rattle.numbering.proofs.Entered.{start_is, column_blocks_lem, column-most}
use Rattle.numbering.proofs.SocWrLayout.column_start.Goals as goal

pub start_of-requires : goal.start_of-requires
start_of-requires c =
    let l = c.args.self in
    let lengths = c.column_sizes-sizes.ensures in
    let many = ap length lengths ∙ column_blocks_lem l in
    record { block_in_bounds = (omega arith, omega arith); by_index = rw lengths (column-most l c.requires.in_range) }

pub returns : goal.returns
returns c =
    let a = c.args in
    let sum = ap (λ (ws : List ℕ). start_in ws a.block) c.column_sizes-sizes.ensures in
    record { value = c.start_of.ensures.value ∙ sum ∙ start_is (layout_columns a.self) a.block; upper_bound = c.start_of.ensures.upper_bound }
