use Rattle.std.proofs.Common.{◌∙◌, arith}
use Rattle.adjoint.specs.Selectors.{selector_matrix}
use Rattle.adjoint.proofs.selectors.matrix_into.Goals as goal

pub returns : goal.returns
unfolding selector_matrix
returns c =
    (c.add_items.ensures ∙ rw (c.fill.ensures.after (λ y e. e), c.requires.1, c.requires.0), omega arith)
