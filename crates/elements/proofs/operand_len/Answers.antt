-- The record check, then whether there is a length.
use Rattle.elements.proofs.Counted.{length-checked}
use Rattle.elements.proofs.operand_len.Goals as goal

pub returns : goal.returns
returns c = length-checked _ _ _ _ c.operand_length.ensures c.length_if.ensures
