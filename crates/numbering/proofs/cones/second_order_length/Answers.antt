-- A four for each branch, and then threes.
use Rattle.std.proofs.Common.{arith}
use Rattle.numbering.proofs.ConeLengths.{cone-four, cone-three}
use Rattle.numbering.proofs.cones.second_order_length.Goals as goal

pub returns-then-i-l : goal.returns-then-i-l
returns-then-i-l c = cone-four c.args.l c.args.i (omega arith) (omega arith)

pub returns : goal.returns
returns c = cone-three c.args.l c.args.i (omega arith) (omega arith) c.requires.1
