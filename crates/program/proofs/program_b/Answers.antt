-- The record check's cause, or else what the network gives.
use Rattle.matrix.specs.Lists.{right_side}
use Rattle.program.proofs.Answers.{floats_refused, pass_floats}
use Rattle.program.proofs.program_b.Goals as goal

pub returns-in_err-net : goal.returns-in_err-net
returns-in_err-net c = floats_refused (rw c.in_err-net.was at c.new.ensures) c.from_residual.ensures.1

pub returns : goal.returns
returns c = pass_floats (rw c.in_ok-net.was at c.new.ensures) right_side c.put_b.ensures
