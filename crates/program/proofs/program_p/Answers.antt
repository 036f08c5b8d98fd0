-- The record check's cause, or else what the network gives.
use Rattle.matrix.specs.Lists.{quadratic_matrix}
use Rattle.program.proofs.Answers.{columns-refused, pass-columns}
use Rattle.program.proofs.program_p.Goals as goal

pub returns-in_err-net : goal.returns-in_err-net
returns-in_err-net c = columns-refused (rw c.in_err-net.was at c.new.ensures) c.from_residual.ensures.1

pub returns : goal.returns
returns c = pass-columns (rw c.in_ok-net.was at c.new.ensures) quadratic_matrix c.put_p.ensures
