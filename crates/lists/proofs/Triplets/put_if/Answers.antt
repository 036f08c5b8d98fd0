use Rattle.lists.proofs.Puts.{none}
use Rattle.lists.proofs.Triplets.put_if.Goals as goal

pub returns-else-hit : goal.returns-else-hit
returns-else-hit c = rw c.if-hit.false none
