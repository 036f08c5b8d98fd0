-- The count of the items is the answer.
use Rattle.kernel.proofs.Counted.{counted}
use Rattle.kernel.proofs.combinations.socwr_selector_new.Goals as goal

pub returns-clause-written_answer : goal.returns-clause-written_answer
returns-clause-written_answer c = counted _ _ _ (rw c.selector_new.ensures.value at c.from.ensures)
