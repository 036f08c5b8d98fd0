-- `cost::inner::max` meets its contract. Assumes nothing.
use Rattle.cost.proofs.Costs.{max_greater, max_nan, max_stays}
use Rattle.cost.proofs.inner.max.Goals as goal

pub returns-then-a-v : goal.returns-then-a-v
returns-then-a-v c = max_greater _ _ c.if-a-v.true

pub returns-then-a : goal.returns-then-a
returns-then-a c = max_nan _ _ c.if-a.true

pub returns : goal.returns
returns c = max_stays _ _ c.if-a-v.false c.if-a.false
