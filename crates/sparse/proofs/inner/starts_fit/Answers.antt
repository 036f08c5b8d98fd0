-- The first and the last of the starts are looked at, and `rise` looks at each neighbour.
use Rattle.sparse.specs.Checks.{starts_fit}
use Rattle.sparse.proofs.inner.starts_fit.Goals as goal

pub returns-in-Some : goal.returns-in-Some
unfolding starts_fit
returns-in-Some c = let last = c.in-Some.ensures.item in rw (← last.0, last.3.1 0, c.rise.ensures)

pub returns : goal.returns
unfolding starts_fit
returns c = let none = c.in_default.ensures.item in rw (← none.0)
