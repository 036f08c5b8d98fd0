-- `lines::inner::cones::ends` meets its contract. Assumes nothing.
use Rattle.lines.proofs.Lines.{ends-up, ends_down}
use Rattle.lines.proofs.inner.cones.ends.Goals as goal

pub returns-then-from-to : goal.returns-then-from-to
returns-then-from-to c = rw (← c.from_bus-from.ensures.value, ← c.to_bus-to.ensures.value, ends-up _ _ _ _ _ c.if-from-to.true) cc

pub returns : goal.returns
returns c = rw (← c.from_bus-from.ensures.value, ← c.to_bus-to.ensures.value, ends_down _ _ _ _ _ c.if-from-to.false) cc
