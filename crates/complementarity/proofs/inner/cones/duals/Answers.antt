-- `complementarity::inner::cones::duals` meets its contract. Assumes nothing.
use Rattle.complementarity.proofs.inner.cones.duals.Goals as goal

pub dual-requires : goal.dual-requires
dual-requires c = c.requires 0

pub dual-requires-2 : goal.dual-requires-2
dual-requires-2 c = c.requires 1

pub dual-requires-3 : goal.dual-requires-3
dual-requires-3 c = c.requires 2

pub dual-requires-4 : goal.dual-requires-4
dual-requires-4 c = c.requires 3
