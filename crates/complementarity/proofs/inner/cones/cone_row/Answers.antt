-- `complementarity::inner::cones::cone_row` meets its contract. Assumes nothing.
use Rattle.lists.proofs.Puts.{then, pos}
use Rattle.complementarity.specs.Writes.{cone_row_of}
use Rattle.std.proofs.Common.{length-append, arith}
use Rattle.complementarity.proofs.inner.cones.cone_row.Goals as goal

pub cone_by_x-requires : goal.cone_by_x-requires
unfolding cone_row_of
cone_by_x-requires c = let h = simp length-append at c.requires in omega arith

pub cone_by_z-requires : goal.cone_by_z-requires
unfolding cone_row_of
cone_by_z-requires c = let h = simp length-append at c.requires in omega (arith, pos c.cone_by_x.ensures)

pub returns : goal.returns
unfolding cone_row_of
returns c = then c.cone_by_x.ensures c.cone_by_z.ensures
