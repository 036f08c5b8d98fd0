-- `complementarity::inner::single::put_scaled` meets its contract. Assumes nothing.
use Rattle.std.proofs.Common.{length-append, arith}
use Rattle.lists.proofs.Puts.{then, pos}
use Rattle.lines.specs.Line.{line_at}
use Rattle.complementarity.proofs.inner.single.put_scaled.Goals as goal

pub put_if-requires : goal.put_if-requires
unfolding line_at
put_if-requires c = let h = simp length-append at c.requires in omega arith

pub put_if-requires-2 : goal.put_if-requires-2
unfolding line_at
put_if-requires-2 c = let h = simp length-append at c.requires in omega (arith, pos c.put_if.ensures)

pub returns : goal.returns
unfolding line_at
returns c = then c.put_if.ensures c.put_if-2.ensures
