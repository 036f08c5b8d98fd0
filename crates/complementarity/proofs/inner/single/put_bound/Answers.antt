-- `complementarity::inner::single::put_bound` meets its contract. Assumes nothing.
use Rattle.std.proofs.Common.{length-append, arith}
use Rattle.lists.proofs.Puts.{then, pos}
use Rattle.complementarity.specs.Writes.{bound_line}
use Rattle.complementarity.proofs.inner.single.put_bound.Goals as goal

pub put_scaled-requires : goal.put_scaled-requires
unfolding bound_line
put_scaled-requires c = let h = simp length-append at c.requires.line_bound in omega arith

pub put-requires : goal.put-requires
unfolding bound_line
put-requires c = let h = simp length-append at c.requires.line_bound in omega (arith, pos c.put_scaled.ensures)

pub returns : goal.returns
unfolding bound_line
returns c = then c.put_scaled.ensures (rw c.slack.ensures at c.put.ensures)
