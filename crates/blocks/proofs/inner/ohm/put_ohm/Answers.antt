use Rattle.std.proofs.Common.{length-append, arith}
use Rattle.lists.proofs.Puts.{then, pos}
use Rattle.lines.specs.Ohm.{ohm_entries}
use Rattle.blocks.proofs.inner.ohm.put_ohm.Goals as goal

pub put_if-requires : goal.put_if-requires
unfolding ohm_entries
put_if-requires c = let h = simp length-append at c.requires in omega arith

pub put_if-requires-2 : goal.put_if-requires-2
unfolding ohm_entries
put_if-requires-2 c = let h = simp length-append at c.requires in omega (arith, pos c.put_if.ensures)

pub put_if-requires-3 : goal.put_if-requires-3
unfolding ohm_entries
put_if-requires-3 c = let h = simp length-append at c.requires in omega (arith, pos c.put_if.ensures, pos c.put_if-2.ensures)

pub put-requires : goal.put-requires
unfolding ohm_entries
put-requires c =
    let h = simp length-append at c.requires in
    omega (arith, pos c.put_if.ensures, pos c.put_if-2.ensures, pos c.put_if-3.ensures)

pub returns : goal.returns
unfolding ohm_entries
returns c = then (then (then c.put_if.ensures c.put_if-2.ensures) c.put_if-3.ensures) c.put.ensures
