use Rattle.lists.specs.UpTo.{each}
use Rattle.lists.specs.Puts.{Puts}
use Rattle.numbering.specs.Network.{grid}
use Rattle.complementarity.specs.Writes.{row_entries}
use Rattle.bounds.specs.Kinds.{bound_name}
use Rattle.blocks.proofs.inner.bounded.bound_rows.Given as goal

abbrev pub invariant-loop-i : goal.invariant-loop-i
invariant-loop-i l = Puts (each l.i (λ i. row_entries (grid l.p.net) l.p.x.now l.p.z.now l.d (bound_name l.kind i))) l.initial.list l.list
