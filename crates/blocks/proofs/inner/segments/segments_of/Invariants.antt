use Rattle.lists.specs.UpTo.{each}
use Rattle.lists.specs.Puts.{Puts}
use Rattle.numbering.specs.declared.RowName.TheVariants.{Segment}
use Rattle.numbering.specs.Network.{grid}
use Rattle.complementarity.specs.Writes.{row_entries}
use Rattle.blocks.proofs.inner.segments.segments_of.Given as goal

abbrev pub invariant-loop-t : goal.invariant-loop-t
invariant-loop-t l = Puts (each l.t (λ t. row_entries (grid l.p.net) l.p.x.now l.p.z.now l.d (Segment l.g t))) l.initial.list l.list
