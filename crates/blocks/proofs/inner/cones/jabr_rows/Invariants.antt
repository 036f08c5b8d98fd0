use Rattle.lists.specs.UpTo.{each}
use Rattle.lists.specs.Puts.{Puts}
use Rattle.numbering.specs.declared.RowName.TheVariants.{Jabr}
use Rattle.numbering.specs.Network.{grid}
use Rattle.complementarity.specs.Writes.{cone_in}
use Rattle.blocks.proofs.inner.cones.jabr_rows.Given as goal

abbrev pub invariant-loop-e : goal.invariant-loop-e
invariant-loop-e l = Puts (each l.e (λ e. cone_in (grid l.p.net) l.p.x.now l.p.z.now l.d 4 (Jabr e))) l.initial.list l.list
