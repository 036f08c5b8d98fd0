use Rattle.std.proofs.Common.{get_or}
use Rattle.lists.specs.UpTo.{each}
use Rattle.lists.specs.Puts.{Puts}
use Rattle.numbering.specs.Network.{grid}
use Rattle.complementarity.specs.Writes.{row_entries}
use Rattle.bounds.specs.declared.BoundKind.TheVariants.{Wub}
use Rattle.blocks.specs.Kinds.{kind_rows}
use Rattle.blocks.proofs.inner.bounded.kinds_rows.Given as goal

abbrev pub invariant-loop-kind : goal.invariant-loop-kind
invariant-loop-kind l =
    Puts (each l.kind-index (λ j. kind_rows l.p.net.layout (row_entries (grid l.p.net) l.p.x.now l.p.z.now l.d) (get_or l.kinds j Wub))) l.initial.list l.list
