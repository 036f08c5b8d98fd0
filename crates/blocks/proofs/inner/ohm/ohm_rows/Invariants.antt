use Rattle.lists.specs.UpTo.{each}
use Rattle.lists.specs.Puts.{Puts}
use Rattle.numbering.specs.Network.{grid}
use Rattle.kkt.specs.Kkt.{plain_row}
use Rattle.rows.specs.Rows.{ohm_row}
use Rattle.blocks.proofs.inner.ohm.ohm_rows.Given as goal

abbrev pub invariant-loop-e : goal.invariant-loop-e
invariant-loop-e l = Puts (each l.e (λ e. plain_row (grid l.net) (ohm_row l.q e))) l.initial.list l.list
