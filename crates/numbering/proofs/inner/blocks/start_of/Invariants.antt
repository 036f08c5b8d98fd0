-- The start so far is that of the blocks passed.
use Rattle.std.proofs.Common.{◌≡◌, ◌≤◌, ◌*◌}
use Rattle.numbering.specs.Layout.{start_in}
use Rattle.numbering.proofs.inner.blocks.start_of.Given as goal

abbrev pub invariant-loop-size : goal.invariant-loop-size
invariant-loop-size l = (l.start ≤ 65536 * l.size-index) × (l.start ≡ start_in l.sizes l.size-index)
