-- The point lies past the blocks passed, by the rest.
use Rattle.std.proofs.Common.{◌≡◌, ◌+◌}
use Rattle.numbering.specs.Layout.{start_in}
use Rattle.numbering.proofs.inner.blocks.block_of.Given as goal

abbrev pub invariant-loop-item : goal.invariant-loop-item
invariant-loop-item l = start_in l.sizes l.item + l.rest ≡ l.p
