-- The list so far is that of the places passed.
use Rattle.std.proofs.Common.{◌+◌, ◌≡◌, length}
use Rattle.lists.specs.UpTo.{listed}
use Rattle.lists.proofs.Overlay.{Overlaid}
use Rattle.interface.proofs.inner.count_from.Given as goal

abbrev pub invariant-loop-i : goal.invariant-loop-i
invariant-loop-i l = (length l.initial.place-items ≡ l.n) × Overlaid (listed l.i (λ j. l.base + j)) l.initial.place-items l.place-items
