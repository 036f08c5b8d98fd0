use Rattle.std.proofs.Common.{◌≡◌, length, get_or}
use Rattle.std.specs.Float.{binary64, nan}
use Rattle.std.specs.Float.Ieee.{mul}
use Rattle.lists.specs.UpTo.{listed}
use Rattle.lists.proofs.Overlay.{Overlaid}
use Rattle.combination.proofs.combine.scale.Given as goal

abbrev pub invariant-loop-v : goal.invariant-loop-v
invariant-loop-v l =
    (length l.out ≡ length l.initial.out) × Overlaid (listed l.v-index (λ j. mul binary64 l.sign (get_or l.initial.out j nan))) l.initial.out l.out
