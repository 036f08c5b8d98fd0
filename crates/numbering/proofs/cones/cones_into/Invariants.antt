-- The lengths so far stand at the front.
use Rattle.std.proofs.Common.{get_or}
use Rattle.lists.specs.UpTo.{listed}
use Rattle.lists.proofs.Overlay.{Overlaid}
use Rattle.numbering.specs.Lookups.{cones_of}
use Rattle.numbering.proofs.cones.cones_into.Given as goal

abbrev pub invariant-loop-i : goal.invariant-loop-i
invariant-loop-i l = Overlaid (listed l.i (λ j. get_or (cones_of l.l) j 0)) l.fn.out l.out
