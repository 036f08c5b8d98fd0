-- The first places are written.
use Rattle.std.specs.Float.{nan}
use Rattle.std.specs.Float.Ieee.{neg}
use Rattle.std.proofs.Common.{get_or}
use Rattle.lists.specs.UpTo.{listed}
use Rattle.lists.proofs.Overlay.{Overlaid}
use Rattle.reading.proofs.inner.fill.negate.Given as goal

abbrev pub invariant-loop-i : goal.invariant-loop-i
invariant-loop-i l = Overlaid (listed l.i (λ i. neg (get_or l.z i nan))) l.initial.out l.out
