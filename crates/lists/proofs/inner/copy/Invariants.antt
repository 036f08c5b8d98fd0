-- The first places are copied.
use Rattle.std.proofs.Common.{take}
use Rattle.lists.proofs.Overlay.{Overlaid}
use Rattle.lists.proofs.inner.copy.Given as goal

abbrev pub invariant-loop-i : goal.invariant-loop-i
invariant-loop-i g l = Overlaid (take l.i l.s) l.initial.d l.d
