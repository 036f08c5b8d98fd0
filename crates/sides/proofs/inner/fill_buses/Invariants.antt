-- `sides::inner::fill_buses` meets its contract: each turn writes one element of each of the four blocks, which lie behind each other where the layout says.
-- Assumes nothing.
use Rattle.std.proofs.Common.{◌≤◌, ◌+◌, [], ◌∷◌, length}
use Rattle.numbering.specs.declared.RowName.TheVariants.{Pbal, Qbal, Wub, Wlb}
use Rattle.sides.specs.Sides.{side_at}
use Rattle.sides.proofs.Across.{lane, Across}
use Rattle.sides.proofs.inner.fill_buses.Given as goal

abbrev pub invariant-loop-i : goal.invariant-loop-i
invariant-loop-i l =
    let c = l.net.layout.n in
    let f = side_at l.net.layout l.net.bytes.now in
    record {
      first : l.pbal + c ≤ l.qbal;
      second : l.qbal + c ≤ l.wub;
      third : l.wub + c ≤ l.wlb;
      fourth : l.wlb + c ≤ length l.initial.out;
      across : Across c l.i (lane l.pbal (f Pbal) ∷ lane l.qbal (f Qbal) ∷ lane l.wub (f Wub) ∷ lane l.wlb (f Wlb) ∷ []) 0 l.initial.out l.out;
    }
