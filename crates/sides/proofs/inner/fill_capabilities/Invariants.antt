-- `sides::inner::fill_capabilities` meets its contract: each turn writes one element of each of the four blocks, which lie behind each other where the
-- layout says. Assumes nothing.
use Rattle.std.proofs.Common.{◌≤◌, ◌+◌, [], ◌∷◌, length}
use Rattle.numbering.specs.declared.RowName.TheVariants.{Pgub, Pglb, Qgub, Qglb}
use Rattle.sides.specs.Sides.{side_at}
use Rattle.sides.proofs.Across.{lane, Across}
use Rattle.sides.proofs.inner.fill_capabilities.Given as goal

abbrev pub invariant-loop-g : goal.invariant-loop-g
invariant-loop-g l =
    let c = l.net.layout.k in
    let f = side_at l.net.layout l.net.bytes.now in
    record {
      first : l.pgub + c ≤ l.pglb;
      second : l.pglb + c ≤ l.qgub;
      third : l.qgub + c ≤ l.qglb;
      fourth : l.qglb + c ≤ length l.initial.out;
      across : Across c l.g (lane l.pgub (f Pgub) ∷ lane l.pglb (f Pglb) ∷ lane l.qgub (f Qgub) ∷ lane l.qglb (f Qglb) ∷ []) 0 l.initial.out l.out;
    }
