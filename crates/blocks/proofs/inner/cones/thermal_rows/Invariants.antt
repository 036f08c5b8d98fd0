use Rattle.std.proofs.Common.{◌≡◌}
use Rattle.lists.specs.UpTo.{each, count}
use Rattle.lists.specs.Puts.{Puts}
use Rattle.numbering.specs.Network.{grid}
use Rattle.blocks.specs.Kinds.{thermal_in}
use Rattle.blocks.proofs.inner.cones.thermal_rows.Given as goal

abbrev pub invariant-loop-e : goal.invariant-loop-e
invariant-loop-e l =
    Puts (each l.e (thermal_in (grid l.p.net) l.p.x.now l.p.z.now l.d)) l.initial.list l.list
    × (l.limits ≡ count l.e (grid l.p.net).limited)
