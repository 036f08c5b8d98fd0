use Rattle.std.proofs.Common.{◌≡◌}
use Rattle.lists.specs.UpTo.{each, sum, count}
use Rattle.lists.specs.Puts.{Puts}
use Rattle.numbering.specs.declared.RowName.TheVariants.{Segment}
use Rattle.numbering.specs.Network.{grid}
use Rattle.complementarity.specs.Writes.{row_entries}
use Rattle.blocks.proofs.inner.segments.segment_rows.Given as goal

abbrev pub invariant-loop-g : goal.invariant-loop-g
invariant-loop-g l =
    Puts (each l.g (λ g. each ((grid l.p.net).segments g) (λ t. row_entries (grid l.p.net) l.p.x.now l.p.z.now l.d (Segment g t)))) l.initial.list l.list
    × (l.before ≡ sum l.g (grid l.p.net).segments) × (l.curves ≡ count l.g (grid l.p.net).piecewise)
