-- The points of each kind of count.
use Rattle.std.proofs.Common.{◌∙◌, ap, arith}
use Rattle.lists.specs.UpTo.{bit}
use Rattle.lists.proofs.Sums.{bit_le}
use Rattle.lists.proofs.Tests.{as_bit}
use Rattle.numbering.specs.Tally.{points_of}
use Rattle.numbering.proofs.inner.tally.points.Goals as goal

pub returns-in-Limited : goal.returns-in-Limited
unfolding points_of
returns-in-Limited c =
    let one = c.from.ensures ∙ as_bit _ in
    let bits = one ∙ ap bit c.thermal_limit_active.ensures in
    record { value = cc bits; upper_bound = omega (arith, one, bit_le c.thermal_limit_active.result) }

pub returns-in-Piecewise : goal.returns-in-Piecewise
unfolding points_of
returns-in-Piecewise c =
    let one = c.from-in-Piecewise.ensures ∙ as_bit _ in
    let bits = one ∙ ap bit c.piecewise.ensures in
    record { value = cc bits; upper_bound = omega (arith, one, bit_le c.piecewise.result) }

pub returns-in-Segments : goal.returns-in-Segments
unfolding points_of
returns-in-Segments c = record { value = cc c.segments.ensures.value; upper_bound = c.segments.ensures.upper_bound }
