-- `quadratic::inner::count_p` meets its contract: each turn counts one generator more. Assumes nothing.
use Rattle.std.specs.Float.Ieee.{ne}
use Rattle.std.proofs.Common.{◌≡◌, refl, ap, ◌∙◌, arith}
use Rattle.lists.specs.UpTo.{up_to, bit}
use Rattle.lists.proofs.Sums.{sum-next}
use Rattle.rows.specs.Rows.{zero64}
use Rattle.quadratic.specs.Quadratic.{quad_value, quad_count}
use Rattle.quadratic.proofs.inner.count_p.Goals as goal

pub loop-g-init : goal.loop-g-init
unfolding quad_count up_to
loop-g-init c = record { bound = omega arith; counted = refl }

pub loop-g-preserved : goal.loop-g-preserved
unfolding quad_count
loop-g-preserved c =
    let turn = c.loop-g in
    let a = c.args in
    let f = quad_value a.net.now.layout a.net.now.bytes.now in
    let n = c.bit_nonzero-count in
    let e : n.result ≡ bit (ne (f turn.g) zero64) = n.ensures.value ∙ ap (λ v. bit (ne v zero64)) c.quad_value.ensures in
    record { bound = omega arith; counted = omega (arith, turn.invariant.counted, sum-next turn.g (λ g. bit (ne (f g) zero64))) }
