-- One place more at each turn, and all at the end.
use Rattle.std.specs.Float.{nan}
use Rattle.std.specs.Float.Ieee.{neg}
use Rattle.std.proofs.Common.{◌≡◌, refl, ◌∙◌, arith, length, get_or}
use Rattle.lists.proofs.Overlay.{front-none, front-more, overlay-whole}
use Rattle.lists.proofs.Listed.{listed-length}
use Rattle.reading.proofs.inner.fill.negate.Goals as goal

pub loop-i-init : goal.loop-i-init
loop-i-init c = front-none _

pub loop-i-preserved : goal.loop-i-preserved
loop-i-preserved c = front-more (λ j. neg (get_or c.args.z.now j nan)) c.loop-i.invariant _ refl (omega arith)

pub returns : goal.returns
returns c =
    let e : c.loop-i.i ≡ length c.args.out.now = omega arith in
    (rw e at c.loop-i.invariant.is) ∙ overlay-whole _ _ (listed-length _ _)
