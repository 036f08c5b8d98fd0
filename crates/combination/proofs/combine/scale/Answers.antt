use Rattle.std.proofs.Common.{◌≡◌, refl, ap, ◌∙◌, arith, length, get_or}
use Rattle.std.specs.Float.{binary64, nan}
use Rattle.std.specs.Float.Ieee.{mul}
use Rattle.lists.proofs.Listed.{listed-length}
use Rattle.lists.proofs.Overlay.{long, front-none, front-more, past-written, overlay-whole}
use Rattle.combination.proofs.combine.scale.Goals as goal

pub loop-v-init : goal.loop-v-init
loop-v-init c = (refl, front-none _)

pub loop-v-preserved : goal.loop-v-preserved
loop-v-preserved c =
    let n = listed-length (λ j. mul binary64 c.args.sign (get_or c.args.out.now j nan)) c.loop-v.v-index in
    let e = past-written c.loop-v.invariant.1 c.loop-v.v-index nan (omega arith) in
    let o = front-more _ c.loop-v.invariant.1 _ (ap (mul binary64 c.args.sign) e) (omega arith) in
    (long o, o)

pub returns : goal.returns
returns c =
    let e : c.loop-v.v-index ≡ length c.args.out.now = omega arith in
    (rw e at c.loop-v.invariant.1.is) ∙ overlay-whole _ _ (listed-length _ _)
