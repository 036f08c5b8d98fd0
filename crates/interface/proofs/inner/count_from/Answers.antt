-- The list so far is that of the places passed.
use Rattle.std.proofs.Common.{◌≡◌, ◌+◌, refl, sym, ◌∙◌, arith, length-take-le}
use Rattle.lists.specs.UpTo.{listed, overlay}
use Rattle.lists.proofs.Listed.{listed-length}
use Rattle.lists.proofs.Overlay.{front-none, front-more, overlay-whole}
use Rattle.interface.proofs.inner.count_from.Goals as goal

pub loop-i-init : goal.loop-i-init
loop-i-init c = (length-take-le _ _ c.requires.0, front-none _)

pub loop-i-preserved : goal.loop-i-preserved
loop-i-preserved c =
    let i = c.loop-i.invariant in
    (i.0, front-more (λ j. c.args.base + j) i.1 _ refl c.loop-i-test.true)

pub returns : goal.returns
unfolding overlay
returns c =
    let i = c.loop-i.invariant in
    let e : c.loop-i.i ≡ c.args.n = omega (arith, i.0) in
    let n = listed-length (λ j. c.args.base + j) c.args.n in
    let w : c.loop-i.place-items ≡ listed c.args.n (λ j. c.args.base + j) = (rw e at i.1.is) ∙ overlay-whole _ _ (n ∙ sym i.0) in
    rw (n, w)
