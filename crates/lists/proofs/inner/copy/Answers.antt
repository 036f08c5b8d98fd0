-- One place more at each turn, and all at the end.
use Rattle.std.proofs.Common.{◌≡◌, refl, sym, ap, ◌∙◌, arith, ◌+◌, add-one, [], ◌∷◌, ◌++◌, length, take, take-suc, length-take-le}
use Rattle.std.proofs.Math.Seq.{take-length}
use Rattle.lists.specs.UpTo.{overlay}
use Rattle.lists.proofs.Overlay.{one_more}
use Rattle.lists.proofs.inner.copy.Goals as goal

pub loop-i-init : goal.loop-i-init
unfolding overlay
loop-i-init g c = record { room = omega arith; is = refl }

pub loop-i-preserved : goal.loop-i-preserved
loop-i-preserved g c =
    let s = c.args.s.now in
    let i = c.loop-i.i in
    let v = c.index-s-i.result in
    let next : take (i + 1) s ≡ take i s ++ v ∷ [] =
    rw add-one (take-suc s i v c.loop-i-test.true ∙ ap (λ x. take i s ++ x ∷ []) (sym c.index-s-i.is)) in
    rw next (one_more c.loop-i.invariant i v (sym (length-take-le i s (omega arith))) (omega (arith, c.requires)))

pub returns : goal.returns
returns g c =
    let e : c.loop-i.i ≡ length c.args.s.now = omega arith in
    rw (e, take-length) at c.loop-i.invariant.is
