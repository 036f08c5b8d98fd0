-- The two lengths in front, and then one more at each turn.
use Rattle.std.proofs.Common.{ℕ, ◌≡◌, ap, ◌∙◌, arith, List, length, get_or}
use Rattle.lists.specs.UpTo.{listed, overlay}
use Rattle.lists.proofs.Overlay.{front-none, front-more, listed-all}
use Rattle.numbering.specs.Lookups.{cones_of}
use Rattle.numbering.proofs.ConeLengths.{cones-count, cone-zero, cone_nonnegative}
use Rattle.numbering.proofs.cones.cones_into.Goals as goal

pub loop-i-init : goal.loop-i-init
loop-i-init c =
    let l = c.args.l in
    let f : ℕ → ℕ = λ j. get_or (cones_of l) j 0 in
    let zero = front-more f (front-none f) _ (c.zero_rows.ensures ∙ cone-zero l 0 (omega arith)) (omega (arith, c.requires.1)) in
    front-more f zero _ (c.nonnegative_rows.ensures ∙ cone_nonnegative l 1 (omega arith) (omega arith)) (omega (arith, c.requires.1))

pub loop-i-preserved : goal.loop-i-preserved
loop-i-preserved c = front-more (λ j. get_or (cones_of c.args.l) j 0) c.loop-i.invariant _ c.second_order_length.ensures (omega (arith, c.requires.1))

pub returns : goal.returns
returns c =
    let l = c.args.l in
    let e : c.loop-i.i ≡ length (cones_of l) = omega (arith, cones-count l) in
    c.loop-i.invariant.is
    ∙ ap (λ (xs : List ℕ). overlay xs c.args.out.now) (ap (λ (i : ℕ). listed i (λ j. get_or (cones_of l) j 0)) e ∙ listed-all (cones_of l) 0)
