-- How many right sides the limited branches have. Assumes nothing.
use Rattle.std.proofs.Common.{ℕ, ◌+◌, ◌*◌, ◌<◌, ◌≤◌, ◌≡◌, refl, ◌∙◌, Bool, true, false, List, arith, length, Float}
use Rattle.lists.specs.UpTo.{each, when, bit}
use Rattle.lists.proofs.Each.{each_next}
use Rattle.lists.proofs.Sums.{each-length, sum_ext, sum-mul}
use Rattle.numbering.specs.declared.SocWrLayout.{SocWrLayout}
use Rattle.numbering.specs.Laid.{net_of, Laid}
use Rattle.numbering.proofs.Laid.{limits_are}
use Rattle.sides.specs.Sides.{rating_sides, ratings_at}

six : (v : Float) → length (rating_sides v) ≡ 6
unfolding rating_sides
six v = refl

module _ (l : SocWrLayout) (bytes : List ℕ) where
  rating_length : (e : ℕ) → length (ratings_at l bytes e) ≡ 6 * bit ((net_of l bytes).limited e)
  unfolding ratings_at
  rating_length e = go ((net_of l bytes).limited e) ((net_of l bytes).rate_a e)
    where
      go : (b : Bool) (v : Float) → length (when b (rating_sides v)) ≡ 6 * bit b
      go true v = six v
      go false v = refl

  pub ratings_length : Laid l bytes → length (each l.m (ratings_at l bytes)) ≡ 6 * l.t
  ratings_length r =
      each-length l.m (ratings_at l bytes)
      ∙ sum_ext l.m _ _ (λ e h. rating_length e)
      ∙ sum-mul l.m 6 (λ e. bit ((net_of l bytes).limited e))
      ∙ rw (limits_are l bytes r)

  pub ratings_room : Laid l bytes → (e : ℕ) → e < l.m → length (each e (ratings_at l bytes)) + length (ratings_at l bytes e) ≤ 6 * l.t
  ratings_room r e h = omega (arith, each_next (ratings_at l bytes) e l.m h, ratings_length r)
