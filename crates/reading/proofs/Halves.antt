-- Two halves of a list, each negated from a part of z: what `inner::fill::negate_both` leaves. Assumes nothing.
use Rattle.std.specs.Float.{nan}
use Rattle.std.specs.Float.Ieee.{neg}
use Rattle.std.proofs.Common.{ℕ, ◌+◌, ◌-◌, ◌≤◌, ◌≡◌, ◌∙◌, ap, List, [], ◌∷◌, ◌++◌, append_assoc, arith, length, take, drop, get_or, length-append, length-take, length-drop, length-take-le}
use Rattle.std.proofs.Common.{take_at, drop_at, drop-drop, get_or-take, get_or-drop, Float}
use Rattle.lists.specs.UpTo.{listed, overlay}
use Rattle.lists.proofs.Each.{each_ext}
use Rattle.lists.proofs.Listed.{listed-length}

-- n places from the front on, and the n after them
joined : (n : ℕ) (p q ys : List Float) → length p ≡ n → length q ≡ n
    → take n (p ++ drop n ys) ++ (q ++ drop (n + n - n) (drop n (p ++ drop n ys))) ≡ overlay (p ++ q) ys
unfolding overlay
joined n p q ys e f =
    let g : n + (n + n - n) ≡ length p + length q = omega arith in
    rw (take_at p (drop n ys) n e, drop_at p (drop n ys) n e, drop-drop (n + n - n) n ys, length-append p q, ← g, append_assoc p q (drop (n + (n + n - n)) ys))

-- n elements of z from a place on, negated
abbrev pub negated : List Float → ℕ → ℕ → List Float
negated z n at = listed n (λ i. neg (get_or z (at + i) nan))

part-negated : (z : List Float) (n at count : ℕ) → at + n ≤ length z → count ≡ n → listed count (λ i. neg (get_or (take (length z - at) (drop at z)) i nan)) ≡ negated z n at
part-negated z n at count h e =
    rw e (each_ext (λ i. neg (get_or (take (length z - at) (drop at z)) i nan) ∷ []) (λ i. neg (get_or z (at + i) nan) ∷ []) n
    (λ i b. rw (get_or-take (length z - at) (drop at z) i nan (omega arith), get_or-drop at z i nan)))

module _ (n active reactive : ℕ) (z ys : List Float) (enough : active + n ≤ length z) (enough' : reactive + n ≤ length z) (room : n + n ≤ length ys) where
  pub both_halves : (p q : List Float) → p ≡ listed (length (take n ys)) (λ i. neg (get_or (take (length z - active) (drop active z)) i nan))
      → q ≡ listed (length (take (n + n - n) (drop n (p ++ drop n ys)))) (λ i. neg (get_or (take (length z - reactive) (drop reactive z)) i nan))
      → take n (p ++ drop n ys) ++ (q ++ drop (n + n - n) (drop n (p ++ drop n ys))) ≡ overlay (negated z n active ++ negated z n reactive) ys
  both_halves p q h k =
      let e : p ≡ negated z n active = h ∙ part-negated z n active (length (take n ys)) enough (length-take-le n ys (omega arith)) in
      let f : length p ≡ n = ap length e ∙ listed-length _ n in
      let l : length (take (n + n - n) (drop n (p ++ drop n ys))) ≡ n = rw (drop_at p (drop n ys) n f) (simp (length-take, length-drop) (omega arith)) in
      let g : q ≡ negated z n reactive = k ∙ part-negated z n reactive _ enough' l in
      joined n p q ys f (ap length g ∙ listed-length _ n) ∙ rw (e, g)
