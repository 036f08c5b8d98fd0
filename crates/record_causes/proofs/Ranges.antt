-- A test of all numbers of a range, said as a test of the first n numbers. Assumes nothing.
use Rattle.std.proofs.Common.{ℕ, zero, suc, ◌+◌, ◌≡◌, refl, sym, ◌∙◌, ap, Bool, true, false, ◌&&◌, [], ◌∷◌, map, add-one}
use Rattle.std.specs.List.{list_all, range_with_len}
use Rattle.std.proofs.lemmas.List.Folds.{list_all-append, list_all-map}
use Rattle.std.proofs.lemmas.List.FromFn.{map-range_with_len_more}
use Rattle.lists.specs.UpTo.{up_to, all}

and_true : (b : Bool) → b && true ≡ b
and_true true = refl
and_true false = refl

module _ (p : ℕ → Bool) (a : ℕ) where
  mapped : (n : ℕ) → list_all p (map (λ x. x) (range_with_len a n)) ≡ all n (λ i. p (a + i))
  unfolding up_to
  mapped zero = refl
  mapped (suc n) =
      let more = rw add-one at (map-range_with_len_more (λ x. x) a n (a + n) refl) in
      ap (list_all p) more ∙ list_all-append p (map (λ x. x) (range_with_len a n)) ((a + n) ∷ []) ∙ rw (mapped n, and_true (p (a + n))) refl

  pub all_in_range : (n : ℕ) → list_all p (range_with_len a n) ≡ all n (λ i. p (a + i))
  all_in_range n = sym (list_all-map p (λ x. x) (range_with_len a n)) ∙ mapped n
