-- The list f 0, .., f (n - 1). Assumes nothing.
use Rattle.std.proofs.Common.{ℕ, zero, suc, ◌<◌, ◌≡◌, ◌∙◌, [], ◌∷◌, map, ⊎_elim, not-suc-le-zero, le_of_suc-le-suc, eq-or-lt_of_le, length, get_or}
use Rattle.std.proofs.lemmas.List.{get_or_at}
use lib.ListN.{get_or-append}
use Rattle.lists.specs.UpTo.{up_to, listed}
use Rattle.lists.proofs.Sums.{each-length, sum_ones}
use Rattle.lists.proofs.Each.{map_each}

module _ {A : Type 0} (f : ℕ → A) where
  pub listed-length : (n : ℕ) → length (listed n f) ≡ n
  listed-length n = each-length n (λ i. f i ∷ []) ∙ sum_ones n

  pub listed_at : (n i : ℕ) (d : A) → i < n → get_or (listed n f) i d ≡ f i
  unfolding up_to
  listed_at zero i d h = absurd (not-suc-le-zero h)
  listed_at (suc n) i d h =
      let e : length (listed n f) ≡ n = listed-length n in
      ⊎_elim
      (λ q. rw q (get_or_at (listed n f) (f n) [] d n e))
      (λ l. get_or-append (listed n f) (f n ∷ []) d i (rw e l) ∙ listed_at n i d l)
      (eq-or-lt_of_le (le_of_suc-le-suc h))

pub map-listed : {A B : Type 0} (g : A → B) (f : ℕ → A) (n : ℕ) → map g (listed n f) ≡ listed n (λ i. g (f i))
map-listed g f n = map_each g n (λ i. f i ∷ [])
