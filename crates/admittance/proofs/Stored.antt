-- Laws of stores to a column. Assumes nothing.
use Rattle.std.proofs.Common.{ℕ, ◌+◌, ◌<◌, ◌≡◌, refl, sym, ap, ◌∙◌, List, [], ◌∷◌, ◌++◌, append-nil, append_assoc, add-one, length, get_or, take, length-set, take-suc, Float}
use Rattle.lists.specs.UpTo.{up_to, each}
use Rattle.lists.proofs.Each.{each_more}
use Rattle.admittance.specs.Stores.{Store, put, plus, stored, stored_all}
use Rattle.admittance.specs.Admittance.{in_turn}

pub stored-append : (xs ys : List Store) (c : List Float) → stored_all (xs ++ ys) c ≡ stored_all ys (stored_all xs c)
unfolding stored_all
stored-append [] ys c = refl
stored-append (x ∷ xs) ys c = stored-append xs ys (stored c x)

stored_one : (s : Store) (c : List Float) → length (stored c s) ≡ length c
stored_one (put at v) c = length-set c at v
stored_one (plus at v) c = length-set c at _

pub stored-length : (ss : List Store) (c : List Float) → length (stored_all ss c) ≡ length c
unfolding stored_all
stored-length [] c = refl
stored-length (s ∷ ss) c = stored-length ss (stored c s) ∙ stored_one s c

module _ {A : Type 0} (f : A → List Store) where
  pub turn-append : (xs ys : List A) → in_turn f (xs ++ ys) ≡ in_turn f xs ++ in_turn f ys
  unfolding in_turn
  turn-append [] ys = refl
  turn-append (x ∷ xs) ys = rw (turn-append xs ys) (sym (append_assoc (f x) _ _))

  -- a loop over a list: none, and one element more
  pub turn-none : (xs : List A) (c : List Float) → c ≡ stored_all (in_turn f (take 0 xs)) c
  unfolding in_turn stored_all
  turn-none [] c = refl
  turn-none (a ∷ xs) c = refl

  one : (a : A) → in_turn f (a ∷ []) ≡ f a
  unfolding in_turn
  one a = append-nil (f a)

  pub turn_more : (xs : List A) (j : ℕ) (d : A) (c₀ : List Float) {c c' : List Float} → j < length xs → c ≡ stored_all (in_turn f (take j xs)) c₀ → c' ≡ stored_all (f (get_or xs j d)) c
      → c' ≡ stored_all (in_turn f (take (j + 1) xs)) c₀
  turn_more xs j d c₀ h p q =
      q ∙ ap (stored_all (f (get_or xs j d))) p
      ∙ rw (add-one, take-suc xs j d h, turn-append (take j xs) (get_or xs j d ∷ []), one, stored-append)

-- a loop over the numbers below n: none, and one more
module _ (f : ℕ → List Store) where
  pub count_none : (c : List Float) → c ≡ stored_all (each 0 f) c
  unfolding up_to stored_all
  count_none c = refl

  pub count-more : (j : ℕ) (c₀ : List Float) {c c' : List Float} → c ≡ stored_all (each j f) c₀ → c' ≡ stored_all (f j) c → c' ≡ stored_all (each (j + 1) f) c₀
  count-more j c₀ p q = q ∙ ap (stored_all (f j)) p ∙ rw (each_more f j, stored-append)
