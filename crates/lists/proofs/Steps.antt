-- Laws of `turns` and `through`: a loop's first state and its next. Assumes nothing.
use Rattle.std.proofs.Common.{ℕ, ◌+◌, ◌≡◌, refl, sym, ap, ◌∙◌, List, [], ◌∷◌, ◌++◌, add-one}
use Rattle.lists.specs.UpTo.{up_to, each}
use Rattle.lists.specs.Steps.{turns, through}
use Rattle.lists.proofs.UpTo.{up_to-more}

module _ {S : Type 0} (f : ℕ → S → S) where
  pub turns-none : (s : S) → s ≡ turns f 0 s
  unfolding turns
  turns-none s = refl

  pub turns_next : (n : ℕ) (s t u : S) → t ≡ turns f n s → u ≡ f n t → u ≡ turns f (n + 1) s
  unfolding turns
  turns_next n s t u p q = rw add-one (q ∙ ap (f n) p)

module _ {A S : Type 0} (f : A → S → S) where
  pub through-append : (xs ys : List A) (s : S) → through f (xs ++ ys) s ≡ through f ys (through f xs s)
  unfolding through
  through-append [] ys s = refl
  through-append (x ∷ xs) ys s = through-append xs ys (f x s)

  pub through-none : (s : S) → through f [] s ≡ s
  unfolding through
  through-none s = refl

  pub through-one : (x : A) (s : S) → through f (x ∷ []) s ≡ f x s
  unfolding through
  through-one x s = refl

  -- a loop over g 0 ++ g 1 ++ ..
  pub over_none : (g : ℕ → List A) (s : S) → s ≡ through f (each 0 g) s
  unfolding up_to through
  over_none g s = refl

  pub over-more : (g : ℕ → List A) (n : ℕ) (s t u : S) → t ≡ through f (each n g) s → u ≡ through f (g n) t → u ≡ through f (each (n + 1) g) s
  over-more g n s t u p q =
      q ∙ ap (through f (g n)) p ∙ sym (ap (λ (l : List A). through f l s) (up_to-more ◌++◌ [] g n) ∙ through-append (each n g) (g n) s)

  -- where each turn has one element
  pub over-next : (g : ℕ → A) (n : ℕ) (s t u : S) → t ≡ through f (each n (λ j. g j ∷ [])) s → u ≡ f (g n) t → u ≡ through f (each (n + 1) (λ j. g j ∷ [])) s
  over-next g n s t u p q = over-more (λ j. g j ∷ []) n s t u p (q ∙ sym (through-one (g n) t))
