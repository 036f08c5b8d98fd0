-- A fold over a list is what counting its places makes. Assumes nothing.
use Rattle.std.proofs.Common.{◌≡◌, ℕ, zero, suc, ◌≤◌, List, length, get_or, take, refl, arith, fold, ◌∙◌, ap, add-one}
use Rattle.std.proofs.lemmas.List.Sums.{fold_more}
use Rattle.std.proofs.Math.Seq.{take-length}
use Rattle.lists.specs.UpTo.{up_to}

module _ {X A : Type 0} (op : A → A → A) (e : A) (f : X → A) (xs : List X) (d : X) where
  folded-part : (n : ℕ) → n ≤ length xs → fold (λ a x. op a (f x)) e (take n xs) ≡ up_to op e (λ j. f (get_or xs j d)) n
  unfolding up_to
  folded-part zero h = refl
  folded-part (suc n) h =
      rw (← add-one) (fold_more (λ a x. op a (f x)) e xs n d (omega arith))
      ∙ ap (λ a. op a (f (get_or xs n d))) (folded-part n (omega arith))

  pub folded : fold (λ a x. op a (f x)) e xs ≡ up_to op e (λ j. f (get_or xs j d)) (length xs)
  folded = rw take-length at (folded-part (length xs) (omega arith))
