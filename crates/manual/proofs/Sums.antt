-- Sums up to n over a commutative ring: term by term, times a factor, of sums; of a list's elements. Assumes nothing.
use Rattle.std.proofs.Common.{ℕ, zero, suc, ◌<◌, ◌≡◌, refl, sym, ◌∙◌, ap, ap₂, Bool, true, false, cond, List, [], ◌∷◌, ◌++◌, arith}
use Rattle.lists.specs.UpTo.{up_to, each, listed, when}
use Rattle.ring.specs.Ops.{Ops}
use Rattle.ring.specs.Laws.{CommutativeRing}
use Rattle.ring.proofs.Laws.{zero-add, add_left_comm, mul-zero}
use Rattle.manual.specs.Balance.{sum_to}

module _ {A : Type 0} (o : Ops A) (R : CommutativeRing o) where
  infixl 60 ◌+◌
  infixl 70 ◌*◌
  open o use {◌+◌, ◌*◌}
  open R use {add_assoc, add_comm, add-zero, mul-add}

  pub sum_ext : (n : ℕ) (f g : ℕ → A) → ((i : ℕ) → i < n → f i ≡ g i) → sum_to o n f ≡ sum_to o n g
  sum_ext zero f g h = refl
  sum_ext (suc n) f g h = ap₂ ◌+◌ (sum_ext n f g (λ i l. h i (omega arith))) (h n (omega arith))

  pub sum-zero : (n : ℕ) (f : ℕ → A) → ((i : ℕ) → i < n → f i ≡ o.zero) → sum_to o n f ≡ o.zero
  sum-zero zero f h = refl
  sum-zero (suc n) f h = ap₂ ◌+◌ (sum-zero n f (λ i l. h i (omega arith))) (h n (omega arith)) ∙ add-zero o.zero

  -- two sums of two
  pub four : (a b c d : A) → (a + b) + (c + d) ≡ (a + c) + (b + d)
  four a b c d = add_assoc a b (c + d) ∙ ap (λ t. a + t) (add_left_comm o R b c d) ∙ sym (add_assoc a c (b + d))

  pub sum-add : (n : ℕ) (f g : ℕ → A) → sum_to o n (λ i. f i + g i) ≡ sum_to o n f + sum_to o n g
  sum-add zero f g = sym (add-zero o.zero)
  sum-add (suc n) f g = ap (λ t. t + (f n + g n)) (sum-add n f g) ∙ four (sum_to o n f) (sum_to o n g) (f n) (g n)

  pub mul-sum : (n : ℕ) (a : A) (f : ℕ → A) → a * sum_to o n f ≡ sum_to o n (λ i. a * f i)
  mul-sum zero a f = mul-zero o R a
  mul-sum (suc n) a f = mul-add a (sum_to o n f) (f n) ∙ ap (λ t. t + a * f n) (mul-sum n a f)

  -- ---- the sum of a list
  abbrev pub total : List A → A
  total [] = o.zero
  total (x ∷ xs) = x + total xs

  pub total-append : (xs ys : List A) → total (xs ++ ys) ≡ total xs + total ys
  total-append [] ys = sym (zero-add o R (total ys))
  total-append (x ∷ xs) ys = ap (λ t. x + t) (total-append xs ys) ∙ sym (add_assoc x (total xs) (total ys))

  pub total-each : (n : ℕ) (f : ℕ → List A) → total (each n f) ≡ sum_to o n (λ i. total (f i))
  unfolding up_to
  total-each zero f = refl
  total-each (suc n) f = total-append (each n f) (f n) ∙ ap (λ t. t + total (f n)) (total-each n f)

  pub total-listed : (n : ℕ) (f : ℕ → A) → total (listed n f) ≡ sum_to o n f
  total-listed n f = total-each n (λ i. f i ∷ []) ∙ sum_ext n (λ i. f i + o.zero) f (λ i l. add-zero (f i))

  pub total-when : (b : Bool) (a : A) → total (when b (a ∷ [])) ≡ cond b a o.zero
  total-when true a = add-zero a
  total-when false a = refl
