-- What follows from the laws of a commutative ring; and the whole numbers in it: k is so many ones. Assumes nothing.
use Rattle.std.proofs.Common.{ℕ, zero, suc, ◌≡◌, refl, sym, ◌∙◌, ap, ap₂, ℤ, pos, negsuc, neg_ℤ, ◌+ℤ◌, ◌*ℤ◌}
use lib.IntN.{suc_ℤ, pred_ℤ, +ℤ_idr, +ℤ_assoc, +ℤ_comm, +ℤ_invr, +ℤ-suc_ℤ, +ℤ-pred_ℤ, zero-*ℤ, suc_ℤ-*ℤ, pred_ℤ-*ℤ, *ℤ_comm, suc-pred}
use Rattle.ring.specs.Ops.{Ops, whole}
use Rattle.ring.specs.Laws.{CommutativeRing}
use Rattle.ring.proofs.Whole as Whole

-- the whole numbers are one
pub whole-ring : CommutativeRing whole
whole-ring =
    record {
      add_assoc = +ℤ_assoc;
      add_comm = +ℤ_comm;
      add-zero = +ℤ_idr;
      add-neg = +ℤ_invr;
      subtract = λ a b. refl;
      mul_assoc = Whole.mul_assoc;
      mul_comm = *ℤ_comm;
      mul-one = Whole.mul-one;
      mul-add = Whole.mul-add;
      two-ones = refl;
    }

module _ {A : Type 0} (o : Ops A) (R : CommutativeRing o) where
  infixl 60 ◌+◌
  infixl 60 ◌-◌
  infixl 70 ◌*◌
  open o use {one, two, ◌+◌, ◌-◌, ◌*◌, neg}
  open R use {add_assoc, add_comm, add-zero, add-neg, subtract, mul_assoc, mul_comm, mul-one, mul-add, two-ones}

  pub zero-add : (a : A) → o.zero + a ≡ a
  zero-add a = add_comm o.zero a ∙ add-zero a

  pub add_left_comm : (a b c : A) → a + (b + c) ≡ b + (a + c)
  add_left_comm a b c = sym (add_assoc a b c) ∙ ap (λ i. i + c) (add_comm a b) ∙ add_assoc b a c

  -- the opposite, by the sum
  pub neg_unique : (a b : A) → a + b ≡ o.zero → b ≡ neg a
  neg_unique a b h =
      sym (zero-add b) ∙ ap (λ i. i + b) (sym (add_comm (neg a) a ∙ add-neg a)) ∙ add_assoc (neg a) a b ∙ ap (λ i. neg a + i) h ∙ add-zero (neg a)

  pub one-mul : (a : A) → one * a ≡ a
  one-mul a = mul_comm one a ∙ mul-one a

  pub add-mul : (a b c : A) → (a + b) * c ≡ a * c + b * c
  add-mul a b c = mul_comm (a + b) c ∙ mul-add c a b ∙ ap₂ ◌+◌ (mul_comm c a) (mul_comm c b)

  -- a + a = a for nothing but zero
  alone : (a : A) → a + a ≡ a → a ≡ o.zero
  alone a h = sym (add-zero a) ∙ ap (λ i. a + i) (sym (add-neg a)) ∙ sym (add_assoc a a (neg a)) ∙ ap (λ i. i + neg a) h ∙ add-neg a

  pub zero-mul : (a : A) → o.zero * a ≡ o.zero
  zero-mul a = alone (o.zero * a) (sym (add-mul o.zero o.zero a) ∙ ap (λ i. i * a) (add-zero o.zero))

  pub mul-zero : (a : A) → a * o.zero ≡ o.zero
  mul-zero a = mul_comm a o.zero ∙ zero-mul a

  pub neg-mul : (a b : A) → neg a * b ≡ neg (a * b)
  neg-mul a b = neg_unique (a * b) (neg a * b) (sym (add-mul a (neg a) b) ∙ ap (λ i. i * b) (add-neg a) ∙ zero-mul b)

  pub mul_left_comm : (a b c : A) → a * (b * c) ≡ b * (a * c)
  mul_left_comm a b c = sym (mul_assoc a b c) ∙ ap (λ i. i * c) (mul_comm a b) ∙ mul_assoc b a c

  pub mul-mul : (a b c d : A) → (a * b) * (c * d) ≡ (a * c) * (b * d)
  mul-mul a b c d = mul_assoc a b (c * d) ∙ ap (λ i. a * i) (mul_left_comm b c d) ∙ sym (mul_assoc a c (b * d))

  -- a difference put back
  pub less-add : (a b : A) → a - b + b ≡ a
  less-add a b = ap (λ i. i + b) (subtract a b) ∙ add_assoc a (neg b) b ∙ ap (λ i. a + i) (add_comm (neg b) b ∙ add-neg b) ∙ add-zero a

  pub equal-less : (a b : A) → a - b ≡ o.zero → a ≡ b
  equal-less a b h = sym (less-add a b) ∙ ap (λ i. i + b) h ∙ zero-add b

  pub less_equal : (a b : A) → a ≡ b → a - b ≡ o.zero
  less_equal a b h = ap (λ i. i - b) h ∙ subtract b b ∙ add-neg b

  -- ---- so many ones
  abbrev ones : ℕ → A
  ones zero = o.zero
  ones (suc n) = ones n + one

  abbrev pub embed : ℤ → A
  embed (pos n) = ones n
  embed (negsuc n) = neg (ones n + one)

  -- one less, and one more again
  back : (a : A) → neg (a + one) + one ≡ neg a
  back a =
      neg_unique a (neg (a + one) + one)
      (add_left_comm a (neg (a + one)) one ∙ add_comm (neg (a + one)) (a + one) ∙ add-neg (a + one))

  neg-zero : neg o.zero ≡ o.zero
  neg-zero = sym (neg_unique o.zero o.zero (add-zero o.zero))

  embed_suc : (k : ℤ) → embed (suc_ℤ k) ≡ embed k + one
  embed_suc (pos n) = refl
  embed_suc (negsuc zero) = sym (back o.zero ∙ neg-zero)
  embed_suc (negsuc (suc n)) = sym (back (ones n + one))

  embed_pred : (k : ℤ) → embed (pred_ℤ k) ≡ embed k + neg one
  embed_pred k =
      sym (add-zero (embed (pred_ℤ k))) ∙ ap (λ i. embed (pred_ℤ k) + i) (sym (add-neg one)) ∙ sym (add_assoc (embed (pred_ℤ k)) one (neg one))
      ∙ ap (λ i. i + neg one) (sym (embed_suc (pred_ℤ k)) ∙ ap embed (suc-pred k))

  pub embed-add : (j k : ℤ) → embed (j +ℤ k) ≡ embed j + embed k
  embed-add j k =
      Whole.steps (λ i. embed (j +ℤ i) ≡ embed j + embed i)
      (ap embed (+ℤ_idr j) ∙ sym (add-zero (embed j)))
      (λ i h. ap embed (+ℤ-suc_ℤ j i) ∙ embed_suc (j +ℤ i) ∙ ap (λ t. t + one) h ∙ add_assoc (embed j) (embed i) one ∙ ap (λ t. embed j + t) (sym (embed_suc i)))
      (λ i h. ap embed (+ℤ-pred_ℤ j i) ∙ embed_pred (j +ℤ i) ∙ ap (λ t. t + neg one) h ∙ add_assoc (embed j) (embed i) (neg one) ∙ ap (λ t. embed j + t) (sym (embed_pred i)))
      k

  pub embed-neg : (k : ℤ) → embed (neg_ℤ k) ≡ neg (embed k)
  embed-neg k = neg_unique (embed k) (embed (neg_ℤ k)) (sym (embed-add k (neg_ℤ k)) ∙ ap embed (+ℤ_invr k))

  pub embed-mul : (j k : ℤ) → embed (j *ℤ k) ≡ embed j * embed k
  embed-mul j k =
      Whole.steps (λ i. embed (i *ℤ k) ≡ embed i * embed k)
      (ap embed (zero-*ℤ k) ∙ sym (zero-mul (embed k)))
      (λ i h. ap embed (suc_ℤ-*ℤ i k) ∙ embed-add (i *ℤ k) k ∙ ap₂ ◌+◌ h (sym (one-mul (embed k))) ∙ sym (add-mul (embed i) one (embed k)) ∙ ap (λ t. t * embed k) (sym (embed_suc i)))
      (λ i h. ap embed (pred_ℤ-*ℤ i k) ∙ embed-add (i *ℤ k) (neg_ℤ k)
      ∙ ap₂ ◌+◌ h (embed-neg k ∙ sym (neg-mul one (embed k) ∙ ap neg (one-mul (embed k))))
      ∙ sym (add-mul (embed i) (neg one) (embed k)) ∙ ap (λ t. t * embed k) (sym (embed_pred i)))
      j

  pub embed-one : embed (pos 1) ≡ one
  embed-one = zero-add one

  pub embed-two : embed (pos 2) ≡ two
  embed-two = ap (λ t. t + one) (zero-add one) ∙ sym two-ones
