-- Identities of polynomials over any commutative ring, decided by computation: `ring o R a b ρ tt : den o a ρ ≡ den o b ρ`.
-- A polynomial is multiplied out into monomials, each with its factors in the order of their places; like monomials are gathered, and a - b must leave only zeros. Assumes nothing.
use Rattle.std.proofs.Common.{ℕ, zero, suc, ◌≡◌, refl, sym, ◌∙◌, ap, ap₂, Bool, true, false, cond, ◌&&◌, List, [], ◌∷◌, T, eqb, eqb→eq, ℤ, pos, negsuc, ◌+ℤ◌, ◌*ℤ◌}
use Prim.Native.Nat.{compare, Ordering}
use Rattle.ring.specs.Ops.{Ops}
use Rattle.ring.specs.Laws.{CommutativeRing}
use Rattle.ring.proofs.Laws.{zero-add, add_left_comm, one-mul, add-mul, zero-mul, mul-zero, neg-mul, mul_left_comm, mul-mul, equal-less, embed, embed-add, embed-mul, embed-one, embed-two}

-- ---- a polynomial as it is written
pub data E : Type 0 where
  var : ℕ → E
  zeroᴱ oneᴱ twoᴱ : E
  plus minus times : E → E → E
  opposite : E → E

-- the operations on polynomials: a third way to read a formula
abbrev pub formal : Ops E
formal = record { zero = zeroᴱ; one = oneᴱ; two = twoᴱ; ◌+◌ = plus; ◌-◌ = minus; ◌*◌ = times; neg = opposite }

-- ---- monomials: the places of the factors
abbrev pub pick : Ordering → List ℕ → List ℕ → List ℕ
pick Ordering.lt x y = x
pick Ordering.eq x y = x
pick Ordering.gt x y = y

abbrev pub ins : ℕ → List ℕ → List ℕ
ins i [] = i ∷ []
ins i (j ∷ m) = pick (compare i j) (i ∷ j ∷ m) (j ∷ ins i m)

abbrev pub join : List ℕ → List ℕ → List ℕ
join [] n = n
join (i ∷ m) n = ins i (join m n)

abbrev pub same : List ℕ → List ℕ → Bool
same [] [] = true
same [] (j ∷ n) = false
same (i ∷ m) [] = false
same (i ∷ m) (j ∷ n) = eqb i j && same m n

-- ---- sums of monomials, each so many times
pub data Sum : Type 0 where
  none : Sum
  more : ℤ → List ℕ → Sum → Sum

-- one monomial more, gathered with its like
abbrev pub put : ℤ → List ℕ → Sum → Sum
put k m none = more k m none
put k m (more j n s) = cond (same m n) (more (k +ℤ j) n s) (more j n (put k m s))

abbrev pub both : Sum → Sum → Sum
both none t = t
both (more k m s) t = put k m (both s t)

abbrev pub scale : ℤ → List ℕ → Sum → Sum
scale k m none = none
scale k m (more j n s) = more (k *ℤ j) (join m n) (scale k m s)

abbrev pub product : Sum → Sum → Sum
product none t = none
product (more k m s) t = both (scale k m t) (product s t)

abbrev pub flat : E → Sum
flat (var i) = more (pos 1) (i ∷ []) none
flat zeroᴱ = none
flat oneᴱ = more (pos 1) [] none
flat twoᴱ = more (pos 2) [] none
flat (plus a b) = both (flat a) (flat b)
flat (minus a b) = both (flat a) (scale (negsuc 0) [] (flat b))
flat (times a b) = product (flat a) (flat b)
flat (opposite a) = scale (negsuc 0) [] (flat a)

abbrev pub Zeros : Sum → Type 0
Zeros none = Unit {0}
Zeros (more (pos zero) m s) = Zeros s
Zeros (more (pos (suc n)) m s) = ⊥
Zeros (more (negsuc n) m s) = ⊥

-- a and b are one polynomial: on written polynomials the type computes to `Unit` or to `⊥`, so its proof is `tt`
abbrev pub Same : E → E → Type 0
Same a b = Zeros (flat (minus a b))

both_true : (a b : Bool) → T (a && b) → T a × T b
both_true true true t = (tt, tt)
both_true true false t = absurd t
both_true false true t = absurd t
both_true false false t = absurd t

same_eq : (m n : List ℕ) → T (same m n) → m ≡ n
same_eq [] [] t = refl
same_eq [] (j ∷ n) t = absurd t
same_eq (i ∷ m) [] t = absurd t
same_eq (i ∷ m) (j ∷ n) t =
    ap₂ ◌∷◌ (eqb→eq i j (both_true (eqb i j) (same m n) t).0) (same_eq m n (both_true (eqb i j) (same m n) t).1)

module _ {A : Type 0} (o : Ops A) where
  infixl 60 ◌+◌
  infixl 60 ◌-◌
  infixl 70 ◌*◌
  open o use {◌+◌, ◌-◌, ◌*◌, neg}

  -- ---- the value of a polynomial where ρ lists the variables' values
  abbrev pub nth : List A → ℕ → A
  nth [] i = o.zero
  nth (x ∷ ρ) zero = x
  nth (x ∷ ρ) (suc i) = nth ρ i

  abbrev pub den : E → List A → A
  den (var i) ρ = nth ρ i
  den zeroᴱ ρ = o.zero
  den oneᴱ ρ = o.one
  den twoᴱ ρ = o.two
  den (plus a b) ρ = den a ρ + den b ρ
  den (minus a b) ρ = den a ρ - den b ρ
  den (times a b) ρ = den a ρ * den b ρ
  den (opposite a) ρ = neg (den a ρ)

  abbrev mono : List ℕ → List A → A
  mono [] ρ = o.one
  mono (i ∷ m) ρ = nth ρ i * mono m ρ

  -- ---- each step keeps the value
  module _ (R : CommutativeRing o) where
    open R use {add_assoc, add_comm, add-zero, subtract, mul_assoc, mul_comm, mul-one, mul-add}

    abbrev total : Sum → List A → A
    total none ρ = o.zero
    total (more k m s) ρ = embed o R k * mono m ρ + total s ρ

    mono-pick : (d : Ordering) (x y : List ℕ) (ρ : List A) (v : A) → mono x ρ ≡ v → mono y ρ ≡ v → mono (pick d x y) ρ ≡ v
    mono-pick Ordering.lt x y ρ v p q = p
    mono-pick Ordering.eq x y ρ v p q = p
    mono-pick Ordering.gt x y ρ v p q = q

    mono-ins : (i : ℕ) (m : List ℕ) (ρ : List A) → mono (ins i m) ρ ≡ nth ρ i * mono m ρ
    mono-ins i [] ρ = refl
    mono-ins i (j ∷ m) ρ =
        mono-pick (compare i j) (i ∷ j ∷ m) (j ∷ ins i m) ρ (nth ρ i * (nth ρ j * mono m ρ)) refl
        (ap (λ t. nth ρ j * t) (mono-ins i m ρ) ∙ mul_left_comm o R (nth ρ j) (nth ρ i) (mono m ρ))

    mono-join : (m n : List ℕ) (ρ : List A) → mono (join m n) ρ ≡ mono m ρ * mono n ρ
    mono-join [] n ρ = sym (one-mul o R (mono n ρ))
    mono-join (i ∷ m) n ρ =
        mono-ins i (join m n) ρ ∙ ap (λ t. nth ρ i * t) (mono-join m n ρ) ∙ sym (mul_assoc (nth ρ i) (mono m ρ) (mono n ρ))

    total-put : (k : ℤ) (m : List ℕ) (s : Sum) (ρ : List A) → total (put k m s) ρ ≡ embed o R k * mono m ρ + total s ρ
    total-put k m none ρ = refl
    total-put k m (more j n s) ρ = go (same m n) (same_eq m n) (total-put k m s ρ)
      where
        go : (c : Bool) → (T c → m ≡ n) → total (put k m s) ρ ≡ embed o R k * mono m ρ + total s ρ
            → total (cond c (more (k +ℤ j) n s) (more j n (put k m s))) ρ ≡ embed o R k * mono m ρ + (embed o R j * mono n ρ + total s ρ)
        go true e h =
            ap (λ t. t * mono n ρ + total s ρ) (embed-add o R k j) ∙ ap (λ t. t + total s ρ) (add-mul o R (embed o R k) (embed o R j) (mono n ρ))
            ∙ add_assoc (embed o R k * mono n ρ) (embed o R j * mono n ρ) (total s ρ)
            ∙ ap (λ (l : List ℕ). embed o R k * mono l ρ + (embed o R j * mono n ρ + total s ρ)) (sym (e tt))
        go false e h =
            ap (λ t. embed o R j * mono n ρ + t) h ∙ add_left_comm o R (embed o R j * mono n ρ) (embed o R k * mono m ρ) (total s ρ)

    total-both : (s t : Sum) (ρ : List A) → total (both s t) ρ ≡ total s ρ + total t ρ
    total-both none t ρ = sym (zero-add o R (total t ρ))
    total-both (more k m s) t ρ =
        total-put k m (both s t) ρ ∙ ap (λ u. embed o R k * mono m ρ + u) (total-both s t ρ) ∙ sym (add_assoc (embed o R k * mono m ρ) (total s ρ) (total t ρ))

    total-scale : (k : ℤ) (m : List ℕ) (t : Sum) (ρ : List A) → total (scale k m t) ρ ≡ embed o R k * mono m ρ * total t ρ
    total-scale k m none ρ = sym (mul-zero o R (embed o R k * mono m ρ))
    total-scale k m (more j n s) ρ =
        ap₂ ◌+◌ (ap₂ ◌*◌ (embed-mul o R k j) (mono-join m n ρ) ∙ mul-mul o R (embed o R k) (embed o R j) (mono m ρ) (mono n ρ)) (total-scale k m s ρ)
        ∙ sym (mul-add (embed o R k * mono m ρ) (embed o R j * mono n ρ) (total s ρ))

    total-product : (s t : Sum) (ρ : List A) → total (product s t) ρ ≡ total s ρ * total t ρ
    total-product none t ρ = sym (zero-mul o R (total t ρ))
    total-product (more k m s) t ρ =
        total-both (scale k m t) (product s t) ρ ∙ ap₂ ◌+◌ (total-scale k m t ρ) (total-product s t ρ)
        ∙ sym (add-mul o R (embed o R k * mono m ρ) (total s ρ) (total t ρ))

    -- minus one times
    less : (x : A) → embed o R (negsuc 0) * o.one * x ≡ neg x
    less x =
        ap (λ t. t * x) (mul-one (embed o R (negsuc 0))) ∙ neg-mul o R (o.zero + o.one) x
        ∙ ap neg (ap (λ t. t * x) (zero-add o R o.one) ∙ one-mul o R x)

    -- so many ones, alone
    number : (k : ℤ) (a : A) → embed o R k ≡ a → embed o R k * o.one + o.zero ≡ a
    number k a h = add-zero (embed o R k * o.one) ∙ mul-one (embed o R k) ∙ h

    flat_sound : (e : E) (ρ : List A) → total (flat e) ρ ≡ den e ρ
    flat_sound (var i) ρ =
        add-zero (embed o R (pos 1) * (nth ρ i * o.one)) ∙ ap₂ ◌*◌ (embed-one o R) (mul-one (nth ρ i)) ∙ one-mul o R (nth ρ i)
    flat_sound zeroᴱ ρ = refl
    flat_sound oneᴱ ρ = number (pos 1) o.one (embed-one o R)
    flat_sound twoᴱ ρ = number (pos 2) o.two (embed-two o R)
    flat_sound (plus a b) ρ = total-both (flat a) (flat b) ρ ∙ ap₂ ◌+◌ (flat_sound a ρ) (flat_sound b ρ)
    flat_sound (minus a b) ρ =
        total-both (flat a) (scale (negsuc 0) [] (flat b)) ρ
        ∙ ap₂ ◌+◌ (flat_sound a ρ) (total-scale (negsuc 0) [] (flat b) ρ ∙ less (total (flat b) ρ) ∙ ap neg (flat_sound b ρ))
        ∙ sym (subtract (den a ρ) (den b ρ))
    flat_sound (times a b) ρ = total-product (flat a) (flat b) ρ ∙ ap₂ ◌*◌ (flat_sound a ρ) (flat_sound b ρ)
    flat_sound (opposite a) ρ = total-scale (negsuc 0) [] (flat a) ρ ∙ less (total (flat a) ρ) ∙ ap neg (flat_sound a ρ)

    zeros-total : (s : Sum) (ρ : List A) → Zeros s → total s ρ ≡ o.zero
    zeros-total none ρ z = refl
    zeros-total (more (pos zero) m s) ρ z = ap₂ ◌+◌ (zero-mul o R (mono m ρ)) (zeros-total s ρ z) ∙ add-zero o.zero
    zeros-total (more (pos (suc n)) m s) ρ z = absurd z
    zeros-total (more (negsuc n) m s) ρ z = absurd z

    pub ring : (a b : E) (ρ : List A) → Same a b → den a ρ ≡ den b ρ
    ring a b ρ z = equal-less o R (den a ρ) (den b ρ) (sym (flat_sound (minus a b) ρ) ∙ zeros-total (flat (minus a b)) ρ z)
