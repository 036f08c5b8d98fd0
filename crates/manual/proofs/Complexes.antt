-- Complex numbers over a commutative ring: their laws, part by part; sums of them; and a factor divided out. Assumes nothing.
use Rattle.std.proofs.Common.{ℕ, zero, suc, ◌≤◌, ◌<◌, ◌≡◌, refl, sym, ◌∙◌, ap, Bool, true, false, cond, List, [], ◌∷◌, arith, eqb, eq-eqb, ne_eqb}
use native.Mathlib.Decide.{dec_lt}
use Rattle.ring.specs.Ops.{Ops}
use Rattle.ring.specs.Laws.{CommutativeRing, Cancels}
use Rattle.ring.proofs.Laws.{equal-less, less_equal}
use Rattle.ring.proofs.Ring.{E, var, zeroᴱ, oneᴱ, times, minus, formal, Same, den, ring}
use Rattle.manual.specs.Matpower.{Complex, complex, real, conj, square, ◌⊕◌, ◌⊗◌}
use Rattle.manual.specs.Balance.{complex_sum, weighed_by}
use Rattle.manual.proofs.Formal.{complex_f}
use Rattle.manual.proofs.Sums.{sum_ext, sum-add}

abbrev pub a_f : Complex E
a_f = complex_f 0 1

abbrev pub b_f : Complex E
b_f = complex_f 2 3

abbrev pub c_f : Complex E
c_f = complex_f 4 5

-- ---- both sides of each law
module _ {A : Type 0} (o : Ops A) where
  infixl 60 ◌⊞◌
  infixl 70 ◌⊠◌
  abbrev pub ◌⊞◌ : Complex A → Complex A → Complex A
  ◌⊞◌ = ◌⊕◌ o

  abbrev pub ◌⊠◌ : Complex A → Complex A → Complex A
  ◌⊠◌ = ◌⊗◌ o

  abbrev pub nil : Complex A
  nil = complex o o.zero o.zero

module _ {A : Type 0} (o : Ops A) (R : CommutativeRing o) where
  infixl 60 ◌+◌
  infixl 60 ◌-◌
  infixl 70 ◌*◌
  open o use {◌+◌, ◌-◌, ◌*◌}

  -- two that agree in both parts
  pub parts : {a b : Complex A} → a.re ≡ b.re → a.im ≡ b.im → a ≡ b
  parts p q = λ i. record { re = p i; im = q i }

  abbrev four : Complex A → Complex A → Complex A → Complex A → List A
  four a b c d = a.re ∷ a.im ∷ b.re ∷ b.im ∷ c.re ∷ c.im ∷ d.re ∷ d.im ∷ []

  abbrev pub at : Complex E → Complex A → Complex A → Complex A → Complex A → Complex A
  at f a b c d = complex o (den o f.re (four a b c d)) (den o f.im (four a b c d))

  -- the same polynomials of four complex numbers
  pub law : (f g : Complex E) (a b c d : Complex A) → Same f.re g.re → Same f.im g.im → at f a b c d ≡ at g a b c d
  law f g a b c d p q = parts (ring o R f.re g.re (four a b c d) p) (ring o R f.im g.im (four a b c d) q)

  pub sum-times : (a b z : Complex A) → ◌⊠◌ o (◌⊞◌ o a b) z ≡ ◌⊞◌ o (◌⊠◌ o a z) (◌⊠◌ o b z)
  sum-times a b z = law (◌⊠◌ formal (◌⊞◌ formal a_f b_f) c_f) (◌⊞◌ formal (◌⊠◌ formal a_f c_f) (◌⊠◌ formal b_f c_f)) a b z z tt tt

  pub times-conj-sum : (z a b : Complex A) → ◌⊠◌ o z (conj o (◌⊞◌ o a b)) ≡ ◌⊞◌ o (◌⊠◌ o z (conj o a)) (◌⊠◌ o z (conj o b))
  times-conj-sum z a b = law (◌⊠◌ formal a_f (conj formal (◌⊞◌ formal b_f c_f))) (◌⊞◌ formal (◌⊠◌ formal a_f (conj formal b_f)) (◌⊠◌ formal a_f (conj formal c_f))) z a b b tt tt

  -- a real factor, put before or behind
  pub weighed-times : (k : A) (a b : Complex A) → ◌⊠◌ o (weighed_by o k a) b ≡ weighed_by o k (◌⊠◌ o a b)
  weighed-times k a b = law (◌⊠◌ formal (weighed_by formal (var 0) b_f) c_f) (weighed_by formal (var 0) (◌⊠◌ formal b_f c_f)) (complex o k k) a b b tt tt

  pub times-conj-weighed : (k : A) (z a : Complex A) → ◌⊠◌ o z (conj o (weighed_by o k a)) ≡ weighed_by o k (◌⊠◌ o z (conj o a))
  times-conj-weighed k z a = law (◌⊠◌ formal b_f (conj formal (weighed_by formal (var 0) c_f))) (weighed_by formal (var 0) (◌⊠◌ formal b_f (conj formal c_f))) (complex o k k) z a a tt tt

  pub real-times : (k : A) (a : Complex A) → ◌⊠◌ o (real o k) a ≡ weighed_by o k a
  real-times k a = law (◌⊠◌ formal (real formal (var 0)) b_f) (weighed_by formal (var 0) b_f) (complex o k k) a a a tt tt

  -- ---- sums
  pub csum_ext : (n : ℕ) (f g : ℕ → Complex A) → ((i : ℕ) → i < n → f i ≡ g i) → complex_sum o n f ≡ complex_sum o n g
  csum_ext n f g h =
      parts (sum_ext o R n (λ i. (f i).re) (λ i. (g i).re) (λ i l. ap (λ (z : Complex A). z.re) (h i l)))
      (sum_ext o R n (λ i. (f i).im) (λ i. (g i).im) (λ i l. ap (λ (z : Complex A). z.im) (h i l)))

  pub csum_add : (n : ℕ) (f g : ℕ → Complex A) → complex_sum o n (λ i. ◌⊞◌ o (f i) (g i)) ≡ ◌⊞◌ o (complex_sum o n f) (complex_sum o n g)
  csum_add n f g = parts (sum-add o R n (λ i. (f i).re) (λ i. (g i).re)) (sum-add o R n (λ i. (f i).im) (λ i. (g i).im))

  pub csum_times : (n : ℕ) (f : ℕ → Complex A) (z : Complex A) → ◌⊠◌ o (complex_sum o n f) z ≡ complex_sum o n (λ i. ◌⊠◌ o (f i) z)
  csum_times zero f z = law (◌⊠◌ formal (nil formal) a_f) (nil formal) z z z z tt tt
  csum_times (suc n) f z = sum-times (complex_sum o n f) (f n) z ∙ ap (λ (t : Complex A). ◌⊞◌ o t (◌⊠◌ o (f n) z)) (csum_times n f z)

  pub times-conj_csum : (n : ℕ) (z : Complex A) (f : ℕ → Complex A) → ◌⊠◌ o z (conj o (complex_sum o n f)) ≡ complex_sum o n (λ i. ◌⊠◌ o z (conj o (f i)))
  times-conj_csum zero z f = law (◌⊠◌ formal a_f (conj formal (nil formal))) (nil formal) z z z z tt tt
  times-conj_csum (suc n) z f = times-conj-sum z (complex_sum o n f) (f n) ∙ ap (λ (t : Complex A). ◌⊞◌ o t (◌⊠◌ o z (conj o (f n)))) (times-conj_csum n z f)

  pub csum_weighed : (n : ℕ) (k : A) (f : ℕ → Complex A) → complex_sum o n (λ i. weighed_by o k (f i)) ≡ weighed_by o k (complex_sum o n f)
  csum_weighed zero k f = law (nil formal) (weighed_by formal (var 0) (nil formal)) (complex o k k) (complex o k k) (complex o k k) (complex o k k) tt tt
  csum_weighed (suc n) k f =
      ap (λ (t : Complex A). ◌⊞◌ o t (weighed_by o k (f n))) (csum_weighed n k f)
      ∙ law (◌⊞◌ formal (weighed_by formal (var 0) b_f) (weighed_by formal (var 0) c_f)) (weighed_by formal (var 0) (◌⊞◌ formal b_f c_f)) (complex o k k) (complex_sum o n f) (f n) (f n) tt tt

  csum_nil : (m : ℕ) → complex_sum o m (λ e. nil o) ≡ nil o
  csum_nil zero = refl
  csum_nil (suc m) = ap (λ (t : Complex A). ◌⊞◌ o t (nil o)) (csum_nil m) ∙ law (◌⊞◌ formal (nil formal) (nil formal)) (nil formal) (nil o) (nil o) (nil o) (nil o) tt tt

  -- rows first, or columns first
  pub csum_swap : (n m : ℕ) (f : ℕ → ℕ → Complex A) → complex_sum o n (λ j. complex_sum o m (λ e. f e j)) ≡ complex_sum o m (λ e. complex_sum o n (λ j. f e j))
  csum_swap zero m f = sym (csum_nil m)
  csum_swap (suc n) m f =
      ap (λ (t : Complex A). ◌⊞◌ o t (complex_sum o m (λ e. f e n))) (csum_swap n m f)
      ∙ sym (csum_add m (λ e. complex_sum o n (λ j. f e j)) (λ e. f e n))

  -- ---- of all, the one at t
  abbrev one_at : ℕ → ℕ → A
  one_at t j = cond (eqb t j) o.one o.zero

  last_one : (b : Bool) (s z : Complex A) → b ≡ true → s ≡ nil o → ◌⊞◌ o s (weighed_by o (cond b o.one o.zero) z) ≡ z
  last_one b s z p q = rw (p, q) (law (◌⊞◌ formal (nil formal) (weighed_by formal oneᴱ a_f)) a_f z z z z tt tt)

  last_none : (b : Bool) (s z : Complex A) → b ≡ false → ◌⊞◌ o s (weighed_by o (cond b o.one o.zero) z) ≡ s
  last_none b s z p = rw p (law (◌⊞◌ formal a_f (weighed_by formal zeroᴱ b_f)) a_f s z z z tt tt)

  abbrev picked : ℕ → ℕ → (ℕ → Complex A) → Complex A
  picked n t f = complex_sum o n (λ j. weighed_by o (one_at t j) (f j))

  pick-none : (n t : ℕ) (f : ℕ → Complex A) → n ≤ t → picked n t f ≡ nil o
  pick-none zero t f h = refl
  pick-none (suc n) t f h = last_none (eqb t n) (picked n t f) (f n) (ne_eqb t n (λ e. omega arith)) ∙ pick-none n t f (omega arith)

  pub pick : (n t : ℕ) (f : ℕ → Complex A) → t < n → picked n t f ≡ f t
  pick zero t f h = absurd (omega arith)
  pick (suc n) t f h =
      elim (dec_lt t n) [
        | yes l ↦ last_none (eqb t n) (picked n t f) (f n) (ne_eqb t n (λ e. omega arith)) ∙ pick n t f l
        | no l ↦
            let e : t ≡ n = omega arith in
            last_one (eqb t n) (picked n t f) (f n) (eq-eqb t n e) (pick-none n t f (omega arith)) ∙ ap f (sym e)
      ]

  -- ---- a factor divided out
  pub cancel : (k a b : A) → Cancels o k → k * a ≡ k * b → a ≡ b
  cancel k a b c h =
      equal-less o R a b
      (c (a - b) (ring o R (times (var 0) (minus (var 1) (var 2))) (minus (times (var 0) (var 1)) (times (var 0) (var 2))) (k ∷ a ∷ b ∷ []) tt ∙ less_equal o R (k * a) (k * b) h))

  pub cancels_both : (j k : A) → Cancels o j → Cancels o k → Cancels o (j * k)
  cancels_both j k p q b h = q b (p (k * b) (sym (R.mul_assoc j k b) ∙ h))

  -- z times u times conj(u): each part of z, |u|² times
  abbrev back : Complex E
  back = ◌⊠◌ formal (◌⊠◌ formal a_f b_f) (conj formal b_f)

  abbrev grown : Complex E
  grown = weighed_by formal (square formal b_f) a_f

  pub complex-cancel : (a b u : Complex A) → Cancels o (square o u) → ◌⊠◌ o a u ≡ ◌⊠◌ o b u → a ≡ b
  complex-cancel a b u c h =
      let e : weighed_by o (square o u) a ≡ weighed_by o (square o u) b =
      law grown back a u u u tt tt ∙ ap (λ (t : Complex A). ◌⊠◌ o t (conj o u)) h ∙ law back grown b u u u tt tt in
      parts (cancel (square o u) a.re b.re c (ap (λ (t : Complex A). t.re) e)) (cancel (square o u) a.im b.im c (ap (λ (t : Complex A). t.im) e))
