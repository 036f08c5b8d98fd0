-- How far a walk over the columns has come. Assumes nothing.
use Rattle.std.proofs.Common.{ℕ, ◌+◌, ◌*◌, ◌≤◌, ◌<◌, ◌≡◌, sym, ◌∙◌, mul-le-mul_right, suc-mul, arith, lt-ltb, le-ltb, eq-eqb, ne_eqb}
use native.Mathlib.Decide.{ℕ_discrete, dec_lt}
use Rattle.weighing.specs.Gathering.{passed_rows}

module _ (dim c r k : ℕ) where
  pub passed-before : k < c → passed_rows dim c r k ≡ dim
  unfolding passed_rows
  passed-before h = rw (lt-ltb k c h)

  pub passed_here : k ≡ c → passed_rows dim c r k ≡ r
  unfolding passed_rows
  passed_here e =
      let l : c ≤ k = omega arith in
      rw (le-ltb k c l, eq-eqb k c e)

  pub passed-after : c < k → passed_rows dim c r k ≡ 0
  unfolding passed_rows
  passed-after h =
      let l : c ≤ k = omega arith in
      rw (le-ltb k c l, ne_eqb k c (λ e. omega arith))

module _ (dim c r c' r' : ℕ) (h : c ≤ c') (i : r ≤ dim) (j : c ≡ c' → r ≤ r') (k : ℕ) where
  -- nothing is lost
  pub onward : passed_rows dim c r k ≤ passed_rows dim c' r' k
  onward =
      elim (dec_lt k c) [
        | yes l ↦ omega (arith, passed-before dim c r k l, passed-before dim c' r' k (omega arith))
        | no l ↦ elim (ℕ_discrete k c) [
          | yes e ↦ elim (ℕ_discrete c c') [
            | yes q ↦ omega (arith, passed_here dim c r k e, passed_here dim c' r' k (e ∙ q), j q)
            | no q ↦ omega (arith, passed_here dim c r k e, passed-before dim c' r' k (omega arith))
          ]
          | no e ↦ omega (arith, passed-after dim c r k (omega arith))
        ]
      ]

  pub before-both : k < c → passed_rows dim c' r' k ≡ passed_rows dim c r k
  before-both l = passed-before dim c' r' k (omega arith) ∙ sym (passed-before dim c r k l)

-- columns not reached
pub not_reached : (dim c r k : ℕ) → c ≤ k → (k ≡ c → r ≡ 0) → passed_rows dim c r k ≡ 0
not_reached dim c r k h e = elim (ℕ_discrete k c) [ yes q ↦ passed_here dim c r k q ∙ e q | no q ↦ passed-after dim c r k (omega arith) ]

-- a later column is further on, and so is a later row
pub further_column : (dim c r c' r' : ℕ) → r < dim → c < c' → c * dim + r < c' * dim + r'
further_column dim c r c' r' h l = omega (arith, mul-le-mul_right dim l, suc-mul c dim)
