-- The form that Clarabel takes (its documentation, 'Problem Formulation' and 'Cone Types'): minimise ½x'Px + q'x with Ax + s = b, s in K,
-- where K is a product of cones and the rows go to them in their order. On whole numbers.
use Rattle.std.specs.Prelude.{ℕ, ◌*◌, ◌≡◌, List, [], ◌∷◌, ◌++◌, length, take, drop, replicate, ℤ, pos, ◌*ℤ◌, ◌≤ℤ◌}
use Rattle.ring.specs.Ops.{Ops, whole}
use Rattle.lists.specs.Entries.{Every}
use Rattle.records.specs.AcNetwork.{AcNetwork}
use Rattle.numbering.specs.Numbering.{limits, n_eq, n_ineq}

-- `ZeroConeT(n)`, `NonnegativeConeT(n)`, `SecondOrderConeT(n)`: a kind, and the count of its rows
pub data Cone : Type 0 where
  zero_cone nonnegative second_order : ℕ → Cone

abbrev pub rows_of : Cone → ℕ
rows_of (zero_cone n) = n
rows_of (nonnegative n) = n
rows_of (second_order n) = n

-- s = (t, y) with ‖y‖ ≤ t, as 0 ≤ t and ‖y‖² ≤ t²
abbrev pub squares : {A : Type 0} → Ops A → List A → A
squares o [] = o.zero
squares o (y ∷ ys) = o.◌+◌ (o.◌*◌ y y) (squares o ys)

abbrev pub InNorm : List ℤ → Type 0
InNorm [] = Unit {0}
InNorm (t ∷ ys) = (pos 0 ≤ℤ t) × (squares whole ys ≤ℤ (t *ℤ t))

-- s lies in a cone: s = 0; s ≥ 0; ‖y‖ ≤ t
abbrev pub InKind : Cone → List ℤ → Type 0
InKind (zero_cone n) s = Every (λ v. v ≡ pos 0) s
InKind (nonnegative n) s = Every (λ v. pos 0 ≤ℤ v) s
InKind (second_order n) s = InNorm s

-- s lies in the product of cones: as many rows as each has, in order, and none left over
abbrev pub InProduct : List Cone → List ℤ → Type 0
InProduct [] s = s ≡ []
InProduct (c ∷ cs) s = (length (take (rows_of c) s) ≡ rows_of c) × InKind c (take (rows_of c) s) × InProduct cs (drop (rows_of c) s)

-- "Cones: zero n_eq, nonnegative n_ineq (both listed even at 0), m of length 4, 2T of length 3": those of four rows and of three are second-order
abbrev pub cones : {A : Type 0} → AcNetwork A → List Cone
cones G = zero_cone (n_eq G) ∷ nonnegative (n_ineq G) ∷ (replicate G.m (second_order 4) ++ replicate (2 * limits G) (second_order 3))
