-- The readings of a coefficient agree: 2 tm2 times it, times its denominator, is 2 tm2 times its numerator, in any commutative ring; and what
-- the code computes is the rounded quotient of the two. Both follow by computing. Assumes nothing.
use Rattle.std.proofs.Common.{◌≡◌, refl, [], ◌∷◌, Float}
use Rattle.std.specs.Float.{binary64}
use Rattle.std.specs.Float.Ieee.{of_bits, neg, div}
use Rattle.ring.specs.Ops.{Ops, rounded}
use Rattle.ring.specs.Laws.{CommutativeRing}
use Rattle.ring.proofs.Ring.{var, formal, ring}
use Rattle.rows.specs.Rows.{Constant, one, minus_one, half, minus_half, Coefficient, plain, over, constant, constant64}
use Rattle.rows.specs.Scaled.{constant_fraction, fraction_of, scaled, Quotient}

-- the two products
module _ {A : Type 0} (o : Ops A) (tm2 : A) (c : Coefficient A) where
  infixl 70 ◌*◌
  open o use {two, ◌*◌}

  abbrev by_denominator : A
  by_denominator = scaled o tm2 c * (fraction_of o tm2 c).denominator

  abbrev by_numerator : A
  by_numerator = two * tm2 * (fraction_of o tm2 c).numerator

module _ {A : Type 0} (o : Ops A) (R : CommutativeRing o) where
  pub multiplied : (tm2 : A) (c : Coefficient A) → by_denominator o tm2 c ≡ by_numerator o tm2 c
  multiplied tm2 (plain a) = ring o R (by_denominator formal (var 0) (plain (var 1))) (by_numerator formal (var 0) (plain (var 1))) (tm2 ∷ a ∷ []) tt
  multiplied tm2 (over a) = ring o R (by_denominator formal (var 0) (over (var 1))) (by_numerator formal (var 0) (over (var 1))) (tm2 ∷ a ∷ []) tt
  multiplied tm2 (constant one) = ring o R (by_denominator formal (var 0) (constant one)) (by_numerator formal (var 0) (constant one)) (tm2 ∷ []) tt
  multiplied tm2 (constant minus_one) = ring o R (by_denominator formal (var 0) (constant minus_one)) (by_numerator formal (var 0) (constant minus_one)) (tm2 ∷ []) tt
  multiplied tm2 (constant half) = ring o R (by_denominator formal (var 0) (constant half)) (by_numerator formal (var 0) (constant half)) (tm2 ∷ []) tt
  multiplied tm2 (constant minus_half) = ring o R (by_denominator formal (var 0) (constant minus_half)) (by_numerator formal (var 0) (constant minus_half)) (tm2 ∷ []) tt

constants : (c : Constant) → constant64 c ≡ div binary64 (constant_fraction rounded c).numerator (constant_fraction rounded c).denominator
unfolding div of_bits neg
constants one = refl
constants minus_one = refl
constants half = refl
constants minus_half = refl

pub quotients : (tm2 : Float) (c : Coefficient Float) → Quotient tm2 c
quotients tm2 (plain a) = refl
quotients tm2 (over a) = refl
quotients tm2 (constant c) = constants c
