-- "Formulas are compared on whole numbers put for the floats, with each denominator and each half multiplied out": a coefficient as a fraction, and
-- coefficients and rows of A 2 tm2 fold, over any operations. `Multiplied.multiplied` says that the two agree, `Multiplied.quotients` that the
-- code computes the fraction.
use Rattle.std.specs.Prelude.{◌≡◌, List, [], ◌∷◌, Float}
use Rattle.std.specs.Float.{binary64}
use Rattle.std.specs.Float.Ieee.{div}
use Rattle.records.specs.AcNetwork.{AcNetwork}
use Rattle.numbering.specs.declared.ColumnName.{ColumnName}
use Rattle.numbering.specs.declared.RowName.{RowName}
use Rattle.ring.specs.Ops.{Ops, rounded}
use Rattle.rows.specs.Rows.{Constant, one, minus_one, half, minus_half, Coefficient, plain, over, constant, read, value64, Cell, cells, under}

-- a fraction that is not worked out
pub record Fraction (A : Type 0) : Type 0 where
  pub numerator : A
  pub denominator : A

abbrev pub fraction : {A : Type 0} → A → A → Fraction A
fraction a d = record { numerator = a; denominator = d }

module _ {A : Type 0} (o : Ops A) where
  infixl 60 ◌+◌
  infixl 70 ◌*◌
  open o use {zero, two, neg, ◌+◌, ◌*◌}

  -- a coefficient's numerator and denominator
  abbrev pub constant_fraction : Constant → Fraction A
  constant_fraction one = fraction o.one o.one
  constant_fraction minus_one = fraction (neg o.one) o.one
  constant_fraction half = fraction o.one two
  constant_fraction minus_half = fraction (neg o.one) two

  abbrev pub fraction_of : A → Coefficient A → Fraction A
  fraction_of = read (record { number = λ a. fraction a o.one; ◌/◌ = fraction; fixed = constant_fraction })

  -- 2 tm2 times a coefficient: of a over tm2 it is 2 a
  abbrev pub constant_scaled : A → Constant → A
  constant_scaled tm2 one = two * tm2
  constant_scaled tm2 minus_one = neg (two * tm2)
  constant_scaled tm2 half = tm2
  constant_scaled tm2 minus_half = neg tm2

  abbrev pub scaled : A → Coefficient A → A
  scaled tm2 = read (record { number = λ a. two * tm2 * a; ◌/◌ = λ a d. two * a; fixed = constant_scaled tm2 }) tm2

  -- 2 tm2 times A x at row r, where x holds the columns' values
  module _ (x : ColumnName → A) where
    abbrev pub sum_over : A → List (Cell A) → A
    sum_over tm2 [] = zero
    sum_over tm2 (c ∷ cs) = scaled tm2 c.value * x c.column + sum_over tm2 cs

    abbrev pub row : AcNetwork A → RowName → A
    row G r = sum_over (under o G r) (cells o G r)

-- what the code computes (`value64`) is the rounded quotient of numerator and denominator; a number as it stands has none
abbrev pub Quotient : Float → Coefficient Float → Type 0
Quotient tm2 (plain a) = value64 tm2 (plain a) ≡ (fraction_of rounded tm2 (plain a)).numerator
Quotient tm2 (over a) = value64 tm2 (over a) ≡ div binary64 (fraction_of rounded tm2 (over a)).numerator (fraction_of rounded tm2 (over a)).denominator
Quotient tm2 (constant c) = value64 tm2 (constant c) ≡ div binary64 (fraction_of rounded tm2 (constant c)).numerator (fraction_of rounded tm2 (constant c)).denominator
