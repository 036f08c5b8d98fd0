-- The larger of a number with its sign clear and an absolute value, by two comparisons. Assumes nothing.
use Rattle.std.proofs.Common.{◌≡◌, refl, sym, subst, true, false, T, Float}
use Rattle.std.specs.Float.{nan, inf, fin}
use Rattle.std.specs.Float.Ieee.{of_bits, lt, neg}
use lib.Ieee.{of_fields, odd, is_nan}
use Rattle.sparse.specs.Sparse.{zero64}
use Rattle.residual.specs.Magnitude.{absolute, larger, unsigned}

no : {A : Type 0} → false ≡ true → A
no h = absurd (subst T (sym h) tt)

pub record Larger (m x r : Float) : Type 0 where
  pub is : r ≡ larger m (absolute x)
  pub clear : unsigned r ≡ true

-- it is below x: then x is not negative
pub below : (m x : Float) → unsigned m ≡ true → lt m x ≡ true → Larger m x x
unfolding unsigned lt larger absolute is_nan
below nan x h t = no h
below (inf true) x h t = no h
below (inf false) nan h t = no t
below (inf false) (inf s) h t = no t
below (inf false) (fin s b d) h t = no t
below (fin true a e) x h t = no h
below (fin false a e) nan h t = no t
below (fin false a e) (inf true) h t = no t
below (fin false a e) (inf false) h t = record { is = refl; clear = refl }
below (fin false a e) (fin true b d) h t = no t
below (fin false a e) (fin false b d) h t = record { is = rw t; clear = refl }

-- it is below -x: then x is negative
pub below-negated : (m x : Float) → unsigned m ≡ true → lt m (neg x) ≡ true → Larger m x (neg x)
unfolding unsigned lt larger absolute is_nan neg
below-negated nan x h t = no h
below-negated (inf true) x h t = no h
below-negated (inf false) nan h t = no t
below-negated (inf false) (inf s) h t = no t
below-negated (inf false) (fin s b d) h t = no t
below-negated (fin true a e) x h t = no h
below-negated (fin false a e) nan h t = no t
below-negated (fin false a e) (inf true) h t = record { is = refl; clear = refl }
below-negated (fin false a e) (inf false) h t = no t
below-negated (fin false a e) (fin true b d) h t = record { is = rw t; clear = refl }
below-negated (fin false a e) (fin false b d) h t = no t

-- it is below neither
pub neither : (m x : Float) → unsigned m ≡ true → lt m x ≡ false → lt m (neg x) ≡ false → Larger m x m
unfolding unsigned lt larger absolute is_nan neg
neither nan x h t u = no h
neither (inf true) x h t u = no h
neither (inf false) nan h t u = record { is = refl; clear = refl }
neither (inf false) (inf s) h t u = record { is = refl; clear = refl }
neither (inf false) (fin s b d) h t u = record { is = refl; clear = refl }
neither (fin true a e) x h t u = no h
neither (fin false a e) nan h t u = record { is = refl; clear = refl }
neither (fin false a e) (inf true) h t u = no (sym u)
neither (fin false a e) (inf false) h t u = no (sym t)
neither (fin false a e) (fin true b d) h t u = record { is = rw u; clear = refl }
neither (fin false a e) (fin false b d) h t u = record { is = rw t; clear = refl }

pub zero_clear : unsigned zero64 ≡ true
unfolding unsigned of_bits of_fields odd
zero_clear = refl
