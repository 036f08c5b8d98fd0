-- The four rows of a branch's cone: 2 s = (w_f + w_t, 2 wr, 2 wi, w_f - w_t), whichever bus comes first. Assumes nothing.
use Rattle.std.proofs.Common.{ℕ, ◌≡◌, ◌∙◌, Bool, true, false, cond, [], ◌∷◌, ltb}
use Rattle.ring.specs.Ops.{Ops}
use Rattle.ring.specs.Laws.{CommutativeRing}
use Rattle.ring.proofs.Ring.{var, zeroᴱ, oneᴱ, twoᴱ, plus, minus, times, opposite, formal, ring}
use Rattle.rows.specs.Rows.{Constant, minus_one, half, minus_half, constant, Coefficient, cell, ends}
use Rattle.rows.specs.Scaled.{scaled}
use Rattle.records.specs.AcNetwork.{AcNetwork}
use Rattle.manual.specs.Slack.{slack_of, slack}
use Rattle.numbering.specs.declared.ColumnName.{ColumnName}
use Rattle.numbering.specs.declared.ColumnName.TheVariants.{W, Wr, Wi}
use Rattle.numbering.specs.declared.RowName.TheVariants.{Jabr}

-- what is left of the s of a row with two cells, and with one
module _ {A : Type 0} (o : Ops A) where
  infixl 60 ◌+◌
  infixl 60 ◌-◌
  infixl 70 ◌*◌
  open o use {◌+◌, ◌-◌, ◌*◌, neg, zero, one, two}

  abbrev pair : Constant → Constant → A → A → A
  pair c d f t = neg (scaled o one (constant c) * f + scaled o one (constant d) * t)

  abbrev lone : Constant → A → A
  lone c u = two * one * zero - (scaled o one (constant c) * u + zero)

module _ {A : Type 0} (o : Ops A) (R : CommutativeRing o) where
  infixl 60 ◌+◌
  infixl 60 ◌-◌
  infixl 70 ◌*◌
  open o use {◌+◌, ◌-◌, ◌*◌, neg}

  -- two cells, in either order
  two_cells : (x : ColumnName → A) (t : Bool) (i j : ColumnName) (c d : Coefficient A)
      → slack_of o o.one x o.zero (cond t (cell i c ∷ cell j d ∷ []) (cell j d ∷ cell i c ∷ [])) ≡ neg (scaled o o.one c * x i + scaled o o.one d * x j)
  two_cells x true i j c d =
      ring o R (minus (times (times twoᴱ oneᴱ) zeroᴱ) (plus (var 0) (plus (var 1) zeroᴱ))) (opposite (plus (var 0) (var 1)))
      ((scaled o o.one c * x i) ∷ (scaled o o.one d * x j) ∷ []) tt
  two_cells x false i j c d =
      ring o R (minus (times (times twoᴱ oneᴱ) zeroᴱ) (plus (var 1) (plus (var 0) zeroᴱ))) (opposite (plus (var 0) (var 1)))
      ((scaled o o.one c * x i) ∷ (scaled o o.one d * x j) ∷ []) tt

  module _ (G : AcNetwork A) (x : ColumnName → A) (e : ℕ) where
    buses : (c d : Constant) → slack_of o o.one x o.zero (ends o G e c d) ≡ pair o c d (x (W (G.from e))) (x (W (G.to e)))
    buses c d = two_cells x (ltb (G.from e) (G.to e)) (W (G.from e)) (W (G.to e)) (constant c) (constant d)

    pub jabr-sum : slack o G x (Jabr e 0) ≡ x (W (G.from e)) + x (W (G.to e))
    jabr-sum =
        buses minus_half minus_half ∙ ring o R (pair formal minus_half minus_half (var 0) (var 1)) (plus (var 0) (var 1)) (x (W (G.from e)) ∷ x (W (G.to e)) ∷ []) tt

    pub jabr-real : slack o G x (Jabr e 1) ≡ o.two * x (Wr e)
    jabr-real = ring o R (lone formal minus_one (var 0)) (times twoᴱ (var 0)) (x (Wr e) ∷ []) tt

    pub jabr_imaginary : slack o G x (Jabr e 2) ≡ o.two * x (Wi e)
    jabr_imaginary = ring o R (lone formal minus_one (var 0)) (times twoᴱ (var 0)) (x (Wi e) ∷ []) tt

    pub jabr_difference : slack o G x (Jabr e 3) ≡ x (W (G.from e)) - x (W (G.to e))
    jabr_difference =
        buses minus_half half ∙ ring o R (pair formal minus_half half (var 0) (var 1)) (minus (var 0) (var 1)) (x (W (G.from e)) ∷ x (W (G.to e)) ∷ []) tt
