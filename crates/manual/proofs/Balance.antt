-- The balance rows: s = b - A x is the manual's mismatch. A row's cells add up to sums over generators and branches; what is left is a polynomial
-- in these sums. Assumes nothing.
use Rattle.std.proofs.Common.{ℕ, zero, suc, ◌≡◌, sym, ◌∙◌, ap, ap₂, Bool, true, false, cond, List, [], ◌∷◌, ◌++◌, eqb}
use Rattle.lists.specs.UpTo.{up_to, when}
use Rattle.ring.specs.Ops.{Ops}
use Rattle.ring.specs.Laws.{CommutativeRing}
use Rattle.ring.proofs.Laws.{zero-add, mul-zero}
use Rattle.ring.proofs.Ring.{E, var, zeroᴱ, oneᴱ, plus, times, opposite, formal, ring}
use Rattle.rows.specs.Rows.{Coefficient, plain, constant, Constant, one, minus_one, Cell, cell, hits}
use Rattle.records.specs.AcNetwork.{AcNetwork}
use Rattle.rows.specs.Scaled.{scaled, sum_over}
use Rattle.manual.specs.Matpower.{Complex, ◌⊕◌, ◌⊗◌, conj, real, minus}
use Rattle.manual.specs.Slack.{slack}
use Rattle.manual.specs.Balance.{sum_to, connected, mismatch}
use Rattle.manual.proofs.Formal.{complex_f}
use Rattle.numbering.specs.declared.ColumnName.{ColumnName}
use Rattle.numbering.specs.declared.ColumnName.TheVariants.{Pg, Qg, W, Pf, Pt, Qf, Qt}
use Rattle.numbering.specs.declared.RowName.TheVariants.{Pbal, Qbal}

-- ---- a balance row, with the sums over generators and branches as numbers
module _ {A : Type 0} (o : Ops A) where
  infixl 60 ◌+◌
  infixl 60 ◌-◌
  infixl 70 ◌*◌
  open o use {◌+◌, ◌-◌, ◌*◌, zero, two}

  abbrev by : Coefficient A → A → A
  by c a = scaled o o.one c * a

  abbrev bus_sum : A → A → A → A → A → A
  bus_sum gens shunt v2 fs ts = by (constant one) gens + (by (plain shunt) v2 + zero) + by (constant minus_one) fs + by (constant minus_one) ts

  abbrev bus_slack : A → A → A → A → A → A → A
  bus_slack demand gens shunt v2 fs ts = two * o.one * demand - bus_sum gens shunt v2 fs ts

  -- the mismatch of such numbers
  abbrev balance : Complex A → Complex A → Complex A → A → Complex A → Complex A → Complex A
  balance f t ysh v2 sd sg = ◌⊕◌ o (◌⊕◌ o (◌⊕◌ o (◌⊕◌ o f t) (◌⊗◌ o (conj o ysh) (real o v2))) sd) (minus o sg)

  abbrev double : A → A
  double a = two * a

abbrev balance_f : Complex E
balance_f = balance formal (complex_f 0 1) (complex_f 2 3) (complex_f 4 5) (var 6) (complex_f 7 8) (complex_f 9 10)

module _ {A : Type 0} (o : Ops A) (R : CommutativeRing o) (G : AcNetwork A) (x : ColumnName → A) where
  infixl 60 ◌+◌
  infixl 60 ◌-◌
  infixl 70 ◌*◌
  open o use {◌+◌, ◌-◌, ◌*◌}

  total : List (Cell A) → A
  total ws = sum_over o x o.one ws

  total-append : (us vs : List (Cell A)) → total (us ++ vs) ≡ total us + total vs
  unfolding total
  total-append [] vs = sym (zero-add o R (total vs))
  total-append (c ∷ us) vs =
      ap (λ t. scaled o o.one c.value * x c.column + t) (total-append us vs)
      ∙ sym (R.add_assoc (scaled o o.one c.value * x c.column) (total us) (total vs))

  one_each : (t : Bool) (c : Coefficient A) (l : ColumnName) → total (when t (cell l c ∷ [])) ≡ scaled o o.one c * (cond t o.one o.zero * x l)
  unfolding total
  one_each true c l =
      ring o R (plus (times (var 0) (var 1)) zeroᴱ) (times (var 0) (times oneᴱ (var 1))) (scaled o o.one c ∷ x l ∷ []) tt
  one_each false c l = ring o R zeroᴱ (times (var 0) (times zeroᴱ (var 1))) (scaled o o.one c ∷ x l ∷ []) tt

  total-each : (n : ℕ) (s : ℕ → ℕ) (i : ℕ) (col : ℕ → ColumnName) (c : Constant)
      → total (hits o G n s i col c) ≡ scaled o o.one (constant c) * sum_to o n (λ j. connected o s i j * x (col j))
  unfolding total up_to
  total-each zero s i col c = sym (mul-zero o R (scaled o o.one (constant c)))
  total-each (suc n) s i col c =
      total-append (hits o G n s i col c) (when (eqb (s n) i) (cell (col n) (constant c) ∷ []))
      ∙ ap₂ ◌+◌ (total-each n s i col c) (one_each (eqb (s n) i) (constant c) (col n))
      ∙ sym (R.mul-add (scaled o o.one (constant c)) (sum_to o n (λ j. connected o s i j * x (col j))) (cond (eqb (s n) i) o.one o.zero * x (col n)))

  module _ (i : ℕ) where
    abbrev at : (ℕ → ℕ) → ℕ → (ℕ → ColumnName) → A
    at s n col = sum_to o n (λ j. connected o s i j * x (col j))

    total_bus : (gens : ℕ → ColumnName) (shunt : A) (froms tos : ℕ → ColumnName)
        → total (hits o G G.k G.gen_bus i gens one ++ (cell (W i) (plain shunt) ∷ []) ++ hits o G G.m G.from i froms minus_one ++ hits o G G.m G.to i tos minus_one)
        ≡ bus_sum o (at G.gen_bus G.k gens) shunt (x (W i)) (at G.from G.m froms) (at G.to G.m tos)
    unfolding total
    total_bus gens shunt froms tos =
        let as₁ : List (Cell A) = hits o G G.k G.gen_bus i gens one in
        let as₂ : List (Cell A) = cell (W i) (plain shunt) ∷ [] in
        let as₃ : List (Cell A) = hits o G G.m G.from i froms minus_one in
        let as₄ : List (Cell A) = hits o G G.m G.to i tos minus_one in
        total-append (as₁ ++ as₂ ++ as₃) as₄
        ∙ ap₂ ◌+◌
        (total-append (as₁ ++ as₂) as₃
        ∙ ap₂ ◌+◌ (total-append as₁ as₂ ∙ ap (λ t. t + total as₂) (total-each G.k G.gen_bus i gens one))
        (total-each G.m G.from i froms minus_one))
        (total-each G.m G.to i tos minus_one)

    abbrev sums : List A
    sums =
        at G.from G.m Pf ∷ at G.from G.m Qf ∷ at G.to G.m Pt ∷ at G.to G.m Qt
        ∷ G.gs i ∷ G.bs i ∷ x (W i) ∷ G.pd i ∷ G.qd i ∷ at G.gen_bus G.k Pg ∷ at G.gen_bus G.k Qg ∷ []

    pub pbal-law : slack o G x (Pbal i) ≡ o.two * (mismatch o G x i).re
    unfolding total
    pbal-law =
        ap (λ t. o.two * o.one * G.pd i - t) (total_bus Pg (o.neg (G.gs i)) Pf Pt)
        ∙ ring o R (bus_slack formal (var 7) (var 9) (opposite (var 4)) (var 6) (var 0) (var 2)) (double formal balance_f.re) sums tt

    pub qbal-law : slack o G x (Qbal i) ≡ o.two * (mismatch o G x i).im
    unfolding total
    qbal-law =
        ap (λ t. o.two * o.one * G.qd i - t) (total_bus Qg (G.bs i) Qf Qt)
        ∙ ring o R (bus_slack formal (var 8) (var 10) (var 5) (var 6) (var 1) (var 3)) (double formal balance_f.im) sums tt
