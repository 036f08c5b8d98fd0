-- The shunt entries are the derivative of A by gs, or by bs: they stand in one cell of the bus's balance row, and what d more adds there is a polynomial
-- identity. Assumes nothing.
use Rattle.std.proofs.Common.{ℕ, ◌≡◌, refl, sym, ap, ◌∙◌, List, [], ◌∷◌, ◌++◌, eq-eqb, ne_eqb}
use Rattle.ring.specs.Laws.{CommutativeRing}
use Rattle.ring.proofs.Laws.{zero-add}
use Rattle.ring.proofs.Ring.{E, var, zeroᴱ, oneᴱ, twoᴱ, plus, times, opposite, den, ring}
use Rattle.records.specs.AcNetwork.{AcNetwork}
use Rattle.numbering.specs.declared.ColumnName.{ColumnName}
use Rattle.numbering.specs.declared.ColumnName.TheVariants.{Pg, Qg, W, Pf, Pt, Qf, Qt}
use Rattle.numbering.specs.declared.RowName.{RowName}
use Rattle.numbering.specs.declared.RowName.TheVariants.{Pbal, Qbal, OhmPf, OhmQf, OhmPt, OhmQt, Wub, Wlb, Pgub, Pglb, Qgub, Qglb, Angub, Anglb, Segment, Jabr, Thermal}
use Rattle.ring.specs.Ops.{Ops}
use Rattle.rows.specs.Rows.{plain, one, minus_one, Cell, cell, hits, cells}
use Rattle.interface.specs.declared.GB.{GB}
use Rattle.interface.specs.declared.GB.TheVariants.{Conductance, Susceptance}
use Rattle.admittance.specs.Admittance.{shunt_row}
use Rattle.rows.specs.Scaled.{scaled, sum_over, row}
use Rattle.derivatives.specs.Sums.{shunt_times}
use Rattle.derivatives.specs.Raised.{changed, more_at, more_shunt}
use Rattle.derivatives.specs.Derived.{ShuntHolds}

-- the sum with a, and with d times v x more
abbrev row_f : E → E
row_f a = plus (plus (plus (var 0) (plus (times (times (times twoᴱ oneᴱ) a) (var 5)) zeroᴱ)) (var 1)) (var 2)

abbrev plus_f : E → E → E
plus_f a v = plus (row_f a) (times (var 4) (times v (var 5)))

module _ {A : Type 0} (o : Ops A) (R : CommutativeRing o) where
  infixl 60 ◌+◌
  infixl 70 ◌*◌
  open o use {◌+◌, ◌*◌}

  module _ (x : ColumnName → A) where
    abbrev all : List (Cell A) → A
    all cs = sum_over o x o.one cs

    sum-append : (xs ys : List (Cell A)) → all (xs ++ ys) ≡ all xs + all ys
    sum-append [] ys = sym (zero-add o R (all ys))
    sum-append (c ∷ cs) ys =
        ap (λ (t : A). scaled o o.one c.value * x c.column + t) (sum-append cs ys)
        ∙ sym (R.add_assoc (scaled o o.one c.value * x c.column) (all cs) (all ys))

    -- a cell between others
    between : (i : ℕ) (ps ss ts : List (Cell A)) (a : A)
        → all (ps ++ (cell (W i) (plain a) ∷ []) ++ ss ++ ts) ≡ all ps + (o.two * o.one * a * x (W i) + o.zero) + all ss + all ts
    between i ps ss ts a =
        sum-append (ps ++ (cell (W i) (plain a) ∷ []) ++ ss) ts
        ∙ ap (λ (t : A). t + all ts) (sum-append (ps ++ (cell (W i) (plain a) ∷ [])) ss ∙ ap (λ (t : A). t + all ss) (sum-append ps (cell (W i) (plain a) ∷ [])))

  module _ (p s t a d y : A) where
    abbrev values : List A
    values = p ∷ s ∷ t ∷ a ∷ d ∷ y ∷ []

    conductance : den o (row_f (opposite (plus (var 3) (var 4)))) values ≡ den o (plus_f (opposite (var 3)) (opposite (times twoᴱ oneᴱ))) values
    conductance = ring o R (row_f (opposite (plus (var 3) (var 4)))) (plus_f (opposite (var 3)) (opposite (times twoᴱ oneᴱ))) values tt

    susceptance : den o (row_f (plus (var 3) (var 4))) values ≡ den o (plus_f (var 3) (times twoᴱ oneᴱ)) values
    susceptance = ring o R (row_f (plus (var 3) (var 4))) (plus_f (var 3) (times twoᴱ oneᴱ)) values tt

  module _ (G : AcNetwork A) (i : ℕ) (d : A) where
    -- a balance row's cells, with a at its bus's w
    abbrev gens : (ℕ → ColumnName) → ℕ → List (Cell A)
    gens c j = hits o G G.k G.gen_bus j c one

    abbrev froms : (ℕ → ColumnName) → ℕ → List (Cell A)
    froms c j = hits o G G.m G.from j c minus_one

    abbrev tos : (ℕ → ColumnName) → ℕ → List (Cell A)
    tos c j = hits o G G.m G.to j c minus_one

    abbrev balance : (ℕ → ColumnName) → (ℕ → ColumnName) → (ℕ → ColumnName) → ℕ → A → List (Cell A)
    balance gen fr to j a = gens gen j ++ (cell (W j) (plain a) ∷ []) ++ froms fr j ++ tos to j

    here : (f : ℕ → A) → more_at o d i f i ≡ f i + d
    here f = rw (eq-eqb i i refl)

    -- the bus's own row
    shunt-law : (x : ColumnName → A) (gb : GB) → row o x (more_shunt o d gb i G) (shunt_row gb i) ≡ row o x G (shunt_row gb i) + d * shunt_times o x G gb i
    shunt-law x Conductance =
        ap (λ (a : A). all x (balance Pg Pf Pt i (o.neg a))) (here G.gs)
        ∙ between x i (gens Pg i) (froms Pf i) (tos Pt i) (o.neg (G.gs i + d))
        ∙ conductance (all x (gens Pg i)) (all x (froms Pf i)) (all x (tos Pt i)) (G.gs i) d (x (W i))
        ∙ ap (λ (s : A). s + d * shunt_times o x G Conductance i) (sym (between x i (gens Pg i) (froms Pf i) (tos Pt i) (o.neg (G.gs i))))
    shunt-law x Susceptance =
        ap (λ (a : A). all x (balance Qg Qf Qt i a)) (here G.bs)
        ∙ between x i (gens Qg i) (froms Qf i) (tos Qt i) (G.bs i + d)
        ∙ susceptance (all x (gens Qg i)) (all x (froms Qf i)) (all x (tos Qt i)) (G.bs i) d (x (W i))
        ∙ ap (λ (s : A). s + d * shunt_times o x G Susceptance i) (sym (between x i (gens Qg i) (froms Qf i) (tos Qt i) (G.bs i)))

    -- every other row
    unchanged : (gs bs : ℕ → A) (r : RowName) → ((j : ℕ) → Pbal j ≡ r → gs j ≡ G.gs j) → ((j : ℕ) → Qbal j ≡ r → bs j ≡ G.bs j)
        → cells o (changed G.branch gs bs G) r ≡ cells o G r
    unchanged gs bs (Pbal j) p q = ap (λ (a : A). balance Pg Pf Pt j (o.neg a)) (p j refl)
    unchanged gs bs (Qbal j) p q = ap (λ (a : A). balance Qg Qf Qt j a) (q j refl)
    unchanged gs bs (OhmPf e) p q = refl
    unchanged gs bs (OhmQf e) p q = refl
    unchanged gs bs (OhmPt e) p q = refl
    unchanged gs bs (OhmQt e) p q = refl
    unchanged gs bs (Wub j) p q = refl
    unchanged gs bs (Wlb j) p q = refl
    unchanged gs bs (Pgub g) p q = refl
    unchanged gs bs (Pglb g) p q = refl
    unchanged gs bs (Qgub g) p q = refl
    unchanged gs bs (Qglb g) p q = refl
    unchanged gs bs (Angub e) p q = refl
    unchanged gs bs (Anglb e) p q = refl
    unchanged gs bs (Segment g s) p q = refl
    unchanged gs bs (Jabr e s) p q = refl
    unchanged gs bs (Thermal e s) p q = refl

    there : (f : ℕ → A) (j : ℕ) → (i ≡ j → ⊥) → more_at o d i f j ≡ f j
    there f j h = rw (ne_eqb j i (λ q. h (sym q)))

    shunt-elsewhere : (gb : GB) (r : RowName) → (shunt_row gb i ≡ r → ⊥) → cells o (more_shunt o d gb i G) r ≡ cells o G r
    shunt-elsewhere Conductance r h = unchanged (more_at o d i G.gs) G.bs r (λ j q. there G.gs j (λ e. h (ap Pbal e ∙ q))) (λ j q. refl)
    shunt-elsewhere Susceptance r h = unchanged G.gs (more_at o d i G.bs) r (λ j q. refl) (λ j q. there G.bs j (λ e. h (ap Qbal e ∙ q)))

pub shunt-holds : ShuntHolds
shunt-holds A o R G gb i d = record { own = λ x. shunt-law o R G i d x gb; others = shunt-elsewhere o R G i d gb }
