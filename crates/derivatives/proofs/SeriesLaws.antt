-- The series entries are the derivative of A by g, or by b: an Ohm row is linear in each of them, so that what d more adds is a polynomial identity; no
-- other row has the branch's numbers. Assumes nothing.
use Rattle.std.proofs.Common.{ℕ, ◌≡◌, refl, sym, ap, ◌∙◌, cond, List, [], ◌∷◌, eqb, eq-eqb, ne_eqb}
use Rattle.ring.specs.Laws.{CommutativeRing}
use Rattle.ring.proofs.Ring.{E, var, formal, ring}
use Rattle.records.specs.AcNetwork.{BranchData, AcNetwork}
use Rattle.rows.specs.Branch.{Branch, gathered, branch_at}
use Rattle.numbering.specs.declared.ColumnName.{ColumnName}
use Rattle.numbering.specs.declared.RowName.{RowName}
use Rattle.numbering.specs.declared.RowName.TheVariants.{Pbal, Qbal, OhmPf, OhmQf, OhmPt, OhmQt, Wub, Wlb, Pgub, Pglb, Qgub, Qglb, Angub, Anglb, Segment, Jabr, Thermal}
use Rattle.ring.specs.Ops.{Ops}
use Rattle.rows.specs.Rows.{OhmPlace, w, wr, wi, flow, ohm, ohm_row, ohm_column, Cell, cell, ohm_cells, cells}
use Rattle.rows.specs.declared.OhmRow.{OhmRow}
use Rattle.rows.specs.declared.OhmRow.TheVariants.{Pf as pf, Qf as qf, Pt as pt, Qt as qt}
use Rattle.interface.specs.declared.GB.{GB}
use Rattle.interface.specs.declared.GB.TheVariants.{Conductance, Susceptance}
use Rattle.admittance.specs.Series.{Slope, series}
use Rattle.rows.specs.Scaled.{scaled, row}
use Rattle.derivatives.specs.Sums.{code, series_row}
use Rattle.derivatives.specs.Raised.{more, more_series}
use Rattle.derivatives.specs.Derived.{SeriesHolds}

-- an Ohm row, and its series entries, times the values at its four columns
module _ {A : Type 0} (o : Ops A) (v : OhmPlace → A) where
  infixl 60 ◌+◌
  infixl 70 ◌*◌
  open o use {zero, ◌+◌, ◌*◌}

  abbrev four : Branch A → OhmRow → A
  four t r =
      scaled o t.tm2 (ohm o t r w) * v w
      + (scaled o t.tm2 (ohm o t r wr) * v wr + (scaled o t.tm2 (ohm o t r wi) * v wi + (scaled o t.tm2 (ohm o t r flow) * v flow + zero)))

  abbrev slopes : Branch A → OhmRow → List (Slope A) → A
  slopes t r [] = zero
  slopes t r (s ∷ ss) = cond (eqb (code s.row) (code r)) (scaled o t.tm2 s.value * v s.place + slopes t r ss) (slopes t r ss)

  abbrev grown : A → BranchData A → GB → OhmRow → A
  grown d t gb r = four (gathered o (more o d gb t)) r

  abbrev added : A → BranchData A → GB → OhmRow → A
  added d t gb r = four (gathered o t) r + d * slopes (gathered o t) r (series o (gathered o t).tr (gathered o t).ti gb)

abbrev branch_f : BranchData E
branch_f = record { g = var 0; b = var 1; gfr = var 2; bfr = var 3; gto = var 4; bto = var 5; tap = var 6; cosine = var 7; sine = var 8 }

abbrev places_f : OhmPlace → E
places_f w = var 10
places_f wr = var 11
places_f wi = var 12
places_f flow = var 13

abbrev grown_f : GB → OhmRow → E
grown_f = grown formal places_f (var 9) branch_f

abbrev added_f : GB → OhmRow → E
added_f = added formal places_f (var 9) branch_f

module _ {A : Type 0} (o : Ops A) (R : CommutativeRing o) where
  infixl 60 ◌+◌
  infixl 70 ◌*◌
  open o use {◌+◌, ◌*◌}

  abbrev numbers : BranchData A → A → (OhmPlace → A) → List A
  numbers t d v = t.g ∷ t.b ∷ t.gfr ∷ t.bfr ∷ t.gto ∷ t.bto ∷ t.tap ∷ t.cosine ∷ t.sine ∷ d ∷ v w ∷ v wr ∷ v wi ∷ v flow ∷ []

  branch-law : (t : BranchData A) (d : A) (v : OhmPlace → A) (gb : GB) (r : OhmRow) → grown o v d t gb r ≡ added o v d t gb r
  unfolding gathered
  branch-law t d v Conductance pf = ring o R (grown_f Conductance pf) (added_f Conductance pf) (numbers t d v) tt
  branch-law t d v Conductance qf = ring o R (grown_f Conductance qf) (added_f Conductance qf) (numbers t d v) tt
  branch-law t d v Conductance pt = ring o R (grown_f Conductance pt) (added_f Conductance pt) (numbers t d v) tt
  branch-law t d v Conductance qt = ring o R (grown_f Conductance qt) (added_f Conductance qt) (numbers t d v) tt
  branch-law t d v Susceptance pf = ring o R (grown_f Susceptance pf) (added_f Susceptance pf) (numbers t d v) tt
  branch-law t d v Susceptance qf = ring o R (grown_f Susceptance qf) (added_f Susceptance qf) (numbers t d v) tt
  branch-law t d v Susceptance pt = ring o R (grown_f Susceptance pt) (added_f Susceptance pt) (numbers t d v) tt
  branch-law t d v Susceptance qt = ring o R (grown_f Susceptance qt) (added_f Susceptance qt) (numbers t d v) tt

  slopes-same : (G : AcNetwork A) (e : ℕ) (x : ColumnName → A) (gb : GB) (r : OhmRow)
      → slopes o (λ p. x (ohm_column G r p e)) (branch_at o G e) r (series o (branch_at o G e).tr (branch_at o G e).ti gb) ≡ series_row o x G gb e r
  slopes-same G e x Conductance pf = refl
  slopes-same G e x Conductance qf = refl
  slopes-same G e x Conductance pt = refl
  slopes-same G e x Conductance qt = refl
  slopes-same G e x Susceptance pf = refl
  slopes-same G e x Susceptance qf = refl
  slopes-same G e x Susceptance pt = refl
  slopes-same G e x Susceptance qt = refl

  module _ (G : AcNetwork A) (gb : GB) (e : ℕ) (d : A) where
    abbrev places : (ColumnName → A) → OhmRow → OhmPlace → A
    places x r p = x (ohm_column G r p e)

    here : cond (eqb e e) (more o d gb (G.branch e)) (G.branch e) ≡ more o d gb (G.branch e)
    here = rw (eq-eqb e e refl)

    at-branch : (x : ColumnName → A) (r : OhmRow) → row o x (more_series o d gb e G) (ohm_row r e) ≡ grown o (places x r) d (G.branch e) gb r
    at-branch x pf = ap (λ (t : BranchData A). four o (places x pf) (gathered o t) pf) here
    at-branch x qf = ap (λ (t : BranchData A). four o (places x qf) (gathered o t) qf) here
    at-branch x pt = ap (λ (t : BranchData A). four o (places x pt) (gathered o t) pt) here
    at-branch x qt = ap (λ (t : BranchData A). four o (places x qt) (gathered o t) qt) here

    -- the branch's own rows
    series-law : (x : ColumnName → A) (r : OhmRow) → row o x (more_series o d gb e G) (ohm_row r e) ≡ row o x G (ohm_row r e) + d * series_row o x G gb e r
    series-law x pf = at-branch x pf ∙ branch-law (G.branch e) d (places x pf) gb pf ∙ ap (λ (s : A). row o x G (ohm_row pf e) + d * s) (slopes-same G e x gb pf)
    series-law x qf = at-branch x qf ∙ branch-law (G.branch e) d (places x qf) gb qf ∙ ap (λ (s : A). row o x G (ohm_row qf e) + d * s) (slopes-same G e x gb qf)
    series-law x pt = at-branch x pt ∙ branch-law (G.branch e) d (places x pt) gb pt ∙ ap (λ (s : A). row o x G (ohm_row pt e) + d * s) (slopes-same G e x gb pt)
    series-law x qt = at-branch x qt ∙ branch-law (G.branch e) d (places x qt) gb qt ∙ ap (λ (s : A). row o x G (ohm_row qt e) + d * s) (slopes-same G e x gb qt)

    -- every other row
    there : (i : ℕ) → (e ≡ i → ⊥) → cond (eqb i e) (more o d gb (G.branch i)) (G.branch i) ≡ G.branch i
    there i h = rw (ne_eqb i e (λ q. h (sym q)))

    other : (r : OhmRow) (i : ℕ) → (e ≡ i → ⊥) → ohm_cells o (more_series o d gb e G) r i ≡ ohm_cells o G r i
    other r i h = ap (λ (t : BranchData A). four_cells r i (gathered o t)) (there i h)
      where
        four_cells : OhmRow → ℕ → Branch A → List (Cell A)
        four_cells q j t =
            cell (ohm_column G q w j) (ohm o t q w) ∷ cell (ohm_column G q wr j) (ohm o t q wr)
            ∷ cell (ohm_column G q wi j) (ohm o t q wi) ∷ cell (ohm_column G q flow j) (ohm o t q flow) ∷ []

    series-elsewhere : (r : RowName) → ((q : OhmRow) → ohm_row q e ≡ r → ⊥) → cells o (more_series o d gb e G) r ≡ cells o G r
    series-elsewhere (Pbal i) h = refl
    series-elsewhere (Qbal i) h = refl
    series-elsewhere (OhmPf i) h = other pf i (λ q. h pf (ap OhmPf q))
    series-elsewhere (OhmQf i) h = other qf i (λ q. h qf (ap OhmQf q))
    series-elsewhere (OhmPt i) h = other pt i (λ q. h pt (ap OhmPt q))
    series-elsewhere (OhmQt i) h = other qt i (λ q. h qt (ap OhmQt q))
    series-elsewhere (Wub i) h = refl
    series-elsewhere (Wlb i) h = refl
    series-elsewhere (Pgub g) h = refl
    series-elsewhere (Pglb g) h = refl
    series-elsewhere (Qgub g) h = refl
    series-elsewhere (Qglb g) h = refl
    series-elsewhere (Angub i) h = refl
    series-elsewhere (Anglb i) h = refl
    series-elsewhere (Segment g s) h = refl
    series-elsewhere (Jabr i q) h = refl
    series-elsewhere (Thermal i q) h = refl

pub series-holds : SeriesHolds
series-holds A o R G gb e d = record { own = series-law o R G gb e d; others = series-elsewhere o R G gb e d }
