-- The Ohm rows say what the manual says: both sides are polynomials in the numbers of a branch and of its columns, and they are the same. Assumes nothing.
use Rattle.std.proofs.Common.{ℕ, ◌≡◌, refl, sym, ◌∙◌, ap, subst, List, [], ◌∷◌}
use Rattle.ring.specs.Ops.{Ops}
use Rattle.ring.specs.Laws.{CommutativeRing}
use Rattle.ring.proofs.Ring.{E, var, formal, ring}
use Rattle.rows.specs.Rows.{OhmPlace, w, wr, wi, flow, ohm, ohm_row, flow_column}
use Rattle.rows.specs.declared.OhmRow.{OhmRow}
use Rattle.rows.specs.declared.OhmRow.TheVariants.{Pf as pf, Qf as qf, Pt as pt, Qt as qt}
use Rattle.rows.specs.Scaled.{scaled}
use Rattle.records.specs.AcNetwork.{BranchData, AcNetwork}
use Rattle.rows.specs.Branch.{gathered}
use Rattle.manual.specs.Matpower.{Complex, Line, scale, conj, ◌⊗◌, square}
use Rattle.manual.specs.Slack.{slack}
use Rattle.manual.specs.Flows.{Point, line_of, held_flow, manual, less, point_at, from_v, products}
use Rattle.manual.specs.Documents.{Symmetric}
use Rattle.manual.proofs.Formal.{complex_f, line_f}
use Rattle.numbering.specs.declared.ColumnName.{ColumnName}
use Rattle.numbering.specs.declared.ColumnName.TheVariants.{W, Wr, Wi, Pf, Pt, Qf, Qt}

module _ {A : Type 0} (o : Ops A) where
  infixl 60 ◌+◌
  infixl 60 ◌-◌
  infixl 70 ◌*◌
  open o use {◌+◌, ◌-◌, ◌*◌, zero, two}

  -- the value of a row's column
  abbrev column : Point A → OhmRow → OhmPlace → A
  column x pf w = x.wf
  column x qf w = x.wf
  column x pt w = x.wt
  column x qt w = x.wt
  column x r wr = x.c.re
  column x r wi = x.c.im
  column x r flow = held_flow o x r

  abbrev term : BranchData A → Point A → OhmRow → OhmPlace → A
  term d x r p = scaled o (gathered o d).tm2 (ohm o (gathered o d) r p) * column x r p

  -- 2 tm2 times s = b - A x, where b is 0
  abbrev ohm_slack : BranchData A → Point A → OhmRow → A
  ohm_slack d x r = two * (gathered o d).tm2 * zero - (term d x r w + (term d x r wr + (term d x r wi + (term d x r flow + zero))))

  -- the branch without conductance at its ends, and with the from end's susceptance at both
  abbrev alike : BranchData A → BranchData A
  alike d = record { g = d.g; b = d.b; gfr = zero; bfr = d.bfr; gto = zero; bto = d.bfr; tap = d.tap; cosine = d.cosine; sine = d.sine }

-- ---- as polynomials in the numbers of a branch, and of a point
abbrev branch_f : BranchData E
branch_f = alike formal (record { g = var 0; b = var 1; gfr = var 0; bfr = var 2; gto = var 0; bto = var 0; tap = var 3; cosine = var 4; sine = var 5 })

abbrev point_f : Point E
point_f = record { wf = var 6; wt = var 7; c = complex_f 8 9; sf = complex_f 10 11; st = complex_f 12 13 }

module _ {A : Type 0} (o : Ops A) (R : CommutativeRing o) where
  infixl 60 ◌-◌
  infixl 70 ◌*◌
  open o use {◌-◌, ◌*◌}

  abbrev numbers : BranchData A → Point A → List A
  numbers d x =
      d.g ∷ d.b ∷ d.bfr ∷ d.tap ∷ d.cosine ∷ d.sine ∷ x.wf ∷ x.wt ∷ x.c.re ∷ x.c.im ∷ x.sf.re ∷ x.sf.im ∷ x.st.re ∷ x.st.im ∷ []

  alike-law : (d : BranchData A) (x : Point A) (r : OhmRow) → ohm_slack o (alike o d) x r ≡ less o (line_of o (alike o d)) x r
  unfolding gathered
  alike-law d x pf = ring o R (ohm_slack formal branch_f point_f pf) (less formal (line_of formal branch_f) point_f pf) (numbers d x) tt
  alike-law d x qf = ring o R (ohm_slack formal branch_f point_f qf) (less formal (line_of formal branch_f) point_f qf) (numbers d x) tt
  alike-law d x pt = ring o R (ohm_slack formal branch_f point_f pt) (less formal (line_of formal branch_f) point_f pt) (numbers d x) tt
  alike-law d x qt = ring o R (ohm_slack formal branch_f point_f qt) (less formal (line_of formal branch_f) point_f qt) (numbers d x) tt

  of_symmetric : (d : BranchData A) (x : Point A) (r : OhmRow) → Symmetric o d → ohm_slack o d x r ≡ less o (line_of o d) x r
  of_symmetric d x r s =
      subst (λ (u : BranchData A). ohm_slack o u x r ≡ less o (line_of o u) x r)
      (λ i. record {
        g = d.g;
        b = d.b;
        gfr = sym s.gfr i;
        bfr = d.bfr;
        gto = sym s.gto i;
        bto = s.bfr i;
        tap = d.tap;
        cosine = d.cosine;
        sine = d.sine;
      })
      (alike-law d x r)

  row_is : (G : AcNetwork A) (x : ColumnName → A) (e : ℕ) (r : OhmRow) → slack o G x (ohm_row r e) ≡ ohm_slack o (G.branch e) (point_at G x e) r
  row_is G x e pf = refl
  row_is G x e qf = refl
  row_is G x e pt = refl
  row_is G x e qt = refl

  -- the s of each Ohm row is the manual's flow less the column's, with tm2 and the half multiplied out
  pub ohm-law : (G : AcNetwork A) (x : ColumnName → A) (e : ℕ) (r : OhmRow) → Symmetric o (G.branch e)
      → slack o G x (ohm_row r e) ≡ less o (line_of o (G.branch e)) (point_at G x e) r
  ohm-law G x e r s = row_is G x e r ∙ of_symmetric (G.branch e) (point_at G x e) r s

  abbrev voltages : Line A → Complex A → Complex A → List A
  voltages l vf vt = l.g ∷ l.b ∷ l.bc ∷ l.τ ∷ l.cosθ ∷ l.sinθ ∷ vf.re ∷ vf.im ∷ vt.re ∷ vt.im ∷ []

  abbrev by_w : OhmRow → E
  by_w = manual formal line_f (products formal line_f (complex_f 6 7) (complex_f 8 9))

  abbrev by_v : OhmRow → E
  by_v = from_v formal line_f (complex_f 6 7) (complex_f 8 9)

  pub power-law : (l : Line A) (vf vt : Complex A) (r : OhmRow) → manual o l (products o l vf vt) r ≡ from_v o l vf vt r
  power-law l vf vt pf = ring o R (by_w pf) (by_v pf) (voltages l vf vt) tt
  power-law l vf vt qf = ring o R (by_w qf) (by_v qf) (voltages l vf vt) tt
  power-law l vf vt pt = ring o R (by_w pt) (by_v pt) (voltages l vf vt) tt
  power-law l vf vt qt = ring o R (by_w qt) (by_v qt) (voltages l vf vt) tt

  -- ---- both together: at voltages, the s of each Ohm row is the manual's power less the column's
  pub at-voltages : (G : AcNetwork A) (x : ColumnName → A) (e : ℕ) (vf vt : Complex A) (r : OhmRow) → Symmetric o (G.branch e)
      → x (W (G.from e)) ≡ square o vf
      → x (W (G.to e)) ≡ square o vt
      → x (Wr e) ≡ (◌⊗◌ o vf (conj o vt)).re
      → x (Wi e) ≡ (◌⊗◌ o vf (conj o vt)).im
      → slack o G x (ohm_row r e) ≡ from_v o (line_of o (G.branch e)) vf vt r - scale o (line_of o (G.branch e)) * x (flow_column r e)
  at-voltages G x e vf vt r s hf ht hr hi = ohm-law G x e r s ∙ ends r
    where
      ends : (r : OhmRow) → less o (line_of o (G.branch e)) (point_at G x e) r ≡ from_v o (line_of o (G.branch e)) vf vt r - scale o (line_of o (G.branch e)) * x (flow_column r e)
      ends pf = rw (hf, hr, hi) (ap (λ (m : A). m - scale o (line_of o (G.branch e)) * x (Pf e)) (power-law (line_of o (G.branch e)) vf vt pf))
      ends qf = rw (hf, hr, hi) (ap (λ (m : A). m - scale o (line_of o (G.branch e)) * x (Qf e)) (power-law (line_of o (G.branch e)) vf vt qf))
      ends pt = rw (ht, hr, hi) (ap (λ (m : A). m - scale o (line_of o (G.branch e)) * x (Pt e)) (power-law (line_of o (G.branch e)) vf vt pt))
      ends qt = rw (ht, hr, hi) (ap (λ (m : A). m - scale o (line_of o (G.branch e)) * x (Qt e)) (power-law (line_of o (G.branch e)) vf vt qt))
