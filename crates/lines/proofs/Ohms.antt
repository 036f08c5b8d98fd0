-- The Ohm rows stand for the rows of the network. Assumes nothing.
use Rattle.std.proofs.lemmas.List.{map-append}
use Rattle.std.proofs.Common.{ℕ, ◌<◌, ◌≡◌, refl, Bool, true, false, List, [], ◌∷◌, ◌++◌, append_assoc, Float}
use Rattle.std.specs.Float.Ieee.{ne}
use Rattle.lists.specs.UpTo.{when}
use Rattle.lists.specs.Entries.{entry}
use Rattle.ring.specs.Ops.{rounded}
use Rattle.records.specs.AcNetwork.{AcNetwork}
use Rattle.rows.specs.Branch.{branch_at}
use Rattle.numbering.specs.Numbering.{column_number, row_number}
use Rattle.numbering.specs.Layout.{layout_column}
use Rattle.numbering.specs.Laid.{net_of, Laid}
use Rattle.numbering.specs.declared.SocWrLayout.{SocWrLayout}
use Rattle.numbering.specs.declared.ColumnName.{ColumnName}
use Rattle.numbering.specs.declared.ColumnName.TheVariants.{W, Wr, Wi, Pf, Pt, Qf, Qt}
use Rattle.numbering.specs.declared.RowName.TheVariants.{OhmPf, OhmQf, OhmPt, OhmQt}
use Rattle.numbering.proofs.Numbers.{row_below}
use Rattle.numbering.proofs.Laid.{laid-column}
use Rattle.rows.specs.Rows.{terms, term, kept, zero64, constant64, one, w, wr, wi, ohm_value, ohm_row, flow_column, end_bus}
use Rattle.rows.specs.declared.OhmRow.{OhmRow}
use Rattle.rows.specs.declared.OhmRow.TheVariants.{Pf as pf, Qf as qf, Pt as pt, Qt as qt}
use Rattle.rows.specs.Program.{in_row, nonzero}
use Rattle.lines.specs.Ohm.{ohm_of, ohm_entries, OhmStands}

module _ (G : AcNetwork Float) (r : ℕ) where
  in_kept : (c : ColumnName) (v : Float) → in_row G r (kept c v) ≡ nonzero r (column_number G c) v
  unfolding kept
  in_kept c v = go (ne v zero64)
    where
      go : (b : Bool) → in_row G r (when b (term c v ∷ [])) ≡ when b (entry r (column_number G c) v ∷ [])
      go true = refl
      go false = refl

  in_four : (a b c d : ColumnName) (x y z : Float)
      → in_row G r (kept a x ++ (kept b y ++ (kept c z ++ (term d (constant64 one) ∷ []))))
      ≡ nonzero r (column_number G a) x ++ nonzero r (column_number G b) y ++ nonzero r (column_number G c) z ++ (entry r (column_number G d) (constant64 one) ∷ [])
  in_four a b c d x y z = simp (map-append, in_kept a x, in_kept b y, in_kept c z, append_assoc)

module _ (l : SocWrLayout) (bytes : List ℕ) (h : Laid l bytes) where
  abbrev G : AcNetwork Float
  G = net_of l bytes

  -- the layout's columns are the network's
  columns : (bus e : ℕ) → (layout_column l (W bus) ≡ column_number G (W bus)) × (layout_column l (Wr e) ≡ column_number G (Wr e)) × (layout_column l (Wi e) ≡ column_number G (Wi e))
  columns bus e = (laid-column l bytes h (W bus) refl, laid-column l bytes h (Wr e) refl, laid-column l bytes h (Wi e) refl)

  -- each row by its own case: its terms compute to the four
  pub ohm-stands : (k : OhmRow) (e : ℕ) → e < l.m → OhmStands G (ohm_row k e)
      (ohm_of l e (end_bus G k e) (row_number G (ohm_row k e)) (column_number G (flow_column k e))
      (ohm_value (branch_at rounded G e) k w) (ohm_value (branch_at rounded G e) k wr) (ohm_value (branch_at rounded G e) k wi))
  unfolding terms ohm_entries ohm_value
  ohm-stands pf e d = let q = columns (G.from e) e in
      record { number = refl; entries = λ r. rw (q.0, q.1, q.2) (in_four G r (W (G.from e)) (Wr e) (Wi e) (Pf e) _ _ _); within = row_below G (OhmPf e) d }
  ohm-stands qf e d = let q = columns (G.from e) e in
      record { number = refl; entries = λ r. rw (q.0, q.1, q.2) (in_four G r (W (G.from e)) (Wr e) (Wi e) (Qf e) _ _ _); within = row_below G (OhmQf e) d }
  ohm-stands pt e d = let q = columns (G.to e) e in record { number = refl; entries = λ r. rw (q.0, q.1, q.2) (in_four G r (W (G.to e)) (Wr e) (Wi e) (Pt e) _ _ _); within = row_below G (OhmPt e) d }
  ohm-stands qt e d = let q = columns (G.to e) e in record { number = refl; entries = λ r. rw (q.0, q.1, q.2) (in_four G r (W (G.to e)) (Wr e) (Wi e) (Qt e) _ _ _); within = row_below G (OhmQt e) d }
