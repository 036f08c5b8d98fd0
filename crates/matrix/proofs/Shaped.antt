-- A row's terms as joins of single terms. Assumes nothing.
use Rattle.std.proofs.Common.{ℕ, zero, suc, ◌≡◌, refl, List, [], ◌∷◌, ◌++◌, append_assoc, Float}
use Rattle.std.specs.Float.Ieee.{neg}
use Rattle.lists.specs.UpTo.{when}
use Rattle.records.specs.AcNetwork.{AcNetwork}
use Rattle.rows.specs.Branch.{branch_at}
use Rattle.numbering.specs.declared.ColumnName.{ColumnName}
use Rattle.numbering.specs.declared.ColumnName.TheVariants.{Pg, Qg, W, Wr, Wi, Pf, Pt, Qf, Qt, CostOf}
use Rattle.numbering.specs.declared.RowName.{RowName}
use Rattle.numbering.specs.declared.RowName.TheVariants.{Pbal, Qbal, OhmPf, OhmQf, OhmPt, OhmQt, Wub, Wlb, Pgub, Pglb, Qgub, Qglb, Angub, Anglb, Segment, Jabr, Thermal}
use Rattle.ring.specs.Ops.{rounded}
use Rattle.rows.specs.Rows.{one, minus_one, half, minus_half, constant64, Term, term, kept, terms, w, wr, wi, ohm_value, flow_column, end_bus}
use Rattle.rows.specs.declared.OhmRow.{OhmRow}
use Rattle.rows.specs.declared.OhmRow.TheVariants.{Pf as pf, Qf as qf, Pt as pt, Qt as qt}
use Rattle.rows.proofs.Shape.{hit_terms, end_terms, pbal-terms, qbal-terms, jabr-first, jabr-last, written-when}

-- one term
unfoldable pub sole : ColumnName → Float → List Term
sole c v = term c v ∷ []

module _ (G : AcNetwork Float) where
  unfoldable pub ohm_terms : OhmRow → ℕ → List Term
  ohm_terms r e =
      kept (W (end_bus G r e)) (ohm_value (branch_at rounded G e) r w) ++ kept (Wr e) (ohm_value (branch_at rounded G e) r wr) ++ kept (Wi e) (ohm_value (branch_at rounded G e) r wi)
      ++ sole (flow_column r e) (constant64 one)

  unfoldable pub shaped : RowName → List Term
  shaped (Pbal i) =
      hit_terms G.k G.gen_bus i Pg one ++ kept (W i) (neg (G.gs i)) ++ hit_terms G.m G.from i Pf minus_one ++ hit_terms G.m G.to i Pt minus_one
  shaped (Qbal i) =
      hit_terms G.k G.gen_bus i Qg one ++ kept (W i) (G.bs i) ++ hit_terms G.m G.from i Qf minus_one ++ hit_terms G.m G.to i Qt minus_one
  shaped (OhmPf e) = ohm_terms pf e
  shaped (OhmQf e) = ohm_terms qf e
  shaped (OhmPt e) = ohm_terms pt e
  shaped (OhmQt e) = ohm_terms qt e
  shaped (Wub i) = when (G.bounded i) (sole (W i) (constant64 one))
  shaped (Wlb i) = when (G.bounded i) (sole (W i) (constant64 minus_one))
  shaped (Pgub g) = when (G.capable g) (sole (Pg g) (constant64 one))
  shaped (Pglb g) = when (G.capable g) (sole (Pg g) (constant64 minus_one))
  shaped (Qgub g) = when (G.capable g) (sole (Qg g) (constant64 one))
  shaped (Qglb g) = when (G.capable g) (sole (Qg g) (constant64 minus_one))
  shaped (Angub e) = when (G.angled e) (kept (Wr e) (neg (G.tanmax e)) ++ sole (Wi e) (constant64 one))
  shaped (Anglb e) = when (G.angled e) (kept (Wr e) (G.tanmin e) ++ sole (Wi e) (constant64 minus_one))
  shaped (Segment g t) = kept (Pg g) (G.slope g t) ++ sole (CostOf g) (constant64 minus_one)
  shaped (Jabr e zero) = end_terms G e minus_half minus_half
  shaped (Jabr e (suc zero)) = sole (Wr e) (constant64 minus_one)
  shaped (Jabr e (suc (suc zero))) = sole (Wi e) (constant64 minus_one)
  shaped (Jabr e (suc (suc (suc zero)))) = end_terms G e minus_half half
  shaped (Jabr e (suc (suc (suc (suc q))))) = []
  shaped (Thermal e zero) = []
  shaped (Thermal e (suc zero)) = sole (Pf e) (constant64 minus_one)
  shaped (Thermal e (suc (suc zero))) = sole (Qf e) (constant64 minus_one)
  shaped (Thermal e (suc (suc (suc zero)))) = []
  shaped (Thermal e (suc (suc (suc (suc zero))))) = sole (Pt e) (constant64 minus_one)
  shaped (Thermal e (suc (suc (suc (suc (suc zero)))))) = sole (Qt e) (constant64 minus_one)
  shaped (Thermal e (suc (suc (suc (suc (suc (suc q))))))) = []

  ohm_shape : (a b c : List Term) (t : Term) → a ++ (b ++ (c ++ (t ∷ []))) ≡ a ++ b ++ c ++ (t ∷ [])
  ohm_shape a b c t = simp append_assoc

  pub terms_shape : (x : RowName) → terms G x ≡ shaped x
  unfolding terms shaped ohm_terms ohm_value sole
  terms_shape (Pbal i) = pbal-terms G i
  terms_shape (Qbal i) = qbal-terms G i
  terms_shape (OhmPf e) = ohm_shape (kept (W (G.from e)) _) (kept (Wr e) _) (kept (Wi e) _) _
  terms_shape (OhmQf e) = ohm_shape (kept (W (G.from e)) _) (kept (Wr e) _) (kept (Wi e) _) _
  terms_shape (OhmPt e) = ohm_shape (kept (W (G.to e)) _) (kept (Wr e) _) (kept (Wi e) _) _
  terms_shape (OhmQt e) = ohm_shape (kept (W (G.to e)) _) (kept (Wr e) _) (kept (Wi e) _) _
  terms_shape (Wub i) = written-when rounded.one (G.bounded i) _
  terms_shape (Wlb i) = written-when rounded.one (G.bounded i) _
  terms_shape (Pgub g) = written-when rounded.one (G.capable g) _
  terms_shape (Pglb g) = written-when rounded.one (G.capable g) _
  terms_shape (Qgub g) = written-when rounded.one (G.capable g) _
  terms_shape (Qglb g) = written-when rounded.one (G.capable g) _
  terms_shape (Angub e) = written-when rounded.one (G.angled e) _
  terms_shape (Anglb e) = written-when rounded.one (G.angled e) _
  terms_shape (Segment g t) = refl
  terms_shape (Jabr e zero) = jabr-first G e
  terms_shape (Jabr e (suc zero)) = refl
  terms_shape (Jabr e (suc (suc zero))) = refl
  terms_shape (Jabr e (suc (suc (suc zero)))) = jabr-last G e
  terms_shape (Jabr e (suc (suc (suc (suc q))))) = refl
  terms_shape (Thermal e zero) = refl
  terms_shape (Thermal e (suc zero)) = refl
  terms_shape (Thermal e (suc (suc zero))) = refl
  terms_shape (Thermal e (suc (suc (suc zero)))) = refl
  terms_shape (Thermal e (suc (suc (suc (suc zero))))) = refl
  terms_shape (Thermal e (suc (suc (suc (suc (suc zero)))))) = refl
  terms_shape (Thermal e (suc (suc (suc (suc (suc (suc q))))))) = refl
