-- The stores at a limited branch's numbers are those of its names. Assumes nothing.
use Rattle.std.proofs.Common.{ℕ, ◌+◌, ◌≡◌, true, false, List, [], ◌∷◌, arith, get_or, Float}
use Rattle.std.specs.Float.{nan}
use Rattle.lists.specs.UpTo.{each}
use Rattle.lists.proofs.Each.{each_ext}
use Rattle.records.specs.AcNetwork.{AcNetwork}
use Rattle.numbering.specs.Numbering.{nvar, row_number}
use Rattle.numbering.specs.declared.RowName.TheVariants.{Thermal}
use Rattle.numbering.proofs.Numbers.{row_number_lem}
use Rattle.admittance.specs.Stores.{put, stored_all}
use Rattle.columns.specs.Jacobian.{limit_stores}

module _ (G : AcNetwork Float) (z : List Float) (e : ℕ) where
  pub limit_same : {nv base : ℕ} → nv ≡ nvar G → base ≡ row_number G (Thermal e 0) → G.limited e ≡ true
      → each 6 (λ q. put (nv + (base + q)) (get_or z (base + q) nan) ∷ []) ≡ limit_stores G z e
  limit_same {nv} {base} v p h =
      rw (h, v)
      (each_ext _ _ 6 (λ q l.
      let s : base + q ≡ row_number G (Thermal e q) = omega (arith, row_number_lem G (Thermal e 0), row_number_lem G (Thermal e q)) in
      rw s))

  pub no_limit : (c : List Float) → G.limited e ≡ false → c ≡ stored_all (limit_stores G z e) c
  unfolding stored_all
  no_limit c h = rw h
