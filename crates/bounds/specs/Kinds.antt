-- The rows that bound one thing each, by kind.
use Rattle.std.specs.Prelude.{ℕ, Bool}
use Rattle.records.specs.AcNetwork.{AcNetwork}
use Rattle.numbering.specs.declared.SocWrLayout.{SocWrLayout}
use Rattle.numbering.specs.declared.RowName.{RowName}
use Rattle.bounds.specs.declared.BoundKind.{BoundKind}
use Rattle.bounds.specs.declared.BoundKind.TheVariants.{Wub, Wlb, Pgub, Pglb, Qgub, Qglb, Angub, Anglb}

abbrev pub bound_name : BoundKind → ℕ → RowName
bound_name Wub i = RowName.Wub i
bound_name Wlb i = RowName.Wlb i
bound_name Pgub i = RowName.Pgub i
bound_name Pglb i = RowName.Pglb i
bound_name Qgub i = RowName.Qgub i
bound_name Qglb i = RowName.Qglb i
bound_name Angub i = RowName.Angub i
bound_name Anglb i = RowName.Anglb i

-- how many rows there are of the kind
abbrev pub bound_count : SocWrLayout → BoundKind → ℕ
bound_count l Wub = l.n
bound_count l Wlb = l.n
bound_count l Pgub = l.k
bound_count l Pglb = l.k
bound_count l Qgub = l.k
bound_count l Qglb = l.k
bound_count l Angub = l.m
bound_count l Anglb = l.m

-- whether the bound of record i is active
abbrev pub bound_active : {A : Type 0} → AcNetwork A → BoundKind → ℕ → Bool
bound_active G Wub i = G.bounded i
bound_active G Wlb i = G.bounded i
bound_active G Pgub i = G.capable i
bound_active G Pglb i = G.capable i
bound_active G Qgub i = G.capable i
bound_active G Qglb i = G.capable i
bound_active G Angub i = G.angled i
bound_active G Anglb i = G.angled i
