-- The rows of kinds of bounds, and the thermal cones of a branch.
use Rattle.std.specs.Prelude.{ℕ, Bool, List, ◌++◌, length, get_or, Float}
use Rattle.lists.specs.UpTo.{each, when}
use Rattle.lists.specs.Entries.{Entry}
use Rattle.records.specs.AcNetwork.{AcNetwork}
use Rattle.numbering.specs.declared.SocWrLayout.{SocWrLayout}
use Rattle.numbering.specs.declared.RowName.{RowName}
use Rattle.bounds.specs.Kinds.{bound_name, bound_count}
use Rattle.bounds.specs.declared.BoundKind.{BoundKind}
use Rattle.bounds.specs.declared.BoundKind.TheVariants.{Wub}
use Rattle.rows.specs.Program.{thermal_from, thermal_to}
use Rattle.complementarity.specs.Writes.{cone_in}

-- the rows of a kind; of several kinds, one after the other
abbrev pub kind_rows : SocWrLayout → (RowName → List Entry) → BoundKind → List Entry
kind_rows l f kind = each (bound_count l kind) (λ i. f (bound_name kind i))

abbrev pub kinds_rows : SocWrLayout → (RowName → List Entry) → List BoundKind → List Entry
kinds_rows l f kinds = each (length kinds) (λ j. kind_rows l f (get_or kinds j Wub))

-- the cones of a branch, where it is limited
unfoldable pub thermal_in : AcNetwork Float → List Float → List Float → Bool → ℕ → List Entry
thermal_in G x z d e = when (G.limited e) (cone_in G x z d 3 (thermal_from e) ++ cone_in G x z d 3 (thermal_to e))
