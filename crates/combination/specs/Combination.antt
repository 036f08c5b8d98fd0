-- Both combinations of `forward_adjoint` (sens/mod.rs) from a given solution.
use Rattle.std.specs.Prelude.{ℕ, ◌*◌, List, [], Float}
use Rattle.std.specs.Float.{binary64}
use Rattle.std.specs.Float.Ieee.{mul}
use Rattle.lists.specs.UpTo.{each, listed}
use Rattle.lists.specs.Entries.{Cell}
use Rattle.interface.specs.declared.Mode.{Mode}
use Rattle.interface.specs.declared.Mode.TheVariants.{Forward, Adjoint, Auto}
use Rattle.sparse.specs.Sparse.{zero64, items_of, item_of}
use Rattle.weighing.specs.Weighing.{weighed, nonzero_at}

-- forward: `let mut acc = 0.0; for &(r, w) in entries ..; sign * acc`
unfoldable pub forward_at : ℕ → List ℕ → List ℕ → List Float → Float → List Float → ℕ → ℕ → Float
forward_at dim starts rows weights sign x o c = mul binary64 sign (weighed x (c * dim) (item_of starts rows weights o) zero64)

-- `cols_nnz[c]`, the column beginning at base
unfoldable pub nonzeros : ℕ → List Float → ℕ → List Cell
nonzeros dim rhs base = each dim (nonzero_at rhs base)

-- adjoint: `let mut acc = 0.0; for &(r, v) in nnz ..; sign * acc`
unfoldable pub adjoint_at : ℕ → Float → List Float → List Float → ℕ → ℕ → Float
adjoint_at dim sign rhs y o c = mul binary64 sign (weighed y (o * dim) (nonzeros dim rhs (c * dim)) zero64)

-- "Result item o, column c is at o × columns + c"
unfoldable pub table : ℕ → ℕ → (ℕ → ℕ → Float) → List Float
table items columns f = each items (λ o. listed columns (f o))

-- mode Auto has none: it is refused
unfoldable pub combination : Mode → ℕ → ℕ → List ℕ → List ℕ → List Float → Float → List Float → List Float → List Float
combination Forward dim columns starts rows weights sign rhs x = table (items_of starts) columns (forward_at dim starts rows weights sign x)
combination Adjoint dim columns starts rows weights sign rhs x = table (items_of starts) columns (adjoint_at dim sign rhs x)
combination Auto dim columns starts rows weights sign rhs x = []
