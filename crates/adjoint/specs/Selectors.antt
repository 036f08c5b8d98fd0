-- The selector matrix of `forward_adjoint` (sens/mod.rs).
use Rattle.std.specs.Prelude.{ℕ, ◌+◌, ◌*◌, List, get_or, set, replicate, Float}
use Rattle.std.specs.Float.{binary64, nan}
use Rattle.std.specs.Float.Ieee.{add}
use Rattle.lists.specs.Steps.{turns, through}
use Rattle.lists.specs.Entries.{Cell}
use Rattle.sparse.specs.Sparse.{zero64, items_of, item_of}

-- `sel[(r, o)] += w`, the column o beginning at base
unfoldable pub add_weight : ℕ → Cell → List Float → List Float
add_weight base t m = set m (base + t.row) (add binary64 (get_or m (base + t.row) nan) t.val)

-- `for &(r, w) in entries`
unfoldable pub add_item : ℕ → List ℕ → List ℕ → List Float → ℕ → List Float → List Float
add_item dim starts rows weights o m = through (add_weight (o * dim)) (item_of starts rows weights o) m

-- `Mat::<f64>::zeros(dim, op_map.len())`, then `for (o, entries) in op_map.iter().enumerate()`
unfoldable pub selector_matrix : ℕ → List ℕ → List ℕ → List Float → List Float
selector_matrix dim starts rows weights =
    turns (add_item dim starts rows weights) (items_of starts) (replicate (dim * items_of starts) zero64)
