-- The transposed entries of `forward_adjoint` (sens/mod.rs).
use Rattle.std.specs.Prelude.{List, map}
use Rattle.lists.specs.Entries.{Entry, turned}

-- `k.iter().map(|&(r, c, v)| (c, r, v))`
unfoldable pub transposed : List Entry → List Entry
transposed es = map turned es
