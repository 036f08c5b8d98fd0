-- The KKT matrix of an accepted network is never too large for the residual pass, the transposed entries, the selector matrix and the combinations:
-- all columns and rows together are as many as number 12 lets through, at most. Assumes nothing.
use Rattle.std.proofs.Common.{ℕ, ◌+◌, ◌≤◌, ◌≡◌, refl, List}
use Rattle.refusals.specs.Refusals.{passed}
use Rattle.records.specs.Check.{check_of}
use Rattle.records.specs.Network.{network_of}
use Rattle.records.proofs.Laws.{accepted}
use Rattle.numbering.specs.Numbering.{nvar, ncon}
use Rattle.numbering.specs.Layout.{layout_of}
use Rattle.numbering.proofs.Laid.{laid, laid-few}
use Rattle.sparse.specs.Checks.{most_dim}

pub kkt-dim_taken : (n m k s : ℕ) (b : List ℕ) → check_of n m k s b ≡ passed → nvar (network_of n m k s b) + ncon (network_of n m k s b) ≤ most_dim
kkt-dim_taken n m k s b h = laid-few (layout_of (network_of n m k s b)) b (laid n m k s b (accepted n m k s b h) refl)
