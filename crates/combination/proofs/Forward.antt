-- Forward: the pass over zeros is the table of weighed items. Assumes nothing.
use Rattle.std.proofs.Common.{ℕ, ◌+◌, ◌*◌, ◌≡◌, sym, ap, ◌∙◌, List, zero-add, length, get_or, replicate, Float}
use Rattle.std.proofs.lemmas.List.{get_or-replicate}
use Rattle.std.specs.Float.{binary64, nan}
use Rattle.std.specs.Float.Ieee.{mul}
use Rattle.lists.specs.UpTo.{listed}
use Rattle.sparse.specs.Sparse.{zero64, item_of}
use Rattle.weighing.specs.Weighing.{weighed}
use Rattle.weighing.specs.Passes.{place, Below, Passed, weighed_at}
use Rattle.combination.specs.Combination.{forward_at, table}
use Rattle.combination.proofs.Tables.{item-inside, forward_place, scaled-table}

module _ (dim columns items : ℕ) (starts rows : List ℕ) (weights x : List Float) {m m' : List Float} where
  pub forward_table : (sign : Float) → m ≡ replicate (items * columns) zero64 → length m ≡ items * columns
      → Passed (place 0 1 columns) (Below columns items) (weighed_at x 0 dim starts rows weights) m m'
      → listed (length m') (λ i. mul binary64 sign (get_or m' i nan)) ≡ table items columns (forward_at dim starts rows weights sign x)
  unfolding forward_at
  forward_table sign z l p =
      scaled-table sign (λ o c. weighed x (c * dim) (item_of starts rows weights o) zero64) items columns m' (p.long ∙ l)
      (λ o c h k.
      let e : get_or m (place 0 1 columns c o) nan ≡ zero64 =
      rw (z, forward_place items columns c o) (get_or-replicate (items * columns) (o * columns + c) zero64 nan (item-inside items columns o c h k)) in
      ap (λ (i : ℕ). get_or m' i nan) (sym (forward_place items columns c o))
      ∙ p.done c o (k, h)
      ∙ rw (e, zero-add))
