-- Laws of tallies, as the loops over records go. Assumes nothing.
use Rattle.std.proofs.Common.{ℕ, ◌+◌, ◌≡◌, refl, List}
use Rattle.lists.specs.UpTo.{up_to}
use Rattle.lists.proofs.Sums.{sum-next}
use Rattle.numbering.specs.Tally.{points_of, tally_of}
use Rattle.numbering.specs.declared.Tally.{Tally}

module _ (t : Tally) (b : List ℕ) (first : ℕ) where
  pub tally_none : tally_of t b first 0 ≡ 0
  unfolding tally_of up_to
  tally_none = refl

  pub tally_more : (i : ℕ) → tally_of t b first (i + 1) ≡ tally_of t b first i + points_of t b (first + i)
  unfolding tally_of
  tally_more i = sum-next i (λ j. points_of t b (first + j))
