-- Points counted over the records of a kind: one for a limited branch, one for a piecewise generator, one for each segment of a generator.
use Rattle.std.specs.Prelude.{ℕ, ◌+◌, ◌<◌, ◌≡◌, List}
use Rattle.lists.specs.UpTo.{bit, sum}
use Rattle.records.specs.Fields.{limited_of, piecewise_of, segments_of}
use Rattle.numbering.specs.declared.Place.{Place}
use Rattle.numbering.specs.declared.Tally.{Tally}
use Rattle.numbering.specs.declared.Tally.TheVariants.{Limited, Piecewise, Segments}

-- the points of record r
unfoldable pub points_of : Tally → List ℕ → ℕ → ℕ
points_of Limited b r = bit (limited_of b r)
points_of Piecewise b r = bit (piecewise_of b r)
points_of Segments b r = segments_of b r

-- the points of the i records from the first on
unfoldable pub tally_of : Tally → List ℕ → ℕ → ℕ → ℕ
tally_of t b first i = sum i (λ j. points_of t b (first + j))

-- point p of the count records from the first on is the place q .at of record q .item
pub record Located (t : Tally) (b : List ℕ) (first count p : ℕ) (q : Place) : Type 0 where
  pub below : q.item < count
  pub inside : q.at < points_of t b (first + q.item)
  pub number : tally_of t b first q.item + q.at ≡ p
