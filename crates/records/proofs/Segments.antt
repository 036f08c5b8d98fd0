-- Where the segments' records lie: those of a generator follow those of the generators before it, and all are among the S of the network,
-- since the counts of accepted records add up to S. Assumes nothing.
use Rattle.std.proofs.Common.{ℕ, ◌+◌, ◌≤◌, ◌<◌, ◌≡◌, List, arith}
use Rattle.lists.proofs.Sums.{sum_mono, sum-next}
use Rattle.records.specs.Fields.{segments_of}
use Rattle.records.specs.Network.{segments_before, segment_record, Accepted}

module _ (n m k : ℕ) (b : List ℕ) where
  -- the record of segment t, counted from the record of the generator's first segment
  pub segment_record_lem : (g t : ℕ) {first : ℕ} → first ≡ n + m + k + segments_before n m b g → first + t ≡ segment_record n m k b g t
  unfolding segment_record
  segment_record_lem g t e = rw e

module _ {n m k s : ℕ} {b : List ℕ} (a : Accepted n m k s b) where
  pub segments-below : (g : ℕ) → g ≤ k → segments_before n m b g ≤ s
  segments-below g h = omega (arith, sum_mono g k (λ i. segments_of b (n + m + i)) h, a.counts-add)

  pub segments-fit : (g : ℕ) → g < k → segments_before n m b g + segments_of b (n + m + g) ≤ s
  segments-fit g h = omega (arith, segments-below (g + 1) (omega arith), sum-next g (λ i. segments_of b (n + m + i)))
