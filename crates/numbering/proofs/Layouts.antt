-- Which layouts are in range, and what the layout of a network gives of its numbering. Assumes nothing.
use Rattle.std.proofs.Common.{ℕ, ◌+◌, ◌<◌, ◌≡◌, refl, List, arith, leb-true, le-leb, Float}
use Rattle.lists.specs.UpTo.{sum, count}
use Rattle.lists.proofs.Sums.{count-le, sum-next, sum_mono}
use Rattle.refusals.specs.Refusals.{refuse_unless, ◌or_else◌, passed}
use Rattle.refusals.proofs.Laws.{or_else_accepted, test-held}
use Rattle.records.specs.AcNetwork.{AcNetwork}
use Rattle.records.specs.Check.{count_cause}
use Rattle.records.specs.Fields.{segments_of}
use Rattle.records.specs.Network.{network_of}
use Rattle.records.specs.Network as Network
use Rattle.records.proofs.Causes.{counts_in_range}
use Rattle.numbering.specs.Numbering.{limits, curves}
use Rattle.numbering.specs.Layout.{layout_of, layout_cause, InRange}
use Rattle.numbering.specs.Tally.{points_of, tally_of}
use Rattle.numbering.specs.declared.SocWrLayout.{SocWrLayout}
use Rattle.numbering.specs.declared.Tally.TheVariants.{Limited, Piecewise, Segments}

pub in_range : (l : SocWrLayout) → layout_cause l ≡ passed → InRange l
unfolding layout_cause
in_range l h =
    let a = or_else_accepted _ _ h in
    let b = or_else_accepted _ _ a.1 in
    let c = counts_in_range _ _ _ _ a.0 in
    record {
      n-range = c.0;
      m-range = c.1;
      k-range = c.2;
      s-range = c.3;
      t-range = leb-true _ _ (test-held _ _ b.0);
      c-range = leb-true _ _ (test-held _ _ b.1);
    }

-- and such a layout has no cause
pub range-accepted : (l : SocWrLayout) → InRange l → layout_cause l ≡ passed
unfolding layout_cause count_cause ◌or_else◌ refuse_unless
range-accepted l h =
    rw (le-leb _ _ h.n-range, le-leb _ _ h.m-range, le-leb _ _ h.k-range, le-leb _ _ h.s-range, le-leb _ _ h.t-range, le-leb _ _ h.c-range)

module _ (n m k s : ℕ) (b : List ℕ) where
  abbrev G : AcNetwork Float
  G = network_of n m k s b

  pub accepted-range : Network.Accepted n m k s b → InRange (layout_of G)
  accepted-range a =
      record {
        n-range = a.few-buses;
        m-range = a.few-branches;
        k-range = a.few_generators;
        s-range = a.few-segments;
        t-range = count-le m G.limited;
        c-range = count-le k G.piecewise;
      }

  -- the tallies of all records of a kind
  pub limits_tally : tally_of Limited b n m ≡ limits G
  unfolding tally_of points_of
  limits_tally = refl

  pub curves_tally : tally_of Piecewise b (n + m) k ≡ curves G
  unfolding tally_of points_of
  curves_tally = refl

  pub segments_tally : (g : ℕ) → tally_of Segments b (n + m) g ≡ sum g G.segments
  unfolding tally_of points_of
  segments_tally g = refl

  -- the tallies before a record
  pub limited-before : (e : ℕ) → tally_of Limited b n e ≡ count e G.limited
  unfolding tally_of points_of
  limited-before e = refl

  pub piecewise-before : (g : ℕ) → tally_of Piecewise b (n + m) g ≡ count g G.piecewise
  unfolding tally_of points_of
  piecewise-before g = refl

  -- a generator's segment lies among all
  pub segment-inside : Network.Accepted n m k s b → (g t : ℕ) → g < k → t < segments_of b (n + m + g) → sum g G.segments + t < s
  segment-inside a g t l h =
      omega (arith, a.counts-add, sum-next g G.segments, sum_mono (g + 1) k G.segments (omega arith))
