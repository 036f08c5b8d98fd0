-- Laws of the costs. Assumes nothing.
use Rattle.std.proofs.Common.{ℕ, ◌+◌, ◌≡◌, refl, sym, ◌∙◌, ap, ap₂, subst, Bool, true, false, cond, ◌||◌, List, T, get_or, Float}
use Rattle.std.specs.Float.{nan, inf, binary64, fin}
use Rattle.std.specs.Float.Ieee.{of_bits, neg, add, div, lt, ne, is_nan}
use lib.Ieee.Compare.{differs_from_itself, nan_differs}
use Rattle.lists.specs.UpTo.{up_to}
use Rattle.lists.proofs.UpTo.{up_to-more}
use Rattle.cost.specs.Cost.{max, affine, parabola, highest, generator_cost, total_cost}
use Rattle.records.specs.AcNetwork.{AcNetwork}
use Rattle.records.specs.Fields.{segments_of, piecewise_of, slope_of, intercept_of, cq_of, cl_of, cc_of}
use Rattle.records.specs.Network.{network_of, segments_before, segment_record}
use Rattle.records.proofs.Segments.{segment_record_lem}
use Rattle.numbering.specs.Numbering.{column_number}
use Rattle.numbering.specs.declared.ColumnName.TheVariants.{Pg}
use Rattle.rows.specs.Rows.{zero64}

or_true : (t : Bool) → t || true ≡ true
or_true true = refl
or_true false = refl

-- the three ways that the code takes
module _ (a v : Float) where
  pub max_greater : lt a v ≡ true → v ≡ max a v
  unfolding max
  max_greater h = rw (h, or_true (is_nan a))

  pub max_nan : ne a a ≡ true → v ≡ max a v
  unfolding max is_nan
  max_nan h = rw (differs_from_itself a (subst T (sym h) tt))

pub max_stays : (a v : Float) → lt a v ≡ false → ne a a ≡ false → a ≡ max a v
unfolding max is_nan
max_stays nan v h e = absurd (subst T (sym nan_differs ∙ e) tt)
max_stays (inf s) v h e = rw h
max_stays (fin s m x) v h e = rw h

-- no segment, and one more
pub lowest : div binary64 (neg (of_bits binary64 0x3ff0000000000000)) (of_bits binary64 0) ≡ inf true
unfolding div neg of_bits
lowest = refl

module _ (slope intercept : ℕ → Float) (x : Float) where
  pub highest-none : highest slope intercept 0 x ≡ inf true
  unfolding highest up_to
  highest-none = refl

  pub highest-more : (t : ℕ) → highest slope intercept (t + 1) x ≡ max (highest slope intercept t x) (affine (slope t) (intercept t) x)
  unfolding highest
  highest-more t = up_to-more max (inf true) (λ t. affine (slope t) (intercept t) x) t

-- ---- the sum over the generators below g
abbrev pub total_so_far : AcNetwork Float → List Float → ℕ → Float
total_so_far G x g = up_to (add binary64) (neg zero64) (λ g. generator_cost G g (get_or x (column_number G (Pg g)) nan)) g

pub total-all : (G : AcNetwork Float) (x : List Float) → total_so_far G x G.k ≡ total_cost G x
unfolding total_cost
total-all G x = refl

module _ (n m k s : ℕ) (b : List ℕ) where
  -- a generator's cost by its record and that of its first segment
  abbrev pub cost_at : ℕ → ℕ → ℕ → Float → Float
  cost_at r first count x =
      cond (piecewise_of b r) (highest (λ t. slope_of b (first + t)) (λ t. intercept_of b (first + t)) count x) (parabola (cq_of b r) (cl_of b r) (cc_of b r) x)

  pub total-more : (x : List Float) (g first count place : ℕ) (sum v : Float)
      → first ≡ n + m + k + segments_before n m b g → count ≡ segments_of b (n + m + g) → place ≡ column_number (network_of n m k s b) (Pg g)
      → sum ≡ total_so_far (network_of n m k s b) x g → v ≡ cost_at (n + m + g) first count (get_or x place nan)
      → add binary64 sum v ≡ total_so_far (network_of n m k s b) x (g + 1)
  unfolding generator_cost
  total-more x g first count place sum v e f at h w =
      let there : (t : ℕ) → first + t ≡ segment_record n m k b g t = λ t. segment_record_lem n m k b g t e in
      let cost : v ≡ generator_cost (network_of n m k s b) g (get_or x (column_number (network_of n m k s b) (Pg g)) nan)
      = w ∙ simp (there, f) (ap (λ (i : ℕ). generator_cost (network_of n m k s b) g (get_or x i nan)) at) in
      ap₂ (add binary64) h cost
      ∙ sym (up_to-more (add binary64) (neg zero64) (λ g. generator_cost (network_of n m k s b) g (get_or x (column_number (network_of n m k s b) (Pg g)) nan)) g)
