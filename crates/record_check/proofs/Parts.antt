-- The record check part by part, the branches before branch e apart. Assumes nothing.
use Rattle.std.proofs.Common.{ℕ, ◌+◌, ◌-◌, ◌≤◌, ◌≡◌, List, add_assoc, arith, min}
use Rattle.std.specs.Ordering.{ord_min, nat_cmp}
use Rattle.std.proofs.lemmas.Bool.Decides.{nat_tests}
use Rattle.lists.specs.UpTo.{bit}
use Rattle.lists.proofs.Sums.{sum-split}
use Rattle.refusals.specs.Refusals.{◌or_else◌, answer_if}
use Rattle.refusals.proofs.Laws.{or_else_assoc}
use Rattle.records.specs.Fields.{limited_of}
use Rattle.records.specs.Check.{bus_cause, branch_cause, gen_cause, segment_cause, first_cause, record_causes, sum_cause}
use Rattle.records.proofs.Causes.{apart}
use Rattle.record_check.specs.Counts.{limited_in}

module _ (n m k s : ℕ) (b : List ℕ) (e : ℕ) (l : e ≤ m) where
  pub parts : {A : Type 0} (v : A)
      → answer_if (record_causes n m k b (n + m + k + s) or_else sum_cause n m k s b) v
      ≡ first_cause (bus_cause b) 0 n
      or_else first_cause (branch_cause n b) n e or_else first_cause (branch_cause n b) (n + e) (m - e)
      or_else first_cause (gen_cause n b) (n + m) k or_else first_cause (segment_cause b) (n + m + k) s
      or_else answer_if (sum_cause n m k s b) v
  parts v = rw (apart n m k b s e l) (simp or_else_assoc)

  -- the limited branches before branch e, and the others
  pub split : limited_in b n m ≡ limited_in b n e + limited_in b (n + e) (m - e)
  split =
      let d : e + (m - e) ≡ m = omega arith in
      simp (d, ← add_assoc) at (sum-split e (m - e) (λ j. bit (limited_of b (n + j))))

-- the library's least of two numbers
pub least : (a b : ℕ) → ord_min nat_cmp a b ≡ min a b
least a b = grind (arith, nat_tests)
