-- The record check's definitions, one step more at a time, as its loops go, and kind by kind. Assumes nothing.
use Rattle.std.proofs.Common.{ℕ, zero, suc, ◌+◌, ◌-◌, ◌≤◌, ◌<◌, ◌≡◌, refl, sym, ◌∙◌, List, add-zero, zero-add, add-suc, add_assoc}
use Rattle.std.proofs.Common.{arith, leb-true, lt-ltb, le-ltb, Ok, Err}
use Rattle.lists.specs.UpTo.{up_to}
use Rattle.lists.proofs.UpTo.{up_to-more, up_to-found, up_to-same}
use Rattle.refusals.specs.Refusals.{Checked, passed, ◌or_else◌}
use Rattle.refusals.specs.declared.Refusal.{Refusal}
use Rattle.refusals.proofs.Laws.{accepted-first, or_else_refused, or_else_accepted, or_else_assoc, test-held}
use Rattle.records.specs.Fields.{count_of}
use Rattle.records.specs.Check.{choose, count_cause, bus_cause, branch_cause, gen_cause, segment_cause, record_cause, record_causes, first_cause, count_sum}

module _ (n m k s : ℕ) where
  pub counts_in_range : count_cause n m k s ≡ passed → (n ≤ 4096) × (m ≤ 8192) × (k ≤ 4096) × (s ≤ 65536)
  unfolding count_cause
  counts_in_range h =
      let a = or_else_accepted _ _ h in
      let b = or_else_accepted _ _ a.1 in
      let c = or_else_accepted _ _ b.1 in
      (leb-true _ _ (test-held _ _ a.0), leb-true _ _ (test-held _ _ b.0), leb-true _ _ (test-held _ _ c.0), leb-true _ _ (test-held _ _ c.1))

accepted-last : (a : Checked) → a or_else passed ≡ a
unfolding ◌or_else◌
accepted-last (Ok u) = refl
accepted-last (Err cause) = refl

pub sum_more : (b : List ℕ) (g i : ℕ) → count_sum b g (i + 1) ≡ count_sum b g i + count_of b (g + i)
unfolding count_sum
sum_more b g i = up_to-more ◌+◌ 0 _ i

pub sum-none : (b : List ℕ) (g : ℕ) → count_sum b g 0 ≡ 0
unfolding count_sum up_to
sum-none b g = refl

-- the records from the first on, f r being the cause of record r
module _ (f : ℕ → Checked) (first : ℕ) where
  pub first-none : first_cause f first 0 ≡ passed
  unfolding first_cause up_to
  first-none = refl

  -- a turn of a loop that finds the cause r of record first + i: it goes on, or stops there
  module _ {r : Checked} (i : ℕ) (p : first_cause f first i ≡ passed) (q : r ≡ f (first + i)) where
    pub first_more : r ≡ passed → first_cause f first (i + 1) ≡ passed
    unfolding first_cause
    first_more h = up_to-more ◌or_else◌ passed _ i ∙ rw (p, sym q ∙ h) (accepted-first passed)

    pub first_found : {cause : Refusal} (count : ℕ) → i < count → r ≡ Err cause → first_cause f first count ≡ Err cause
    unfolding first_cause
    first_found {cause = cause} count l h =
        let e : f (first + i) ≡ Err cause = sym q ∙ h in
        up_to-found ◌or_else◌ passed (λ j. f (first + j)) accepted-first i count (λ x. or_else_refused x e ∙ sym e) l p ∙ e

  pub first-split : (a c : ℕ) → first_cause f first (a + c) ≡ first_cause f first a or_else first_cause f (first + a) c
  unfolding first_cause up_to
  first-split a zero = rw add-zero (sym (accepted-last _))
  first-split a (suc c) = rw (add-suc, first-split a c, ← add_assoc) (or_else_assoc _ _ _)

  pub first-same : (g : ℕ → Checked) (count : ℕ) → ((i : ℕ) → i < count → f (first + i) ≡ g (first + i)) → first_cause f first count ≡ first_cause g first count
  unfolding first_cause
  first-same g count h = up_to-same ◌or_else◌ passed _ _ count h

module _ (n m k : ℕ) (b : List ℕ) where
  -- which kind a record is of
  pub bus_kind : (i : ℕ) → i < n → record_cause n m k b i ≡ bus_cause b i
  unfolding record_cause choose
  bus_kind i h = simp (lt-ltb i n h)

  pub branch_kind : (e : ℕ) → e < m → record_cause n m k b (n + e) ≡ branch_cause n b (n + e)
  unfolding record_cause choose
  branch_kind e h = simp (le-ltb (n + e) n (omega arith), lt-ltb (n + e) (n + m) (omega arith))

  pub gen_kind : (g : ℕ) → g < k → record_cause n m k b (n + m + g) ≡ gen_cause n b (n + m + g)
  unfolding record_cause choose
  gen_kind g h = simp (le-ltb (n + m + g) n (omega arith), le-ltb (n + m + g) (n + m) (omega arith), lt-ltb (n + m + g) (n + m + k) (omega arith))

  pub segment_kind : (t : ℕ) → record_cause n m k b (n + m + k + t) ≡ segment_cause b (n + m + k + t)
  unfolding record_cause choose
  segment_kind t =
      simp (le-ltb (n + m + k + t) n (omega arith), le-ltb (n + m + k + t) (n + m) (omega arith), le-ltb (n + m + k + t) (n + m + k) (omega arith))

  whole : (records : ℕ) → record_causes n m k b records ≡ first_cause (record_cause n m k b) 0 records
  unfolding record_causes first_cause
  whole records = up_to-same ◌or_else◌ passed _ _ records (λ i h. rw zero-add)

  after : (a c : ℕ) → record_causes n m k b (a + c) ≡ record_causes n m k b a or_else first_cause (record_cause n m k b) a c
  after a c = whole (a + c) ∙ first-split (record_cause n m k b) 0 a c ∙ rw (zero-add a, whole a)

  -- the records, kind by kind
  pub by_kind : (s : ℕ)
      → record_causes n m k b (n + m + k + s)
      ≡ first_cause (bus_cause b) 0 n or_else first_cause (branch_cause n b) n m or_else first_cause (gen_cause n b) (n + m) k or_else first_cause (segment_cause b) (n + m + k) s
  by_kind s =
      let f = record_cause n m k b in
      rw (
        after (n + m + k) s,
        after (n + m) k,
        after n m,
        whole n,
        first-same f 0 (bus_cause b) n (λ i h. bus_kind (0 + i) (omega arith)),
        first-same f n (branch_cause n b) m branch_kind,
        first-same f (n + m) (gen_cause n b) k gen_kind,
        first-same f (n + m + k) (segment_cause b) s (λ t h. segment_kind t),
      ) (simp or_else_assoc)

  -- the same with the branches before branch e apart
  pub apart : (s e : ℕ) → e ≤ m
      → record_causes n m k b (n + m + k + s)
      ≡ first_cause (bus_cause b) 0 n
      or_else first_cause (branch_cause n b) n e or_else first_cause (branch_cause n b) (n + e) (m - e)
      or_else first_cause (gen_cause n b) (n + m) k or_else first_cause (segment_cause b) (n + m + k) s
  apart s e l =
      let d : e + (m - e) ≡ m = omega arith in
      let branches = rw d at (first-split (branch_cause n b) n e (m - e)) in
      by_kind s ∙ rw branches (simp or_else_assoc)
