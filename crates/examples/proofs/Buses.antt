-- The record check accepts n bus records that are zeros but for their kinds, by a law of any n: nothing is computed. Assumes nothing.
use Rattle.std.proofs.Common.{ℕ, zero, suc, ◌+◌, ◌*◌, ◌%◌, ◌<◌, ◌≤◌, ◌≡◌, refl, ◌∙◌, true, List, arith, eqb, length, get_or, ne_eqb, eq-eqb, le-leb}
use Rattle.lists.specs.UpTo.{up_to, all}
use Rattle.lists.proofs.UpTo.{up_to-same}
use Rattle.lists.proofs.Listed.{listed_at, listed-length}
use Rattle.refusals.specs.Refusals.{refuse_unless, ◌or_else◌, passed}
use Rattle.refusals.proofs.Laws.{held}
use Rattle.records.specs.Bytes.{le16, le32, le64}
use Rattle.records.specs.Fields.{kind_of, flags_of, count_of, first_of, second_of, bits_of}
use Rattle.records.specs.Check.{count_cause, length_cause, zero_floats, bus_form, bus_cause, record_cause, record_causes, count_sum, sum_cause, check_of}
use Rattle.records.proofs.Causes.{bus_kind}
use Rattle.examples.specs.Networks.{bus_byte, buses}

-- record r of n: its first byte is 1, and any number in bytes q to 127, q > 0, is 0
module _ (n r : ℕ) (h : r < n) where
  one-first : get_or (buses n) (128 * r) 0 ≡ 1
  unfolding buses
  one-first =
      let e : 128 * r % 128 ≡ 0 = omega arith in
      listed_at bus_byte (128 * n) (128 * r) 0 (omega arith) ∙ rw (eq-eqb (128 * r % 128) 0 e)

  zero8 : (q p : ℕ) → p ≡ 128 * r + q → 0 < q → q < 128 → get_or (buses n) p 0 ≡ 0
  unfolding buses
  zero8 q p e l u = listed_at bus_byte (128 * n) p 0 (omega arith) ∙ rw (ne_eqb (p % 128) 0 (λ z. omega arith))

  zero16 : (q p : ℕ) → p ≡ 128 * r + q → 0 < q → q + 1 < 128 → le16 (buses n) p ≡ 0
  unfolding le16
  zero16 q p e l u = omega (arith, zero8 q p e l (omega arith), zero8 (q + 1) (p + 1) (omega arith) (omega arith) u)

  zero32 : (q p : ℕ) → p ≡ 128 * r + q → 0 < q → q + 3 < 128 → le32 (buses n) p ≡ 0
  unfolding le32
  zero32 q p e l u = omega (arith, zero16 q p e l (omega arith), zero16 (q + 2) (p + 2) (omega arith) (omega arith) (omega arith))

  zero64 : (q p : ℕ) → p ≡ 128 * r + q → 0 < q → q + 7 < 128 → le64 (buses n) p ≡ 0
  unfolding le64
  zero64 q p e l u = omega (arith, zero32 q p e l (omega arith), zero32 (q + 4) (p + 4) (omega arith) (omega arith) (omega arith))

  -- c floats from the j-th on
  zeros : (j c : ℕ) → j + c ≤ 14 → all c (λ i. eqb (bits_of (buses n) r (j + i)) 0) ≡ true
  unfolding up_to bits_of
  zeros j zero u = refl
  zeros j (suc c) u =
      rw (zeros j c (omega arith), zero64 (16 + 8 * (j + c)) (128 * r + 16 + 8 * (j + c)) (omega arith) (omega arith) (omega arith))

  form : bus_form (buses n) r ≡ true
  unfolding bus_form kind_of flags_of count_of first_of second_of zero_floats
  form =
      rw (
        one-first,
        zero8 1 (128 * r + 1) refl (omega arith) (omega arith),
        zero16 2 (128 * r + 2) refl (omega arith) (omega arith),
        zero32 8 (128 * r + 8) refl (omega arith) (omega arith),
        zero32 12 (128 * r + 12) refl (omega arith) (omega arith),
        zeros 6 8 (omega arith),
      )

  passes : record_cause n 0 0 (buses n) r ≡ passed
  unfolding bus_cause
  passes = bus_kind n 0 0 (buses n) r h ∙ held _ _ form

-- records that all pass
all_pass : (c : ℕ) → up_to ◌or_else◌ passed (λ i. passed) c ≡ passed
unfolding up_to ◌or_else◌
all_pass zero = refl
all_pass (suc c) = rw (all_pass c)

-- buses alone: the counts, the length and the records are left to check, the sum is 0
buses-alone : (n : ℕ) (b : List ℕ) → n ≤ 4096 → length b ≡ 128 * (n + 0 + 0 + 0) → record_causes n 0 0 b (n + 0 + 0 + 0) ≡ passed → check_of n 0 0 0 b ≡ passed
unfolding check_of count_cause length_cause sum_cause count_sum up_to ◌or_else◌ refuse_unless
buses-alone n b h e p = rw (le-leb n 4096 h, eq-eqb (length b) (128 * (n + 0 + 0 + 0)) e, p)

module _ (n : ℕ) where
  size : length (buses n) ≡ 128 * (n + 0 + 0 + 0)
  unfolding buses
  size = listed-length bus_byte (128 * n) ∙ omega arith

  records-pass : record_causes n 0 0 (buses n) (n + 0 + 0 + 0) ≡ passed
  unfolding record_causes
  records-pass = up_to-same ◌or_else◌ passed _ (λ i. passed) (n + 0 + 0 + 0) (λ r l. passes n r (omega arith)) ∙ all_pass _

  pub accepted-buses : n ≤ 4096 → check_of n 0 0 0 (buses n) ≡ passed
  accepted-buses h = buses-alone n (buses n) h size records-pass
