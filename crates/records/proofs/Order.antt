-- The record check goes by document 01's order: each record's causes come before those of the next, and the sum's after all records'.
-- Assumes nothing.
use Rattle.std.proofs.Common.{ℕ, zero, suc, ◌+◌, ◌≡◌, refl, Bool, true, false, not, ◌&&◌, List, [], ◌∷◌, ◌++◌, eqb, leb, ltb, length, arith}
use Rattle.lists.specs.UpTo.{up_to, listed}
use Rattle.refusals.specs.Refusals.{refuse_unless, Checked}
use Rattle.refusals.specs.Order.{sooner, by_order}
use Rattle.refusals.specs.declared.Refusal.TheVariants.{CountTooLarge, RecordsLength, BadRecord, NoSuchBus, EqualEnds}
use Rattle.refusals.proofs.Order.{InOrder, in_order, alone, next, whole, wider, by_turn, no_cause}
use Rattle.records.specs.Fields.{from_of, to_of, gen_bus_of}
use Rattle.records.specs.Check.{count_cause, length_cause, branch_form, gen_form, bus_cause, branch_cause, gen_cause, segment_cause, choose, record_cause, record_causes, sum_cause, check_of}

-- what the tests of record r that are made answer, as one check
abbrev OfRecord : ℕ → Checked → Type 0
OfRecord r c = InOrder (BadRecord r) (BadRecord (suc r)) (c ∷ []) c

module _ (n : ℕ) (b : List ℕ) (r : ℕ) where
  branch_tests : InOrder (BadRecord r) (EqualEnds r)
      (refuse_unless (branch_form b r) (BadRecord r) ∷ refuse_unless (ltb (from_of b r) n && ltb (to_of b r) n) (NoSuchBus r) ∷ refuse_unless (not (eqb (from_of b r) (to_of b r))) (EqualEnds r) ∷ [])
      (branch_cause n b r)
  unfolding branch_cause
  branch_tests =
      next (alone _ _) (next (alone _ _) (alone _ _) (by_turn (EqualEnds r) (NoSuchBus r) refl (omega arith))) (by_turn (NoSuchBus r) (BadRecord r) refl (omega arith))

  gen_tests : InOrder (BadRecord r) (NoSuchBus r) (refuse_unless (gen_form b r) (BadRecord r) ∷ refuse_unless (ltb (gen_bus_of b r) n) (NoSuchBus r) ∷ []) (gen_cause n b r)
  unfolding gen_cause
  gen_tests = next (alone _ _) (alone _ _) (by_turn (NoSuchBus r) (BadRecord r) refl (omega arith))

  -- "record by record 3, 4, 5"
  pub branch-in_order : branch_cause n b r
      ≡ by_order (
      refuse_unless (branch_form b r) (BadRecord r)
      ∷ refuse_unless (ltb (from_of b r) n && ltb (to_of b r) n) (NoSuchBus r)
      ∷ refuse_unless (not (eqb (from_of b r) (to_of b r))) (EqualEnds r)
      ∷ [])
  branch-in_order = in_order branch_tests

  pub gen_in_order : gen_cause n b r ≡ by_order (refuse_unless (gen_form b r) (BadRecord r) ∷ refuse_unless (ltb (gen_bus_of b r) n) (NoSuchBus r) ∷ [])
  gen_in_order = in_order gen_tests

  kept : sooner (BadRecord r) (BadRecord r) ≡ false
  kept = by_turn (BadRecord r) (BadRecord r) refl (omega arith)

  bus_of : OfRecord r (bus_cause b r)
  unfolding bus_cause
  bus_of = wider (alone _ _) kept (by_turn (BadRecord (suc r)) (BadRecord r) refl (omega arith))

  branch_of_lem : OfRecord r (branch_cause n b r)
  branch_of_lem = wider (whole branch_tests) kept (by_turn (BadRecord (suc r)) (EqualEnds r) refl (omega arith))

  gen_of : OfRecord r (gen_cause n b r)
  gen_of = wider (whole gen_tests) kept (by_turn (BadRecord (suc r)) (NoSuchBus r) refl (omega arith))

  segment_of : OfRecord r (segment_cause b r)
  unfolding segment_cause
  segment_of = wider (alone _ _) kept (by_turn (BadRecord (suc r)) (BadRecord r) refl (omega arith))

picked : (t : Bool) (r : ℕ) (c d : Checked) → OfRecord r c → OfRecord r d → OfRecord r (choose t c d)
unfolding choose
picked true r c d x y = x
picked false r c d x y = y

module _ (n m k : ℕ) (b : List ℕ) where
  record_of : (r : ℕ) → OfRecord r (record_cause n m k b r)
  unfolding record_cause
  record_of r = picked _ r _ _ (bus_of n b r) (picked _ r _ _ (branch_of_lem n b r) (picked _ r _ _ (gen_of n b r) (segment_of n b r)))

  records_of : (records : ℕ) → InOrder (BadRecord 0) (BadRecord records) (listed records (record_cause n m k b)) (record_causes n m k b records)
  unfolding record_causes up_to
  records_of zero = no_cause _ _ (by_turn (BadRecord 0) (BadRecord 0) refl (omega arith))
  records_of (suc r) = next (records_of r) (record_of r) (by_turn (BadRecord r) (BadRecord r) refl (omega arith))

module _ (n m k s : ℕ) where
  abbrev pub counts : List Checked
  counts =
      refuse_unless (leb n 4096) (CountTooLarge 0) ∷ refuse_unless (leb m 8192) (CountTooLarge 1)
      ∷ refuse_unless (leb k 4096) (CountTooLarge 2) ∷ refuse_unless (leb s 65536) (CountTooLarge 3) ∷ []

  pub counts_of : InOrder (CountTooLarge 0) (CountTooLarge 3) counts (count_cause n m k s)
  unfolding count_cause sooner
  counts_of = next (alone _ _) (next (alone _ _) (next (alone _ _) (alone _ _) refl) refl) refl

module _ (n m k s : ℕ) (b : List ℕ) where
  sum_of : InOrder (BadRecord (n + m + k + s)) (BadRecord (n + m + k + s)) (sum_cause n m k s b ∷ []) (sum_cause n m k s b)
  unfolding sum_cause
  sum_of = alone _ _

  length_of : InOrder (RecordsLength (length b)) (RecordsLength (length b)) (length_cause (n + m + k + s) b ∷ []) (length_cause (n + m + k + s) b)
  unfolding length_cause
  length_of = alone _ _

  check_of_lem : InOrder (CountTooLarge 0) (BadRecord (n + m + k + s))
      (counts n m k s ++ (length_cause (n + m + k + s) b ∷ (listed (n + m + k + s) (record_cause n m k b) ++ (sum_cause n m k s b ∷ []))))
      (check_of n m k s b)
  unfolding check_of sooner
  check_of_lem =
      next (counts_of n m k s) (next length_of (next (records_of n m k b (n + m + k + s)) sum_of (by_turn (BadRecord (n + m + k + s)) (BadRecord (n + m + k + s)) refl (omega arith))) refl) refl

  -- "Order: .. 1, 2; then record by record 3, 4, 5, lastly the sum"
  pub check-in_order : check_of n m k s b
      ≡ by_order (counts n m k s ++ (length_cause (n + m + k + s) b ∷ (listed (n + m + k + s) (record_cause n m k b) ++ (sum_cause n m k s b ∷ []))))
  check-in_order = in_order check_of_lem

  -- the record check before others
  pub checked : InOrder (CountTooLarge 0) (BadRecord (n + m + k + s)) (check_of n m k s b ∷ []) (check_of n m k s b)
  checked = whole check_of_lem
