-- What the record check answers (document 01, 'Causes turned away'): "Order: 13, 1, 2; then record by record 3, 4, 5, lastly the sum".
use Rattle.std.specs.Prelude.{ℕ, ◌+◌, ◌*◌, ◌-◌, Bool, true, false, not, ◌&&◌, ◌||◌, List, length, eqb, leb, ltb}
use Rattle.lists.specs.UpTo.{up_to, all, sum}
use Rattle.refusals.specs.Refusals.{◌or_else◌, refuse_unless, Checked, passed}
use Rattle.refusals.specs.declared.Refusal.TheVariants.{CountTooLarge, RecordsLength, BadRecord, NoSuchBus, EqualEnds}
use Rattle.records.specs.Fields.{kind_of, flags_of, count_of, id_of, first_of, second_of, bits_of, from_of, to_of, gen_bus_of, piecewise_of}

-- 1: "n or k above 4,096, m above 8,192, S above 65,536", "first such of n, m, k, S .. as 0..3"
unfoldable pub count_cause : ℕ → ℕ → ℕ → ℕ → Checked
count_cause n m k s =
    refuse_unless (leb n 4096) (CountTooLarge 0)
    or_else refuse_unless (leb m 8192) (CountTooLarge 1)
    or_else refuse_unless (leb k 4096) (CountTooLarge 2)
    or_else refuse_unless (leb s 65536) (CountTooLarge 3)

-- 2: "slice not 128 × (n+m+k+S) bytes", "its length"
unfoldable pub length_cause : ℕ → List ℕ → Checked
length_cause records b = refuse_unless (eqb (length b) (128 * records)) (RecordsLength (length b))

-- "All that is not named here is zero bits": the floats from the j-th to the last
unfoldable pub zero_floats : List ℕ → ℕ → ℕ → Bool
zero_floats b r j = all (14 - j) (λ i. eqb (bits_of b r (j + i)) 0)

-- 3: "wrong kind, unknown flag, nonzero unused bytes, count without bit 1"
unfoldable pub bus_form : List ℕ → ℕ → Bool
bus_form b r =
    eqb (kind_of b r) 1
    && ltb (flags_of b r) 2
    && eqb (count_of b r) 0
    && eqb (first_of b r) 0
    && eqb (second_of b r) 0
    && zero_floats b r 6

unfoldable pub branch_form : List ℕ → ℕ → Bool
branch_form b r = eqb (kind_of b r) 2 && ltb (flags_of b r) 4 && eqb (count_of b r) 0

unfoldable pub gen_form : List ℕ → ℕ → Bool
gen_form b r =
    eqb (kind_of b r) 3
    && ltb (flags_of b r) 4
    && (piecewise_of b r || eqb (count_of b r) 0)
    && eqb (second_of b r) 0
    && zero_floats b r 7

unfoldable pub segment_form : List ℕ → ℕ → Bool
segment_form b r =
    eqb (kind_of b r) 4
    && eqb (flags_of b r) 0
    && eqb (count_of b r) 0
    && eqb (id_of b r) 0
    && eqb (first_of b r) 0
    && eqb (second_of b r) 0
    && zero_floats b r 2

-- one record: 3, then 4 "a bus number not below n", then 5 "branch with equal ends"
unfoldable pub bus_cause : List ℕ → ℕ → Checked
bus_cause b r = refuse_unless (bus_form b r) (BadRecord r)

unfoldable pub branch_cause : ℕ → List ℕ → ℕ → Checked
branch_cause n b r =
    refuse_unless (branch_form b r) (BadRecord r)
    or_else refuse_unless (ltb (from_of b r) n && ltb (to_of b r) n) (NoSuchBus r)
    or_else refuse_unless (not (eqb (from_of b r) (to_of b r))) (EqualEnds r)

unfoldable pub gen_cause : ℕ → List ℕ → ℕ → Checked
gen_cause n b r = refuse_unless (gen_form b r) (BadRecord r) or_else refuse_unless (ltb (gen_bus_of b r) n) (NoSuchBus r)

unfoldable pub segment_cause : List ℕ → ℕ → Checked
segment_cause b r = refuse_unless (segment_form b r) (BadRecord r)

unfoldable pub choose : Bool → Checked → Checked → Checked
choose true c d = c
choose false c d = d

-- "buses first, then branches, generators, segments"
unfoldable pub record_cause : ℕ → ℕ → ℕ → List ℕ → ℕ → Checked
record_cause n m k b r =
    choose (ltb r n) (bus_cause b r)
    (choose (ltb r (n + m)) (branch_cause n b r)
    (choose (ltb r (n + m + k)) (gen_cause n b r)
    (segment_cause b r)))

-- the first cause among the count records from the first on, f r being that of record r
unfoldable pub first_cause : (ℕ → Checked) → ℕ → ℕ → Checked
first_cause f first count = up_to ◌or_else◌ passed (λ i. f (first + i)) count

-- the first record that has a cause
unfoldable pub record_causes : ℕ → ℕ → ℕ → List ℕ → ℕ → Checked
record_causes n m k b records = up_to ◌or_else◌ passed (record_cause n m k b) records

-- 3: "or counts not adding to S", "for the sum n+m+k+S"; the k generators start at record g
unfoldable pub count_sum : List ℕ → ℕ → ℕ → ℕ
count_sum b g k = sum k (λ i. count_of b (g + i))

unfoldable pub sum_cause : ℕ → ℕ → ℕ → ℕ → List ℕ → Checked
sum_cause n m k s b = refuse_unless (eqb (count_sum b (n + m) k) s) (BadRecord (n + m + k + s))

unfoldable pub check_of : ℕ → ℕ → ℕ → ℕ → List ℕ → Checked
check_of n m k s b =
    count_cause n m k s
    or_else length_cause (n + m + k + s) b
    or_else record_causes n m k b (n + m + k + s)
    or_else sum_cause n m k s b
