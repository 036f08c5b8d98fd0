-- What is answered when a key's number is asked: in each block the tests of the index and of the place, and then the number.
use Rattle.std.proofs.Common.{ℕ, zero, suc, ◌*◌, ◌<◌, ◌≤◌, ◌≡◌, refl, ap, ◌∙◌, Bool, true, false, cond, List, length, ltb, arith, lt-ltb, le-ltb, ne_eqb, one-mul, Some, None, Ok, Err, IsErrAnd}
use Rattle.lists.specs.UpTo.{bit}
use Rattle.refusals.specs.Refusals.{Checked, passed, ◌or_else◌, refuse_unless}
use Rattle.refusals.specs.declared.Refusal.{Refusal}
use Rattle.refusals.specs.declared.Refusal.TheVariants.{PastEnd}
use Rattle.refusals.proofs.Laws.{ends, went_on}
use Rattle.records.specs.AcNetwork.{AcNetwork}
use Rattle.numbering.specs.Blocks.{Block, alike, records, points, block_at, number_of, key}
use Rattle.numbering.specs.Numbering.{column_blocks, column_number, row_blocks, row_number, column_many, row_many, cost_columns, cost_rows, jabr_rows, thermal_rows}
use Rattle.numbering.specs.declared.Key.{Key}
use Rattle.numbering.specs.declared.ColumnName.TheVariants.{CostOf}
use Rattle.numbering.specs.declared.RowName.TheVariants.{Segment, Jabr, Thermal}
use Rattle.numbering.proofs.Tables.{column-keyed, row-keyed, columns-many, rows-many, cost-block, segment-block, jabr-block, thermal-block}
use Rattle.lookups.specs.Lookups.{Lookup, asked, column_has, row_has, column_asked, row_asked}

-- the test of an index below w, and what is answered past it
abbrev pub below : ℕ → ℕ → Lookup → Lookup
below i w a = refuse_unless (ltb i w) (PastEnd i) or_else a

-- an answer by three tests: of the record's index, whether the record has points, and of the place
abbrev tested : ℕ → ℕ → Bool → ℕ → ℕ → Lookup → Lookup
tested i n t q w found = below i n (cond t (below q w found) (Ok None))

module _ (i n : ℕ) (t : Bool) (q w : ℕ) (found : Lookup) {r : Checked} (index : r ≡ refuse_unless (ltb i n) (PastEnd i)) where
  pub past-index : {out : Lookup} {cause : Refusal} → IsErrAnd out (λ e. e ≡ cause) → r ≡ Err cause → out ≡ tested i n t q w found
  past-index h e = ends _ h e index

  module _ (inside : r ≡ passed) where
    pub no-points : t ≡ false → Ok None ≡ tested i n t q w found
    no-points e = went_on index inside (rw e refl)

    module _ (has : t ≡ true) {s : Checked} (place : s ≡ refuse_unless (ltb q w) (PastEnd q)) where
      pub past-place : {out : Lookup} {cause : Refusal} → IsErrAnd out (λ e. e ≡ cause) → s ≡ Err cause → out ≡ tested i n t q w found
      past-place h e = went_on index inside (rw has (ends _ h e place))

      pub point : {out : Lookup} → s ≡ passed → out ≡ found → out ≡ tested i n t q w found
      point e p = went_on index inside (rw has (went_on place e p))

module _ (bs : List Block) (has : Bool) (x : Key) where
  pub ask_block : length bs ≤ x.block → Err (PastEnd x.block) ≡ asked bs has x
  unfolding asked refuse_unless ◌or_else◌
  ask_block p = rw (le-ltb x.block (length bs) p) refl

  -- in a block that there is
  module _ (b : x.block < length bs) where
    pub ask_there : below x.item (records (block_at bs x.block)) (cond has (below x.place (points (block_at bs x.block) x.item) (Ok (Some (number_of bs x)))) (Ok None)) ≡ asked bs has x
    unfolding asked refuse_unless ◌or_else◌
    ask_there = rw (lt-ltb x.block (length bs) b) refl

    pub ask_found : x.item < records (block_at bs x.block) → has ≡ true → x.place < points (block_at bs x.block) x.item → Ok (Some (number_of bs x)) ≡ asked bs has x
    unfolding asked refuse_unless ◌or_else◌
    ask_found i e q =
        rw (lt-ltb x.block (length bs) b, lt-ltb x.item (records (block_at bs x.block)) i, e, lt-ltb x.place (points (block_at bs x.block) x.item) q) refl

-- a place below 1 is the place 0
place-one : (f : ℕ → Lookup) (q : ℕ) → below q 1 (f 0) ≡ below q 1 (f q)
unfolding refuse_unless ◌or_else◌
place-one f zero = refl
place-one f (suc q) = rw (le-ltb (suc q) 1 (omega arith)) refl

-- ---- in a block of one point for each of its w records
module _ (bs : List Block) (has : Bool) (j i q w : ℕ) (among : j < length bs) (here : block_at bs j ≡ alike w 1) where
  pub ask_plain : has ≡ true → below i w (below q 1 (Ok (Some (number_of bs (key j i 0))))) ≡ asked bs has (key j i q)
  ask_plain e =
      ap (below i w) (place-one (λ p. Ok (Some (number_of bs (key j i p)))) q) ∙ rw e (rw here at (ask_there bs true (key j i q) among))

-- ---- in a network's blocks; a record of most blocks has its points
module _ {A : Type 0} (G : AcNetwork A) where
  pub column-among : (j : ℕ) → j < column_many → j < length (column_blocks G)
  column-among j l = omega (arith, columns-many G)

  pub row-among : (j : ℕ) → j < row_many → j < length (row_blocks G)
  row-among j l = omega (arith, rows-many G)

  pub column-has : (j i q : ℕ) → j < cost_columns → column_has G (key j i q) ≡ true
  column-has j i q l = rw (ne_eqb j cost_columns (λ e. omega arith))

  pub row_has_lem : (j i q : ℕ) → j < cost_rows → row_has G (key j i q) ≡ true
  row_has_lem j i q l = rw (ne_eqb j cost_rows (λ e. omega arith), ne_eqb j thermal_rows (λ e. omega arith))

  -- the answers in a block that has one column or row for each of its w records
  module _ (j i q w : ℕ) where
    pub ask_column : j < cost_columns → block_at (column_blocks G) j ≡ alike w 1 → below i w (below q 1 (Ok (Some (number_of (column_blocks G) (key j i 0))))) ≡ column_asked G (key j i q)
    unfolding column_asked
    ask_column l here = ask_plain (column_blocks G) _ j i q w (column-among j (omega arith)) here (column-has j i q l)

    pub ask_row : j < cost_rows → block_at (row_blocks G) j ≡ alike w 1 → below i w (below q 1 (Ok (Some (number_of (row_blocks G) (key j i 0))))) ≡ row_asked G (key j i q)
    unfolding row_asked
    ask_row l here = ask_plain (row_blocks G) _ j i q w (row-among j (omega arith)) here (row_has_lem j i q l)

  -- the answers in the blocks whose records differ, and in that of four rows to a branch
  module _ (g q : ℕ) where
    pub ask_cost : below g G.k (cond (G.piecewise g) (below q 1 (Ok (Some (column_number G (CostOf g))))) (Ok None)) ≡ column_asked G (key cost_columns g q)
    unfolding column_asked
    ask_cost =
        ap (below g G.k) (points (G.piecewise g))
        ∙ rw (cost-block G) at (ask_there (column_blocks G) (G.piecewise g) (key cost_columns g q) (column-among cost_columns (omega arith)))
      where
        points : (t : Bool)
            → cond t (below q 1 (Ok (Some (column_number G (CostOf g))))) (Ok None) ≡ cond t (below q (1 * bit t) (Ok (Some (number_of (column_blocks G) (key cost_columns g q))))) (Ok None)
        points true = rw (column-keyed G (CostOf g)) (place-one (λ p. Ok (Some (number_of (column_blocks G) (key cost_columns g p)))) q)
        points false = refl

    pub ask_segment : below g G.k (cond (G.piecewise g) (below q (G.segments g) (Ok (Some (row_number G (Segment g q))))) (Ok None)) ≡ row_asked G (key cost_rows g q)
    unfolding row_asked
    ask_segment =
        rw (row-keyed G (Segment g q), ← one-mul (G.segments g)) (rw (segment-block G) at (ask_there (row_blocks G) (G.piecewise g) (key cost_rows g q) (row-among cost_rows (omega arith))))

  module _ (e q : ℕ) where
    pub ask_jabr : below e G.m (below q 4 (Ok (Some (row_number G (Jabr e q))))) ≡ row_asked G (key jabr_rows e q)
    unfolding row_asked
    ask_jabr = rw (row-keyed G (Jabr e q)) (rw (jabr-block G) at (ask_there (row_blocks G) true (key jabr_rows e q) (row-among jabr_rows (omega arith))))

    pub ask_thermal : below e G.m (cond (G.limited e) (below q 6 (Ok (Some (row_number G (Thermal e q))))) (Ok None)) ≡ row_asked G (key thermal_rows e q)
    unfolding row_asked
    ask_thermal =
        ap (below e G.m) (points (G.limited e))
        ∙ rw (thermal-block G) at (ask_there (row_blocks G) (G.limited e) (key thermal_rows e q) (row-among thermal_rows (omega arith)))
      where
        points : (t : Bool)
            → cond t (below q 6 (Ok (Some (row_number G (Thermal e q))))) (Ok None) ≡ cond t (below q (6 * bit t) (Ok (Some (number_of (row_blocks G) (key thermal_rows e q))))) (Ok None)
        points true = rw (row-keyed G (Thermal e q)) refl
        points false = refl
