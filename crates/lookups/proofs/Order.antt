-- The checks of the number of a name go by document 01's order: the record check, then 7 of the block, the index and the place. Assumes nothing.
use Rattle.std.proofs.Common.{ℕ, ◌≡◌, refl, ◌∙◌, ap, Bool, true, false, not, ◌||◌, cond, List, [], ◌∷◌, length, ltb, Some, None, Ok}
use Rattle.refusals.specs.Refusals.{◌or_else◌, refuse_unless, Checked}
use Rattle.refusals.specs.Order.{sooner, by_order}
use Rattle.refusals.specs.declared.Refusal.TheVariants.{PastEnd}
use Rattle.refusals.proofs.Order.{in_order, alone, next}
use Rattle.records.specs.Check.{check_of}
use Rattle.records.specs.Network.{network_of}
use Rattle.records.proofs.Order.{checked}
use Rattle.numbering.specs.Blocks.{Block, records, points, block_at, number_of}
use Rattle.numbering.specs.Numbering.{column_blocks, row_blocks}
use Rattle.numbering.specs.declared.Key.{Key}
use Rattle.numbering.proofs.Order.{cause_in, after_cause}
use Rattle.lookups.specs.Lookups.{asked, column_has, row_has, column_asked, row_asked, column_lookup, row_lookup}

module _ (bs : List Block) (has : Bool) (x : Key) where
  -- "answers None": the place is tested where there is something to ask for
  abbrev pub block_test : Checked
  block_test = refuse_unless (ltb x.block (length bs)) (PastEnd x.block)

  abbrev pub item_test : Checked
  item_test = refuse_unless (ltb x.item (records (block_at bs x.block))) (PastEnd x.item)

  abbrev pub place_test : Checked
  place_test = refuse_unless (not has || ltb x.place (points (block_at bs x.block) x.item)) (PastEnd x.place)

  asked_cause : cause_in (asked bs has x) ≡ block_test or_else item_test or_else place_test
  unfolding asked refuse_unless ◌or_else◌
  asked_cause =
      after_cause block_test _
      ∙ ap (λ (c : Checked). block_test or_else c) (after_cause item_test _)
      ∙ ap (λ (c : Checked). block_test or_else item_test or_else c) (last has (ltb x.place (points (block_at bs x.block) x.item)))
    where
      last : (r t : Bool) → cause_in (cond r (refuse_unless t (PastEnd x.place) or_else Ok (Some (number_of bs x))) (Ok None)) ≡ refuse_unless (not r || t) (PastEnd x.place)
      last true true = refl
      last true false = refl
      last false t = refl

module _ (n m k s : ℕ) (b : List ℕ) (bs : List Block) (has : Bool) (x : Key) where
  number-in_order : cause_in (check_of n m k s b or_else asked bs has x) ≡ by_order (check_of n m k s b ∷ block_test bs has x ∷ item_test bs has x ∷ place_test bs has x ∷ [])
  unfolding sooner
  number-in_order =
      after_cause (check_of n m k s b) _
      ∙ ap (λ (c : Checked). check_of n m k s b or_else c) (asked_cause bs has x)
      ∙ in_order (next (checked n m k s b) (next (alone _ _) (next (alone _ _) (alone _ _) refl) refl) refl)

module _ (n m k s : ℕ) (b : List ℕ) (x : Key) where
  -- the tests of a column's key, and of a row's
  abbrev pub column_tests : List Checked
  column_tests =
      let bs = column_blocks (network_of n m k s b) in
      let has = column_has (network_of n m k s b) x in
      block_test bs has x ∷ item_test bs has x ∷ place_test bs has x ∷ []

  abbrev pub row_tests : List Checked
  row_tests =
      let bs = row_blocks (network_of n m k s b) in
      let has = row_has (network_of n m k s b) x in
      block_test bs has x ∷ item_test bs has x ∷ place_test bs has x ∷ []

  pub column-number-in_order : cause_in (column_lookup n m k s b x) ≡ by_order (check_of n m k s b ∷ column_tests)
  unfolding column_asked
  column-number-in_order = number-in_order n m k s b (column_blocks (network_of n m k s b)) (column_has (network_of n m k s b) x) x

  pub row-number-in_order : cause_in (row_lookup n m k s b x) ≡ by_order (check_of n m k s b ∷ row_tests)
  unfolding row_asked
  row-number-in_order = number-in_order n m k s b (row_blocks (network_of n m k s b)) (row_has (network_of n m k s b) x) x
