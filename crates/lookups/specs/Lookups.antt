-- The number of a name, on counts and records.
use Rattle.std.specs.Prelude.{ℕ, Bool, true, cond, List, eqb, ltb, length, Option, Result, Some, None, Ok}
use Rattle.refusals.specs.Refusals.{◌or_else◌, refuse_unless, answer_number, answer_value}
use Rattle.refusals.specs.declared.Refusal.{Refusal}
use Rattle.refusals.specs.declared.Refusal.TheVariants.{PastEnd}
use Rattle.records.specs.AcNetwork.{AcNetwork}
use Rattle.records.specs.Network.{network_of}
use Rattle.records.specs.Check.{check_of}
use Rattle.numbering.specs.Blocks.{Block, records, points, block_at, number_of}
use Rattle.numbering.specs.Numbering.{column_blocks, row_blocks, cost_columns, cost_rows, thermal_rows}
use Rattle.numbering.specs.declared.Key.{Key}

-- the answer to a lookup: a row's or column's number; that the record has none (the Rust's None); or why it is refused
abbrev pub Lookup : Type 0
Lookup = Result (Option ℕ) Refusal

-- the number and the value of such an answer: a number's is 0 and the number, None's 0 and 2⁶⁴ - 1, a refusal's the cause's
abbrev pub none_value : ℕ
none_value = 18446744073709551615

abbrev pub number_or_none : Option ℕ → ℕ
number_or_none (Some p) = p
number_or_none None = none_value

abbrev pub lookup_number : Lookup → ℕ
lookup_number a = answer_number a

abbrev pub lookup_value : Lookup → ℕ
lookup_value a = answer_value number_or_none a

-- ---- numbers on counts and records: the record check, then 7. "A lookup with the index of a branch without limit, or of a generator
-- without cost column, answers None. With a cost column, a segment not below its generator's count is 7 and returns the segment; the
-- generator's index is tested first." A block that there is none of is 7 too, before the index.
unfoldable pub asked : List Block → Bool → Key → Lookup
asked bs has x =
    refuse_unless (ltb x.block (length bs)) (PastEnd x.block)
    or_else refuse_unless (ltb x.item (records (block_at bs x.block))) (PastEnd x.item)
    or_else cond has (refuse_unless (ltb x.place (points (block_at bs x.block) x.item)) (PastEnd x.place) or_else Ok (Some (number_of bs x))) (Ok None)

module _ {A : Type 0} (G : AcNetwork A) where
  -- the generator has a cost column (blocks cost), the branch a limit (block thermal)
  abbrev pub column_has : Key → Bool
  column_has x = cond (eqb x.block cost_columns) (G.piecewise x.item) true

  abbrev pub row_has : Key → Bool
  row_has x = cond (eqb x.block cost_rows) (G.piecewise x.item) (cond (eqb x.block thermal_rows) (G.limited x.item) true)

  unfoldable pub column_asked : Key → Lookup
  column_asked x = asked (column_blocks G) (column_has x) x

  unfoldable pub row_asked : Key → Lookup
  row_asked x = asked (row_blocks G) (row_has x) x

module _ (n m k s : ℕ) (b : List ℕ) where
  abbrev pub column_lookup : Key → Lookup
  column_lookup x = check_of n m k s b or_else column_asked (network_of n m k s b) x

  abbrev pub row_lookup : Key → Lookup
  row_lookup x = check_of n m k s b or_else row_asked (network_of n m k s b) x
