-- The input of program `layout` (document 01, 'Lettered examples').
use Rattle.std.specs.Prelude.{ℕ, zero, suc, ◌+◌, ◌-◌, ◌/◌, ◌≡◌, cond, List, eqb, leb, ltb, length, Result, Ok}
use Rattle.refusals.specs.Refusals.{◌or_else◌, refuse_unless, answer_if, Checked}
use Rattle.refusals.specs.declared.Refusal.{Refusal}
use Rattle.refusals.specs.declared.Refusal.TheVariants.{PastEnd, InputTooLong}
use Rattle.records.specs.Fields.{kind_of}
use Rattle.records.specs.Check.{check_of}
use Rattle.records.specs.Network.{network_of}
use Rattle.numbering.specs.Blocks.{size, block_at, before}
use Rattle.numbering.specs.Numbering.{row_many}
use Rattle.numbering.specs.Layout.{layout_of, layout_cause, layout_rows}
use Rattle.numbering.specs.declared.SocWrLayout.{SocWrLayout}
use Rattle.records.specs.declared.Case.{Case}

-- how many of the count records from `at` on are of this kind before the first that is not
unfoldable pub run_of : List ℕ → ℕ → ℕ → ℕ → ℕ
run_of b kind at zero = 0
run_of b kind at (suc count) = cond (eqb (kind_of b at) kind) (suc (run_of b kind (at + 1) count)) 0

-- "n, m, k are the leading runs of kinds 1, 2, 3; S is the rest"
module _ (b : List ℕ) where
  unfoldable pub buses_of : ℕ
  buses_of = run_of b 1 0 (length b / 128)

  unfoldable pub branches_of : ℕ
  branches_of = run_of b 2 buses_of (length b / 128 - buses_of)

  unfoldable pub generators_of : ℕ
  generators_of = run_of b 3 (buses_of + branches_of) (length b / 128 - buses_of - branches_of)

  unfoldable pub rest_of : ℕ
  rest_of = length b / 128 - buses_of - branches_of - generators_of

  pub record CountsOf (r : Case) : Type 0 where
    pub n : r.n ≡ buses_of
    pub m : r.m ≡ branches_of
    pub k : r.k ≡ generators_of
    pub s : r.s ≡ rest_of

  -- 13 "program input above 65,536 bytes", then the record check; "leftover bytes mean number 2"
  abbrev pub input_check : Checked
  input_check = refuse_unless (leb (length b) 65536) InputTooLong or_else check_of buses_of branches_of generators_of rest_of b

  abbrev pub input_layout : Result SocWrLayout Refusal
  input_layout = answer_if input_check (layout_of (network_of buses_of branches_of generators_of rest_of b))

-- "Each line: block, first row, rows; lastly the total": the first row of a block, and its rows
abbrev pub first_row : SocWrLayout → ℕ → Result ℕ Refusal
first_row l b = layout_cause l or_else refuse_unless (leb b row_many) (PastEnd b) or_else Ok (before (layout_rows l) b)

abbrev pub row_count : SocWrLayout → ℕ → Result ℕ Refusal
row_count l b = layout_cause l or_else refuse_unless (ltb b row_many) (PastEnd b) or_else Ok (size (block_at (layout_rows l) b))
