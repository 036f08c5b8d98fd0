-- The terms of the balance rows by end: a generator at its bus, a branch at its from bus and at its to bus.
use Rattle.std.specs.Prelude.{ℕ, ◌+◌, ◌≡◌, Bool, true, false, List, [], ◌∷◌, ◌++◌, eqb, length, Float}
use Rattle.std.specs.Float.Ieee.{neg, ne}
use Rattle.lists.specs.UpTo.{each, when}
use Rattle.lists.specs.Entries.{Entry, entry}
use Rattle.records.specs.AcNetwork.{AcNetwork}
use Rattle.numbering.specs.Numbering.{column_number}
use Rattle.numbering.specs.declared.SocWrLayout.{SocWrLayout}
use Rattle.numbering.specs.declared.ColumnName.{ColumnName}
use Rattle.numbering.specs.declared.ColumnName.TheVariants.{Pg, Qg, W, Pf, Pt, Qf, Qt}
use Rattle.numbering.specs.declared.RowName.{RowName}
use Rattle.numbering.specs.declared.RowName.TheVariants.{Pbal, Qbal}
use Rattle.rows.specs.Rows.{Constant, one, minus_one, constant64, zero64}
use Rattle.dealing.specs.Deal.{Item, Pass, pass, sorted, Begun, Room}
use Rattle.balance.specs.declared.End.{End}
use Rattle.balance.specs.declared.End.TheVariants.{Gen, From, To}

abbrev pub end_count : SocWrLayout → End → ℕ
end_count l Gen = l.k
end_count l From = l.m
end_count l To = l.m

abbrev pub bus_at : AcNetwork Float → End → ℕ → ℕ
bus_at G Gen j = G.gen_bus j
bus_at G From j = G.from j
bus_at G To j = G.to j

-- in the active rows, and in the reactive rows
abbrev pub end_column : Bool → End → ℕ → ColumnName
end_column false Gen j = Pg j
end_column false From j = Pf j
end_column false To j = Pt j
end_column true Gen j = Qg j
end_column true From j = Qf j
end_column true To j = Qt j

abbrev pub end_constant : End → Constant
end_constant Gen = one
end_constant From = minus_one
end_constant To = minus_one

abbrev pub bus_row : Bool → ℕ → RowName
bus_row false i = Pbal i
bus_row true i = Qbal i

-- the coefficient of w
abbrev pub self_value : AcNetwork Float → Bool → ℕ → Float
self_value G false i = neg (G.gs i)
self_value G true i = G.bs i

-- the ends at bus i, as entries of row r
unfoldable pub end_entries : SocWrLayout → AcNetwork Float → Bool → End → ℕ → ℕ → List Entry
end_entries l G q end i r = each (end_count l end) (λ j. when (eqb (bus_at G end j) i) (entry r (column_number G (end_column q end j)) (constant64 (end_constant end)) ∷ []))

-- ---- the same entries in the order in which passes over the records meet them: by end, not by bus; r is the row of bus 0
abbrev pub end_pass : AcNetwork Float → Bool → ℕ → End → Pass
end_pass G q r end =
    record {
      test = λ j. true;
      keys = λ j. bus_at G end j;
      entries = λ j. entry (r + bus_at G end j) (column_number G (end_column q end j)) (constant64 (end_constant end));
    }

abbrev pub self_pass : AcNetwork Float → Bool → ℕ → Pass
self_pass G q r =
    record {
      test = λ j. ne (self_value G q j) zero64;
      keys = λ j. j;
      entries = λ j. entry (r + j) (column_number G (W j)) (self_value G q j);
    }

unfoldable pub items : SocWrLayout → AcNetwork Float → Bool → ℕ → List Item
items l G q r =
    each (end_count l Gen) (pass (end_pass G q r Gen)) ++ each l.n (pass (self_pass G q r))
    ++ each (end_count l From) (pass (end_pass G q r From)) ++ each (end_count l To) (pass (end_pass G q r To))

-- the cursors stand at the rows' starts, and can move on to the end
pub record Begins (n at : ℕ) (xs : List Item) (ct : List ℕ) (next : ℕ) : Type 0 where
  pub begun : Begun n at xs ct
  pub room : Room ct 24576
  pub all : next ≡ at + length (sorted n xs)
