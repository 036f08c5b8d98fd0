-- Ohm rows as numbers.
use Rattle.std.specs.Prelude.{ℕ, ◌<◌, ◌≡◌, List, [], ◌∷◌, ◌++◌, Float}
use Rattle.lists.specs.Entries.{Entry, entry}
use Rattle.records.specs.AcNetwork.{AcNetwork}
use Rattle.numbering.specs.Numbering.{ncon, row_number}
use Rattle.numbering.specs.Layout.{layout_column}
use Rattle.numbering.specs.declared.SocWrLayout.{SocWrLayout}
use Rattle.numbering.specs.declared.ColumnName.TheVariants.{W, Wr, Wi}
use Rattle.numbering.specs.declared.RowName.{RowName}
use Rattle.rows.specs.Rows.{terms, constant64, one}
use Rattle.rows.specs.Program.{in_row, nonzero}
use Rattle.lines.specs.declared.Ohm.{Ohm}

-- the row of branch e with w of a bus
abbrev pub ohm_of : SocWrLayout → ℕ → ℕ → ℕ → ℕ → Float → Float → Float → Ohm
ohm_of l e bus r flow x y z =
    record {
      row = r;
      w = layout_column l (W bus);
      wr = layout_column l (Wr e);
      wi = layout_column l (Wi e);
      flow = flow;
      at_w = x;
      at_wr = y;
      at_wi = z;
    }

-- its entries in row r
unfoldable pub ohm_entries : ℕ → Ohm → List Entry
ohm_entries r o = nonzero r o.w o.at_w ++ nonzero r o.wr o.at_wr ++ nonzero r o.wi o.at_wi ++ (entry r o.flow (constant64 one) ∷ [])

-- it is row x of the network
pub record OhmStands (G : AcNetwork Float) (x : RowName) (o : Ohm) : Type 0 where
  pub number : o.row ≡ row_number G x
  pub entries : (r : ℕ) → in_row G r (terms G x) ≡ ohm_entries r o
  pub within : o.row < ncon G
