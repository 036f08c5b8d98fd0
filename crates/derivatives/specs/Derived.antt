-- What is proved of the columns by series and shunt admittance: their entries of d_a are the derivatives of A. Over the operations of any commutative
-- ring: with d more of the parameter, A x grows by d times what the entries say, whatever x and d, and no other row of A changes.
use Rattle.std.specs.Prelude.{ℕ, ◌≡◌}
use Rattle.ring.specs.Ops.{Ops}
use Rattle.ring.specs.Laws.{CommutativeRing}
use Rattle.records.specs.AcNetwork.{AcNetwork}
use Rattle.numbering.specs.declared.ColumnName.{ColumnName}
use Rattle.numbering.specs.declared.RowName.{RowName}
use Rattle.rows.specs.Rows.{ohm_row, cells}
use Rattle.rows.specs.declared.OhmRow.{OhmRow}
use Rattle.rows.specs.Scaled.{row}
use Rattle.interface.specs.declared.GB.{GB}
use Rattle.admittance.specs.Admittance.{shunt_row}
use Rattle.derivatives.specs.Sums.{series_row, shunt_times}
use Rattle.derivatives.specs.Raised.{more_series, more_shunt}

module _ {A : Type 0} (o : Ops A) where
  infixl 60 ◌+◌
  infixl 70 ◌*◌
  open o use {◌+◌, ◌*◌}

  -- g or b of branch e; each row times 2 tm2, as in `Scaled.row`
  pub record BySeries (G : AcNetwork A) (gb : GB) (e : ℕ) (d : A) : Type 0 where
    pub own : (x : ColumnName → A) (r : OhmRow) → row o x (more_series o d gb e G) (ohm_row r e) ≡ row o x G (ohm_row r e) + d * series_row o x G gb e r
    pub others : (r : RowName) → ((q : OhmRow) → ohm_row q e ≡ r → ⊥) → cells o (more_series o d gb e G) r ≡ cells o G r

  -- gs or bs of bus i
  pub record ByShunt (G : AcNetwork A) (gb : GB) (i : ℕ) (d : A) : Type 0 where
    pub own : (x : ColumnName → A) → row o x (more_shunt o d gb i G) (shunt_row gb i) ≡ row o x G (shunt_row gb i) + d * shunt_times o x G gb i
    pub others : (r : RowName) → (shunt_row gb i ≡ r → ⊥) → cells o (more_shunt o d gb i G) r ≡ cells o G r

-- both, for every commutative ring, network, parameter and d
abbrev pub SeriesHolds : Type 1
SeriesHolds = (A : Type 0) (o : Ops A) → CommutativeRing o → (G : AcNetwork A) (gb : GB) (e : ℕ) (d : A) → BySeries o G gb e d

abbrev pub ShuntHolds : Type 1
ShuntHolds = (A : Type 0) (o : Ops A) → CommutativeRing o → (G : AcNetwork A) (gb : GB) (i : ℕ) (d : A) → ByShunt o G gb i d
