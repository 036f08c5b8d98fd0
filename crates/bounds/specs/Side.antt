-- `prog.rhs` of the rows that a flag of the record switches.
use Rattle.std.specs.Prelude.{◌≡◌, Bool, cond, Float}
use Rattle.records.specs.AcNetwork.{AcNetwork}
use Rattle.numbering.specs.declared.RowName.{RowName}
use Rattle.ring.specs.Ops.{rounded}
use Rattle.rows.specs.Rows.{b}
use Rattle.bounds.specs.declared.Side.{Side}

-- a value where the bound is active, else 1
abbrev pub side_of : Bool → Float → Side
side_of on v = record { on = on; rhs = cond on v rounded.one }

-- it is the right side of row x, and tells whether the bound is active
pub record Sided (G : AcNetwork Float) (active : Bool) (x : RowName) (s : Side) : Type 0 where
  pub on : s.on ≡ active
  pub rhs : s.rhs ≡ b G x
