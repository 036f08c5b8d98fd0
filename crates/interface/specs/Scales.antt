-- `served_unit_scale` of sens/interface.rs: operand scale divided by parameter scale, each a fixed tree of rounded operations.
use Rattle.std.specs.Prelude.{Float}
use Rattle.std.specs.Float.{binary64}
use Rattle.std.specs.Float.Ieee.{div}
use Rattle.ring.specs.Ops.{one64}
use Rattle.interface.specs.declared.Operand.{Operand}
use Rattle.interface.specs.declared.Operand.TheVariants.{Price, Dispatch, Flow, Voltage}
use Rattle.interface.specs.declared.Parameter.{Parameter}
use Rattle.interface.specs.declared.Parameter.TheVariants.{Demand, Cost, LineLimit, SeriesAdmittance, ShuntAdmittance, VoltageBound, GenBound, Transformer, Switching, ConstraintLimit}

-- `operand_served_scale`
abbrev pub operand_scale : Operand → Float → Float
operand_scale (Price power) base = div binary64 one64 base
operand_scale (Dispatch power) base = base
operand_scale (Flow power end) base = base
operand_scale (Voltage kind) base = one64

-- `parameter_served_scale`
abbrev pub parameter_scale : Parameter → Float → Float
parameter_scale (Demand power) base = base
parameter_scale (Cost term) base = one64
parameter_scale LineLimit base = base
parameter_scale (SeriesAdmittance gb) base = one64
parameter_scale (ShuntAdmittance gb) base = one64
parameter_scale (VoltageBound bound) base = one64
parameter_scale (GenBound power bound) base = base
parameter_scale (Transformer tap) base = one64
parameter_scale Switching base = one64
parameter_scale ConstraintLimit base = base

-- `served_unit_scale`
abbrev pub served_unit_scale : Operand → Parameter → Float → Float
served_unit_scale o p base = div binary64 (operand_scale o base) (parameter_scale p base)
