-- `element_id` of sens/conic.rs.
use Rattle.std.specs.Prelude.{ℕ, Bool, true, List, ltb, Float}
use Rattle.refusals.specs.Refusals.{◌or_else◌, refuse_unless, Checked}
use Rattle.refusals.specs.declared.Refusal.TheVariants.{PastEnd}
use Rattle.records.specs.AcNetwork.{AcNetwork}
use Rattle.records.specs.Check.{check_of}
use Rattle.interface.specs.declared.Axis.{Axis}
use Rattle.interface.specs.declared.Axis.TheVariants.{Bus, Branch, Generator, Constraint}
use Rattle.elements.specs.declared.ElementId.{ElementId}

abbrev pub element_id : AcNetwork Float → Axis → ℕ → ElementId
element_id G Bus i = ElementId.Bus (G.bus_id i)
element_id G Branch e = ElementId.Branch (G.branch_id e)
element_id G Generator g = ElementId.Generator (G.gen_id g)
element_id G Constraint i = ElementId.Constraint i

-- "`element_id` on the constraint axis answers every index"
abbrev pub on_axis : (n m k : ℕ) → Axis → ℕ → Bool
on_axis n m k Bus i = ltb i n
on_axis n m k Branch e = ltb e m
on_axis n m k Generator g = ltb g k
on_axis n m k Constraint i = true

-- the record check, then 7 "index not below its axis"
abbrev pub id_check : (n m k s : ℕ) → List ℕ → Axis → ℕ → Checked
id_check n m k s b axis i = check_of n m k s b or_else refuse_unless (on_axis n m k axis i) (PastEnd i)

-- the value of an answer: the id, or the cause's
abbrev pub element_value : ElementId → ℕ
element_value (ElementId.Bus id) = id
element_value (ElementId.Branch id) = id
element_value (ElementId.Generator id) = id
element_value (ElementId.Constraint index) = index
