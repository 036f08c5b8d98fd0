-- An arm for each parameter.
use Rattle.std.proofs.Common.{◌∙◌, ap, List}
use Rattle.admittance.specs.Stores.{Store, stored_all}
use Rattle.columns.proofs.Parameters.{demand_same, voltage_same, gen_same, cost-same}
use Rattle.admittance.proofs.Numbers.{shunt-same}
use Rattle.columns.specs.Jacobian.{stores}
use Rattle.columns.proofs.inner.column.write.Goals as goal

pub demand-requires : goal.demand-requires
demand-requires c = record { in_range = c.args.net.now.laid.range; i_lt_n = rw c.in-Demand.is at c.requires.i_bound }

pub cost-requires : goal.cost-requires
cost-requires c = record { in_range = c.args.net.now.laid.range; g_lt_k = rw c.in-Cost.is at c.requires.i_bound }

pub line_limit-requires : goal.line_limit-requires
line_limit-requires c =
    let pre = c.requires in
    let below = rw c.in-LineLimit.is at pre.i_bound in
    record { e_lt_m = below; before_value = pre.before_value below }

pub series_admittance-requires : goal.series_admittance-requires
series_admittance-requires c = rw c.in-SeriesAdmittance.is at c.requires.i_bound

pub shunt-requires : goal.shunt-requires
shunt-requires c = record { in_range = c.args.net.now.laid.range; i_lt_n = rw c.in-ShuntAdmittance.is at c.requires.i_bound }

pub voltage_bound-requires : goal.voltage_bound-requires
voltage_bound-requires c = record { in_range = c.args.net.now.laid.range; i_lt_n = rw c.in-VoltageBound.is at c.requires.i_bound }

pub gen_bound-requires : goal.gen_bound-requires
gen_bound-requires c = record { in_range = c.args.net.now.laid.range; g_lt_k = rw c.in-GenBound.is at c.requires.i_bound }

pub returns-in-Demand : goal.returns-in-Demand
returns-in-Demand c =
    let a = c.args in
    let w = a.net.now in
    let same = demand_same w.layout w.bytes.now w.laid a.x.now a.z.now _ a.i in
    rw c.in-Demand.is (c.demand.ensures ∙ ap (λ (ss : List Store). stored_all ss a.column.now) same)

pub returns-in-Cost : goal.returns-in-Cost
returns-in-Cost c =
    let a = c.args in
    let w = a.net.now in
    let same = cost-same w.layout w.bytes.now w.laid a.x.now a.z.now _ a.i in
    rw c.in-Cost.is (c.cost.ensures ∙ ap (λ (ss : List Store). stored_all ss a.column.now) same)

pub returns-in-ShuntAdmittance : goal.returns-in-ShuntAdmittance
unfolding stores
returns-in-ShuntAdmittance c =
    let a = c.args in
    let w = a.net.now in
    let same = shunt-same w.layout w.bytes.now w.laid a.x.now a.z.now c.in-ShuntAdmittance.gb a.i in
    rw c.in-ShuntAdmittance.is (c.shunt.ensures ∙ ap (λ (ss : List Store). stored_all ss a.column.now) same)

pub returns-in-VoltageBound : goal.returns-in-VoltageBound
returns-in-VoltageBound c =
    let a = c.args in
    let w = a.net.now in
    let same = voltage_same w.layout w.bytes.now w.laid a.x.now a.z.now _ a.i in
    rw c.in-VoltageBound.is (c.voltage_bound.ensures ∙ ap (λ (ss : List Store). stored_all ss a.column.now) same)

pub returns-in-GenBound : goal.returns-in-GenBound
returns-in-GenBound c =
    let a = c.args in
    let w = a.net.now in
    let same = gen_same w.layout w.bytes.now w.laid a.x.now a.z.now _ _ a.i in
    rw c.in-GenBound.is (c.gen_bound.ensures ∙ ap (λ (ss : List Store). stored_all ss a.column.now) same)
