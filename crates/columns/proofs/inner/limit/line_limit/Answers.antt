-- The layout's thermal row by the count before is the branch's first of six. Assumes nothing.
use Rattle.std.proofs.Common.{sym, ◌∙◌, ap, List, arith}
use Rattle.numbering.specs.Network.{grid}
use Rattle.numbering.proofs.Laid.{laid-nvar}
use Rattle.admittance.specs.Stores.{Store, stored_all}
use Rattle.columns.proofs.Limit.{limit_same, no_limit}
use Rattle.columns.proofs.Numbers.{rank-le, thermal-number}
use Rattle.columns.proofs.inner.limit.line_limit.Goals as goal

pub thermal_row-requires : goal.thermal_row-requires
thermal_row-requires c =
    let p = c.requires in
    let w = c.args.net.now in
    let few = rank-le w.layout w.bytes.now w.laid c.args.e (omega (arith, p.e_lt_m)) in
    record { in_range = w.laid.range; rank_le_t = (omega (arith, few, p.before_value), omega arith) }

pub returns-then-thermal_limit_active : goal.returns-then-thermal_limit_active
returns-then-thermal_limit_active c =
    let a = c.args in
    let w = a.net.now in
    let r = c.branch-net.ensures in
    let limited = rw (r.bytes, r.place) at c.thermal_limit_active.ensures in
    let row = (rw c.requires.before_value at c.thermal_row.ensures) ∙ thermal-number w.layout w.bytes.now w.laid a.e 0 in
    c.six.ensures
    ∙ ap (λ (ss : List Store). stored_all ss a.column.now)
    (limit_same (grid w) a.z.now a.e (c.column_count.ensures ∙ laid-nvar w.layout w.bytes.now w.laid) row (sym limited ∙ c.if-thermal_limit_active.true))

pub returns-else-thermal_limit_active : goal.returns-else-thermal_limit_active
returns-else-thermal_limit_active c =
    let a = c.args in
    let r = c.branch-net.ensures in
    let limited = rw (r.bytes, r.place) at c.thermal_limit_active.ensures in
    no_limit (grid a.net.now) a.z.now a.e a.column.now (sym limited ∙ c.if-thermal_limit_active.false)
