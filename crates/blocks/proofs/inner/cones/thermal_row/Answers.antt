use Rattle.std.proofs.Common.{length-append, arith}
use Rattle.lists.proofs.Puts.{none, then, pos}
use Rattle.complementarity.proofs.Laws.{cone-ready}
use Rattle.blocks.specs.Kinds.{thermal_in}
use Rattle.blocks.proofs.Laws.{bit_at}
use Rattle.blocks.proofs.inner.cones.thermal_row.Goals as goal

pub thermal-a-requires : goal.thermal-a-requires
thermal-a-requires c =
    let p = c.requires.e_lt_m in
    let r = c.branch-r.ensures in
    let e = bit_at r.bytes r.place c.thermal_limit_active.ensures c.if-thermal_limit_active.true in
    (p.0, e, p.1)

pub thermal-b-requires : goal.thermal-b-requires
thermal-b-requires c =
    let p = c.requires.e_lt_m in
    let r = c.branch-r.ensures in
    let e = bit_at r.bytes r.place c.thermal_limit_active.ensures c.if-thermal_limit_active.true in
    (p.0, e, p.1)

pub put_lines-requires : goal.put_lines-requires
unfolding thermal_in
put_lines-requires c =
    let q = cone-ready c.args.p.now.given c.column_count-v.ensures c.args.d c.thermal-a.ensures in
    let r = c.branch-r.ensures in
    let e = bit_at r.bytes r.place c.thermal_limit_active.ensures c.if-thermal_limit_active.true in
    let h = simp length-append at (rw e at c.requires.room) in
    record { by_index = q.within; z_bound = q.small; d_bound = rw q.same (omega arith) }

pub put_lines-requires-then-thermal_limit_active : goal.put_lines-requires-then-thermal_limit_active
unfolding thermal_in
put_lines-requires-then-thermal_limit_active c =
    let p = cone-ready c.args.p.now.given c.column_count-v.ensures c.args.d c.thermal-a.ensures in
    let q = cone-ready c.args.p.now.given c.column_count-v.ensures c.args.d c.thermal-b.ensures in
    let r = c.branch-r.ensures in
    let e = bit_at r.bytes r.place c.thermal_limit_active.ensures c.if-thermal_limit_active.true in
    let h = simp length-append at (rw e at c.requires.room) in
    record { by_index = q.within; z_bound = q.small; d_bound = rw q.same (omega (arith, pos (rw p.same at c.put_lines.ensures))) }

pub returns-then-thermal_limit_active : goal.returns-then-thermal_limit_active
unfolding thermal_in
returns-then-thermal_limit_active c =
    let p = cone-ready c.args.p.now.given c.column_count-v.ensures c.args.d c.thermal-a.ensures in
    let q = cone-ready c.args.p.now.given c.column_count-v.ensures c.args.d c.thermal-b.ensures in
    let r = c.branch-r.ensures in
    let e = bit_at r.bytes r.place c.thermal_limit_active.ensures c.if-thermal_limit_active.true in
    rw e (then (rw p.same at c.put_lines.ensures) (rw q.same at c.put_lines-then-thermal_limit_active.ensures))

pub returns-else-thermal_limit_active : goal.returns-else-thermal_limit_active
unfolding thermal_in
returns-else-thermal_limit_active c =
    let r = c.branch-r.ensures in
    let e = bit_at r.bytes r.place c.thermal_limit_active.ensures c.if-thermal_limit_active.false in
    rw e none
