use Rattle.std.proofs.Common.{refl, sym, ap, ◌∙◌, arith}
use Rattle.lists.specs.UpTo.{bit}
use Rattle.lists.proofs.Sums.{bit_le, count-le}
use Rattle.lists.proofs.Tests.{as_bit}
use Rattle.lists.proofs.Puts.{no-turn, turn, room}
use Rattle.numbering.specs.Network.{grid}
use Rattle.blocks.proofs.Laws.{bit_at, count-more, none_yet}
use Rattle.blocks.proofs.inner.cones.thermal_rows.Goals as goal

pub loop-e-init : goal.loop-e-init
loop-e-init c = (no-turn _, none_yet _)

pub thermal_row-requires : goal.thermal_row-requires
thermal_row-requires c =
    let turn = c.loop-e in
    record { e_lt_m = (c.loop-e-test.true, turn.invariant.1); room = room _ _ _ turn.invariant.0 c.loop-e-test.true c.requires.room }

pub overflow_add-limits : goal.overflow_add-limits
overflow_add-limits c =
    let net = c.args.p.now.net in
    let q = net.laid.range in
    let one = c.from-limits.ensures ∙ as_bit c.thermal_limit_active.result in
    omega (arith, one, bit_le c.thermal_limit_active.result, c.loop-e.invariant.1, count-le c.loop-e.e (grid net).limited)

pub loop-e-preserved : goal.loop-e-preserved
loop-e-preserved c =
    let i = c.loop-e.invariant in
    let r = c.branch-r.ensures in
    let e = bit_at r.bytes r.place c.thermal_limit_active.ensures refl in
    (turn _ _ i.0 c.thermal_row.ensures, count-more c.loop-e.e (grid c.args.p.now.net).limited _ i.1 (c.from-limits.ensures ∙ as_bit _ ∙ ap bit (sym e)))
