-- 7, None, 7 again, and else the layout's row by the count of the limited branches before.
use Rattle.std.proofs.Common.{◌<◌, sym, ◌∙◌}
use Rattle.numbering.specs.Network.{grid}
use Rattle.lookups.proofs.Asked.{ask_thermal, past-index, no-points, past-place, point}
use Rattle.lookups.proofs.Ranks.{thermal-most, thermal-at}
use Rattle.lookups.proofs.numbers.thermal_row.Goals as goal

pub returns-in_err-below : goal.returns-in_err-below
returns-in_err-below c = past-index _ _ _ _ _ _ c.below.ensures.value c.from_residual.ensures.1 c.in_err-below.was ∙ ask_thermal (grid c.args.net.now) c.args.e c.args.place

pub returns-then-not-thermal_limit_active : goal.returns-then-not-thermal_limit_active
returns-then-not-thermal_limit_active c =
    let r = c.branch-net.ensures in
    let none = sym (rw (r.bytes, r.place) at c.thermal_limit_active.ensures) ∙ c.if-not-thermal_limit_active.true in
    no-points _ _ _ _ _ _ c.below.ensures.value c.in_ok-below.was none ∙ ask_thermal (grid c.args.net.now) c.args.e c.args.place

pub returns-in_err-below-2 : goal.returns-in_err-below-2
returns-in_err-below-2 c =
    let r = c.branch-net.ensures in
    let has = sym (rw (r.bytes, r.place) at c.thermal_limit_active.ensures) ∙ c.if-not-thermal_limit_active.false in
    past-place _ _ _ _ _ _ c.below.ensures.value c.in_ok-below.was has c.below-2.ensures.value c.from_residual-in_err-below-2.ensures.1 c.in_err-below-2.was
    ∙ ask_thermal (grid c.args.net.now) c.args.e c.args.place

pub thermal_row-requires : goal.thermal_row-requires
thermal_row-requires c =
    let w = c.args.net.now in
    let all = c.branches.ensures in
    let run = c.take.ensures in
    let tallied = rw (run.bytes, run.first, run.count, all.bytes, all.first) at c.tally-before.ensures in
    let inside : c.args.e < w.layout.m = rw c.in_ok-below.was at c.below.ensures.in_range in
    let place : c.args.place < 6 = rw c.in_ok-below-2.was at c.below-2.ensures.in_range in
    record { in_range = w.laid.range; rank_le_t = (thermal-most w.layout w.bytes.now w.laid c.args.e c.args.place tallied inside, place) }

pub returns : goal.returns
returns c =
    let w = c.args.net.now in
    let all = c.branches.ensures in
    let run = c.take.ensures in
    let tallied = rw (run.bytes, run.first, run.count, all.bytes, all.first) at c.tally-before.ensures in
    let r = c.branch-net.ensures in
    let has = sym (rw (r.bytes, r.place) at c.thermal_limit_active.ensures) ∙ c.if-not-thermal_limit_active.false in
    let number = thermal-at w.layout w.bytes.now w.laid c.args.e c.args.place tallied c.thermal_row.ensures in
    point _ _ _ _ _ _ c.below.ensures.value c.in_ok-below.was has c.below-2.ensures.value c.in_ok-below-2.was number ∙ ask_thermal (grid w) c.args.e c.args.place
