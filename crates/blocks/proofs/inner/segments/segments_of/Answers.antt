use Rattle.std.proofs.Common.{◌≡◌, arith}
use Rattle.lists.proofs.Puts.{no-turn, turn, room}
use Rattle.blocks.proofs.inner.segments.segments_of.Goals as goal

pub loop-t-init : goal.loop-t-init
loop-t-init c = no-turn _

pub segment_row-requires : goal.segment_row-requires
segment_row-requires c =
    let r = c.generator-r.ensures in
    let t = rw (c.segments-n.ensures.value, r.bytes, r.place) at c.loop-t-test.true in
    record { g_lt_k = (c.requires.g_lt_k, t); before_value = c.requires.before_value; room = room _ _ _ c.loop-t.invariant t c.requires.room }

pub loop-t-preserved : goal.loop-t-preserved
loop-t-preserved c = turn _ _ c.loop-t.invariant c.segment_row.ensures

pub returns : goal.returns
returns c =
    let r = c.generator-r.ensures in
    let n = rw (r.bytes, r.place) at c.segments-n.ensures.value in
    let e : c.loop-t.t ≡ c.segments-n.result = omega arith in
    rw (← n) (rw e at c.loop-t.invariant)
