use Rattle.std.proofs.Common.{ap, ◌∙◌, arith}
use Rattle.lists.specs.UpTo.{bit}
use Rattle.lists.proofs.Sums.{bit_le, count-le}
use Rattle.lists.proofs.Tests.{as_bit}
use Rattle.lists.proofs.Puts.{no-turn, turn, room}
use Rattle.records.proofs.Segments.{segments-below}
use Rattle.numbering.specs.Network.{grid}
use Rattle.blocks.proofs.Laws.{sum_more, count-more, none_yet}
use Rattle.blocks.proofs.inner.segments.segment_rows.Goals as goal

pub loop-g-init : goal.loop-g-init
loop-g-init c = (no-turn _, none_yet _, none_yet _)

pub segments_of-requires : goal.segments_of-requires
segments_of-requires c =
    let i = c.loop-g.invariant in
    record { g_lt_k = c.loop-g-test.true; before_value = (i.1, i.2); room = room _ _ _ i.0 c.loop-g-test.true c.requires.room }

pub overflow_add-before : goal.overflow_add-before
overflow_add-before c =
    let laid = c.args.p.now.net.laid in
    let q = laid.range in
    omega (arith, c.segments-before.ensures.upper_bound, c.loop-g.invariant.1, segments-below laid.accepted c.loop-g.g (omega (arith, c.loop-g-test.true)))

pub overflow_add-curves : goal.overflow_add-curves
overflow_add-curves c =
    let net = c.args.p.now.net in
    let q = net.laid.range in
    let one = c.from-curves.ensures ∙ as_bit c.piecewise.result in
    omega (arith, one, bit_le c.piecewise.result, c.loop-g.invariant.2, count-le c.loop-g.g (grid net).piecewise)

pub loop-g-preserved : goal.loop-g-preserved
loop-g-preserved c =
    let i = c.loop-g.invariant in
    let r = c.generator-r.ensures in
    let n = rw (r.bytes, r.place) at c.segments-before.ensures.value in
    let curve = rw (r.bytes, r.place) at c.piecewise.ensures in (
      turn _ _ i.0 c.segments_of.ensures,
      sum_more _ _ _ i.1 n,
      count-more c.loop-g.g (grid c.args.p.now.net).piecewise _ i.2 (c.from-curves.ensures ∙ as_bit _ ∙ ap bit curve),
    )
