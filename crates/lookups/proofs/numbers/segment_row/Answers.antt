-- 7, None, 7 again, and else the layout's row by the count of the segments before.
use Rattle.std.proofs.Common.{◌<◌, sym, ◌∙◌, arith}
use Rattle.numbering.specs.Network.{grid}
use Rattle.lookups.proofs.Asked.{ask_segment, past-index, no-points, past-place, point}
use Rattle.lookups.proofs.Ranks.{segment-most, segment-at}
use Rattle.lookups.proofs.numbers.segment_row.Goals as goal

pub returns-in_err-below : goal.returns-in_err-below
returns-in_err-below c = past-index _ _ _ _ _ _ c.below.ensures.value c.from_residual.ensures.1 c.in_err-below.was ∙ ask_segment (grid c.args.net.now) c.args.g c.args.segment

pub returns-then-not-piecewise : goal.returns-then-not-piecewise
returns-then-not-piecewise c =
    let r = c.generator-generator.ensures in
    let none = sym (rw (r.bytes, r.place) at c.piecewise.ensures) ∙ c.if-not-piecewise.true in
    no-points _ _ _ _ _ _ c.below.ensures.value c.in_ok-below.was none ∙ ask_segment (grid c.args.net.now) c.args.g c.args.segment

pub returns-in_err-below-2 : goal.returns-in_err-below-2
returns-in_err-below-2 c =
    let r = c.generator-generator.ensures in
    let has = sym (rw (r.bytes, r.place) at c.piecewise.ensures) ∙ c.if-not-piecewise.false in
    let second = rw (rw (r.bytes, r.place) at c.segments.ensures.value) at c.below-2.ensures.value in
    past-place _ _ _ _ _ _ c.below.ensures.value c.in_ok-below.was has second c.from_residual-in_err-below-2.ensures.1 c.in_err-below-2.was
    ∙ ask_segment (grid c.args.net.now) c.args.g c.args.segment

pub overflow_add-before : goal.overflow_add-before
overflow_add-before c =
    let w = c.args.net.now in
    let r = c.generator-generator.ensures in
    let all = c.generators.ensures in
    let run = c.take.ensures in
    let tallied = rw (run.bytes, run.first, run.count, all.bytes, all.first) at c.tally-before.ensures in
    let inside : c.args.g < w.layout.k = rw c.in_ok-below.was at c.below.ensures.in_range in
    let place = rw (c.in_ok-below-2.was, (rw (r.bytes, r.place) at c.segments.ensures.value)) at c.below-2.ensures.in_range in
    omega (arith, segment-most w.layout w.bytes.now w.laid c.args.g c.args.segment tallied inside place, w.laid.range.s-range)

pub segment_row-requires : goal.segment_row-requires
segment_row-requires c =
    let w = c.args.net.now in
    let r = c.generator-generator.ensures in
    let all = c.generators.ensures in
    let run = c.take.ensures in
    let tallied = rw (run.bytes, run.first, run.count, all.bytes, all.first) at c.tally-before.ensures in
    let inside : c.args.g < w.layout.k = rw c.in_ok-below.was at c.below.ensures.in_range in
    let place = rw (c.in_ok-below-2.was, (rw (r.bytes, r.place) at c.segments.ensures.value)) at c.below-2.ensures.in_range in
    record { in_range = w.laid.range; position_le_s = omega (arith, segment-most w.layout w.bytes.now w.laid c.args.g c.args.segment tallied inside place) }

pub returns : goal.returns
returns c =
    let w = c.args.net.now in
    let all = c.generators.ensures in
    let run = c.take.ensures in
    let tallied = rw (run.bytes, run.first, run.count, all.bytes, all.first) at c.tally-before.ensures in
    let r = c.generator-generator.ensures in
    let has = sym (rw (r.bytes, r.place) at c.piecewise.ensures) ∙ c.if-not-piecewise.false in
    let second = rw (rw (r.bytes, r.place) at c.segments.ensures.value) at c.below-2.ensures.value in
    let number = segment-at w.layout w.bytes.now w.laid c.args.g c.args.segment tallied c.segment_row.ensures in
    point _ _ _ _ _ _ c.below.ensures.value c.in_ok-below.was has second c.in_ok-below-2.was number ∙ ask_segment (grid w) c.args.g c.args.segment
