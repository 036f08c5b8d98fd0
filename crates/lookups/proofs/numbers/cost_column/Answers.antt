-- 7, None, 7 again, and else the layout's column by the count of those before.
use Rattle.std.proofs.Common.{◌<◌, sym, ◌∙◌}
use Rattle.numbering.specs.Network.{grid}
use Rattle.lookups.proofs.Asked.{ask_cost, past-index, no-points, past-place, point}
use Rattle.lookups.proofs.Ranks.{cost-most, cost-at}
use Rattle.lookups.proofs.numbers.cost_column.Goals as goal

pub returns-in_err-below : goal.returns-in_err-below
returns-in_err-below c = past-index _ _ _ _ _ _ c.below.ensures.value c.from_residual.ensures.1 c.in_err-below.was ∙ ask_cost (grid c.args.net.now) c.args.g c.args.place

pub returns-then-not-piecewise : goal.returns-then-not-piecewise
returns-then-not-piecewise c =
    let r = c.generator-generator.ensures in
    let none = sym (rw (r.bytes, r.place) at c.piecewise.ensures) ∙ c.if-not-piecewise.true in
    no-points _ _ _ _ _ _ c.below.ensures.value c.in_ok-below.was none ∙ ask_cost (grid c.args.net.now) c.args.g c.args.place

pub returns-in_err-below-2 : goal.returns-in_err-below-2
returns-in_err-below-2 c =
    let r = c.generator-generator.ensures in
    let has = sym (rw (r.bytes, r.place) at c.piecewise.ensures) ∙ c.if-not-piecewise.false in
    past-place _ _ _ _ _ _ c.below.ensures.value c.in_ok-below.was has c.below-2.ensures.value c.from_residual-in_err-below-2.ensures.1 c.in_err-below-2.was
    ∙ ask_cost (grid c.args.net.now) c.args.g c.args.place

pub cost_column-requires : goal.cost_column-requires
cost_column-requires c =
    let w = c.args.net.now in
    let all = c.generators.ensures in
    let run = c.take.ensures in
    let tallied = rw (run.bytes, run.first, run.count, all.bytes, all.first) at c.tally-before.ensures in
    let inside : c.args.g < w.layout.k = rw c.in_ok-below.was at c.below.ensures.in_range in
    record { in_range = w.laid.range; rank_bound = cost-most w.layout w.bytes.now w.laid c.args.g tallied inside }

pub returns : goal.returns
returns c =
    let w = c.args.net.now in
    let all = c.generators.ensures in
    let run = c.take.ensures in
    let tallied = rw (run.bytes, run.first, run.count, all.bytes, all.first) at c.tally-before.ensures in
    let r = c.generator-generator.ensures in
    let has = sym (rw (r.bytes, r.place) at c.piecewise.ensures) ∙ c.if-not-piecewise.false in
    let number = cost-at w.layout w.bytes.now w.laid c.args.g tallied c.cost_column.ensures in
    point _ _ _ _ _ _ c.below.ensures.value c.in_ok-below.was has c.below-2.ensures.value c.in_ok-below-2.was number ∙ ask_cost (grid w) c.args.g c.args.place
