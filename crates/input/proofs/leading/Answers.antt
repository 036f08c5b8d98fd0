-- The run ends at the first record of another kind, or is all.
use Rattle.std.proofs.Common.{◌≡◌, sym, ◌∙◌, arith}
use Rattle.input.proofs.Runs.{passed-more, passed-all, passed-stop}
use Rattle.input.proofs.leading.Goals as goal

pub returns-then-kind : goal.returns-then-kind
returns-then-kind c =
    let run = c.args.run in
    let r = c.record.ensures in
    let here = rw (r.bytes, r.place) at c.kind.ensures in
    record {
      value = passed-stop run.bytes.now c.args.kind run.first run.count c.loop-i.i (omega arith) c.loop-i.invariant (λ e. c.if-kind.true (here ∙ e));
      upper_bound = omega arith;
    }

pub loop-i-preserved : goal.loop-i-preserved
loop-i-preserved c =
    let run = c.args.run in
    let r = c.record.ensures in
    let here = rw (r.bytes, r.place) at c.kind.ensures in
    passed-more run.bytes.now c.args.kind run.first run.count c.loop-i.i (omega arith) c.loop-i.invariant (sym here ∙ c.if-kind.false)

pub returns : goal.returns
returns c =
    let run = c.args.run in
    let e : c.loop-i.i ≡ run.count = omega arith in
    record { value = sym e ∙ passed-all run.bytes.now c.args.kind run.first run.count c.loop-i.i e c.loop-i.invariant; upper_bound = omega arith }
