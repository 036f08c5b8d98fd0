-- The first generator that has a cause ends the loop with it; where none has, all are counted.
use Rattle.std.proofs.Common.{◌≡◌, ◌+◌, refl, sym, ◌∙◌, arith}
use Rattle.lists.specs.UpTo.{up_to, bit}
use Rattle.lists.proofs.Sums.{sum-next, bit_le}
use Rattle.lists.proofs.Tests.{as_bit}
use Rattle.refusals.proofs.Laws.{leaves, answer-held, answer-refused}
use Rattle.records.specs.Fields.{piecewise_of}
use Rattle.records.proofs.Causes.{first-none, first_more, first_found, sum-none, sum_more}
use Rattle.record_check.proofs.gen_causes.Goals as goal

pub loop-i-init : goal.loop-i-init
unfolding up_to
loop-i-init c = (omega arith, omega arith, first-none _ _, refl, sym (sum-none _ _))

pub returns-in_err-gen_cause : goal.returns-in_err-gen_cause
returns-in_err-gen_cause c =
    let r = c.record-generator.ensures in
    let here = rw (r.bytes, r.place) at c.gen_cause.ensures in
    leaves c.from_residual.ensures.1
    ∙ sym (answer-refused _ (first_found _ _ _ c.loop-i.invariant.2 here _ (omega arith) c.in_err-gen_cause.was))

pub loop-i-preserved : goal.loop-i-preserved
loop-i-preserved c =
    let a = c.args in
    let l = c.loop-i in
    let r = c.record-generator.ensures in
    let here = rw (r.bytes, r.place) at c.gen_cause.ensures in
    let one : c.from-piecewise.result ≡ bit (piecewise_of a.run.bytes.now (a.run.first + l.i)) =
    cc (c.from-piecewise.ensures ∙ as_bit _) in
    let counts = rw (r.bytes, r.place) at c.count-counts.ensures.value in (
      omega (arith, one, bit_le (piecewise_of a.run.bytes.now (a.run.first + l.i))),
      omega (arith, c.count-counts.ensures.upper_bound),
      first_more _ _ _ l.invariant.2 here c.in_ok-gen_cause.was,
      omega (arith, one, l.invariant.3, sum-next l.i (λ j. bit (piecewise_of a.run.bytes.now (a.run.first + j)))),
      omega (arith, counts, l.invariant.4, sum_more a.run.bytes.now a.run.first l.i),
    )

pub returns : goal.returns
returns c =
    let e : c.loop-i.i ≡ c.args.run.count = omega arith in
    let i = rw e at c.loop-i.invariant in
    rw (i.3, i.4) (sym (answer-held _ i.2))
