-- The first branch that has a cause ends the loop with it; where none has, the limited ones are counted.
use Rattle.std.proofs.Common.{◌≡◌, ◌+◌, refl, sym, ◌∙◌, arith}
use Rattle.lists.specs.UpTo.{up_to, bit}
use Rattle.lists.proofs.Sums.{sum-next, bit_le}
use Rattle.lists.proofs.Tests.{as_bit}
use Rattle.refusals.proofs.Laws.{leaves, answer-held, answer-refused}
use Rattle.records.specs.Fields.{limited_of}
use Rattle.records.proofs.Causes.{first-none, first_more, first_found}
use Rattle.record_check.proofs.branch_causes.Goals as goal

pub loop-i-init : goal.loop-i-init
unfolding up_to
loop-i-init c = (omega arith, first-none _ _, refl)

pub returns-in_err-branch_cause-clause-value : goal.returns-in_err-branch_cause-clause-value
returns-in_err-branch_cause-clause-value c =
    let r = c.record-branch.ensures in
    let here = rw (r.bytes, r.place) at c.branch_cause.ensures in
    leaves c.from_residual.ensures.1
    ∙ sym (answer-refused _ (first_found _ _ _ c.loop-i.invariant.1 here _ (omega arith) c.in_err-branch_cause.was))

pub loop-i-preserved : goal.loop-i-preserved
loop-i-preserved c =
    let a = c.args in
    let l = c.loop-i in
    let r = c.record-branch.ensures in
    let here = rw (r.bytes, r.place) at c.branch_cause.ensures in
    let one : c.from-limited.result ≡ bit (limited_of a.run.bytes.now (a.run.first + l.i)) =
    cc (c.from-limited.ensures ∙ as_bit _) in (
      omega (arith, one, bit_le (limited_of a.run.bytes.now (a.run.first + l.i))),
      first_more _ _ _ l.invariant.1 here c.in_ok-branch_cause.was,
      omega (arith, one, l.invariant.2, sum-next l.i (λ j. bit (limited_of a.run.bytes.now (a.run.first + j)))),
    )

pub returns : goal.returns
returns c =
    let e : c.loop-i.i ≡ c.args.run.count = omega arith in
    let i = rw e at c.loop-i.invariant in
    record { value = rw i.2 (sym (answer-held _ i.1)); limited_le_count = i.0 }
