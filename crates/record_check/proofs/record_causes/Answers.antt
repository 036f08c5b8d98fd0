-- The first kind with a cause ends the check; the sum of the counts comes last.
use Rattle.std.proofs.Common.{refl, sym, ap}
use Rattle.records.specs.Check.{sum_cause}
use Rattle.refusals.proofs.Laws.{ends, ends_by, went_on, went_on_by}
use Rattle.record_check.specs.declared.Costs.{Costs}
use Rattle.record_check.proofs.Parts.{parts, split}
use Rattle.record_check.proofs.record_causes.Goals as goal

pub returns-in_err-bus_causes : goal.returns-in_err-bus_causes
returns-in_err-bus_causes c =
    let a = c.args in
    rw (parts a.case.n a.case.m a.case.k a.case.s a.case.bytes.now a.e c.requires.4)
    (ends _ c.from_residual.ensures.1 c.in_err-bus_causes.was (cc c.bus_causes.ensures))

pub returns-in_err-before : goal.returns-in_err-before
returns-in_err-before c =
    let a = c.args in
    let before = rw (c.new-2.ensures.bytes, c.new-2.ensures.first, c.new-2.ensures.count) at c.branch_causes.ensures.value in
    rw (parts a.case.n a.case.m a.case.k a.case.s a.case.bytes.now a.e c.requires.4)
    (went_on (cc c.bus_causes.ensures) c.in_ok-bus_causes.was
    (ends_by _ _ before _ c.from_residual-in_err-before.ensures.1 c.in_err-before.was))

pub returns-in_err-after : goal.returns-in_err-after
returns-in_err-after c =
    let a = c.args in
    let before = rw (c.new-2.ensures.bytes, c.new-2.ensures.first, c.new-2.ensures.count) at c.branch_causes.ensures.value in
    let after = rw (c.new-3.ensures.bytes, c.new-3.ensures.first, c.new-3.ensures.count) at c.branch_causes-2.ensures.value in
    rw (parts a.case.n a.case.m a.case.k a.case.s a.case.bytes.now a.e c.requires.4)
    (went_on (cc c.bus_causes.ensures) c.in_ok-bus_causes.was
    (went_on_by _ _ before c.in_ok-before.was (λ before_is.
    (ends_by _ _ after _ c.from_residual-in_err-after.ensures.1 c.in_err-after.was))))

pub returns-in_err-costs : goal.returns-in_err-costs
returns-in_err-costs c =
    let a = c.args in
    let before = rw (c.new-2.ensures.bytes, c.new-2.ensures.first, c.new-2.ensures.count) at c.branch_causes.ensures.value in
    let after = rw (c.new-3.ensures.bytes, c.new-3.ensures.first, c.new-3.ensures.count) at c.branch_causes-2.ensures.value in
    let costs = rw (c.new-4.ensures.bytes, c.new-4.ensures.first, c.new-4.ensures.count) at c.gen_causes.ensures in
    rw (parts a.case.n a.case.m a.case.k a.case.s a.case.bytes.now a.e c.requires.4)
    (went_on (cc c.bus_causes.ensures) c.in_ok-bus_causes.was
    (went_on_by _ _ before c.in_ok-before.was (λ before_is.
    (went_on_by _ _ after c.in_ok-after.was (λ after_is.
    (ends_by _ _ costs _ c.from_residual-in_err-costs.ensures.1 c.in_err-costs.was))))))

pub returns-in_err-segment_causes : goal.returns-in_err-segment_causes
returns-in_err-segment_causes c =
    let a = c.args in
    let before = rw (c.new-2.ensures.bytes, c.new-2.ensures.first, c.new-2.ensures.count) at c.branch_causes.ensures.value in
    let after = rw (c.new-3.ensures.bytes, c.new-3.ensures.first, c.new-3.ensures.count) at c.branch_causes-2.ensures.value in
    let costs = rw (c.new-4.ensures.bytes, c.new-4.ensures.first, c.new-4.ensures.count) at c.gen_causes.ensures in
    rw (parts a.case.n a.case.m a.case.k a.case.s a.case.bytes.now a.e c.requires.4)
    (went_on (cc c.bus_causes.ensures) c.in_ok-bus_causes.was
    (went_on_by _ _ before c.in_ok-before.was (λ before_is.
    (went_on_by _ _ after c.in_ok-after.was (λ after_is.
    (went_on_by _ _ costs c.in_ok-costs.was (λ costs_is.
    (ends _ c.from_residual-in_err-segment_causes.ensures.1 c.in_err-segment_causes.was (cc c.segment_causes.ensures)))))))))

pub returns-in_err-refuse_unless : goal.returns-in_err-refuse_unless
unfolding sum_cause
returns-in_err-refuse_unless c =
    let a = c.args in
    let before = rw (c.new-2.ensures.bytes, c.new-2.ensures.first, c.new-2.ensures.count) at c.branch_causes.ensures.value in
    let after = rw (c.new-3.ensures.bytes, c.new-3.ensures.first, c.new-3.ensures.count) at c.branch_causes-2.ensures.value in
    let costs = rw (c.new-4.ensures.bytes, c.new-4.ensures.first, c.new-4.ensures.count) at c.gen_causes.ensures in
    rw (parts a.case.n a.case.m a.case.k a.case.s a.case.bytes.now a.e c.requires.4)
    (went_on (cc c.bus_causes.ensures) c.in_ok-bus_causes.was
    (went_on_by _ _ before c.in_ok-before.was (λ before_is.
    (went_on_by _ _ after c.in_ok-after.was (λ after_is.
    (went_on_by _ _ costs c.in_ok-costs.was (λ costs_is.
    (went_on (cc c.segment_causes.ensures) c.in_ok-segment_causes.was
    (ends _ c.from_residual-in_err-refuse_unless.ensures.1 c.in_err-refuse_unless.was (rw (sym (ap (λ (x : Costs). x.counts) costs_is)) at c.refuse_unless.ensures))))))))))

pub returns : goal.returns
unfolding sum_cause
returns c =
    let a = c.args in
    let before = rw (c.new-2.ensures.bytes, c.new-2.ensures.first, c.new-2.ensures.count) at c.branch_causes.ensures.value in
    let after = rw (c.new-3.ensures.bytes, c.new-3.ensures.first, c.new-3.ensures.count) at c.branch_causes-2.ensures.value in
    let costs = rw (c.new-4.ensures.bytes, c.new-4.ensures.first, c.new-4.ensures.count) at c.gen_causes.ensures in
    rw (parts a.case.n a.case.m a.case.k a.case.s a.case.bytes.now a.e c.requires.4)
    (went_on (cc c.bus_causes.ensures) c.in_ok-bus_causes.was
    (went_on_by _ _ before c.in_ok-before.was (λ before_is.
    (went_on_by _ _ after c.in_ok-after.was (λ after_is.
    (went_on_by _ _ costs c.in_ok-costs.was (λ costs_is.
    (went_on (cc c.segment_causes.ensures) c.in_ok-segment_causes.was
    (went_on (rw (sym (ap (λ (x : Costs). x.counts) costs_is)) at c.refuse_unless.ensures) c.in_ok-refuse_unless.was
    (rw (
      split a.case.n a.case.m a.case.k a.case.s a.case.bytes.now a.e c.requires.4,
      before_is,
      after_is,
      ap (λ (x : Costs). x.piecewise) costs_is,
    ) refl))))))))))
