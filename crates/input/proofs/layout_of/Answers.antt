-- 13, or else the layout of the counts found.
use Rattle.refusals.proofs.Laws.{answer_ended, answer_went_on}
use Rattle.input.proofs.layout_of.Goals as goal

pub returns-in_err-refuse_unless : goal.returns-in_err-refuse_unless
returns-in_err-refuse_unless c = answer_ended _ _ c.refuse_unless.ensures c.from_residual.ensures.1 c.in_err-refuse_unless.was

pub returns : goal.returns
returns c =
    let e = c.case_in.ensures.counts in
    answer_went_on _ _ c.refuse_unless.ensures c.in_ok-refuse_unless.was (rw (e.n, e.m, e.k, e.s, c.case_in.ensures.bytes) at c.new.ensures)
