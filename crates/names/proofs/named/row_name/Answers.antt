-- The check's cause, 7 past the end, and else the name that stands there.
use Rattle.std.proofs.Common.{◌<◌, refl, sym, ap, ◌∙◌, ltb-true, Ok}
use Rattle.refusals.proofs.Laws.{ends, went_on, answer_ended, answer_went_on, test-held}
use Rattle.records.specs.Case.{case_network}
use Rattle.numbering.specs.Numbering.{ncon}
use Rattle.names.specs.Named.{row_named}
use Rattle.numbering.proofs.Laid.{laid-ncon}
use Rattle.numbering.proofs.OnePass.{opened-ncon}
use Rattle.numbering.proofs.Names.{row-only}
use Rattle.names.proofs.named.row_name.Goals as goal

pub returns-in_err-net : goal.returns-in_err-net
unfolding row_named
returns-in_err-net c = answer_ended _ _ refl c.from_residual.ensures.1 (rw c.in_err-net.was at c.new.ensures)

pub returns-in_err-refuse_unless : goal.returns-in_err-refuse_unless
unfolding row_named
returns-in_err-refuse_unless c =
    let o = rw c.in_ok-net.was at c.new.ensures in
    let many = c.row_count.ensures ∙ opened-ncon _ _ _ _ _ o in
    answer_went_on _ _ refl o.accepted
    (ends _ c.from_residual-in_err-refuse_unless.ensures.1 c.in_err-refuse_unless.was (rw many at c.refuse_unless.ensures))

pub row_at-requires : goal.row_at-requires
row_at-requires c =
    let net = c.in_ok-net.net in
    let many = c.row_count.ensures ∙ laid-ncon _ _ net.laid in
    ltb-true _ _ (test-held _ _ (sym (rw many at c.refuse_unless.ensures) ∙ c.in_ok-refuse_unless.was))

pub returns : goal.returns
unfolding row_named
returns c =
    let a = c.args in
    let o = rw c.in_ok-net.was at c.new.ensures in
    let many = c.row_count.ensures ∙ opened-ncon _ _ _ _ _ o in
    let test = rw many at c.refuse_unless.ensures in
    let below : a.p < ncon (case_network a.case) = ltb-true _ _ (test-held _ _ (sym test ∙ c.in_ok-refuse_unless.was)) in
    answer_went_on _ _ refl o.accepted
    (went_on test c.in_ok-refuse_unless.was
    (ap Ok (row-only _ _ below _ (rw (o.layout, o.bytes) at c.row_at.ensures))))
