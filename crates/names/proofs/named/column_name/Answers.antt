-- The check's cause, 7 past the end, and else the name that stands there.
use Rattle.std.proofs.Common.{◌<◌, refl, sym, ap, ◌∙◌, ltb-true, Ok}
use Rattle.refusals.proofs.Laws.{ends, went_on, answer_ended, answer_went_on, test-held}
use Rattle.records.specs.Case.{case_network}
use Rattle.numbering.specs.Numbering.{nvar}
use Rattle.names.specs.Named.{column_named}
use Rattle.numbering.proofs.Laid.{laid-nvar}
use Rattle.numbering.proofs.OnePass.{opened-nvar}
use Rattle.numbering.proofs.Names.{column-only}
use Rattle.names.proofs.named.column_name.Goals as goal

pub returns-in_err-net : goal.returns-in_err-net
unfolding column_named
returns-in_err-net c = answer_ended _ _ refl c.from_residual.ensures.1 (rw c.in_err-net.was at c.new.ensures)

pub returns-in_err-refuse_unless : goal.returns-in_err-refuse_unless
unfolding column_named
returns-in_err-refuse_unless c =
    let o = rw c.in_ok-net.was at c.new.ensures in
    let many = c.column_count.ensures ∙ opened-nvar _ _ _ _ _ o in
    answer_went_on _ _ refl o.accepted
    (ends _ c.from_residual-in_err-refuse_unless.ensures.1 c.in_err-refuse_unless.was (rw many at c.refuse_unless.ensures))

pub column_at-requires : goal.column_at-requires
column_at-requires c =
    let net = c.in_ok-net.net in
    let many = c.column_count.ensures ∙ laid-nvar _ _ net.laid in
    ltb-true _ _ (test-held _ _ (sym (rw many at c.refuse_unless.ensures) ∙ c.in_ok-refuse_unless.was))

pub returns : goal.returns
unfolding column_named
returns c =
    let a = c.args in
    let o = rw c.in_ok-net.was at c.new.ensures in
    let many = c.column_count.ensures ∙ opened-nvar _ _ _ _ _ o in
    let test = rw many at c.refuse_unless.ensures in
    let below : a.p < nvar (case_network a.case) = ltb-true _ _ (test-held _ _ (sym test ∙ c.in_ok-refuse_unless.was)) in
    answer_went_on _ _ refl o.accepted
    (went_on test c.in_ok-refuse_unless.was
    (ap Ok (column-only _ _ below _ (rw (o.layout, o.bytes) at c.column_at.ensures))))
