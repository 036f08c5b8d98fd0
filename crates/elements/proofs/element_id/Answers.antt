-- The record check ends the entry, or the axis decides.
use Rattle.std.proofs.Common.{sym, ap, ◌∙◌, Ok}
use Rattle.refusals.proofs.Laws.{ends, answer_ended, answer_went_on, went_on, test-held}
use Rattle.records.specs.Case.{case_network}
use Rattle.records.proofs.Laws.{accepted}
use Rattle.elements.specs.Ids.{element_id}
use Rattle.elements.proofs.element_id.Goals as goal

pub returns-in_err-check_records : goal.returns-in_err-check_records
returns-in_err-check_records c = answer_ended _ _ c.check_records.ensures c.from_residual.ensures.1 c.in_err-check_records.was

pub returns-in_err-refuse_unless : goal.returns-in_err-refuse_unless
returns-in_err-refuse_unless c =
    let t = rw c.on_axis.ensures at c.refuse_unless.ensures in
    answer_went_on _ _ c.check_records.ensures c.in_ok-check_records.was
    (ends _ c.from_residual-in_err-refuse_unless.ensures.1 c.in_err-refuse_unless.was t)

pub id_of-requires : goal.id_of-requires
id_of-requires c =
    let t = rw c.on_axis.ensures at c.refuse_unless.ensures in
    record { accepted = accepted _ _ _ _ _ (sym c.check_records.ensures ∙ c.in_ok-check_records.was); i_value = test-held _ _ (sym t ∙ c.in_ok-refuse_unless.was) }

pub returns : goal.returns
returns c =
    let t = rw c.on_axis.ensures at c.refuse_unless.ensures in
    let a = c.args in
    answer_went_on _ (element_id (case_network a.case) a.axis a.index) c.check_records.ensures c.in_ok-check_records.was
    (went_on t c.in_ok-refuse_unless.was (ap Ok c.id_of.ensures))
