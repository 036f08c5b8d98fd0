-- The record check ends the entry, or a length of None.
use Rattle.std.proofs.Common.{sym, ◌∙◌}
use Rattle.refusals.proofs.Laws.{ends, leaves, went_on}
use Rattle.elements.proofs.length_if.Goals as goal

pub returns-in_err-check_records : goal.returns-in_err-check_records
returns-in_err-check_records c = ends _ c.from_residual.ensures.1 c.in_err-check_records.was c.check_records.ensures

pub returns-in_err-length : goal.returns-in_err-length
returns-in_err-length c =
    went_on c.check_records.ensures c.in_ok-check_records.was
    (leaves c.from_residual-in_err-length.ensures.1 ∙ sym c.in_err-length.was ∙ c.ok_or.ensures.value)

pub returns : goal.returns
returns c = went_on c.check_records.ensures c.in_ok-check_records.was (sym c.in_ok-length.was ∙ c.ok_or.ensures.value)
