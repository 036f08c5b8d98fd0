-- The record check ends the entry, or the column of the network decides.
use Rattle.std.proofs.Common.{refl}
use Rattle.refusals.proofs.Laws.{refused_by, answer_ended, answer_went_on, left_ended, left_went_on}
use Rattle.numbering.proofs.OnePass.{pass-check, pass-layout, pass-laid, pass-before}
use Rattle.columns.proofs.parameter_jacobian.Goals as goal

pub returns-in_err-checked : goal.returns-in_err-checked
returns-in_err-checked c =
    let h = refused_by _ _ c.check_layout.ensures c.in_err-checked.was in
    record { value = answer_ended _ _ refl c.from_residual.ensures.1 h; column_after = left_ended refl _ _ _ h }

pub invariant_of-net : goal.invariant_of-net
invariant_of-net c = record { laid = pass-laid _ _ _ _ _ _ c.check_layout.ensures c.in_ok-checked.was }

pub column_of-requires : goal.column_of-requires
column_of-requires c =
    let p = c.check_layout.ensures in
    let h = c.in_ok-checked.was in
    rw (pass-layout _ _ _ _ _ _ p h) (pass-before _ _ _ _ _ _ p h)

pub returns : goal.returns
returns c =
    let p = c.check_layout.ensures in
    let h = pass-check _ _ _ _ _ _ p c.in_ok-checked.was in
    let e = rw (pass-layout _ _ _ _ _ _ p c.in_ok-checked.was) at c.column_of.ensures in
    record { value = answer_went_on _ _ refl h e.value; column_after = left_went_on refl _ _ _ h e.column_after }
