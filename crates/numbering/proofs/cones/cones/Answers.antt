-- The record check ends the entry, or the room decides on the network's layout.
use Rattle.std.proofs.Common.{refl}
use Rattle.refusals.proofs.Laws.{refused_by, answer_ended, answer_went_on, left_ended, left_went_on}
use Rattle.numbering.proofs.OnePass.{new-check, new-layout, new-laid}
use Rattle.numbering.proofs.cones.cones.Goals as goal

pub returns-in_err-new : goal.returns-in_err-new
returns-in_err-new c =
    let h = refused_by _ _ c.new.ensures c.in_err-new.was in
    record {
      value = answer_ended _ _ refl (c.from_residual.ensures.1) h;
      out_after = left_ended refl _ _ _ h;
    }

pub cones_in-requires : goal.cones_in-requires
cones_in-requires c = (new-laid _ _ _ _ _ c.new.ensures c.in_ok-new.was).range

pub returns : goal.returns
returns c =
    let h = new-check _ _ _ _ _ c.new.ensures c.in_ok-new.was in
    let e = rw (new-layout _ _ _ _ _ c.new.ensures c.in_ok-new.was) at c.cones_in.ensures in
    record { value = answer_went_on _ _ refl h e.value; out_after = left_went_on refl _ _ _ h e.out_after }
