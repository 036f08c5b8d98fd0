-- The record check ends the entry, or the prices of the network are its.
use Rattle.std.proofs.Common.{refl}
use Rattle.refusals.proofs.Laws.{answer_ended, answer_went_on, left_ended, left_went_on}
use Rattle.reading.specs.Reading.{prices_check}
use Rattle.reading.proofs.pricing.prices.Goals as goal

pub returns-in_err-net : goal.returns-in_err-net
unfolding prices_check
returns-in_err-net c =
    let h = rw c.in_err-net.was at c.new.ensures in
    record { value = answer_ended _ _ refl c.from_residual.ensures.1 h; prices_after = left_ended refl _ _ _ h }

pub returns : goal.returns
unfolding prices_check
returns c =
    let o = rw c.in_ok-net.was at c.new.ensures in
    let e = rw (o.layout, o.bytes) at c.prices_of.ensures in
    record { value = answer_went_on _ _ refl o.accepted e.value; prices_after = left_went_on refl _ _ _ o.accepted e.prices_after }
