-- The layout's cause ends the entry, or the room decides.
use Rattle.std.proofs.Common.{sym, ◌∙◌}
use Rattle.refusals.proofs.Laws.{answer_ended, answer_went_on, left_ended, left_went_on}
use Rattle.numbering.proofs.Layouts.{in_range}
use Rattle.numbering.proofs.SocWrLayout.cones.Goals as goal

pub returns-in_err-cause : goal.returns-in_err-cause
returns-in_err-cause c =
    record {
      value = answer_ended _ _ c.cause.ensures c.from_residual.ensures.1 c.in_err-cause.was;
      out_after = left_ended c.cause.ensures _ _ _ c.in_err-cause.was;
    }

pub cones_in-requires : goal.cones_in-requires
cones_in-requires c = in_range _ (sym c.cause.ensures ∙ c.in_ok-cause.was)

pub returns : goal.returns
returns c =
    record {
      value = answer_went_on _ _ c.cause.ensures c.in_ok-cause.was c.cones_in.ensures.value;
      out_after = left_went_on c.cause.ensures _ _ _ c.in_ok-cause.was c.cones_in.ensures.out_after;
    }
