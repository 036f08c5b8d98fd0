-- A mode that names nothing is refused with its code, and nothing is written.
use Rattle.std.proofs.Common.{refl, sym}
use Rattle.refusals.proofs.Laws.{answer-refused, left_alone}
use Rattle.kernel.proofs.combinations.combine_at.Goals as goal

pub returns-in-None : goal.returns-in-None
returns-in-None c = rw c.in-None.is (record { value = sym (answer-refused _ refl); out_after = sym (left_alone _ _ refl) })
