-- A length that is there where SOCWR has what is asked for: with its refusal it is a test and what it holds. Assumes nothing.
use Rattle.std.proofs.Common.{ℕ, ◌≡◌, refl, sym, ◌∙◌, Bool, true, false, cond, Some, None, Option, Result}
use Rattle.std.specs.Option.{ok_or}
use Rattle.refusals.specs.Refusals.{Checked, ◌or_else◌, refuse_unless, answer_if}
use Rattle.refusals.specs.declared.Refusal.{Refusal}
use Rattle.refusals.proofs.Laws.{or_else_assoc}

-- an answer r that is a length's, or the refusal of none
pub length-held : (t : Bool) (v : ℕ) (cause : Refusal) {length : Option ℕ} {r : Result ℕ Refusal}
    → length ≡ cond t (Some v) None → r ≡ ok_or length cause → r ≡ answer_if (refuse_unless t cause) v
unfolding ◌or_else◌ refuse_unless
length-held true v cause e h = h ∙ rw e refl
length-held false v cause e h = h ∙ rw e refl

-- the same after a check
pub length-checked : (c : Checked) (t : Bool) (v : ℕ) (cause : Refusal) {length : Option ℕ} {r : Result ℕ Refusal}
    → length ≡ cond t (Some v) None → r ≡ c or_else ok_or length cause → r ≡ answer_if (c or_else refuse_unless t cause) v
length-checked c t v cause {length} e h = h ∙ rw (length-held t v cause e refl) (sym (or_else_assoc c (refuse_unless t cause) _))
