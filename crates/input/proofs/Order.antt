-- The check of the program's input goes by document 01's order: 13, then the record check; and so do its blocks of rows: 1, then 7.
-- Assumes nothing.
use Rattle.std.proofs.Common.{ℕ, Bool, true, false, Ok, ◌≡◌, refl, ◌∙◌, ap, List, [], ◌∷◌, leb, ltb, length}
use Rattle.refusals.specs.declared.Refusal.{Refusal}
use Rattle.refusals.specs.Refusals.{◌or_else◌, refuse_unless, Checked}
use Rattle.refusals.specs.Order.{sooner, by_order}
use Rattle.refusals.specs.declared.Refusal.TheVariants.{PastEnd, InputTooLong}
use Rattle.refusals.proofs.Order.{in_order, alone, next}
use Rattle.records.specs.Check.{check_of}
use Rattle.records.proofs.Order.{checked}
use Rattle.numbering.specs.Numbering.{row_many}
use Rattle.numbering.specs.Layout.{layout_cause}
use Rattle.numbering.specs.declared.SocWrLayout.{SocWrLayout}
use Rattle.numbering.proofs.Order.{cause_in, after_cause, laid_out}
use Rattle.input.specs.Input.{buses_of, branches_of, generators_of, rest_of, input_check, first_row, row_count}

pub input_in_order : (b : List ℕ) → input_check b ≡ by_order (refuse_unless (leb (length b) 65536) InputTooLong ∷ check_of (buses_of b) (branches_of b) (generators_of b) (rest_of b) b ∷ [])
unfolding sooner
input_in_order b = in_order (next (alone _ _) (checked (buses_of b) (branches_of b) (generators_of b) (rest_of b) b) refl)

tested : {A : Type 0} (t : Bool) (cause : Refusal) (a : A) → cause_in (refuse_unless t cause or_else Ok a) ≡ refuse_unless t cause
unfolding refuse_unless ◌or_else◌
tested true cause a = refl
tested false cause a = refl

module _ (l : SocWrLayout) (block : ℕ) where
  pub first-row-in_order : cause_in (first_row l block) ≡ by_order (layout_cause l ∷ refuse_unless (leb block row_many) (PastEnd block) ∷ [])
  unfolding sooner
  first-row-in_order = after_cause (layout_cause l) _ ∙ ap (λ (c : Checked). layout_cause l or_else c) (tested _ _ _) ∙ in_order (next (laid_out l) (alone _ _) refl)

  pub row-count-in_order : cause_in (row_count l block) ≡ by_order (layout_cause l ∷ refuse_unless (ltb block row_many) (PastEnd block) ∷ [])
  unfolding sooner
  row-count-in_order = after_cause (layout_cause l) _ ∙ ap (λ (c : Checked). layout_cause l or_else c) (tested _ _ _) ∙ in_order (next (laid_out l) (alone _ _) refl)
