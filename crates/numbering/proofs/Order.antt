-- The checks of a layout, of the cones and of a lookup by layout go by document 01's order: 1, then 7 or 10. Assumes nothing.
use Rattle.std.proofs.Common.{ℕ, ◌≡◌, refl, ◌∙◌, ap, List, [], ◌∷◌, ◌++◌, leb, ltb, length, Result, Ok, Err}
use Rattle.refusals.specs.Refusals.{Checked, passed, ◌or_else◌, refuse_unless, room_for}
use Rattle.refusals.specs.Order.{sooner, by_order}
use Rattle.refusals.specs.declared.Refusal.{Refusal}
use Rattle.refusals.specs.declared.Refusal.TheVariants.{CountTooLarge, PastEnd}
use Rattle.refusals.proofs.Order.{InOrder, in_order, alone, next, whole}
use Rattle.records.specs.Check.{check_of}
use Rattle.records.specs.Network.{network_of}
use Rattle.records.proofs.Order.{counts, counts_of, checked}
use Rattle.numbering.specs.Blocks.{Block, records, block_at}
use Rattle.numbering.specs.Layout.{layout_of, layout_cause}
use Rattle.numbering.specs.Lookups.{in_layout, cone_count, cones_check}
use Rattle.numbering.specs.declared.Key.{Key}
use Rattle.numbering.specs.declared.SocWrLayout.{SocWrLayout}

-- what an answer says as a check
abbrev pub cause_in : {A : Type 0} → Result A Refusal → Checked
cause_in (Ok a) = passed
cause_in (Err cause) = Err cause

pub after_cause : {A : Type 0} (c : Checked) (a : Result A Refusal) → cause_in (c or_else a) ≡ c or_else cause_in a
unfolding ◌or_else◌
after_cause (Ok u) a = refl
after_cause (Err cause) a = refl

last : (c : Checked) → c or_else passed ≡ c
unfolding ◌or_else◌
last (Ok u) = refl
last (Err cause) = refl

module _ (l : SocWrLayout) where
  layout_tests : InOrder (CountTooLarge 0) (CountTooLarge 5)
      (counts l.n l.m l.k l.s ++ (refuse_unless (leb l.t l.m) (CountTooLarge 4) ∷ refuse_unless (leb l.cost_columns l.k) (CountTooLarge 5) ∷ []))
      (layout_cause l)
  unfolding layout_cause sooner
  layout_tests = next (counts_of l.n l.m l.k l.s) (next (alone _ _) (alone _ _) refl) refl

  pub layout-in_order : layout_cause l
      ≡ by_order (counts l.n l.m l.k l.s ++ (refuse_unless (leb l.t l.m) (CountTooLarge 4) ∷ refuse_unless (leb l.cost_columns l.k) (CountTooLarge 5) ∷ []))
  layout-in_order = in_order layout_tests

  -- the layout's check before others
  pub laid_out : InOrder (CountTooLarge 0) (CountTooLarge 5) (layout_cause l ∷ []) (layout_cause l)
  laid_out = whole layout_tests

  pub layout-cones-in_order : (out : List ℕ) → cones_check (layout_cause l) l out ≡ by_order (layout_cause l ∷ room_for (cone_count l) (length out) ∷ [])
  unfolding sooner
  layout-cones-in_order out = in_order (next laid_out (alone _ _) refl)

  pub lookup_in_order : (bs : List Block) (x : Key)
      → cause_in (in_layout l bs x) ≡ by_order (layout_cause l ∷ refuse_unless (ltb x.item (records (block_at bs x.block))) (PastEnd x.item) ∷ [])
  unfolding in_layout sooner
  lookup_in_order bs x =
      let t = refuse_unless (ltb x.item (records (block_at bs x.block))) (PastEnd x.item) in
      after_cause (layout_cause l) _ ∙ ap (λ (c : Checked). layout_cause l or_else c) (after_cause t _ ∙ last t) ∙ in_order (next laid_out (alone _ _) refl)

module _ (n m k s : ℕ) (b : List ℕ) where
  pub cones-in_order : (out : List ℕ)
      → cones_check (check_of n m k s b) (layout_of (network_of n m k s b)) out ≡ by_order (check_of n m k s b ∷ room_for (cone_count (layout_of (network_of n m k s b))) (length out) ∷ [])
  unfolding sooner
  cones-in_order out = in_order (next (checked n m k s b) (alone _ _) refl)
