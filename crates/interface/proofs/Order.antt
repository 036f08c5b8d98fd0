-- The check of `Selector::new` goes by document 01's order: 12, then 10. Assumes nothing.
use Rattle.std.proofs.Common.{ℕ, ◌+◌, ◌≡◌, refl, ◌&&◌, List, [], ◌∷◌, eqb, leb, length, Float}
use Rattle.refusals.specs.Refusals.{refuse_unless, room_for, Checked}
use Rattle.refusals.specs.Order.{sooner, by_order}
use Rattle.refusals.specs.declared.Refusal.TheVariants.{BadLists, OutputTooShort}
use Rattle.refusals.proofs.Order.{InOrder, in_order, alone, next}
use Rattle.interface.specs.Selectors.{selector_room, selector_check}

-- "the first short one" of starts, rows, weights, elements
abbrev pub rooms : (items starts rows weights elements : ℕ) → List Checked
rooms items starts rows weights elements = room_for (items + 1) starts ∷ room_for items rows ∷ room_for items weights ∷ room_for items elements ∷ []

pub rooms_of : (items starts rows weights elements : ℕ)
    → InOrder (OutputTooShort (items + 1)) (OutputTooShort items) (rooms items starts rows weights elements) (selector_room items starts rows weights elements)
unfolding selector_room sooner
rooms_of items starts rows weights elements = next (alone _ _) (next (alone _ _) (next (alone _ _) (alone _ _) refl) refl) refl

pub selector_in_order : (from_rows from_elements starts rows : List ℕ) (weights : List Float) (elements : List ℕ)
    → selector_check from_rows from_elements starts rows weights elements
    ≡ by_order (
    refuse_unless (eqb (length from_elements) (length from_rows) && leb (length from_rows) 65536) BadLists
    ∷ rooms (length from_rows) (length starts) (length rows) (length weights) (length elements)
    )
unfolding selector_check sooner
selector_in_order from_rows from_elements starts rows weights elements = in_order (next (alone _ _) (rooms_of _ _ _ _ _) refl)
