-- `Selector::new` of sens/interface.rs as lists: item o is the rows and weights from starts o up to starts (o + 1).
use Rattle.std.specs.Prelude.{ℕ, ◌+◌, ◌&&◌, List, eqb, leb, length, replicate, Float, Result, Ok, Err}
use Rattle.lists.specs.UpTo.{listed}
use Rattle.refusals.specs.declared.Refusal.{Refusal}
use Rattle.refusals.specs.declared.Refusal.TheVariants.{BadLists}
use Rattle.refusals.specs.Refusals.{◌or_else◌, refuse_unless, room_for, Checked, answer_value}
use Rattle.ring.specs.Ops.{zero64, one64}
use Rattle.interface.specs.declared.Items.{Items}

-- "one row of weight 1.0 for each item": the starts are 0, 1, .., items
abbrev pub unit_starts : ℕ → List ℕ
unit_starts items = listed (items + 1) (λ o. o)

abbrev pub unit_weights : ℕ → List Float
unit_weights items = replicate items one64

-- 10 for the first of starts, rows, weights, elements that is too short, by their lengths
unfoldable pub selector_room : (items starts rows weights elements : ℕ) → Checked
selector_room items starts rows weights elements =
    room_for (items + 1) starts or_else room_for items rows or_else room_for items weights or_else room_for items elements

-- 12 for unlike lists or more than 65,536 items, then 10
unfoldable pub selector_check : (from_rows from_elements starts rows : List ℕ) → (weights : List Float) → (elements : List ℕ) → Checked
selector_check from_rows from_elements starts rows weights elements =
    refuse_unless (eqb (length from_elements) (length from_rows) && leb (length from_rows) 65536) BadLists
    or_else selector_room (length from_rows) (length starts) (length rows) (length weights) (length elements)

-- "the sign is in the answer"
abbrev pub items_of : ℕ → Float → Items
items_of count sign = record { count = count; sign = sign }

-- an answer's value and sign: the count and the sign, or the cause's and 0.0
abbrev pub selected_value : Result Items Refusal → ℕ
selected_value r = answer_value (λ i. i.count) r

abbrev pub selected_sign : Result Items Refusal → Float
selected_sign (Ok i) = i.sign
selected_sign (Err cause) = zero64
