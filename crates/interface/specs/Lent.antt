-- What is written to lists lent for a selector.
use Rattle.std.specs.Prelude.{ℕ, ◌≡◌, List, length}
use Rattle.lists.specs.UpTo.{overlay}
use Rattle.refusals.specs.Refusals.{Checked, left_in}
use Rattle.interface.specs.Selectors.{unit_starts, unit_weights, selector_room}
use Rattle.interface.specs.declared.SelectorLists.{SelectorLists}

-- 10 for the first list that is too short
abbrev pub lent_room : ℕ → SelectorLists → Checked
lent_room items s = selector_room items (length s.starts.now) (length s.rows.now) (length s.weights.now) (length s.elements.now)

-- the same four lists are lent before and after
pub record Lends (s s' : SelectorLists) : Type 0 where
  pub starts : s'.starts.ghost_name ≡ s.starts.ghost_name
  pub rows : s'.rows.ghost_name ≡ s.rows.ghost_name
  pub weights : s'.weights.ghost_name ≡ s.weights.ghost_name
  pub elements : s'.elements.ghost_name ≡ s.elements.ghost_name

-- starts and weights of one row an item; rows and elements as they were
pub record Started (items : ℕ) (s s' : SelectorLists) : Type 0 where
  pub lent : Lends s s'
  pub starts : s'.starts.now ≡ overlay (unit_starts items) s.starts.now
  pub rows : s'.rows.now ≡ s.rows.now
  pub weights : s'.weights.now ≡ overlay (unit_weights items) s.weights.now
  pub elements : s'.elements.now ≡ s.elements.now

-- one row of weight 1.0 for each item, at these rows and elements; nothing where the check refuses
pub record Selects (check : Checked) (items : ℕ) (at of : List ℕ) (s s' : SelectorLists) : Type 0 where
  pub lent : Lends s s'
  pub starts : s'.starts.now ≡ left_in check (unit_starts items) s.starts.now
  pub rows : s'.rows.now ≡ left_in check at s.rows.now
  pub weights : s'.weights.now ≡ left_in check (unit_weights items) s.weights.now
  pub elements : s'.elements.now ≡ left_in check of s.elements.now
