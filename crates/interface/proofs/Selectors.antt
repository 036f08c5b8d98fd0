-- What an accepted selector says. Assumes nothing.
use Rattle.std.proofs.Common.{ℕ, ◌+◌, ◌≤◌, ◌≡◌, List, length, Float, eqb-true, leb-true}
use Rattle.lists.proofs.Tests.{both}
use Rattle.refusals.specs.Refusals.{passed}
use Rattle.refusals.proofs.Laws.{or_else_accepted, test-held, has_room}
use Rattle.interface.specs.Selectors.{selector_room, selector_check}

-- ---- what fits
pub record Room (items starts rows weights elements : ℕ) : Type 0 where
  pub for_starts : items + 1 ≤ starts
  pub for_rows : items ≤ rows
  pub for_weights : items ≤ weights
  pub for_elements : items ≤ elements

pub roomy : (items starts rows weights elements : ℕ) → selector_room items starts rows weights elements ≡ passed → Room items starts rows weights elements
unfolding selector_room
roomy items starts rows weights elements h =
    let a = or_else_accepted _ _ h in
    let b = or_else_accepted _ _ a.1 in
    let c = or_else_accepted _ _ b.1 in
    record { for_starts = has_room _ _ a.0; for_rows = has_room _ _ b.0; for_weights = has_room _ _ c.0; for_elements = has_room _ _ c.1 }

pub record Fitting (from_rows from_elements starts rows : List ℕ) (weights : List Float) (elements : List ℕ) : Type 0 where
  pub same : length from_elements ≡ length from_rows
  pub few : length from_rows ≤ 65536
  pub room : Room (length from_rows) (length starts) (length rows) (length weights) (length elements)

pub fitting : {from_rows from_elements starts rows : List ℕ} {weights : List Float} {elements : List ℕ}
    → selector_check from_rows from_elements starts rows weights elements ≡ passed → Fitting from_rows from_elements starts rows weights elements
unfolding selector_check
fitting h =
    let a = or_else_accepted _ _ h in
    let t = both _ _ (test-held _ _ a.0) in
    record { same = eqb-true _ _ t.0; few = leb-true _ _ t.1; room = roomy _ _ _ _ _ a.1 }
