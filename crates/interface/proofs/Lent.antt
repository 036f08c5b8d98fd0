-- Laws of lists lent for a selector. Assumes nothing.
use Rattle.std.proofs.Common.{ℕ, ◌≡◌, refl, sym, List, Err}
use Rattle.refusals.specs.Refusals.{Checked, passed, ◌or_else◌}
use Rattle.refusals.specs.declared.Refusal.{Refusal}
use Rattle.refusals.proofs.Laws.{accepted-first, left_alone}
use Rattle.interface.specs.Lent.{Selects}
use Rattle.interface.specs.declared.SelectorLists.{SelectorLists}

module _ {items : ℕ} {at of : List ℕ} {s : SelectorLists} where
  -- a check that refuses leaves them
  pub unselected : {c : Checked} {cause : Refusal} → c ≡ Err cause → Selects c items at of s s
  unselected h =
      record {
        lent = record { starts = refl; rows = refl; weights = refl; elements = refl };
        starts = sym (left_alone _ _ h);
        rows = sym (left_alone _ _ h);
        weights = sym (left_alone _ _ h);
        elements = sym (left_alone _ _ h);
      }

  -- a check that passes leaves the rest to the next
  pub selects_on : {a b : Checked} {s' : SelectorLists} → a ≡ passed → Selects b items at of s s' → Selects (a or_else b) items at of s s'
  selects_on {b = b} h p = rw (h, accepted-first b) p
