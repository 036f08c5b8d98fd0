-- A refused selector leaves the lists; else rows and elements are copied, and `start` writes the rest.
use Rattle.std.proofs.Common.{sym, ap, ◌∙◌, arith, Ok}
use Rattle.refusals.proofs.Laws.{ends, answer-held, left-written}
use Rattle.interface.proofs.Selectors.{fitting}
use Rattle.interface.proofs.Lent.{unselected}
use Rattle.interface.proofs.selector.selector_new.Goals as goal

pub returns-in_err-selector_check : goal.returns-in_err-selector_check
returns-in_err-selector_check c =
    let e = c.selector_check.ensures in
    let h = c.in_err-selector_check.was in
    record { value = ends _ c.from_residual.ensures.1 h e; lists_after = unselected (sym e ∙ h) }

pub copy-requires : goal.copy-requires
copy-requires c = omega (arith, (fitting (sym c.selector_check.ensures ∙ c.in_ok-selector_check.was)).room)

pub copy-requires-2 : goal.copy-requires-2
copy-requires-2 c =
    let f = fitting (sym c.selector_check.ensures ∙ c.in_ok-selector_check.was) in
    omega (arith, f.same, f.room)

pub start-requires : goal.start-requires
start-requires c =
    let f = fitting (sym c.selector_check.ensures ∙ c.in_ok-selector_check.was) in
    omega (arith, f.few, f.room)

pub returns : goal.returns
returns c =
    let h = sym c.selector_check.ensures ∙ c.in_ok-selector_check.was in
    let u = c.start.ensures in
    let v = u.lists_after in
    let l = v.lent in
    record {
      value = ap Ok u.value ∙ sym (answer-held _ h);
      lists_after =
          record {
            lent = record { starts = l.starts; rows = l.rows; weights = l.weights; elements = l.elements };
            starts = v.starts ∙ sym (left-written _ _ h);
            rows = v.rows ∙ c.copy.ensures ∙ sym (left-written _ _ h);
            weights = v.weights ∙ sym (left-written _ _ h);
            elements = v.elements ∙ c.copy-2.ensures ∙ sym (left-written _ _ h);
          };
    }
