-- A refused operand leaves the lists; else its rows and elements are counted up, and `start` writes the rest.
use Rattle.std.proofs.Common.{sym, ap, ◌∙◌, arith, Ok}
use Rattle.std.proofs.Math.Nat.{zero-add}
use Rattle.refusals.proofs.Laws.{ends_by, held_by, refused_by, answer-held, left-written}
use Rattle.interface.specs.Selectors.{items_of}
use Rattle.interface.proofs.Lent.{unselected}
use Rattle.operands.specs.Selector.{selector_elements}
use Rattle.operands.proofs.Numbers.{items-few}
use Rattle.operands.proofs.Answers.{fitting}
use Rattle.operands.proofs.inner.selector.selector_of.Goals as goal

pub returns-in_err-items : goal.returns-in_err-items
returns-in_err-items c =
    let e = c.operand_items.ensures in
    let h = c.in_err-items.was in
    record { value = ends_by _ _ e _ c.from_residual.ensures.1 h; lists_after = unselected (refused_by _ _ e h) }

pub write_rows-requires : goal.write_rows-requires
write_rows-requires c =
    let q = held_by _ _ c.operand_items.ensures c.in_ok-items.was in
    let f = fitting _ _ _ _ _ _ _ _ q.0 in
    (f.has, sym q.1, omega (arith, f.room.for_rows, q.1))

pub count_from-requires : goal.count_from-requires
count_from-requires c =
    let w = c.args.net.now in
    let r = w.laid.range in
    let q = held_by _ _ c.operand_items.ensures c.in_ok-items.was in
    let f = fitting _ _ _ _ _ _ _ _ q.0 in
    omega (arith, f.room, items-few w.layout.n w.layout.m w.layout.k c.args.o r.n-range r.m-range r.k-range, q.1)

pub start-requires : goal.start-requires
start-requires c =
    let w = c.args.net.now in
    let r = w.laid.range in
    let q = held_by _ _ c.operand_items.ensures c.in_ok-items.was in
    let f = fitting _ _ _ _ _ _ _ _ q.0 in
    omega (arith, f.room, items-few w.layout.n w.layout.m w.layout.k c.args.o r.n-range r.m-range r.k-range, q.1)

pub returns : goal.returns
unfolding selector_elements
returns c =
    let q = held_by _ _ c.operand_items.ensures c.in_ok-items.was in
    let h = q.0 in
    let e = sym q.1 in
    let u = rw e at c.start.ensures in
    let v = u.lists_after in
    let l = v.lent in
    let counted = simp zero-add at c.count_from.ensures in
    record {
      value = ap Ok (u.value ∙ ap (items_of _) c.sign.ensures) ∙ sym (answer-held _ h);
      lists_after =
          record {
            lent = record { starts = l.starts; rows = l.rows; weights = l.weights; elements = l.elements };
            starts = v.starts ∙ sym (left-written _ _ h);
            rows = v.rows ∙ c.write_rows.ensures ∙ sym (left-written _ _ h);
            weights = v.weights ∙ sym (left-written _ _ h);
            elements = v.elements ∙ (rw e at counted) ∙ sym (left-written _ _ h);
          };
    }
