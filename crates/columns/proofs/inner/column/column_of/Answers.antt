-- A refused question leaves the column; else its front is filled with zeros and stored to.
use Rattle.std.proofs.Common.{ℕ, ◌≤◌, sym, ap, ◌∙◌, arith, length, replicate, Ok, length-take-le}
use Rattle.lists.specs.UpTo.{overlay}
use Rattle.refusals.proofs.Laws.{ends, left_stopped, answer-held, left-written}
use Rattle.rows.specs.Rows.{zero64}
use Rattle.numbering.specs.Network.{grid}
use Rattle.admittance.specs.Stores.{stored_all}
use Rattle.columns.specs.Jacobian.{jacobian, stores}
use Rattle.columns.proofs.Causes.{column-room, column-index, stored-front}
use Rattle.columns.proofs.inner.column.column_of.Goals as goal

pub returns-in_err-column_cause : goal.returns-in_err-column_cause
returns-in_err-column_cause c =
    let e = c.column_cause.ensures in
    let h = c.in_err-column_cause.was in
    record { value = ends _ c.from_residual.ensures.1 h e; column_after = left_stopped e _ _ h }

pub fill-requires : goal.fill-requires
fill-requires c =
    let a = c.args in
    let r = column-room (grid a.net.now) a.p a.i _ _ _ (sym c.column_cause.ensures ∙ c.in_ok-column_cause.was) in
    rw c.dim-need.ensures r

pub slice_bounds-write-end : goal.slice_bounds-write-end
slice_bounds-write-end c =
    let a = c.args in
    let r = column-room (grid a.net.now) a.p a.i _ _ _ (sym c.column_cause.ensures ∙ c.in_ok-column_cause.was) in
    omega (arith, r, c.dim-need.ensures, c.fill.auto.d)

pub slice_bounds-write-end-2 : goal.slice_bounds-write-end-2
slice_bounds-write-end-2 c =
    let a = c.args in
    let r = column-room (grid a.net.now) a.p a.i _ _ _ (sym c.column_cause.ensures ∙ c.in_ok-column_cause.was) in
    let s : c.dim-need.result ≤ length c.fill.new.d = omega (arith, r, c.dim-need.ensures, c.fill.auto.d) in
    sym (length-take-le _ _ s)

pub write-requires : goal.write-requires
write-requires c =
    let a = c.args in
    let h = sym c.column_cause.ensures ∙ c.in_ok-column_cause.was in
    record { i_bound = column-index (grid a.net.now) a.p a.i _ _ _ h; before_value = c.requires }

pub returns : goal.returns
unfolding jacobian
returns c =
    let a = c.args in
    let h = sym c.column_cause.ensures ∙ c.in_ok-column_cause.was in
    let need = c.dim-need.ensures in
    let ss = stores (grid a.net.now) a.x.now a.z.now a.p a.i in
    record {
      value = ap Ok need ∙ sym (answer-held _ h);
      column_after =
          stored-front c.dim-need.result zero64 ss a.column.now c.fill.ensures c.write.ensures
          ∙ ap (λ (d : ℕ). overlay (stored_all ss (replicate d zero64)) a.column.now) need
          ∙ sym (left-written _ _ h);
    }
