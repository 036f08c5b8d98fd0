-- What an accepted check says. Assumes nothing.
use Rattle.refusals.specs.Refusals.{passed}
use Rattle.std.proofs.Common.{ℕ, ◌*◌, ◌≤◌, ◌≡◌, true, List, length, Float}
use Rattle.lists.proofs.Tests.{both}
use Rattle.refusals.proofs.Laws.{or_else_accepted, test-held, has_room}
use Rattle.sparse.specs.Sparse.{items_of}
use Rattle.sparse.specs.Checks.{bounded, selector_fits}
use Rattle.sparse.proofs.Fits.{Entered, entered, Selected, selected}
use Rattle.adjoint.specs.Checks.{transpose_check, matrix_check}

pub record Turning (dim : ℕ) (rows cols : List ℕ) (values : List Float) (out_rows out_cols out_values : ℕ) : Type 0 where
  pub has : Entered dim rows cols values
  pub rows-room : length rows ≤ out_rows
  pub cols-room : length rows ≤ out_cols
  pub values-room : length rows ≤ out_values

pub transpose_ready : {dim : ℕ} {rows cols : List ℕ} {values : List Float} {out_rows out_cols out_values : ℕ}
    → transpose_check dim rows cols values out_rows out_cols out_values ≡ passed → Turning dim rows cols values out_rows out_cols out_values
unfolding transpose_check
transpose_ready {dim} h =
    let a = or_else_accepted _ _ h in
    let b = or_else_accepted _ _ a.1 in
    let d = or_else_accepted _ _ b.1 in
    record {
      has = entered _ _ _ _ (both (bounded dim 0) _ (test-held _ _ a.0)).1;
      rows-room = has_room _ _ b.0;
      cols-room = has_room _ _ d.0;
      values-room = has_room _ _ d.1;
    }

pub record Placed (dim : ℕ) (starts rows : List ℕ) (weights : List Float) (out : ℕ) : Type 0 where
  pub fits : selector_fits dim starts rows weights ≡ true
  pub has : Selected dim starts rows weights
  pub room : dim * items_of starts ≤ out

pub matrix-ready : {dim : ℕ} {starts rows : List ℕ} {weights : List Float} {out : ℕ}
    → matrix_check dim starts rows weights out ≡ passed → Placed dim starts rows weights out
unfolding matrix_check
matrix-ready h =
    let a = or_else_accepted _ _ h in
    let t = test-held _ _ a.0 in
    record { fits = t; has = selected _ _ _ _ t; room = has_room _ _ a.1 }
