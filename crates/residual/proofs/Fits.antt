-- What lists that fit and an accepted check say. Assumes nothing.
use Rattle.refusals.specs.Refusals.{passed}
use Rattle.std.proofs.Common.{ℕ, ◌*◌, ◌≤◌, ◌≡◌, true, ◌&&◌, List, eqb-true, eqb, length, Float}
use Rattle.lists.proofs.Tests.{both}
use Rattle.refusals.proofs.Laws.{or_else_accepted, test-held, has_room}
use Rattle.sparse.specs.Checks.{bounded, entries_fit}
use Rattle.sparse.proofs.Fits.{Bounded, bounds}
use Rattle.residual.specs.Checks.{residual_fits, residual_check}

pub record Resided (dim columns : ℕ) (rows cols : List ℕ) (values rhs answer : List Float) : Type 0 where
  pub bounds : Bounded dim columns
  pub fit : entries_fit dim rows cols values ≡ true
  pub rhs-size : length rhs ≡ dim * columns
  pub answer-size : length answer ≡ dim * columns

pub resided : (dim columns : ℕ) (rows cols : List ℕ) (values rhs answer : List Float)
    → residual_fits dim columns rows cols values rhs answer ≡ true → Resided dim columns rows cols values rhs answer
unfolding residual_fits
resided dim columns rows cols values rhs answer h =
    let a = both (bounded dim columns && entries_fit dim rows cols values && eqb (length rhs) (dim * columns)) _ h in
    let b = both (bounded dim columns && entries_fit dim rows cols values) _ a.0 in
    let d = both (bounded dim columns) _ b.0 in
    record { bounds = bounds _ _ d.0; fit = d.1; rhs-size = eqb-true _ _ b.1; answer-size = eqb-true _ _ a.1 }

pub record Ready (dim columns : ℕ) (rows cols : List ℕ) (values rhs answer : List Float) (out : ℕ) : Type 0 where
  pub fits : residual_fits dim columns rows cols values rhs answer ≡ true
  pub has : Resided dim columns rows cols values rhs answer
  pub room : dim * columns ≤ out

pub residual-ready : {dim columns : ℕ} {rows cols : List ℕ} {values rhs answer : List Float} {out : ℕ}
    → residual_check dim columns rows cols values rhs answer out ≡ passed → Ready dim columns rows cols values rhs answer out
unfolding residual_check
residual-ready h =
    let a = or_else_accepted _ _ h in
    let t = test-held _ _ a.0 in
    record { fits = t; has = resided _ _ _ _ _ _ _ t; room = has_room _ _ a.1 }
