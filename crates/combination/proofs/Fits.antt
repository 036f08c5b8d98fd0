-- What lists that fit and an accepted check say. Assumes nothing.
use Rattle.refusals.specs.Refusals.{passed}
use Rattle.std.proofs.Common.{ℕ, ◌*◌, ◌≤◌, ◌≡◌, refl, sym, subst, true, false, ◌&&◌, List, eqb-true, T, eqb, length, Float}
use Rattle.std.proofs.Math.Nat.{mul-le-mul}
use Rattle.lists.proofs.Tests.{both}
use Rattle.refusals.proofs.Laws.{or_else_accepted, test-held, has_room}
use Rattle.interface.specs.declared.Mode.{Mode}
use Rattle.interface.specs.declared.Mode.TheVariants.{Forward, Adjoint, Auto}
use Rattle.sparse.specs.Sparse.{items_of}
use Rattle.sparse.specs.Checks.{bounded, selector_fits}
use Rattle.sparse.proofs.Fits.{Bounded, bounds, Selected, selected}
use Rattle.combination.specs.Checks.{combination_fits, combination_check}

pub record Combined (dim columns : ℕ) (starts rows : List ℕ) (weights : List Float) : Type 0 where
  pub bounds : Bounded dim columns
  pub fit : selector_fits dim starts rows weights ≡ true
  pub has : Selected dim starts rows weights

module _ (dim columns : ℕ) (starts rows : List ℕ) (weights rhs solution : List Float) where
  combine : bounded dim columns && selector_fits dim starts rows weights ≡ true → Combined dim columns starts rows weights
  combine h =
      let t = both (bounded dim columns) _ h in
      record { bounds = bounds _ _ t.0; fit = t.1; has = selected _ _ _ _ t.1 }

  pub forwarded : combination_fits Forward dim columns starts rows weights rhs solution ≡ true
      → (Combined dim columns starts rows weights) × (length solution ≡ dim * columns)
  unfolding combination_fits
  forwarded h =
      let t = both (bounded dim columns && selector_fits dim starts rows weights) _ h in
      (combine t.0, eqb-true _ _ t.1)

  pub adjoined : combination_fits Adjoint dim columns starts rows weights rhs solution ≡ true
      → (Combined dim columns starts rows weights) × (length rhs ≡ dim * columns) × (length solution ≡ dim * items_of starts)
  unfolding combination_fits
  adjoined h =
      let t = both (bounded dim columns && selector_fits dim starts rows weights && eqb (length rhs) (dim * columns)) _ h in
      let u = both (bounded dim columns && selector_fits dim starts rows weights) _ t.0 in
      (combine u.0, eqb-true _ _ u.1, eqb-true _ _ t.1)

  pub combined : (mode : Mode) → combination_fits mode dim columns starts rows weights rhs solution ≡ true → Combined dim columns starts rows weights
  unfolding combination_fits
  combined Forward h = (forwarded h).0
  combined Adjoint h = (adjoined h).0
  combined Auto h = absurd (subst T (sym h) tt)

  -- lists that don't fit
  pub unfit : (mode : Mode) → bounded dim columns && selector_fits dim starts rows weights ≡ false → false ≡ combination_fits mode dim columns starts rows weights rhs solution
  unfolding combination_fits
  unfit Forward h = rw h
  unfit Adjoint h = rw h
  unfit Auto h = refl

  pub never_auto : {A : Type 0} → combination_fits Auto dim columns starts rows weights rhs solution ≡ true → A
  unfolding combination_fits
  never_auto h = absurd (subst T (sym h) tt)

-- the table has few cells
pub cells : {dim columns : ℕ} {starts rows : List ℕ} {weights : List Float} → Combined dim columns starts rows weights → items_of starts * columns ≤ 4294967296
cells f = mul-le-mul f.has.bounds.few f.bounds.few

pub record Directed (mode : Mode) (dim columns : ℕ) (starts rows : List ℕ) (weights rhs solution : List Float) (out : ℕ) : Type 0 where
  pub fits : combination_fits mode dim columns starts rows weights rhs solution ≡ true
  pub has : Combined dim columns starts rows weights
  pub room : items_of starts * columns ≤ out

pub combination-ready : {mode : Mode} {dim columns : ℕ} {starts rows : List ℕ} {weights rhs solution : List Float} {out : ℕ}
    → combination_check mode dim columns starts rows weights rhs solution out ≡ passed → Directed mode dim columns starts rows weights rhs solution out
unfolding combination_check
combination-ready {mode} h =
    let a = or_else_accepted _ _ h in
    let b = or_else_accepted _ _ a.1 in
    let t = test-held _ _ b.0 in
    record { fits = t; has = combined _ _ _ _ _ _ _ mode t; room = has_room _ _ b.1 }
