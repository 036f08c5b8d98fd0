-- The checks of the name of a number go by document 01's order: the record check, then 7. Assumes nothing.
use Rattle.std.proofs.Common.{ℕ, ◌≡◌, refl, ap, List, [], ◌∷◌, ltb}
use Rattle.refusals.specs.Refusals.{refuse_unless, answer_if, Checked}
use Rattle.refusals.specs.Order.{sooner, by_order}
use Rattle.refusals.specs.declared.Refusal.TheVariants.{PastEnd}
use Rattle.refusals.proofs.Order.{in_order, alone, next}
use Rattle.records.specs.Check.{check_of}
use Rattle.records.specs.Network.{network_of}
use Rattle.records.proofs.Order.{checked}
use Rattle.numbering.specs.Numbering.{nvar, ncon, column_at, row_at}
use Rattle.names.specs.Named.{column_named, row_named}

module _ (n m k s : ℕ) (b : List ℕ) where
  pub column-name-in_order : (p : ℕ)
      → column_named n m k s b p ≡ answer_if (by_order (check_of n m k s b ∷ refuse_unless (ltb p (nvar (network_of n m k s b))) (PastEnd p) ∷ [])) (column_at (network_of n m k s b) p)
  unfolding column_named sooner
  column-name-in_order p = ap (λ (c : Checked). answer_if c (column_at (network_of n m k s b) p)) (in_order (next (checked n m k s b) (alone _ _) refl))

  pub row-name-in_order : (p : ℕ)
      → row_named n m k s b p ≡ answer_if (by_order (check_of n m k s b ∷ refuse_unless (ltb p (ncon (network_of n m k s b))) (PastEnd p) ∷ [])) (row_at (network_of n m k s b) p)
  unfolding row_named sooner
  row-name-in_order p = ap (λ (c : Checked). answer_if c (row_at (network_of n m k s b) p)) (in_order (next (checked n m k s b) (alone _ _) refl))
