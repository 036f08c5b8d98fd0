-- What an accepted question has, and what is left in the column. Assumes nothing.
use Rattle.refusals.specs.Refusals.{passed}
use Rattle.std.proofs.Common.{ℕ, ◌≤◌, ◌<◌, ◌≡◌, sym, ap, ap₂, ◌∙◌, subst, true, List, ◌++◌, ltb-true, T, length, take, drop, replicate, take_at, drop_at, Float}
use Rattle.std.proofs.Math.ListN.{length-replicate}
use Rattle.lists.specs.UpTo.{overlay}
use Rattle.refusals.proofs.Laws.{or_else_accepted, test-held, has_room}
use Rattle.records.specs.AcNetwork.{AcNetwork}
use Rattle.interface.specs.declared.Parameter.{Parameter}
use Rattle.interface.specs.declared.Parameter.TheVariants.{Demand, Cost, LineLimit, SeriesAdmittance, ShuntAdmittance, VoltageBound, GenBound, Transformer, Switching, ConstraintLimit}
use Rattle.admittance.specs.Stores.{Store, stored_all}
use Rattle.elements.specs.Lengths.{parameter_len, asks_cost}
use Rattle.columns.specs.Jacobian.{dim, parameter_cause, column_cause}
use Rattle.admittance.proofs.Stored.{stored-length}

-- a coefficient of a cost is a generator's
pub cost-below : (n m k i : ℕ) (p : Parameter) → asks_cost p ≡ true → i < parameter_len n m k p → i < k
cost-below n m k i (Cost term) h l = l
cost-below n m k i (GenBound power bound) h l = l
cost-below n m k i (Demand power) h l = absurd (subst T (sym h) tt)
cost-below n m k i LineLimit h l = absurd (subst T (sym h) tt)
cost-below n m k i (SeriesAdmittance gb) h l = absurd (subst T (sym h) tt)
cost-below n m k i (ShuntAdmittance gb) h l = absurd (subst T (sym h) tt)
cost-below n m k i (VoltageBound bound) h l = absurd (subst T (sym h) tt)
cost-below n m k i (Transformer tap) h l = absurd (subst T (sym h) tt)
cost-below n m k i Switching h l = absurd (subst T (sym h) tt)
cost-below n m k i ConstraintLimit h l = absurd (subst T (sym h) tt)

module _ (G : AcNetwork Float) (p : Parameter) (i xs zs there : ℕ) (h : column_cause G p i xs zs there ≡ passed) where
  pub column-room : dim G ≤ there
  unfolding column_cause
  column-room = has_room _ _ (or_else_accepted _ _ (or_else_accepted _ _ h).1).1

  pub column-index : i < parameter_len G.n G.m G.k p
  unfolding column_cause parameter_cause
  column-index = ltb-true _ _ (test-held _ _ (or_else_accepted _ _ (or_else_accepted _ _ (or_else_accepted _ _ (or_else_accepted _ _ h).1).0).1).0)

-- the front is filled, and then stored to
pub stored-front : (need : ℕ) (v : Float) (ss : List Store) (c₀ : List Float) {c part : List Float} → c ≡ overlay (replicate need v) c₀ → part ≡ stored_all ss (take need c)
    → part ++ drop need c ≡ overlay (stored_all ss (replicate need v)) c₀
unfolding overlay
stored-front need v ss c₀ {c} {part} e p =
    let l = length-replicate need v in
    let t : take need c ≡ replicate need v = ap (take need) e ∙ take_at (replicate need v) _ need l in
    let d : drop need c ≡ drop (length (replicate need v)) c₀ = ap (drop need) e ∙ drop_at (replicate need v) _ need l in
    ap₂ ◌++◌ (p ∙ ap (stored_all ss) t) d ∙ rw (stored-length ss (replicate need v))
