-- The checks of a parameter's column go by document 01's order: the record check, 6, 9, 7, 8, 10. Assumes nothing.
use Rattle.std.proofs.Common.{ℕ, ◌≡◌, refl, List, [], ◌∷◌, ltb, Float}
use Rattle.refusals.specs.Refusals.{refuse_unless, room_for}
use Rattle.refusals.specs.Order.{sooner, by_order}
use Rattle.refusals.specs.declared.Refusal.TheVariants.{NotInSocWr, PastEnd, PiecewiseCost}
use Rattle.refusals.proofs.Order.{InOrder, in_order, alone, next}
use Rattle.records.specs.AcNetwork.{AcNetwork}
use Rattle.records.specs.Check.{check_of}
use Rattle.records.specs.Network.{network_of}
use Rattle.records.proofs.Order.{checked}
use Rattle.interface.specs.declared.Parameter.{Parameter}
use Rattle.solution.specs.Lengths.{x_cause, z_cause}
use Rattle.solution.proofs.Order.{solution_of}
use Rattle.elements.specs.Lengths.{has_parameter, parameter_len}
use Rattle.columns.specs.Jacobian.{dim, piecewise_cause, parameter_cause, column_cause, jacobian_check}

parameter_of : (G : AcNetwork Float) (p : Parameter) (i : ℕ)
    → InOrder NotInSocWr (PiecewiseCost (G.gen_id i))
    (refuse_unless (has_parameter p) NotInSocWr ∷ refuse_unless (ltb i (parameter_len G.n G.m G.k p)) (PastEnd i) ∷ piecewise_cause G p i ∷ [])
    (parameter_cause G p i)
unfolding parameter_cause piecewise_cause sooner
parameter_of G p i = next (alone _ _) (next (alone _ _) (alone _ _) refl) refl

pub jacobian-in_order : (n m k s : ℕ) (b : List ℕ) (p : Parameter) (i xs zs there : ℕ)
    → jacobian_check n m k s b p i xs zs there
    ≡ by_order (
    check_of n m k s b
    ∷ x_cause (network_of n m k s b) xs
    ∷ z_cause (network_of n m k s b) zs
    ∷ refuse_unless (has_parameter p) NotInSocWr
    ∷ refuse_unless (ltb i (parameter_len n m k p)) (PastEnd i)
    ∷ piecewise_cause (network_of n m k s b) p i
    ∷ room_for (dim (network_of n m k s b)) there
    ∷ []
    )
unfolding column_cause sooner
jacobian-in_order n m k s b p i xs zs there =
    in_order (next (checked n m k s b) (next (solution_of _ _ _) (next (parameter_of _ _ _) (alone _ _) refl) refl) refl)
