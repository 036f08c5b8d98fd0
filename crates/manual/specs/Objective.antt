-- The objective. Clarabel's documentation, 'Problem Formulation': minimise ½x'Px + q'x. The MATPOWER User's Manual, on generator costs: a polynomial
-- c_n p^n + .. + c_1 p + c_0 of a generator's power p; and a variable y for each piecewise linear cost ('constrained cost variables').
use Rattle.std.specs.Prelude.{cond, List, [], ◌∷◌}
use Rattle.ring.specs.Ops.{Ops}
use Rattle.records.specs.AcNetwork.{AcNetwork}
use Rattle.numbering.specs.Numbering.{nvar, column_at}
use Rattle.rows.specs.Program.{curved_at, curvature, linear_at}
use Rattle.manual.specs.Balance.{sum_to}
use Rattle.numbering.specs.declared.ColumnName.{ColumnName}
use Rattle.numbering.specs.declared.ColumnName.TheVariants.{Pg, CostOf}

module _ {A : Type 0} (o : Ops A) where
  infixl 60 ◌+◌
  infixl 70 ◌*◌
  open o use {zero, ◌+◌, ◌*◌}

  -- c_0 + p (c_1 + p (c_2 + ..))
  abbrev pub polynomial : List A → A → A
  polynomial [] p = zero
  polynomial (c ∷ cs) p = c + p * polynomial cs p

  module _ (G : AcNetwork A) (x : ColumnName → A) where
    -- x'Px, of P's entries; q'x, over all columns in their order
    abbrev pub squared : A
    squared = sum_to o G.k (λ g. x (curved_at g) * curvature o G g * x (curved_at g))

    abbrev pub linear_term : A
    linear_term = sum_to o (nvar G) (λ c. linear_at o G (column_at G c) * x (column_at G c))

    -- Σ cq pg² + cl pg, the manual's polynomials without their constants; and Σ t, a variable for each piecewise generator
    abbrev pub polynomials : A
    polynomials = sum_to o G.k (λ g. polynomial (zero ∷ G.cl g ∷ G.cq g ∷ []) (x (Pg g)))

    abbrev pub variables : A
    variables = sum_to o G.k (λ g. cond (G.piecewise g) (x (CostOf g)) zero)
