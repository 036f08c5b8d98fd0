-- The objective: x'Px has a square for each generator, q'x a term for each generator and one for each cost column, and all other columns have 0 in q.
-- The columns in their order are the blocks one after another. Assumes nothing.
use Rattle.std.proofs.Common.{ℕ, ◌≡◌, sym, ◌∙◌, ap, ap₂, Bool, true, false, cond, List, [], ◌∷◌, ◌++◌}
use Rattle.lists.specs.UpTo.{each, when}
use Rattle.ring.specs.Ops.{Ops}
use Rattle.ring.specs.Laws.{CommutativeRing}
use Rattle.ring.proofs.Laws.{zero-add, zero-mul, one-mul}
use Rattle.ring.proofs.Ring.{var, formal, ring}
use Rattle.records.specs.AcNetwork.{AcNetwork}
use Rattle.numbering.specs.Numbering.{nvar, column_at}
use Rattle.numbering.proofs.EveryPoint.{every-column, column-placed}
use Rattle.rows.specs.Program.{linear_at}
use Rattle.manual.specs.Balance.{sum_to}
use Rattle.manual.specs.Objective.{polynomial, squared, linear_term, polynomials, variables}
use Rattle.manual.proofs.Sums.{sum_ext, sum-zero, sum-add, mul-sum, total, total-append, total-each, total-listed, total-when}
use Rattle.numbering.specs.declared.ColumnName.{ColumnName}
use Rattle.numbering.specs.declared.ColumnName.TheVariants.{Pg, CostOf}

-- what one generator adds to x'Px + 2 q'x, and twice its polynomial
module _ {A : Type 0} (o : Ops A) where
  infixl 60 ◌+◌
  infixl 70 ◌*◌
  open o use {zero, two, ◌+◌, ◌*◌}

  abbrev curved : A → A → A → A
  curved cq cl p = p * (two * cq) * p + two * ((zero + cl) * p)

  abbrev doubled : A → A → A → A
  doubled cq cl p = two * polynomial o (zero ∷ cl ∷ cq ∷ []) p

module _ {A : Type 0} (o : Ops A) (R : CommutativeRing o) (G : AcNetwork A) (x : ColumnName → A) where
  infixl 60 ◌+◌
  infixl 70 ◌*◌
  open o use {two, ◌+◌, ◌*◌}

  -- what column c adds to q'x
  abbrev costs : ColumnName → A
  costs c = linear_at o G c * x c

  -- a block of columns where q is 0 adds nothing, and those before it stay
  idle : (n : ℕ) (f : ℕ → A) (xs : List A) → total o R (xs ++ each n (λ i. o.zero * f i ∷ [])) ≡ total o R xs
  idle n f xs =
      total-append o R xs (each n (λ i. o.zero * f i ∷ []))
      ∙ ap (λ t. total o R xs + t) (total-listed o R n (λ i. o.zero * f i) ∙ sum-zero o R n (λ i. o.zero * f i) (λ i l. zero-mul o R (f i)))
      ∙ R.add-zero (total o R xs)

  -- a cost column's 1, where the generator has one
  priced : (b : Bool) (g : ℕ) → total o R (when b (costs (CostOf g) ∷ [])) ≡ cond b (x (CostOf g)) o.zero
  priced true g = R.add-zero (costs (CostOf g)) ∙ ap (λ t. t * x (CostOf g)) (zero-add o R o.one) ∙ one-mul o R (x (CostOf g))
  priced false g = total-when o R false (costs (CostOf g))

  linear-law : linear_term o G x ≡ sum_to o G.k (λ g. costs (Pg g)) + variables o G x
  linear-law =
      sym (total-listed o R (nvar G) (λ c. costs (column_at G c)))
      ∙ ap (total o R) (every-column G (λ c. costs (column_at G c) ∷ []) (λ c. costs c ∷ []) (λ c h. ap (λ (d : ColumnName). costs d ∷ []) (column-placed G c h)))
      ∙ rw (total-append o R)
      (ap₂ ◌+◌
      (simp idle (total-listed o R G.k (λ g. costs (Pg g))))
      (total-each o R G.k (λ g. when (G.piecewise g) (costs (CostOf g) ∷ []))
      ∙ sum_ext o R G.k (λ g. total o R (when (G.piecewise g) (costs (CostOf g) ∷ []))) (λ g. cond (G.piecewise g) (x (CostOf g)) o.zero) (λ g l. priced (G.piecewise g) g)))

  -- one generator
  generator : (g : ℕ) → curved o (G.cq g) (G.cl g) (x (Pg g)) ≡ doubled o (G.cq g) (G.cl g) (x (Pg g))
  generator g = ring o R (curved formal (var 0) (var 1) (var 2)) (doubled formal (var 0) (var 1) (var 2)) (G.cq g ∷ G.cl g ∷ x (Pg g) ∷ []) tt

  pub objective-law : squared o G x + two * linear_term o G x ≡ two * (polynomials o G x + variables o G x)
  objective-law =
      ap (λ t. squared o G x + two * t) linear-law
      ∙ ap (λ t. squared o G x + t) (R.mul-add two (sum_to o G.k (λ g. costs (Pg g))) (variables o G x))
      ∙ sym (R.add_assoc (squared o G x) (two * sum_to o G.k (λ g. costs (Pg g))) (two * variables o G x))
      ∙ ap (λ t. t + two * variables o G x)
      (ap (λ t. squared o G x + t) (mul-sum o R G.k two (λ g. costs (Pg g)))
      ∙ sym (sum-add o R G.k (λ g. x (Pg g) * (two * G.cq g) * x (Pg g)) (λ g. two * costs (Pg g)))
      ∙ sum_ext o R G.k (λ g. curved o (G.cq g) (G.cl g) (x (Pg g))) (λ g. doubled o (G.cq g) (G.cl g) (x (Pg g))) (λ g h. generator g)
      ∙ sym (mul-sum o R G.k two (λ g. polynomial o (o.zero ∷ G.cl g ∷ G.cq g ∷ []) (x (Pg g)))))
      ∙ sym (R.mul-add two (polynomials o G x) (variables o G x))
