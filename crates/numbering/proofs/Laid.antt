-- The layout of accepted records: how it comes about, and what it counts. Assumes nothing.
use Rattle.std.proofs.Common.{ℕ, ◌+◌, ◌≤◌, ◌≡◌, refl, sym, ap, ◌∙◌, true, List, arith}
use Rattle.lists.specs.UpTo.{sum, count}
use Rattle.records.specs.Network.{network_of, Accepted}
use Rattle.numbering.specs.Numbering.{limits, curves, nvar, ncon, column_counted, row_counted, column_number, row_number}
use Rattle.numbering.specs.Layout.{layout_of, layout_column, layout_row, nvar_of, ncon_of}
use Rattle.numbering.specs.Laid.{net_of, Laid}
use Rattle.numbering.specs.declared.SocWrLayout.{SocWrLayout}
use Rattle.numbering.specs.declared.ColumnName.{ColumnName}
use Rattle.numbering.specs.declared.ColumnName.TheVariants.{Pg, CostOf}
use Rattle.numbering.specs.declared.RowName.{RowName}
use Rattle.numbering.specs.declared.RowName.TheVariants.{Segment, Thermal}
use Rattle.numbering.proofs.Layouts.{accepted-range}
use Rattle.numbering.proofs.Numbers.{column-number, row_number_lem, nvar-number, ncon-number, counted-columns, counted-rows, layout-column}
use Rattle.numbering.proofs.Numbers.{layout_row_lem, layout-nvar, layout-ncon, numbers-few}

pub laid : (n m k s : ℕ) (b : List ℕ) {l : SocWrLayout} → Accepted n m k s b → l ≡ layout_of (network_of n m k s b) → Laid l b
laid n m k s b a e = rw e (record { accepted = a; range = accepted-range n m k s b a; is = refl })

-- the columns of pg follow each other from the first on, and all are among the columns
pub pg_follows : (l : SocWrLayout) (b : List ℕ) (g : ℕ) → layout_column l (Pg 0) + g ≡ column_number (net_of l b) (Pg g)
pg_follows l b g = omega (arith, layout-column l (Pg 0), column-number (net_of l b) (Pg g))

pub pg_fits : (l : SocWrLayout) → layout_column l (Pg 0) + l.k ≤ nvar_of l
pg_fits l = omega (arith, layout-column l (Pg 0), layout-nvar l)

module _ (l : SocWrLayout) (b : List ℕ) (h : Laid l b) where
  pub limits_are : l.t ≡ limits (net_of l b)
  limits_are = ap (λ (x : SocWrLayout). x.t) h.is

  pub curves_are : l.cost_columns ≡ curves (net_of l b)
  curves_are = ap (λ (x : SocWrLayout). x.cost_columns) h.is

  pub laid-nvar : nvar_of l ≡ nvar (net_of l b)
  laid-nvar = rw (layout-nvar l, nvar-number (net_of l b)) (omega (arith, curves_are))

  pub laid-ncon : ncon_of l ≡ ncon (net_of l b)
  laid-ncon = rw (layout-ncon l, ncon-number (net_of l b)) (omega (arith, limits_are, h.accepted.counts-add))

  -- a column or row whose number the counts give
  pub laid-column : (x : ColumnName) → column_counted x ≡ true → layout_column l x ≡ column_number (net_of l b) x
  laid-column x p = layout-column l x ∙ counted-columns l.n l.m l.k _ _ x p ∙ sym (column-number (net_of l b) x)

  pub laid-row : (x : RowName) → row_counted x ≡ true → layout_row l x ≡ row_number (net_of l b) x
  laid-row x p = layout_row_lem l x ∙ counted-rows l.n l.m l.k _ _ (sym h.accepted.counts-add) _ _ _ _ x p ∙ sym (row_number_lem (net_of l b) x)

  -- and the others: by the count of the cost columns, of the segments, of the limited branches before
  pub laid-cost : (g : ℕ) → layout_column l (CostOf (count g (net_of l b).piecewise)) ≡ column_number (net_of l b) (CostOf g)
  laid-cost g = layout-column l (CostOf (count g (net_of l b).piecewise)) ∙ sym (column-number (net_of l b) (CostOf g))

  pub laid-segment : (g t : ℕ) → layout_row l (Segment (sum g (net_of l b).segments + t) 0) ≡ row_number (net_of l b) (Segment g t)
  laid-segment g t = omega (arith, layout_row_lem l (Segment (sum g (net_of l b).segments + t) 0), row_number_lem (net_of l b) (Segment g t))

  pub laid-thermal : (e q : ℕ) → layout_row l (Thermal (count e (net_of l b).limited) q) ≡ row_number (net_of l b) (Thermal e q)
  laid-thermal e q =
      omega (arith, layout_row_lem l (Thermal (count e (net_of l b).limited) q), row_number_lem (net_of l b) (Thermal e q), h.accepted.counts-add)

  -- the numbers of the KKT matrix's rows and columns are few
  pub laid-few : nvar (net_of l b) + ncon (net_of l b) ≤ 294912
  laid-few = omega (arith, numbers-few l h.range, laid-nvar, laid-ncon)
