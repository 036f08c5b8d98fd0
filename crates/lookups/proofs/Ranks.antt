-- The number of a record's point by the tally of the records before it, and where the tally lies. Assumes nothing.
use Rattle.std.proofs.Common.{ℕ, ◌+◌, ◌<◌, ◌≤◌, ◌≡◌, ap, ◌∙◌, List, arith, Some, Ok}
use Rattle.lists.specs.UpTo.{bit}
use Rattle.lists.proofs.Sums.{sum_mono}
use Rattle.records.specs.Fields.{segments_of}
use Rattle.numbering.specs.Numbering.{column_number, row_number}
use Rattle.numbering.specs.Layout.{layout_column, layout_row}
use Rattle.numbering.specs.Laid.{net_of, Laid}
use Rattle.numbering.specs.Tally.{tally_of}
use Rattle.numbering.specs.declared.Tally.TheVariants.{Limited, Piecewise, Segments}
use Rattle.numbering.specs.declared.SocWrLayout.{SocWrLayout}
use Rattle.numbering.specs.declared.ColumnName.TheVariants.{CostOf}
use Rattle.numbering.specs.declared.RowName.TheVariants.{Segment, Thermal}
use Rattle.numbering.proofs.Layouts.{piecewise-before, segments_tally, segment-inside, limited-before}
use Rattle.numbering.proofs.Laid.{curves_are, limits_are, laid-cost, laid-segment, laid-thermal}
use Rattle.lookups.specs.Lookups.{Lookup}

abbrev number : ℕ → Lookup
number p = Ok (Some p)

module _ (l : SocWrLayout) (b : List ℕ) (h : Laid l b) {r : ℕ} where
  module _ (g : ℕ) (before : r ≡ tally_of Piecewise b (l.n + l.m) g) where
    pub cost-most : g < l.k → r ≤ l.cost_columns
    cost-most i =
        let most = sum_mono g l.k (λ g. bit ((net_of l b).piecewise g)) (omega arith) in
        omega (arith, before, piecewise-before l.n l.m l.k l.s b g, most, curves_are l b h)

    pub cost-at : {p : ℕ} → p ≡ layout_column l (CostOf r) → number p ≡ number (column_number (net_of l b) (CostOf g))
    cost-at e = ap number (e ∙ ap (λ (r : ℕ). layout_column l (CostOf r)) (before ∙ piecewise-before l.n l.m l.k l.s b g) ∙ laid-cost l b h g)

  module _ (g q : ℕ) (before : r ≡ tally_of Segments b (l.n + l.m) g) where
    pub segment-most : g < l.k → q < segments_of b (l.n + l.m + g) → r + q < l.s
    segment-most i j = omega (arith, before, segments_tally l.n l.m l.k l.s b g, segment-inside l.n l.m l.k l.s b h.accepted g q i j)

    pub segment-at : {p : ℕ} → p ≡ layout_row l (Segment (r + q) 0) → number p ≡ number (row_number (net_of l b) (Segment g q))
    segment-at e = ap number (e ∙ ap (λ (r : ℕ). layout_row l (Segment (r + q) 0)) (before ∙ segments_tally l.n l.m l.k l.s b g) ∙ laid-segment l b h g q)

  module _ (e q : ℕ) (before : r ≡ tally_of Limited b l.n e) where
    pub thermal-most : e < l.m → r ≤ l.t
    thermal-most i =
        let most = sum_mono e l.m (λ e. bit ((net_of l b).limited e)) (omega arith) in
        omega (arith, before, limited-before l.n l.m l.k l.s b e, most, limits_are l b h)

    pub thermal-at : {p : ℕ} → p ≡ layout_row l (Thermal r q) → number p ≡ number (row_number (net_of l b) (Thermal e q))
    thermal-at n = ap number (n ∙ ap (λ (r : ℕ). layout_row l (Thermal r q)) (before ∙ limited-before l.n l.m l.k l.s b e) ∙ laid-thermal l b h e q)
