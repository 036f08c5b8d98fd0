-- P by columns, in the parts in which the code writes it. Assumes nothing.
use Rattle.std.specs.Float.Ieee.{ne}
use Rattle.std.proofs.Common.{ℕ, ◌+◌, ◌-◌, ◌<◌, ◌≡◌, sym, ap, ◌∙◌, List, [], ◌∷◌, ◌++◌, append-nil, arith, eqb, length, Float, eq-eqb, ne_eqb}
use Rattle.lists.specs.UpTo.{each, listed, when}
use Rattle.lists.specs.Entries.{Cell, entry, select}
use Rattle.lists.specs.Compressed.{joined, starts_from}
use Rattle.lists.proofs.Each.{each_ext, each-split, each_none, each-one, each_nil, when-nil}
use Rattle.lists.proofs.Sums.{each-length, sum_ext}
use Rattle.lists.proofs.Compressed.{joined-listed, joined-append, starts-length}
use Rattle.numbering.specs.Layout.{layout_column, nvar_of}
use Rattle.numbering.specs.Numbering.{nvar, column_number}
use Rattle.numbering.specs.Laid.{net_of, Laid}
use Rattle.numbering.specs.declared.SocWrLayout.{SocWrLayout}
use Rattle.numbering.specs.declared.ColumnName.TheVariants.{Pg}
use Rattle.numbering.proofs.Numbers.{column-number, layout-column, layout-nvar}
use Rattle.numbering.proofs.Laid.{laid-nvar, pg_follows}
use Rattle.rows.specs.Rows.{zero64}
use Rattle.rows.specs.Program.{quadratic}
use Rattle.matrix.specs.Lists.{quadratic_matrix}
use Rattle.matrix.specs.Columns.{one_cell, nonzero_cell}
use Rattle.matrix.proofs.Same.{select-each, select_when}
use Rattle.quadratic.specs.Quadratic.{quad_value, quad_cells, quad_count}
use Rattle.lists.proofs.Listed.{listed-length}
use Rattle.cells.proofs.Sizes.{nonzero-length}

select-one : (c r : ℕ) (v : Float) → select c (entry r r v ∷ []) ≡ when (eqb r c) (one_cell r v)
unfolding select one_cell
select-one c r v = append-nil _

module _ (l : SocWrLayout) (bytes : List ℕ) where
  -- what generator g has in column c
  abbrev part : ℕ → ℕ → List Cell
  part c g = when (ne (quad_value l bytes g) zero64) (when (eqb (column_number (net_of l bytes) (Pg g)) c) (one_cell (column_number (net_of l bytes) (Pg g)) (quad_value l bytes g)))

  at-number : (c : ℕ) → select c (quadratic (net_of l bytes)) ≡ each l.k (part c)
  unfolding quadratic
  at-number c =
      select-each c l.k _
      ∙ each_ext _ _ l.k
      (λ g m.
      let p = column_number (net_of l bytes) (Pg g) in
      rw (select_when c (ne (quad_value l bytes g) zero64) (entry p p (quad_value l bytes g) ∷ []), select-one c p (quad_value l bytes g)))

  at_pg : (g : ℕ) → g < l.k → select (layout_column l (Pg 0) + g) (quadratic (net_of l bytes)) ≡ quad_cells l bytes g
  unfolding quad_cells nonzero_cell
  at_pg g m =
      let c = layout_column l (Pg 0) + g in
      let own : column_number (net_of l bytes) (Pg g) ≡ layout_column l (Pg g) = omega (arith, column-number (net_of l bytes) (Pg g), layout-column l (Pg g)) in
      at-number c
      ∙ each-one (part c) g l.k m
      (λ j h d. rw (ne_eqb (column_number (net_of l bytes) (Pg j)) c (λ e. d (omega (arith, pg_follows l bytes j)))) (when-nil (ne (quad_value l bytes j) zero64)))
      ∙ rw (eq-eqb (column_number (net_of l bytes) (Pg g)) c (sym (pg_follows l bytes g)), own)

  -- outside of pg there is nothing
  no_pg : (c : ℕ) → ((g : ℕ) → g < l.k → layout_column l (Pg 0) + g ≡ c → ⊥) → select c (quadratic (net_of l bytes)) ≡ []
  no_pg c h =
      at-number c
      ∙ each_none _ l.k (λ g m. rw (ne_eqb (column_number (net_of l bytes) (Pg g)) c (λ e. h g m (omega (arith, pg_follows l bytes g)))) (when-nil (ne (quad_value l bytes g) zero64)))

  module _ (laid : Laid l bytes) where
    -- the columns before pg, and behind it
    abbrev before : ℕ
    before = layout_column l (Pg 0)

    abbrev others : ℕ
    others = nvar_of l - layout_column l (Pg l.k)

    abbrev column : ℕ → List (List Cell)
    column c = select c (quadratic (net_of l bytes)) ∷ []

    pub quad_parts : quadratic_matrix (net_of l bytes) ≡ listed before (λ c. []) ++ listed l.k (quad_cells l bytes) ++ listed others (λ c. [])
    unfolding quadratic_matrix
    quad_parts =
        let first = layout-column l (Pg 0) in
        let e : nvar (net_of l bytes) ≡ before + l.k + others = omega (arith, laid-nvar l bytes laid, layout-nvar l, layout-column l (Pg l.k)) in
        ap (λ (n : ℕ). each n column) e
        ∙ each-split column (before + l.k) others
        ∙ rw (
          each-split column before l.k,
          each_ext column (λ c. [] ∷ []) before (λ c m. ap (λ (x : List Cell). x ∷ []) (no_pg c (λ g h q. omega arith))),
          each_ext (λ g. column (before + g)) (λ g. quad_cells l bytes g ∷ []) l.k (λ g m. ap (λ (x : List Cell). x ∷ []) (at_pg g m)),
          each_ext (λ c. column (before + l.k + c)) (λ c. [] ∷ []) others (λ c m. ap (λ (x : List Cell). x ∷ []) (no_pg (before + l.k + c) (λ g h q. omega arith))),
        )

    pub quad_count_lem : length (joined (quadratic_matrix (net_of l bytes))) ≡ quad_count l bytes l.k
    unfolding quad_count quad_cells
    quad_count_lem =
        ap (λ (x : List (List Cell)). length (joined x)) quad_parts
        ∙ rw (
          joined-append (listed before (λ c. []) ++ listed l.k (quad_cells l bytes)) (listed others (λ c. [])),
          joined-append (listed before (λ c. [])) (listed l.k (quad_cells l bytes)),
          joined-listed before (λ c. []),
          joined-listed l.k (quad_cells l bytes),
          joined-listed others (λ c. []),
          each_nil before,
          each_nil others,
          append-nil,
        )
        (each-length l.k (quad_cells l bytes) ∙ sum_ext l.k _ _ (λ g m. nonzero-length _ (quad_value l bytes g)))

    pub quad_starts : length (starts_from 0 (quadratic_matrix (net_of l bytes))) ≡ nvar_of l + 1
    unfolding quadratic_matrix
    quad_starts = starts-length 0 _ ∙ ap (λ (n : ℕ). n + 1) (listed-length _ _ ∙ sym (laid-nvar l bytes laid))
