-- A in the parts in which the code writes it. Assumes nothing.
use Rattle.std.proofs.Common.{ℕ, ◌+◌, ◌*◌, ◌≤◌, ◌<◌, ◌≡◌, sym, ap, ◌∙◌, List, ◌++◌, append_assoc, arith, length, length-append, Float}
use Rattle.lists.specs.UpTo.{each, listed, sum}
use Rattle.lists.specs.Entries.{Cell}
use Rattle.lists.specs.Compressed.{joined, starts_from}
use Rattle.lists.proofs.Sums.{each-length, sum-le, sum-mul, sum_ones}
use Rattle.lists.proofs.Compressed.{joined-listed, joined-append, starts-length}
use Rattle.records.specs.AcNetwork.{AcNetwork}
use Rattle.records.proofs.Sound.{sound}
use Rattle.numbering.specs.Layout.{InRange, layout_column, nvar_of}
use Rattle.numbering.specs.declared.ColumnName.TheVariants.{Pf, Pt, Qf, Qt}
use Rattle.numbering.proofs.Numbers.{layout-column}
use Rattle.rows.specs.Rows.{flow_column}
use Rattle.numbering.specs.Laid.{net_of, Laid}
use Rattle.numbering.specs.declared.SocWrLayout.{SocWrLayout}
use Rattle.numbering.proofs.Laid.{laid-nvar}
use Rattle.rows.specs.declared.OhmRow.{OhmRow}
use Rattle.rows.specs.declared.OhmRow.TheVariants.{Pf as pf, Qf as qf, Pt as pt, Qt as qt}
use Rattle.rows.specs.Program.{matrix}
use Rattle.matrix.specs.Columns.{one_cell, w_cells, flow_cells}
use Rattle.matrix.proofs.Same.{matrix-columns}
use Rattle.bus_columns.specs.Counts.{own_cells}
use Rattle.bus_columns.proofs.Counts.{columns_least}
use Rattle.record_columns.specs.Writers.{cost_turn}
use Rattle.assembly.specs.Parts.{generator_columns, product_columns, flow_columns, branch_columns}
use Rattle.lists.proofs.Listed.{listed-length}

-- where the columns of a flow begin
pub few-flows : {l : SocWrLayout} → InRange l → (q : OhmRow) → layout_column l (flow_column q 0) < 900000
few-flows {l} r pf = omega (arith, layout-column l (Pf 0), r.n-range, r.m-range, r.k-range)
few-flows {l} r qf = omega (arith, layout-column l (Qf 0), r.n-range, r.m-range, r.k-range)
few-flows {l} r pt = omega (arith, layout-column l (Pt 0), r.n-range, r.m-range, r.k-range)
few-flows {l} r qt = omega (arith, layout-column l (Qt 0), r.n-range, r.m-range, r.k-range)

module _ (l : SocWrLayout) (bytes : List ℕ) where
  abbrev G : AcNetwork Float
  G = net_of l bytes

  pub generators_length : length (generator_columns G) ≡ 2 * l.k
  unfolding generator_columns
  generators_length = simp (length-append, listed-length) (omega arith)

  pub products-length : length (product_columns G) ≡ 2 * l.m
  unfolding product_columns
  products-length = simp (length-append, listed-length) (omega arith)

  pub flows-length : length (flow_columns G) ≡ 4 * l.m
  unfolding flow_columns
  flows-length = simp (length-append, listed-length) (omega arith)

  pub branches-many : 2 * l.m ≤ length (branch_columns G)
  unfolding branch_columns
  branches-many = simp length-append (omega (arith, products-length))

  flow-some : (r : OhmRow) (e : ℕ) → 2 * 1 ≤ length (flow_cells G r e)
  unfolding flow_cells one_cell
  flow-some r e = simp length-append (omega arith)

  flows-some : (r : OhmRow) → 2 * l.m ≤ length (joined (listed l.m (flow_cells G r)))
  flows-some r =
      omega (
        arith,
        ap length (joined-listed l.m (flow_cells G r)) ∙ each-length l.m (flow_cells G r),
        sum-le l.m (λ e. 2 * 1) (λ e. length (flow_cells G r e)) (λ e k. flow-some r e),
        sum-mul l.m 2 (λ e. 1),
        sum_ones l.m,
      )

  branches-some : 8 * l.m ≤ length (joined (branch_columns G))
  unfolding branch_columns flow_columns
  branches-some = simp (joined-append, length-append) (omega (arith, flows-some pf, flows-some pt, flows-some qf, flows-some qt))

  module _ (laid : Laid l bytes) where
    -- the columns from the first of the buses' on go as far as they are ahead
    pub ahead_covered : sum l.n (λ i. length (own_cells G i)) + 12 * l.m ≤ length (each l.n (w_cells G)) + length (joined (branch_columns G))
    ahead_covered = omega (arith, columns_least l bytes laid, branches-some)

    pub matrix-parts : matrix G ≡ generator_columns G ++ listed l.n (w_cells G) ++ branch_columns G
    unfolding generator_columns branch_columns product_columns flow_columns cost_turn
    matrix-parts =
        matrix-columns G (sound l.n l.m l.k l.s bytes laid.accepted) laid.accepted.bus_below
        ∙ simp append_assoc

    pub matrix-starts : length (starts_from 0 (matrix G)) ≡ nvar_of l + 1
    unfolding matrix
    matrix-starts = starts-length 0 _ ∙ ap (λ (n : ℕ). n + 1) (listed-length _ _ ∙ sym (laid-nvar l bytes laid))

    pub matrix-count : length (joined (matrix G)) ≡ length (joined (generator_columns G)) + length (each l.n (w_cells G)) + length (joined (branch_columns G))
    matrix-count =
        ap (λ (x : List (List Cell)). length (joined x)) matrix-parts
        ∙ ap length
        (joined-append (generator_columns G ++ listed l.n (w_cells G)) (branch_columns G)
        ∙ ap (λ (x : List Cell). x ++ joined (branch_columns G)) (joined-append (generator_columns G) (listed l.n (w_cells G))))
        ∙ rw joined-listed (simp length-append)
