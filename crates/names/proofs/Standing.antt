-- The name that is found for a point stands there: the layout gives the name's number, and the network has the name. Assumes nothing.
use Rattle.std.proofs.Common.{ℕ, ◌+◌, ◌*◌, ◌/◌, ◌%◌, ◌<◌, ◌≡◌, refl, sym, ap, ◌∙◌, Bool, true, false, List, arith, ne_eqb, Float, length, get_or}
use Rattle.lists.specs.UpTo.{bit, count}
use Rattle.lists.proofs.Sums.{bit_le}
use Rattle.records.specs.AcNetwork.{AcNetwork}
use Rattle.numbering.specs.Blocks.{key, before, number_of}
use Rattle.numbering.specs.Numbering.{SameKey, column_key, column_counted, ColumnStands, nvar, column_many, cost_columns, row_key, row_counted, RowStands, ncon, cost_rows, jabr_rows}
use Rattle.numbering.specs.Numbering.{thermal_rows}
use Rattle.numbering.specs.Layout.{layout_columns, layout_rows, sizes_of, start_in, InBlock}
use Rattle.numbering.specs.Laid.{net_of, Laid}
use Rattle.numbering.specs.Tally.{points_of, tally_of, Located}
use Rattle.numbering.specs.declared.SocWrLayout.{SocWrLayout}
use Rattle.numbering.specs.declared.Place.{Place}
use Rattle.numbering.specs.declared.Tally.TheVariants.{Limited, Piecewise, Segments}
use Rattle.numbering.specs.declared.ColumnName.{ColumnName}
use Rattle.numbering.specs.declared.ColumnName.TheVariants.{CostOf}
use Rattle.numbering.specs.declared.RowName.{RowName}
use Rattle.numbering.specs.declared.RowName.TheVariants.{Segment, Jabr, Thermal}
use Rattle.numbering.proofs.Names.{same_key}
use Rattle.numbering.proofs.Numbers.{column-valid, row-valid}
use Rattle.numbering.proofs.Layouts.{limits_tally, curves_tally, segments_tally, limited-before, piecewise-before}
use Rattle.numbering.proofs.Laid.{limits_are, curves_are, laid-nvar, laid-ncon, laid-column, laid-row, laid-cost, laid-segment, laid-thermal}
use Rattle.numbering.proofs.Entered.{start_is, plain-number, plain-columns, plain_rows, jabr-number, thermal-number}
use Rattle.numbering.proofs.Tables.{cost-length, segment-length, jabr-length, thermal-length, columns-end, rows_end, laid-column-block, laid-row-block}

-- a record has w points where the test holds, and none where it does not
pub bit_true : (p w : ℕ) (t : Bool) → p < w * bit t → t ≡ true
bit_true p w true h = refl
bit_true p w false h = absurd (omega arith)

module _ (l : SocWrLayout) (b : List ℕ) (h : Laid l b) where
  abbrev G : AcNetwork Float
  G = net_of l b

  pub column-total : (p : ℕ) → p < nvar G → p < start_in (sizes_of (layout_columns l)) (length (sizes_of (layout_columns l)))
  column-total p k = omega (arith, columns-end l, laid-nvar l b h)

  pub row-total : (p : ℕ) → p < ncon G → p < start_in (sizes_of (layout_rows l)) (length (sizes_of (layout_rows l)))
  row-total p k = omega (arith, rows_end l, laid-ncon l b h)

  -- ---- a point of the columns in its block
  module _ (p : ℕ) (q : Place) (r : InBlock (sizes_of (layout_columns l)) p q) where
    -- the layout's number of this place is p
    column-there : q.item < column_many → number_of (layout_columns l) (key q.item q.at 0) ≡ p
    column-there k =
        omega (arith, plain-number (layout_columns l) column_many (plain-columns l) q.item q.at k, start_is (layout_columns l) q.item, r.number)

    pub plain-column-stands : q.item < cost_columns → (x : ColumnName) → SameKey (column_key x) (key q.item q.at 0) → ColumnStands G p x
    plain-column-stands k x s =
        let e = same_key s in
        let here = laid-column-block l b h q.item k in
        let counted : column_counted x ≡ true = rw (ne_eqb (column_key x).block cost_columns (λ z. omega (arith, s.block))) in
        record {
          valid = rw e (record { item = rw here r.inside; place = rw here (omega arith) });
          number = sym (laid-column l b h x counted) ∙ ap (number_of (layout_columns l)) e ∙ column-there (omega arith);
        }

    pub cost-inside : q.item ≡ cost_columns → q.at < tally_of Piecewise b (l.n + l.m) l.k
    cost-inside e =
        let i : q.at < get_or (sizes_of (layout_columns l)) cost_columns 0 = rw e at r.inside in
        omega (arith, cost-length l, curves_are l b h, curves_tally l.n l.m l.k l.s b)

    pub cost-stands : q.item ≡ cost_columns → (g : Place) → Located Piecewise b (l.n + l.m) l.k q.at g → ColumnStands G p (CostOf g.item)
    unfolding points_of
    cost-stands e g f =
        let one = bit_le (G.piecewise g.item) in
        let n : count g.item G.piecewise ≡ q.at = omega (arith, f.number, f.inside, piecewise-before l.n l.m l.k l.s b g.item) in
        record {
          valid = column-valid G (CostOf g.item) (f.below, bit_true g.at 1 (G.piecewise g.item) (omega (arith, f.inside)));
          number = sym (laid-cost l b h g.item) ∙ rw n (rw e at (column-there (omega arith)));
        }

  -- ---- a point of the rows in its block
  module _ (p : ℕ) (q : Place) (r : InBlock (sizes_of (layout_rows l)) p q) where
    row-there : q.item < jabr_rows → number_of (layout_rows l) (key q.item q.at 0) ≡ p
    row-there k =
        omega (arith, plain-number (layout_rows l) jabr_rows (plain_rows l) q.item q.at k, start_is (layout_rows l) q.item, r.number)

    inside : (j : ℕ) → q.item ≡ j → q.at < get_or (sizes_of (layout_rows l)) j 0
    inside j e = rw e at r.inside

    -- in the blocks of several rows to a branch
    place-there : (j : ℕ) → q.item ≡ j → before (layout_rows l) j + q.at ≡ p
    place-there j e =
        let n : start_in (sizes_of (layout_rows l)) j + q.at ≡ p = rw e at r.number in
        omega (arith, start_is (layout_rows l) j)

    pub plain-row-stands : q.item < cost_rows → (x : RowName) → SameKey (row_key x) (key q.item q.at 0) → RowStands G p x
    plain-row-stands k x s =
        let e = same_key s in
        let here = laid-row-block l b h q.item k in
        let counted : row_counted x ≡ true =
        rw (ne_eqb (row_key x).block cost_rows (λ z. omega (arith, s.block)), ne_eqb (row_key x).block thermal_rows (λ z. omega (arith, s.block))) in
        record {
          valid = rw e (record { item = rw here r.inside; place = rw here (omega arith) });
          number = sym (laid-row l b h x counted) ∙ ap (number_of (layout_rows l)) e ∙ row-there (omega arith);
        }

    pub segment_in : q.item ≡ cost_rows → q.at < tally_of Segments b (l.n + l.m) l.k
    segment_in e =
        omega (arith, inside cost_rows e, segment-length l, h.accepted.counts-add, segments_tally l.n l.m l.k l.s b l.k)

    pub segment-stands : q.item ≡ cost_rows → (g : Place) → Located Segments b (l.n + l.m) l.k q.at g → RowStands G p (Segment g.item g.at)
    unfolding points_of
    segment-stands e g f =
        let n = rw (segments_tally l.n l.m l.k l.s b g.item) at f.number in
        record {
          valid = row-valid G (Segment g.item g.at) (f.below, f.inside);
          number = sym (laid-segment l b h g.item g.at) ∙ rw n (rw e at (row-there (omega arith)));
        }

    pub jabr-stands : q.item ≡ jabr_rows → RowStands G p (Jabr (q.at / 4) (q.at % 4))
    jabr-stands e =
        record {
          valid = row-valid G (Jabr (q.at / 4) (q.at % 4)) (omega (arith, inside jabr_rows e, jabr-length l), omega arith);
          number = omega (arith, laid-row l b h (Jabr (q.at / 4) (q.at % 4)) refl, jabr-number l (q.at / 4) (q.at % 4), place-there jabr_rows e);
        }

    pub thermal_in_lem : q.item ≡ thermal_rows → q.at / 6 < tally_of Limited b l.n l.m
    thermal_in_lem e =
        omega (arith, inside thermal_rows e, thermal-length l, limits_are l b h, limits_tally l.n l.m l.k l.s b)

    pub thermal-stands : q.item ≡ thermal_rows → (e : Place) → Located Limited b l.n l.m (q.at / 6) e
        → RowStands G p (Thermal e.item (q.at % 6))
    unfolding points_of
    thermal-stands i e f =
        let one = bit_le (G.limited e.item) in
        let n : count e.item G.limited ≡ q.at / 6 = omega (arith, f.number, f.inside, limited-before l.n l.m l.k l.s b e.item) in
        let z = rw n at (laid-thermal l b h e.item (q.at % 6)) in
        record {
          valid = row-valid G (Thermal e.item (q.at % 6)) (f.below, bit_true e.at 1 (G.limited e.item) (omega (arith, f.inside)), omega arith);
          number = omega (arith, z, thermal-number l (q.at / 6) (q.at % 6), place-there thermal_rows i);
        }
