-- Every accepted network is numbered as `Numbered` says. Assumes nothing.
use Rattle.std.proofs.lemmas.Bool.{false≢true, eqb-false, not-true}
use Rattle.refusals.specs.Refusals.{Checked, passed, ◌or_else◌, refuse_unless, answer_if}
use Rattle.refusals.specs.declared.Refusal.TheVariants.{PastEnd}
use Rattle.refusals.proofs.Laws.{held, or_else_passed, answer-held}
use Rattle.std.proofs.Common.{ℕ, ◌*◌, ◌<◌, ◌≡◌, refl, sym, ap, ◌∙◌, Bool, true, false, not, ◌||◌, List, arith, eqb, Float, lt-ltb, eq-eqb, ne_eqb, ltb, Some, Ok}
use native.Mathlib.Decide.{ℕ_discrete}
use Rattle.records.specs.AcNetwork.{AcNetwork}
use Rattle.records.specs.Network.{network_of}
use Rattle.records.specs.Check.{check_of}
use Rattle.records.proofs.Laws.{accepted}
use Rattle.records.proofs.Sound.{Sound, sound}
use Rattle.numbering.specs.Blocks.{Block, records, block_at, Valid, number_of}
use Rattle.numbering.specs.Numbering.{column_key, column_blocks, column_counted, column_number, column_at, nvar, column_many, cost_columns, row_key}
use Rattle.numbering.specs.Numbering.{row_blocks, row_counted, row_number, row_at}
use Rattle.numbering.specs.Numbering.{ncon, row_many, cost_rows, jabr_rows, thermal_rows}
use Rattle.numbering.specs.Layout.{InRange, layout_of, layout_columns, layout_rows}
use Rattle.numbering.specs.Laid.{net_of, Laid}
use Rattle.numbering.specs.Lookups.{in_layout, column_in, row_in}
use Rattle.names.specs.Named.{column_named, row_named}
use Rattle.lookups.specs.Lookups.{Lookup, column_has, column_asked, column_lookup, row_has, row_asked, row_lookup}
use Rattle.lookups.specs.Numbered.{OneColumn, OneRow, Numbered}
use Rattle.numbering.specs.declared.Key.{Key}
use Rattle.numbering.specs.declared.SocWrLayout.{SocWrLayout}
use Rattle.numbering.specs.declared.ColumnName.{ColumnName}
use Rattle.numbering.specs.declared.RowName.{RowName}
use Rattle.numbering.proofs.Points.{among}
use Rattle.numbering.proofs.Names.{column-stands, column-only, row-stands, row-only, cones-add}
use Rattle.numbering.proofs.Entered.{plain_at, plain-columns, plain_rows}
use Rattle.numbering.proofs.Layouts.{range-accepted}
use Rattle.numbering.proofs.Laid.{laid, laid-column, laid-row}
use Rattle.numbering.proofs.Tables.{column-keyed, row-keyed, column-inside, row_inside, columns-many, rows-many, cost-block, segment-block, jabr-block, thermal-block, jabr-layout}
use Rattle.numbering.proofs.Tables.{laid-column-block, laid-row-block}
use Rattle.lookups.proofs.Asked.{ask_found}
use Rattle.names.proofs.Standing.{bit_true}

-- a valid key's record has the block's points
module _ (G : AcNetwork Float) (x : Key) where
  column-has : Valid (column_blocks G) x → column_has G x ≡ true
  column-has v = elim (ℕ_discrete x.block cost_columns) [
    | yes e ↦
        rw (eq-eqb x.block cost_columns e) (bit_true x.place 1 (G.piecewise x.item) (rw (e, cost-block G) at v.place))
    | no e ↦ rw (ne_eqb x.block cost_columns e)
  ]

  row_has_lem : Sound G → Valid (row_blocks G) x → row_has G x ≡ true
  row_has_lem s v = elim (ℕ_discrete x.block cost_rows) [
    | yes e ↦
        let i : x.item < G.k = rw (e, segment-block G) at v.item in
        let h : x.place < 1 * G.segments x.item = rw (e, segment-block G) at v.place in
        rw (eq-eqb x.block cost_rows e) (s.pieces x.item x.place i (omega arith))
    | no e ↦ elim (ℕ_discrete x.block thermal_rows) [
      | yes d ↦
          rw (ne_eqb x.block cost_rows e, eq-eqb x.block thermal_rows d)
          (bit_true x.place 6 (G.limited x.item) (rw (d, thermal-block G) at v.place))
      | no d ↦ rw (ne_eqb x.block cost_rows e, ne_eqb x.block thermal_rows d)
    ]
  ]

  column-answered : Valid (column_blocks G) x → Ok (Some (number_of (column_blocks G) x)) ≡ column_asked G x
  unfolding column_asked
  column-answered v =
      ask_found _ _ x (among (column_blocks G) x.block x.item v.item) v.item (column-has v) v.place

  row-answered : Sound G → Valid (row_blocks G) x → Ok (Some (number_of (row_blocks G) x)) ≡ row_asked G x
  unfolding row_asked
  row-answered s v =
      ask_found _ _ x (among (row_blocks G) x.block x.item v.item) v.item (row_has_lem s v) v.place

-- ---- the layout's methods: where a name's block has the network's records, its number is answered
found_in : (l : SocWrLayout) → InRange l → (bs : List Block) (x : Key) → x.item < records (block_at bs x.block) → in_layout l bs x ≡ Ok (number_of bs x)
unfolding in_layout ◌or_else◌ refuse_unless
found_in l h bs x p = rw (range-accepted l h, lt-ltb _ _ p) refl

-- a name is answered for a number below the end
named : {A : Type 0} {c : Checked} {a : A} (p w : ℕ) → c ≡ passed → p < w → answer_if (c or_else refuse_unless (ltb p w) (PastEnd p)) a ≡ Ok a
named p w ok l = answer-held _ (or_else_passed _ ok ∙ held _ _ (lt-ltb p w l))

abbrev found : ℕ → Lookup
found p = Ok (Some p)

-- a block that is counted is not the cost columns'; nor the segments', nor the thermal rows'
column-plain : (j : ℕ) → j < column_many → not (eqb j cost_columns) ≡ true → j < cost_columns
column-plain j l p = omega (arith, eqb-false j cost_columns (not-true _ p))

neither : (a c : Bool) → a || c ≡ false → (a ≡ false) × (c ≡ false)
neither true c h = absurd (false≢true (sym h))
neither false c h = (refl, h)

row_plain : (j : ℕ) → j < row_many → not (eqb j cost_rows || eqb j thermal_rows) ≡ true → (j ≡ jabr_rows → ⊥) → j < cost_rows
row_plain j l p d =
    let n = neither (eqb j cost_rows) (eqb j thermal_rows) (not-true _ p) in
    omega (arith, eqb-false j cost_rows n.0, eqb-false j thermal_rows n.1, d)

module _ (l : SocWrLayout) (b : List ℕ) (h : Laid l b) where
  abbrev N : AcNetwork Float
  N = net_of l b

  column-by-layout : (x : ColumnName) → column_counted x ≡ true → Valid (column_blocks N) (column_key x) → column_in l x ≡ Ok (column_number N x)
  column-by-layout x p v =
      let k = column_key x in
      let inside : k.block < column_many = omega (arith, among (column_blocks N) k.block k.item v.item, columns-many N) in
      let there = laid-column-block l b h k.block (column-plain k.block inside p) in
      found_in l h.range (layout_columns l) k
      (rw (plain_at (layout_columns l) column_many (plain-columns l) k.block inside) (rw there at v.item))
      ∙ ap Ok (laid-column l b h x p)

  row-by-layout : (x : RowName) → row_counted x ≡ true → Valid (row_blocks N) (row_key x) → row_in l x ≡ Ok (row_number N x)
  row-by-layout x p v =
      let k = row_key x in
      let inside : k.block < row_many = omega (arith, among (row_blocks N) k.block k.item v.item, rows-many N) in
      found_in l h.range (layout_rows l) k
      (elim (ℕ_discrete k.block jabr_rows) [
        | yes e ↦ rw (e, jabr-layout l) (rw (e, jabr-block N) at v.item)
        | no e ↦
            let plain = row_plain k.block inside p e in
            rw (plain_at (layout_rows l) jabr_rows (plain_rows l) k.block (omega arith)) (rw (laid-row-block l b h k.block plain) at v.item)
      ])
      ∙ ap Ok (laid-row l b h x p)

module _ (n m k s : ℕ) (b : List ℕ) (ok : check_of n m k s b ≡ passed) where
  abbrev G : AcNetwork Float
  G = network_of n m k s b

  good : Sound G
  good = sound n m k s b (accepted n m k s b ok)

  asked-column : (x : ColumnName) → Valid (column_blocks G) (column_key x) → column_lookup n m k s b (column_key x) ≡ Ok (Some (column_number G x))
  asked-column x v = or_else_passed _ ok ∙ sym (ap found (column-keyed G x) ∙ column-answered G (column_key x) v)

  asked-row : (x : RowName) → Valid (row_blocks G) (row_key x) → row_lookup n m k s b (row_key x) ≡ Ok (Some (row_number G x))
  asked-row x v = or_else_passed _ ok ∙ sym (ap found (row-keyed G x) ∙ row-answered G (row_key x) good v)

  one-column : (p : ℕ) → p < nvar G → OneColumn n m k s b p
  unfolding column_named
  one-column p l =
      let h = column-stands G p l in
      record {
        name = column_at G p;
        answered = named p (nvar G) ok l;
        stands = h;
        only = column-only G p l;
        asked = asked-column (column_at G p) h.valid ∙ ap found h.number;
      }

  one-row : (p : ℕ) → p < ncon G → OneRow n m k s b p
  unfolding row_named
  one-row p l =
      let h = row-stands G p l in
      record {
        name = row_at G p;
        answered = named p (ncon G) ok l;
        stands = h;
        only = row-only G p l;
        asked = asked-row (row_at G p) h.valid ∙ ap found h.number;
      }

  pub numbered : Numbered n m k s b
  numbered =
      let it = laid n m k s b (accepted n m k s b ok) refl in
      record {
        columns = one-column;
        rows = one-row;
        columns-below = column-inside G;
        columns-asked = asked-column;
        rows-below = row_inside G;
        rows-asked = asked-row;
        columns-by-layout = column-by-layout (layout_of G) b it;
        rows-by-layout = row-by-layout (layout_of G) b it;
        cones-add = cones-add G good.added;
      }
