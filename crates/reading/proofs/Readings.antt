-- Laws of the checks and of the lists that are read. Assumes nothing.
use Rattle.std.specs.Float.{nan}
use Rattle.std.specs.Float.Ieee.{neg}
use Rattle.std.proofs.Common.{Result, Err, Some, None, Bool, true, false, cond, ℕ, ◌+◌, ◌≤◌, ◌≡◌, refl, sym, ◌∙◌, ap, ap₂, List, [], ◌∷◌, ◌++◌, arith, length}
use Rattle.std.proofs.Common.{take, drop, get_or, length-take, length-drop, ext_get_or, get_or-take, get_or-drop, Float}
use Rattle.std.specs.Option.{ok_or}
use Rattle.lists.specs.UpTo.{listed, overlay}
use Rattle.lists.proofs.Each.{each_ext}
use Rattle.lists.proofs.Listed.{listed-length, listed_at}
use Rattle.refusals.specs.Refusals.{Checked, passed, ◌or_else◌, refuse_unless, answer_if, left_in}
use Rattle.refusals.specs.declared.Refusal.{Refusal}
use Rattle.refusals.proofs.Laws.{or_else_accepted, has_room, left-written}
use Rattle.numbering.specs.Numbering.{column_number, row_number}
use Rattle.numbering.specs.Layout.{layout_column, layout_row, nvar_of, ncon_of}
use Rattle.numbering.specs.Laid.{net_of}
use Rattle.numbering.specs.Network.{grid}
use Rattle.numbering.specs.declared.network.Network.{Network}
use Rattle.numbering.specs.declared.SocWrLayout.{SocWrLayout}
use Rattle.numbering.specs.declared.ColumnName.TheVariants.{Qg, W, Wr, Wi, Pf, Pt, Qf, Qt}
use Rattle.numbering.specs.declared.RowName.TheVariants.{Pbal, Qbal}
use Rattle.numbering.proofs.Laid.{laid-nvar, laid-ncon, laid-row, pg_follows, pg_fits}
use Rattle.numbering.proofs.Numbers.{column-number, layout-column, layout_row_lem, layout-nvar}
use Rattle.solution.proofs.Lengths.{x_long, z_long}
use Rattle.reading.specs.Reading.{part_column, part_count, part_list, part_if, part_check, part_of, prices_cause, price_list}
use Rattle.reading.specs.Readable.{Readable}
use Rattle.reading.specs.declared.SolutionList.{SolutionList}
use Rattle.reading.proofs.Halves.{negated}

-- ---- a part of x
-- count values from the start on
values : (x : List Float) (at count : ℕ) → at + count ≤ length x → take count (drop at x) ≡ listed count (λ i. get_or x (at + i) nan)
values x at count h =
    let l : length (take count (drop at x)) ≡ count = simp (length-take, length-drop) (omega arith) in
    ext_get_or nan _ _ (l ∙ sym (listed-length _ count))
    (λ i b. get_or-take count (drop at x) i nan (omega arith) ∙ get_or-drop at x i nan ∙ sym (listed_at (λ i. get_or x (at + i) nan) count i nan (omega arith)))

-- a list starts at its first column, and its columns follow each other
module _ (l : SocWrLayout) (b : List ℕ) where
  abbrev start : SolutionList → ℕ
  start p = layout_column l (part_column p 0)

  pub in_order : (p : SolutionList) (i : ℕ) → start p + i ≡ column_number (net_of l b) (part_column p i)
  in_order SolutionList.Pg i = pg_follows l b i
  in_order SolutionList.Qg i = omega (arith, layout-column l (Qg 0), column-number (net_of l b) (Qg i))
  in_order SolutionList.W i = omega (arith, layout-column l (W 0), column-number (net_of l b) (W i))
  in_order SolutionList.Wr i = omega (arith, layout-column l (Wr 0), column-number (net_of l b) (Wr i))
  in_order SolutionList.Wi i = omega (arith, layout-column l (Wi 0), column-number (net_of l b) (Wi i))
  in_order SolutionList.Pf i = omega (arith, layout-column l (Pf 0), column-number (net_of l b) (Pf i))
  in_order SolutionList.Pt i = omega (arith, layout-column l (Pt 0), column-number (net_of l b) (Pt i))
  in_order SolutionList.Qf i = omega (arith, layout-column l (Qf 0), column-number (net_of l b) (Qf i))
  in_order SolutionList.Qt i = omega (arith, layout-column l (Qt 0), column-number (net_of l b) (Qt i))

  pub part-fits : (p : SolutionList) → start p + part_count l.n l.m l.k p ≤ nvar_of l
  part-fits SolutionList.Pg = pg_fits l
  part-fits SolutionList.Qg = omega (arith, layout-column l (Qg 0), layout-nvar l)
  part-fits SolutionList.W = omega (arith, layout-column l (W 0), layout-nvar l)
  part-fits SolutionList.Wr = omega (arith, layout-column l (Wr 0), layout-nvar l)
  part-fits SolutionList.Wi = omega (arith, layout-column l (Wi 0), layout-nvar l)
  part-fits SolutionList.Pf = omega (arith, layout-column l (Pf 0), layout-nvar l)
  part-fits SolutionList.Pt = omega (arith, layout-column l (Pt 0), layout-nvar l)
  part-fits SolutionList.Qf = omega (arith, layout-column l (Qf 0), layout-nvar l)
  part-fits SolutionList.Qt = omega (arith, layout-column l (Qt 0), layout-nvar l)

  part-is : (x : List Float) (p : SolutionList) → length x ≡ nvar_of l
      → take (part_count l.n l.m l.k p) (drop (start p) x) ≡ part_list (net_of l b) x p
  unfolding part_list
  part-is x p h =
      values x (start p) _ (omega (arith, part-fits p))
      ∙ each_ext (λ i. get_or x (start p + i) nan ∷ []) (λ i. get_or x (column_number (net_of l b) (part_column p i)) nan ∷ []) _ (λ i b. rw (in_order p i))

module _ (n m k s : ℕ) (b : List ℕ) (x : List Float) where
  -- a check that did not refuse: x has the length of the layout's columns
  pub part-long : {w : Network} → Readable n m k s b x w → length x ≡ nvar_of w.layout
  unfolding part_check
  part-long {w} r =
      let o = r.opened in
      x_long _ _ (or_else_accepted _ _ r.checked).1 ∙ rw (laid-nvar w.layout w.bytes.now w.laid, o.layout, o.bytes)

  -- read, and refused
  pub part-read : {w : Network} → Readable n m k s b x w → (p : SolutionList) {at count : ℕ}
      → at ≡ layout_column w.layout (part_column p 0) → count ≡ part_count w.layout.n w.layout.m w.layout.k p → take count (drop at x) ≡ part_of n m k s b x p
  unfolding part_of part_if
  part-read {w} r p {at} {count} g c =
      let o = r.opened in
      let q : take count (drop at x) ≡ part_list (grid w) x p = rw (g, c) (part-is w.layout w.bytes.now x p (part-long r)) in
      rw r.checked (rw (o.layout, o.bytes) at q)

  pub part-refused : {cause : Refusal} → part_check n m k s b x ≡ Err cause → (p : SolutionList) → ◌≡◌ {A = List Float} [] (part_of n m k s b x p)
  unfolding part_of part_if
  part-refused h p = rw h refl

-- ---- the prices: z is as long as the layout's rows, and there is room
pub prices_went : (w : Network) (zs room : ℕ) → prices_cause (grid w) zs room ≡ passed
    → (zs ≡ ncon_of w.layout) × (w.layout.n + w.layout.n ≤ room)
prices_went w zs room h =
    let p = or_else_accepted _ _ h in
    (z_long (grid w) zs p.0 ∙ sym (laid-ncon w.layout w.bytes.now w.laid), has_room _ _ p.1)

pub prices_left : (w : Network) (z ys out : List Float) {c : Checked} {active reactive : ℕ}
    → active ≡ layout_row w.layout (Pbal 0) → reactive ≡ layout_row w.layout (Qbal 0) → c ≡ passed
    → out ≡ overlay (negated z w.layout.n active ++ negated z w.layout.n reactive) ys → out ≡ left_in c (price_list (grid w) z) ys
unfolding price_list
prices_left w z ys out {active = active} {reactive} a r e written =
    written
    ∙ ap (λ (xs : List Float). overlay xs ys)
    (ap₂ ◌++◌ (each_ext _ _ w.layout.n (λ i t. same (active + i) _ (pbal i))) (each_ext _ _ w.layout.n (λ i t. same (reactive + i) _ (qbal i))))
    ∙ sym (left-written _ ys e)
  where
    same : (i j : ℕ) → i ≡ j → ◌≡◌ {A = List Float} (neg (get_or z i nan) ∷ []) (neg (get_or z j nan) ∷ [])
    same i j e = rw e

    pbal : (i : ℕ) → active + i ≡ row_number (grid w) (Pbal i)
    pbal i = omega (arith, a, layout_row_lem w.layout (Pbal 0), layout_row_lem w.layout (Pbal i), laid-row w.layout w.bytes.now w.laid (Pbal i) refl)

    qbal : (i : ℕ) → reactive + i ≡ row_number (grid w) (Qbal i)
    qbal i = omega (arith, r, layout_row_lem w.layout (Qbal 0), layout_row_lem w.layout (Qbal i), laid-row w.layout w.bytes.now w.laid (Qbal i) refl)

-- ---- what a code names, or the cause
pub named : {A : Type 0} (t : Bool) (v : A) (cause : Refusal) {r : Result A Refusal} → r ≡ ok_or (cond t (Some v) None) cause → r ≡ answer_if (refuse_unless t cause) v
unfolding refuse_unless ◌or_else◌
named true v cause e = e
named false v cause e = e
