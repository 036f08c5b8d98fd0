-- b is the runs in which the code writes it. Each run is a window of b, since a row's number is its block's first row and its place behind it; and every
-- row, by its name, is in its block's run. So no block's neighbours are spoken of. Assumes nothing.
use Rattle.std.specs.Float.Ieee.{neg}
use Rattle.std.proofs.Common.{ℕ, ◌+◌, ◌*◌, ◌/◌, ◌%◌, ◌≤◌, ◌<◌, ◌≡◌, refl, sym, ap, ◌∙◌, Bool, true, false, inl, List, [], ◌∷◌, ◌++◌, add_assoc, mod-lt}
use Rattle.std.proofs.Common.{div-add-mod', arith, length, Float}
use Rattle.lists.specs.UpTo.{up_to, each, listed, overlay, when, bit, sum}
use Rattle.lists.proofs.Each.{each_ext, each-sums}
use Rattle.lists.proofs.Sums.{sum-mul, sum_room}
use Rattle.records.specs.AcNetwork.{AcNetwork}
use Rattle.records.specs.Fields.{intercept_of}
use Rattle.records.proofs.Segments.{segment_record_lem}
use Rattle.numbering.specs.Numbering.{ncon, row_number, row_at}
use Rattle.numbering.specs.Layout.{layout_row, ncon_of}
use Rattle.numbering.specs.Laid.{net_of, Laid}
use Rattle.numbering.specs.declared.SocWrLayout.{SocWrLayout}
use Rattle.numbering.specs.declared.RowName.{RowName}
use Rattle.numbering.specs.declared.RowName.TheVariants.{Pbal, Qbal, OhmPf, OhmQf, OhmPt, OhmQt, Wub, Wlb, Pgub, Pglb, Qgub, Qglb, Angub, Anglb, Segment, Jabr, Thermal}
use Rattle.numbering.proofs.Numbers.{HasRow, row_number_lem, layout_row_lem, layout-ncon}
use Rattle.numbering.proofs.Names.{row-stands}
use Rattle.numbering.proofs.EveryPoint.{has-row, row-placed, several}
use Rattle.numbering.proofs.Laid.{limits_are, laid-ncon}
use Rattle.rows.specs.Rows.{b, zero64}
use Rattle.matrix.specs.Lists.{right_side}
use Rattle.lists.proofs.Listed.{listed-length}
use Rattle.cells.specs.Runs.{Run, RunsOver}
use Rattle.sides.specs.Sides.{side_at, block_run, zero_run, rating_sides, ratings_at, ohm_runs, bus_runs, generator_runs, segment_run, jabr_run, thermal_run, branch_runs}
use Rattle.sides.proofs.Ratings.{ratings_length}
use Rattle.cells.proofs.Runs.{Windows, none, more, Among, among, Covered, runs_front}

module _ (l : SocWrLayout) (bytes : List ℕ) (laid : Laid l bytes) where
  abbrev G : AcNetwork Float
  G = net_of l bytes

  -- b by number, and at the number of a name
  abbrev side : ℕ → Float
  side r = b G (row_at G r)

  side-at : (p : ℕ) (x : RowName) → HasRow G x → p ≡ row_number G x → side p ≡ b G x
  side-at p x h e = ap side e ∙ ap (b G) (row-placed G x h)

  -- ---- windows of b

  -- a block with one row for each record: where its rows are, and that it ends among all rows
  pub record Placed (n : ℕ) (row : ℕ → RowName) : Type 0 where
    pub has : (i : ℕ) → i < n → HasRow G (row i)
    pub at : (i : ℕ) → layout_row l (row 0) + i ≡ row_number G (row i)
    pub end : layout_row l (row 0) + n ≤ ncon G

  plain : {n : ℕ} {row : ℕ → RowName} {rs : List Run} → Placed n row → Windows side (ncon G) rs → Windows side (ncon G) (block_run l bytes n row ∷ rs)
  unfolding block_run side_at
  plain {n} {row} p rest = more n (each_ext _ _ n (λ i h. ap (λ (v : Float). v ∷ []) (sym (side-at _ (row i) (p.has i h) (p.at i))))) p.end rest

  zeros : {n : ℕ} (x : RowName) {rs : List Run} → ((j : ℕ) → j < n → side (layout_row l x + j) ≡ zero64) → layout_row l x + n ≤ ncon G
      → Windows side (ncon G) rs → Windows side (ncon G) (zero_run l n x ∷ rs)
  unfolding zero_run
  zeros {n} x z e rest = more n (each_ext _ _ n (λ j h. ap (λ (v : Float). v ∷ []) (sym (z j h)))) e rest

  -- the rows of all records of a block, c i of record i
  by_record : (n : ℕ) (c : ℕ → ℕ) (row : ℕ → ℕ → RowName) (p : ℕ) → ((i q : ℕ) → i < n → q < c i → HasRow G (row i q)) → ((i q : ℕ) → p + (sum i c + q) ≡ row_number G (row i q))
      → each n (λ i. each (c i) (λ q. b G (row i q) ∷ [])) ≡ listed (sum n c) (λ j. side (p + j))
  by_record n c row p has at =
      each_ext _ _ n (λ i h. each_ext _ _ (c i) (λ q o. ap (λ (v : Float). v ∷ []) (sym (side-at (p + (sum i c + q)) (row i q) (has i q h o) (at i q)))))
      ∙ sym (each-sums c (λ j. side (p + j) ∷ []) n)

  -- ---- where the blocks are
  pub pbal : Placed l.n Pbal
  pbal = record { has = λ i h. h; at = λ i. omega (arith, layout_row_lem l (Pbal 0), row_number_lem G (Pbal i)); end = omega (arith, layout_row_lem l (Pbal 0), layout-ncon l, laid-ncon l bytes laid) }

  pub qbal : Placed l.n Qbal
  qbal = record { has = λ i h. h; at = λ i. omega (arith, layout_row_lem l (Qbal 0), row_number_lem G (Qbal i)); end = omega (arith, layout_row_lem l (Qbal 0), layout-ncon l, laid-ncon l bytes laid) }

  pub wub : Placed l.n Wub
  wub = record { has = λ i h. h; at = λ i. omega (arith, layout_row_lem l (Wub 0), row_number_lem G (Wub i)); end = omega (arith, layout_row_lem l (Wub 0), layout-ncon l, laid-ncon l bytes laid) }

  pub wlb : Placed l.n Wlb
  wlb = record { has = λ i h. h; at = λ i. omega (arith, layout_row_lem l (Wlb 0), row_number_lem G (Wlb i)); end = omega (arith, layout_row_lem l (Wlb 0), layout-ncon l, laid-ncon l bytes laid) }

  pub ohm-pf : Placed l.m OhmPf
  ohm-pf =
      record { has = λ e h. h; at = λ e. omega (arith, layout_row_lem l (OhmPf 0), row_number_lem G (OhmPf e)); end = omega (arith, layout_row_lem l (OhmPf 0), layout-ncon l, laid-ncon l bytes laid) }

  pub ohm-qf : Placed l.m OhmQf
  ohm-qf =
      record { has = λ e h. h; at = λ e. omega (arith, layout_row_lem l (OhmQf 0), row_number_lem G (OhmQf e)); end = omega (arith, layout_row_lem l (OhmQf 0), layout-ncon l, laid-ncon l bytes laid) }

  pub ohm-pt : Placed l.m OhmPt
  ohm-pt =
      record { has = λ e h. h; at = λ e. omega (arith, layout_row_lem l (OhmPt 0), row_number_lem G (OhmPt e)); end = omega (arith, layout_row_lem l (OhmPt 0), layout-ncon l, laid-ncon l bytes laid) }

  pub ohm-qt : Placed l.m OhmQt
  ohm-qt =
      record { has = λ e h. h; at = λ e. omega (arith, layout_row_lem l (OhmQt 0), row_number_lem G (OhmQt e)); end = omega (arith, layout_row_lem l (OhmQt 0), layout-ncon l, laid-ncon l bytes laid) }

  pub pgub : Placed l.k Pgub
  pgub = record { has = λ g h. h; at = λ g. omega (arith, layout_row_lem l (Pgub 0), row_number_lem G (Pgub g)); end = omega (arith, layout_row_lem l (Pgub 0), layout-ncon l, laid-ncon l bytes laid) }

  pub pglb : Placed l.k Pglb
  pglb = record { has = λ g h. h; at = λ g. omega (arith, layout_row_lem l (Pglb 0), row_number_lem G (Pglb g)); end = omega (arith, layout_row_lem l (Pglb 0), layout-ncon l, laid-ncon l bytes laid) }

  pub qgub : Placed l.k Qgub
  qgub = record { has = λ g h. h; at = λ g. omega (arith, layout_row_lem l (Qgub 0), row_number_lem G (Qgub g)); end = omega (arith, layout_row_lem l (Qgub 0), layout-ncon l, laid-ncon l bytes laid) }

  pub qglb : Placed l.k Qglb
  qglb = record { has = λ g h. h; at = λ g. omega (arith, layout_row_lem l (Qglb 0), row_number_lem G (Qglb g)); end = omega (arith, layout_row_lem l (Qglb 0), layout-ncon l, laid-ncon l bytes laid) }

  pub angub : Placed l.m Angub
  angub =
      record { has = λ e h. h; at = λ e. omega (arith, layout_row_lem l (Angub 0), row_number_lem G (Angub e)); end = omega (arith, layout_row_lem l (Angub 0), layout-ncon l, laid-ncon l bytes laid) }

  pub anglb : Placed l.m Anglb
  anglb =
      record { has = λ e h. h; at = λ e. omega (arith, layout_row_lem l (Anglb 0), row_number_lem G (Anglb e)); end = omega (arith, layout_row_lem l (Anglb 0), layout-ncon l, laid-ncon l bytes laid) }

  ohms : {row : ℕ → RowName} {rs : List Run} → Placed l.m row → ((e : ℕ) → b G (row e) ≡ zero64) → Windows side (ncon G) rs → Windows side (ncon G) (zero_run l l.m (row 0) ∷ rs)
  ohms {row} p z rest = zeros (row 0) (λ e h. side-at _ (row e) (p.has e h) (p.at e) ∙ z e) p.end rest

  -- row j of the cones of four is row j % 4 of branch j / 4
  jabr-zero : (j : ℕ) → j < 4 * l.m → side (layout_row l (Jabr 0 0) + j) ≡ zero64
  unfolding b
  jabr-zero j h =
      let e = div-add-mod' j 4 in
      let q : j % 4 < 4 = mod-lt j (omega arith) in
      side-at _ (Jabr (j / 4) (j % 4)) (omega arith, q)
      (omega (arith, layout_row_lem l (Jabr 0 0), row_number_lem G (Jabr (j / 4) (j % 4)), laid.accepted.counts-add))

  -- a generator's segments by their records
  intercepts : each l.k (λ g. each (G.segments g) (λ t. b G (Segment g t) ∷ [])) ≡ listed l.s (λ r. neg (intercept_of bytes (l.n + l.m + l.k + r)))
  unfolding b
  intercepts =
      each_ext _ (λ g. each (G.segments g) (λ t. h (sum g G.segments + t))) l.k
      (λ g m. each_ext _ (λ t. h (sum g G.segments + t)) (G.segments g)
      (λ t o.
      let e = sym (segment_record_lem l.n l.m l.k bytes g t refl) ∙ add_assoc (l.n + l.m + l.k) (sum g G.segments) t in
      ap (λ (r : ℕ). neg (intercept_of bytes r) ∷ []) e))
      ∙ sym (each-sums G.segments h l.k)
      ∙ ap (λ (n : ℕ). each n h) laid.accepted.counts-add
    where
      h : ℕ → List Float
      h r = neg (intercept_of bytes (l.n + l.m + l.k + r)) ∷ []

  segment-values : listed l.s (λ r. neg (intercept_of bytes (l.n + l.m + l.k + r))) ≡ listed l.s (λ j. side (layout_row l (Segment 0 0) + j))
  segment-values =
      sym intercepts
      ∙ by_record l.k G.segments Segment (layout_row l (Segment 0 0)) (λ g t h o. (h, o)) (λ g t. omega (arith, layout_row_lem l (Segment 0 0), row_number_lem G (Segment g t)))
      ∙ ap (λ (n : ℕ). listed n (λ j. side (layout_row l (Segment 0 0) + j))) laid.accepted.counts-add

  -- six rows of a limited branch, none of another
  rating_rows : (e : ℕ) → each (6 * bit (G.limited e)) (λ q. b G (Thermal e q) ∷ []) ≡ ratings_at l bytes e
  unfolding ratings_at b up_to rating_sides
  rating_rows e = go (G.limited e)
    where
      go : (on : Bool) → each (6 * bit on) (λ q. b G (Thermal e q) ∷ []) ≡ when on (rating_sides (G.rate_a e))
      go true = refl
      go false = refl

  thermal-values : each l.m (ratings_at l bytes) ≡ listed (6 * l.t) (λ j. side (layout_row l (Thermal 0 0) + j))
  thermal-values =
      each_ext _ _ l.m (λ e h. sym (rating_rows e))
      ∙ by_record l.m (λ e. 6 * bit (G.limited e)) Thermal (layout_row l (Thermal 0 0)) (λ e q h o. let s = several (G.limited e) 6 q o in (h, s.0, s.1))
      (λ e q. omega (arith, layout_row_lem l (Thermal 0 0), row_number_lem G (Thermal e q), laid.accepted.counts-add, sum-mul e 6 (λ i. bit (G.limited i))))
      ∙ ap (λ (n : ℕ). listed n (λ j. side (layout_row l (Thermal 0 0) + j))) (sum-mul l.m 6 (λ e. bit (G.limited e)) ∙ rw (limits_are l bytes laid))

  -- ---- all of b
  abbrev pub side_runs : List Run
  side_runs = bus_runs l bytes ++ ohm_runs l ++ generator_runs l bytes ++ (segment_run l bytes ∷ []) ++ (jabr_run l ∷ []) ++ branch_runs l bytes

  windows : Windows side (ncon G) side_runs
  unfolding b segment_run thermal_run
  windows =
      let rows = laid-ncon l bytes laid in
      let last = layout-ncon l in
      plain pbal (plain qbal (plain wub (plain wlb
      (ohms ohm-pf (λ e. refl) (ohms ohm-qf (λ e. refl) (ohms ohm-pt (λ e. refl) (ohms ohm-qt (λ e. refl)
      (plain pgub (plain pglb (plain qgub (plain qglb
      (more l.s segment-values (omega (arith, layout_row_lem l (Segment 0 0)))
      (zeros (Jabr 0 0) jabr-zero (omega (arith, layout_row_lem l (Jabr 0 0)))
      (plain angub (plain anglb
      (more (6 * l.t) thermal-values (omega (arith, layout_row_lem l (Thermal 0 0)))
      none))))))))))))))))

  -- in a block with one row for each record
  in_block : {n : ℕ} {row : ℕ → RowName} → Placed n row → (i : ℕ) → i < n → Among (block_run l bytes n row) side_runs → Covered (row_number G (row i)) side_runs
  unfolding block_run
  in_block {n} {row} p i h there =
      let long = listed-length (side_at l bytes row) n in
      record { which = block_run l bytes n row; there = there; from = omega (arith, p.at i); to = omega (arith, p.at i) }

  in_zeros : {n : ℕ} {row : ℕ → RowName} → Placed n row → (i : ℕ) → i < n → Among (zero_run l n (row 0)) side_runs → Covered (row_number G (row i)) side_runs
  unfolding zero_run
  in_zeros {n} {row} p i h there =
      let long = listed-length (λ j. zero64) n in
      record { which = zero_run l n (row 0); there = there; from = omega (arith, p.at i); to = omega (arith, p.at i) }

  in_segments : (g t : ℕ) → HasRow G (Segment g t) → Covered (row_number G (Segment g t)) side_runs
  unfolding segment_run
  in_segments g t h =
      let at = row_number_lem G (Segment g t) in
      let first = layout_row_lem l (Segment 0 0) in
      let own = sum_room g l.k G.segments h.0 in
      let all = laid.accepted.counts-add in
      let long = listed-length (λ r. neg (intercept_of bytes (l.n + l.m + l.k + r))) l.s in
      record { which = segment_run l bytes; there = search among depth 30; from = omega arith; to = omega arith }

  in_jabr : (e q : ℕ) → HasRow G (Jabr e q) → Covered (row_number G (Jabr e q)) side_runs
  unfolding zero_run
  in_jabr e q h =
      let at = row_number_lem G (Jabr e q) in
      let first = layout_row_lem l (Jabr 0 0) in
      let all = laid.accepted.counts-add in
      let long = listed-length (λ j. zero64) (4 * l.m) in
      record { which = jabr_run l; there = search among depth 30; from = omega arith; to = omega arith }

  in_thermal : (e q : ℕ) → HasRow G (Thermal e q) → Covered (row_number G (Thermal e q)) side_runs
  unfolding thermal_run
  in_thermal e q h =
      let at = row_number_lem G (Thermal e q) in
      let first = layout_row_lem l (Thermal 0 0) in
      let own = sum_room e l.m (λ i. bit (G.limited i)) h.0 in
      let on = ap bit h.1 in
      let all = laid.accepted.counts-add in
      let limited = limits_are l bytes laid in
      let long = ratings_length l bytes laid in
      record { which = thermal_run l bytes; there = search among depth 30; from = omega arith; to = omega arith }

  covered : (x : RowName) → HasRow G x → Covered (row_number G x) side_runs
  covered (Pbal i) h = in_block pbal i h (search among depth 30)
  covered (Qbal i) h = in_block qbal i h (search among depth 30)
  covered (OhmPf e) h = in_zeros ohm-pf e h (search among depth 30)
  covered (OhmQf e) h = in_zeros ohm-qf e h (search among depth 30)
  covered (OhmPt e) h = in_zeros ohm-pt e h (search among depth 30)
  covered (OhmQt e) h = in_zeros ohm-qt e h (search among depth 30)
  covered (Wub i) h = in_block wub i h (search among depth 30)
  covered (Wlb i) h = in_block wlb i h (search among depth 30)
  covered (Pgub g) h = in_block pgub g h (search among depth 30)
  covered (Pglb g) h = in_block pglb g h (search among depth 30)
  covered (Qgub g) h = in_block qgub g h (search among depth 30)
  covered (Qglb g) h = in_block qglb g h (search among depth 30)
  covered (Angub e) h = in_block angub e h (search among depth 30)
  covered (Anglb e) h = in_block anglb e h (search among depth 30)
  covered (Segment g t) h = in_segments g t h
  covered (Jabr e q) h = in_jabr e q h
  covered (Thermal e q) h = in_thermal e q h

  -- as many as the layout says
  pub right-length : length (right_side G) ≡ ncon_of l
  unfolding right_side
  right-length = listed-length _ _ ∙ sym (laid-ncon l bytes laid)

  -- whatever the order in which the runs are written
  pub right_runs : (o : List Float) {o' : List Float} → ncon_of l ≤ length o → RunsOver side_runs o o' → o' ≡ overlay (right_side G) o
  unfolding right_side
  right_runs o room f =
      runs_front side (ncon G) zero64 o windows (omega (arith, laid-ncon l bytes laid)) refl
      (λ r h. let s = row-stands G r h in inl (rw s.number at (covered (row_at G r) (has-row G (row_at G r) s.valid))))
      (λ i h. refl) f
