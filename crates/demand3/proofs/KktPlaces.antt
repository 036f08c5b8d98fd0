-- The places of the KKT entries. Assumes nothing.
use Rattle.std.proofs.Common.{ℕ, ◌+◌, ◌*◌, ◌≤◌, ◌<◌, ◌≡◌, refl, ap, Bool, true, false, cond, ◌⊎◌, inl, inr, ⊎_elim, List, [], ◌∷◌, ◌++◌, map, arith, ltb, Float, ltb-true, ltb-false}
use Rattle.std.specs.Float.{binary64}
use Rattle.std.specs.Float.Ieee.{neg, mul}
use native.Mathlib.Decide.{ℕ_discrete, dec_lt}
use Rattle.lists.specs.UpTo.{each, when, bit}
use Rattle.lists.specs.Entries.{Entry, entry, turned, times}
use Rattle.lists.proofs.Sums.{sum_mono, sum-next}
use Rattle.lists.proofs.Ascending.{Asc, asc_join, times-append, times-turned}
use Rattle.lists.proofs.Zones.{Zone, zone_nil, ◌next◌, zone_fit, zone_each, zone_rows, zone_row}
use Rattle.ring.specs.Ops.{rounded}
use Rattle.records.specs.AcNetwork.{AcNetwork}
use Rattle.numbering.specs.Numbering.{nvar, ncon, n_eq, column_key, column_number, row_number}
use Rattle.numbering.proofs.Numbers.{column-number, numbers, HasColumn, column-below, column-rises, row_below}
use Rattle.rows.specs.Rows.{Coefficient, Constant, constant, constant64, minus_one, minus_half, half, Cell, cell, plain, hits, single, ends, cells, terms}
use Rattle.rows.specs.Rows as Rows
use Rattle.rows.specs.Program.{equalities, inequalities, thermal_from, thermal_to, second_order, every_row, quadratic}
use Rattle.kkt.specs.Kkt.{kkt_row, plain_row, bound_row, cone_block, kkt_of}
use Rattle.demand3.specs.Demand3.{Doubled}
use Rattle.numbering.specs.declared.ColumnName.{ColumnName}
use Rattle.numbering.specs.declared.ColumnName.TheVariants.{Pg, Qg, W, Wr, Wi, Pf, Pt, Qf, Qt, CostOf}
use Rattle.numbering.specs.declared.RowName.{RowName}
use Rattle.numbering.specs.declared.RowName.TheVariants.{Pbal, Qbal, OhmPf, OhmQf, OhmPt, OhmQt, Wub, Wlb, Pgub, Pglb, Qgub, Qglb, Angub, Anglb, Segment, Jabr, Thermal}
use Rattle.records.proofs.Sound.{Sound}
use Rattle.rows.proofs.TermsUp.{Up, none, and, up_from, up-to, up-join, up_one, up-when, up-hits, up-pick, up-entries}
use Rattle.demand3.proofs.KktCones.{cones, jabr-at, asc_nonzero, zone_jabr, zone_three}

module _ (G : AcNetwork Float) (sound : Sound G) where
  -- ---- the rows' cells by ascending column, from the first column to the last
  abbrev Rises : List (Cell Float) → Type 0
  Rises cs = Up G 0 (nvar G) cs

  rises : {lo hi : ℕ} {cs : List (Cell Float)} → hi ≤ nvar G → Up G lo hi cs → Rises cs
  rises h p = up_from 0 (omega arith) (up-to (nvar G) h p)

  -- the cells of a balance row: a generator's column each, the bus's, and a flow's column each at both ends
  module _ (gen from to : ℕ → ColumnName) (v : Coefficient Float) (i : ℕ)
      (gens : (j : ℕ) → column_number G (gen j) ≡ column_number G (gen 0) + j) (froms : (j : ℕ) → column_number G (from j) ≡ column_number G (from 0) + j)
      (tos : (j : ℕ) → column_number G (to j) ≡ column_number G (to 0) + j) (p : column_number G (gen 0) + G.k ≤ column_number G (W i)) (q : column_number G (W i) < column_number G (from 0))
      (r : column_number G (from 0) + G.m ≤ column_number G (to 0)) (t : column_number G (to 0) + G.m ≤ nvar G) where
    up-balance : Rises (hits rounded G G.k G.gen_bus i gen Rows.one ++ (cell (W i) v ∷ []) ++ hits rounded G G.m G.from i from minus_one ++ hits rounded G G.m G.to i to minus_one)
    up-balance =
        rises t
        (up-join
        (up-join
        (up-join (up-hits G.k G.gen_bus i gen Rows.one _ gens) p (up_one (W i) v))
        (omega arith) (up-hits G.m G.from i from minus_one _ froms))
        r (up-hits G.m G.to i to minus_one _ tos))

  up-pbal : (i : ℕ) → i < G.n → Rises (cells rounded G (Pbal i))
  up-pbal i l =
      up-balance Pg Pf Pt (plain (neg (G.gs i))) i (λ j. simp numbers (omega arith)) (λ j. simp numbers (omega arith)) (λ j. simp numbers (omega arith))
      (simp numbers (omega arith)) (simp numbers (omega arith)) (simp numbers (omega arith)) (simp numbers (omega arith))

  up-qbal : (i : ℕ) → i < G.n → Rises (cells rounded G (Qbal i))
  up-qbal i l =
      up-balance Qg Qf Qt (plain (G.bs i)) i (λ j. simp numbers (omega arith)) (λ j. simp numbers (omega arith)) (λ j. simp numbers (omega arith))
      (simp numbers (omega arith)) (simp numbers (omega arith)) (simp numbers (omega arith)) (simp numbers (omega arith))

  module _ (a b : ColumnName) (u v : Coefficient Float) (p : column_number G a < column_number G b) where
    up-two : column_number G b < nvar G → Rises (cell a u ∷ cell b v ∷ [])
    up-two h = rises (omega arith) (up-join (up_one a u) (omega arith) (up_one b v))

  -- an Ohm row: the bus's column, the branch's two products and its flow
  up-ohm : (i e : ℕ) (flow : ColumnName) {t u v x : Coefficient Float} → i < G.n → e < G.m → HasColumn G flow → (column_key (Wi e)).block < (column_key flow).block
      → Rises (cell (W i) t ∷ cell (Wr e) u ∷ cell (Wi e) v ∷ cell flow x ∷ [])
  up-ohm i e flow hi he hf later =
      let last = column-below G flow hf in
      let a = column-rises G (W i) (Wr e) hi he (omega arith) in
      let b = column-rises G (Wr e) (Wi e) he he (omega arith) in
      let c = column-rises G (Wi e) flow he hf later in
      rises (omega arith) (up-join (up_one (W i) _) (omega arith) (up-join (up_one (Wr e) _) (omega arith) (up-join (up_one (Wi e) _) (omega arith) (up_one flow _))))

  up-alone : (c : ColumnName) (v : Constant) → column_number G c < nvar G → Rises (single rounded G c v)
  up-alone c v h = rises (omega arith) (up_one c (constant v))

  up-single : (c : ColumnName) (v : Constant) (b : Bool) → column_number G c < nvar G → Rises (when b (single rounded G c v))
  up-single c v b h = up-when b (omega arith) (up-alone c v h)

  up_ends : (e : ℕ) → e < G.m → (u v : Constant) → Rises (ends rounded G e u v)
  up_ends e he u v = go (ltb (G.from e) (G.to e)) refl
    where
      f : Cell Float
      f = cell (W (G.from e)) (constant u)

      t : Cell Float
      t = cell (W (G.to e)) (constant v)

      go : (x : Bool) → ltb (G.from e) (G.to e) ≡ x → Rises (cond x (f ∷ t ∷ []) (t ∷ f ∷ []))
      go true q =
          up-two (W (G.from e)) (W (G.to e)) (constant u) (constant v)
          (omega (arith, ltb-true (G.from e) (G.to e) q, column-number G (W (G.from e)), column-number G (W (G.to e)))) (column-below G (W (G.to e)) (sound.to_bus e he))
      go false q = elim (ℕ_discrete (G.from e) (G.to e)) [
        | yes d ↦ absurd (sound.apart e he d)
        | no d ↦
            up-two (W (G.to e)) (W (G.from e)) (constant v) (constant u)
            (omega (arith, ltb-false (G.from e) (G.to e) q, column-number G (W (G.from e)), column-number G (W (G.to e)))) (column-below G (W (G.from e)) (sound.from_bus e he))
      ]

  up_angle : (e : ℕ) (u v : Coefficient Float) → e < G.m → Rises (when (G.angled e) (cell (Wr e) u ∷ cell (Wi e) v ∷ []))
  up_angle e u v he = up-when (G.angled e) (omega arith) (up-two (Wr e) (Wi e) _ _ (column-rises G (Wr e) (Wi e) he he (omega arith)) (column-below G (Wi e) he))

  up-jabr : (e l : ℕ) → e < G.m → Rises (cells rounded G (Jabr e l))
  up-jabr e l he =
      up-pick (omega arith)
      (and (up_ends e he minus_half minus_half) (and (up-alone (Wr e) minus_one (column-below G (Wr e) he))
      (and (up-alone (Wi e) minus_one (column-below G (Wi e) he)) (and (up_ends e he minus_half half) none))))
      l

  up-thermal : (e l : ℕ) → e < G.m → Rises (cells rounded G (Thermal e l))
  up-thermal e l he =
      let m : 0 ≤ nvar G = omega arith in
      up-pick m
      (and (Up.stop m) (and (up-alone (Pf e) minus_one (column-below G (Pf e) he)) (and (up-alone (Qf e) minus_one (column-below G (Qf e) he))
      (and (Up.stop m) (and (up-alone (Pt e) minus_one (column-below G (Pt e) he)) (and (up-alone (Qt e) minus_one (column-below G (Qt e) he)) none))))))
      l

  -- ---- the blocks of rows, for rows that keep to their own row
  module _ (r c b w : ℕ) (f : RowName → List Entry) (row : (x : RowName) → row_number G x < cones G → Rises (cells rounded G x) → Zone r c b w (kkt_row G x) (kkt_row G x + 1) (f x)) where
    -- n rows that follow each other, to row e
    block : (name : ℕ → RowName) (n e : ℕ) → ((i : ℕ) → row_number G (name i) ≡ row_number G (name 0) + i) → ((i : ℕ) → i < n → Rises (cells rounded G (name i)))
        → row_number G (name 0) + n ≤ e → e ≤ cones G → Zone r c b w (kkt_row G (name 0)) (nvar G + e) (each n (λ i. f (name i)))
    block name n e num up h top =
        zone_rows (kkt_row G (name 0)) n (nvar G + e) (λ i. f (name i)) (omega arith)
        (λ i l. zone_fit _ _ (omega (arith, num i)) (omega (arith, num i)) (row (name i) (omega (arith, num i)) (up i l)))

    -- the rows of a block of the table, from where those before it end, at row s, to where its own end: whichever blocks stand beside it
    rows : {s : ℕ} (name : ℕ → RowName) (n : ℕ) → ((i : ℕ) → row_number G (name i) ≡ row_number G (name 0) + i) → ((i : ℕ) → i < n → Rises (cells rounded G (name i)))
        → s ≤ row_number G (name 0) → row_number G (name n) ≤ cones G → Zone r c b w (nvar G + s) (kkt_row G (name n)) (each n (λ i. f (name i)))
    rows name n num up h top =
        let end = num n in
        zone_fit _ _ (omega arith) (omega arith) (block name n (row_number G (name n)) num up (omega arith) top)

    zone_equalities : Zone r c b w (nvar G) (nvar G + n_eq G) (equalities G f)
    zone_equalities =
        zone_fit (nvar G) (nvar G + n_eq G) (omega arith) (simp numbers (omega arith))
        (rows {s = 0} Pbal G.n (λ i. simp numbers (omega arith)) up-pbal (omega arith) (simp numbers (omega arith))
        next rows Qbal G.n (λ i. simp numbers (omega arith)) up-qbal (simp numbers (omega arith)) (simp numbers (omega arith))
        next rows OhmPf G.m (λ e. simp numbers (omega arith)) (λ e l. up-ohm (G.from e) e (Pf e) (sound.from_bus e l) l l (omega arith)) (simp numbers (omega arith)) (simp numbers (omega arith))
        next rows OhmQf G.m (λ e. simp numbers (omega arith)) (λ e l. up-ohm (G.from e) e (Qf e) (sound.from_bus e l) l l (omega arith)) (simp numbers (omega arith)) (simp numbers (omega arith))
        next rows OhmPt G.m (λ e. simp numbers (omega arith)) (λ e l. up-ohm (G.to e) e (Pt e) (sound.to_bus e l) l l (omega arith)) (simp numbers (omega arith)) (simp numbers (omega arith))
        next rows OhmQt G.m (λ e. simp numbers (omega arith)) (λ e l. up-ohm (G.to e) e (Qt e) (sound.to_bus e l) l l (omega arith)) (simp numbers (omega arith)) (simp numbers (omega arith)))

    -- the same for the generators' segments
    zone_costs : {s : ℕ} → s ≤ row_number G (Segment 0 0) → Zone r c b w (nvar G + s) (kkt_row G (Segment G.k 0)) (each G.k (λ g. each (G.segments g) (λ t. f (Segment g t))))
    zone_costs h =
        zone_fit _ _ (omega arith) (omega arith)
        (zone_each (λ g. kkt_row G (Segment g 0)) G.k (λ g. each (G.segments g) (λ t. f (Segment g t)))
        (λ g hg. block (Segment g) (G.segments g) (row_number G (Segment (g + 1) 0)) (λ t. simp numbers (omega arith))
        (λ t ht. up-two (Pg g) (CostOf g) _ _ (column-rises G (Pg g) (CostOf g) hg (hg, sound.pieces g t hg ht) (omega arith)) (column-below G (CostOf g) (hg, sound.pieces g t hg ht)))
        (simp numbers (omega (arith, sum-next g G.segments)))
        (simp numbers (omega (arith, sum_mono (g + 1) G.k G.segments (omega arith))))))

    zone_inequalities : Zone r c b w (nvar G + n_eq G) (nvar G + cones G) (inequalities G f)
    zone_inequalities =
        zone_fit (nvar G + n_eq G) (nvar G + cones G) (omega arith) (simp numbers (omega arith))
        (rows {s = n_eq G} Wub G.n (λ i. simp numbers (omega arith)) (λ i l. up-single (W i) Rows.one (G.bounded i) (column-below G (W i) l)) (simp numbers (omega arith)) (simp numbers (omega arith))
        next rows Wlb G.n (λ i. simp numbers (omega arith)) (λ i l. up-single (W i) minus_one (G.bounded i) (column-below G (W i) l)) (simp numbers (omega arith)) (simp numbers (omega arith))
        next rows Pgub G.k (λ i. simp numbers (omega arith)) (λ g l. up-single (Pg g) Rows.one (G.capable g) (column-below G (Pg g) l)) (simp numbers (omega arith)) (simp numbers (omega arith))
        next rows Pglb G.k (λ i. simp numbers (omega arith)) (λ g l. up-single (Pg g) minus_one (G.capable g) (column-below G (Pg g) l)) (simp numbers (omega arith)) (simp numbers (omega arith))
        next rows Qgub G.k (λ i. simp numbers (omega arith)) (λ g l. up-single (Qg g) Rows.one (G.capable g) (column-below G (Qg g) l)) (simp numbers (omega arith)) (simp numbers (omega arith))
        next rows Qglb G.k (λ i. simp numbers (omega arith)) (λ g l. up-single (Qg g) minus_one (G.capable g) (column-below G (Qg g) l)) (simp numbers (omega arith)) (simp numbers (omega arith))
        next rows Angub G.m (λ i. simp numbers (omega arith)) (λ e l. up_angle e _ _ l) (simp numbers (omega arith)) (simp numbers (omega arith))
        next rows Anglb G.m (λ i. simp numbers (omega arith)) (λ e l. up_angle e _ _ l) (simp numbers (omega arith)) (simp numbers (omega arith))
        next zone_costs (simp numbers (omega arith)))

  -- ---- the second-order cones
  abbrev pub dim : ℕ
  dim = nvar G + ncon G

  cones-few : cones G ≤ ncon G
  cones-few = simp numbers (omega arith)

  -- the rows of a limited branch: the first, and each after it
  abbrev first : ℕ → ℕ
  first e = row_number G (Thermal e 0)

  thermal-at : (e q : ℕ) → row_number G (Thermal e q) ≡ first e + q
  thermal-at e q = simp numbers (omega arith)

  -- they end before those of the next branch, and before the last row
  thermal-next : (e : ℕ) → first (e + 1) ≡ first e + 6 * bit (G.limited e)
  thermal-next e = simp numbers (omega (arith, sum-next e (λ i. bit (G.limited i))))

  inside : (e : ℕ) → e < G.m → G.limited e ≡ true → first e + 6 ≤ ncon G
  inside e he q = omega (arith, thermal-at e 5, row_below G (Thermal e 5) (he, q, omega arith))

  module _ (r c b w : ℕ) (h : ℕ → (ℕ → RowName) → List Entry)
      (four : (e : ℕ) → e < G.m → Zone r c b w (nvar G + cones G + 4 * e) (nvar G + cones G + 4 * e + 4) (h 4 (Jabr e)))
      (three_f : (e : ℕ) → e < G.m → G.limited e ≡ true → Zone r c b w (nvar G + first e) (nvar G + first e + 3) (h 3 (thermal_from e)))
      (three_t : (e : ℕ) → e < G.m → G.limited e ≡ true → Zone r c b w (nvar G + (first e + 3)) (nvar G + (first e + 3) + 3) (h 3 (thermal_to e))) where
    thermal : (e : ℕ) → e < G.m → (x : Bool) → G.limited e ≡ x
        → Zone r c b w (nvar G + first e) (nvar G + first (e + 1)) (when x (h 3 (thermal_from e) ++ h 3 (thermal_to e)))
    thermal e he true q =
        let here = ap bit q in
        let after = thermal-next e in
        let both : Zone r c b w (nvar G + first e) (nvar G + first e + 6) (h 3 (thermal_from e) ++ h 3 (thermal_to e)) =
        three_f e he q next zone_fit (nvar G + first e + 3) (nvar G + first e + 6) (omega arith) (omega arith) (three_t e he q) in
        zone_fit _ _ (omega arith) (omega arith) both
    thermal e he false q = zone_nil _ _ (omega (arith, thermal-next e))

    zone_second : Zone r c b w (nvar G + cones G) dim (second_order G h)
    zone_second =
        zone_fit (nvar G + cones G) (nvar G + (cones G + 4 * G.m)) (omega arith) (omega arith)
        (zone_each (λ e. nvar G + cones G + 4 * e) G.m (λ e. h 4 (Jabr e)) (λ e he. zone_fit _ _ (omega arith) (omega arith) (four e he)))
        next zone_fit _ dim (simp numbers (omega arith)) (simp numbers (omega arith))
        (zone_each (λ e. nvar G + first e) G.m (λ e. when (G.limited e) (h 3 (thermal_from e) ++ h 3 (thermal_to e))) (λ e he. thermal e he (G.limited e) refl))

  -- ---- the whole list
  module _ (s z : RowName → Float) (r c : ℕ) where
    plain_row_lem : (ρ κ b : ℕ) → 1 ≤ b → (w : ℕ) → nvar G ≤ w → (x : RowName) → Rises (cells rounded G x) → Zone ρ κ b w (kkt_row G x) (kkt_row G x + 1) (plain_row G x)
    plain_row_lem ρ κ b one w hw x u = zone_row w one hw (up-entries x (kkt_row G x) (λ t. t.coef) u)

    bound-row : (b : ℕ) → 1 ≤ b → (x : RowName) → row_number G x < cones G → Rises (cells rounded G x) → Zone r c b dim (kkt_row G x) (kkt_row G x + 1) (bound_row G s z x)
    bound-row b one x l u =
        let few = cones-few in
        zone_row dim one (omega arith)
        (asc_join (up-entries x (kkt_row G x) (λ t. mul binary64 (neg (z x)) t.coef) u) (omega arith) (alone (kkt_row G x) (s x)))
      where
        alone : (i : ℕ) (v : Float) → Asc i i (i + 1) (entry i i v ∷ [])
        alone i v = let m : i ≤ i = omega arith in let e : i + 1 ≤ i + 1 = omega arith in Asc.more m (Asc.stop e)

    -- the program's rows, at the place turned
    zone_program : Zone c r 1 (nvar G) (nvar G) dim (every_row G (plain_row G))
    zone_program =
        let row : (x : RowName) → Rises (cells rounded G x) → Zone c r 1 (nvar G) (kkt_row G x) (kkt_row G x + 1) (plain_row G x) = plain_row_lem c r 1 (omega arith) (nvar G) (omega arith) in
        zone_equalities c r 1 (nvar G) (plain_row G) (λ x l. row x)
        next zone_inequalities c r 1 (nvar G) (plain_row G) (λ x l. row x)
        next zone_second c r 1 (nvar G) (λ d x. each d (λ l. plain_row G (x l)))
        (λ e he. zone_rows _ 4 _ (λ l. plain_row G (Jabr e l)) (omega arith) (λ l hl. let at = jabr-at G e l in zone_fit _ _ (omega arith) (omega arith) (row (Jabr e l) (up-jabr e l he))))
        (λ e he q. zone_rows _ 3 _ (λ l. plain_row G (thermal_from e l)) (omega arith)
        (λ l hl. let at = thermal-at e l in zone_fit _ _ (omega arith) (omega arith) (row (thermal_from e l) (up-thermal e l he))))
        (λ e he q. zone_rows _ 3 _ (λ l. plain_row G (thermal_to e l)) (omega arith)
        (λ l hl. let at = thermal-at e (3 + l) in zone_fit _ _ (omega arith) (omega arith) (row (thermal_to e l) (up-thermal e (3 + l) he))))

    -- P's entries are on the diagonal, at the pg columns, wherever these stand
    zone_quadratic : Zone r c 1 (nvar G) 0 (nvar G) (quadratic G)
    unfolding quadratic
    zone_quadratic =
        let all : column_number G (Pg 0) + G.k ≤ nvar G = simp numbers (omega arith) in
        zone_fit 0 (nvar G) (omega arith) (omega arith)
        (zone_rows (column_number G (Pg 0)) G.k (nvar G) _ all
        (λ g l.
        let here : column_number G (Pg g) ≡ column_number G (Pg 0) + g = simp numbers (omega arith) in
        zone_fit _ _ (omega arith) (omega arith) (zone_row (nvar G) (omega arith) (omega arith) (asc_nonzero (column_number G (Pg g)) (column_number G (Pg g)) (mul binary64 rounded.two (G.cq g))))))

    zone_head : (b : ℕ) → 1 ≤ b → Zone r c b dim 0 (nvar G) (quadratic G ++ map turned (every_row G (plain_row G)))
    zone_head b one =
        let sum2 = times-append r c (quadratic G) (map turned (every_row G (plain_row G))) in
        let t = times-turned r c (every_row G (plain_row G)) in
        record {
          order = omega arith;
          under = λ l. omega arith;
          over = λ l. omega (arith, sum2, t, zone_quadratic.over l, zone_program.wide l);
          wide = λ l. omega (arith, sum2, t, zone_quadratic.wide (omega arith), zone_program.over l);
          few = elim (dec_lt c (nvar G)) [
            | yes l ↦ omega (arith, sum2, t, zone_quadratic.few, zone_program.under l)
            | no l ↦ omega (arith, sum2, t, zone_quadratic.wide (omega arith), zone_program.few)
          ];
        }

    zone_kkt : (b : ℕ) → ((b ≡ 2) ⊎ ((b ≡ 1) × (Doubled G r c → ⊥))) → Zone r c b dim 0 dim (kkt_of G s z)
    unfolding kkt_of terms
    zone_kkt b k =
        let one : 1 ≤ b = ⊎_elim (λ e. omega arith) (λ e. omega arith) k in
        zone_head b one
        next zone_equalities r c b dim (plain_row G) (λ x l. plain_row_lem r c b one dim (omega arith) x)
        next zone_inequalities r c b dim (bound_row G s z) (bound-row b one)
        next zone_second r c b dim (cone_block G s z) (λ e he. zone_jabr G sound s z r c b dim k e he (omega (arith, jabr-at G e 3, row_below G (Jabr e 3) (he, omega arith))))
        (λ e he q. zone_three G s z (first e) (thermal_from e) (thermal-at e) (Pf e) (Qf e) (constant64 minus_one) (constant64 minus_one) refl refl refl
        (column-rises G (Pf e) (Qf e) he he (omega arith)) (column-below G (Qf e) he) r c b dim one (omega (arith, inside e he q)))
        (λ e he q. zone_three G s z (first e + 3) (thermal_to e) (λ l. omega (arith, thermal-at e (3 + l))) (Pt e) (Qt e) (constant64 minus_one) (constant64 minus_one) refl refl refl
        (column-rises G (Pt e) (Qt e) he he (omega arith)) (column-below G (Qt e) he) r c b dim one (omega (arith, inside e he q)))

    pub kkt-twice : times r c (kkt_of G s z) ≤ 2
    kkt-twice = (zone_kkt 2 (inl refl)).few

    pub kkt-once : (Doubled G r c → ⊥) → times r c (kkt_of G s z) ≤ 1
    kkt-once h = (zone_kkt 1 (inr (refl, h))).few

    -- no entry outside the matrix
    pub kkt-inside : (dim ≤ r) ⊎ (dim ≤ c) → times r c (kkt_of G s z) ≡ 0
    kkt-inside o = ⊎_elim (zone_kkt 2 (inl refl)).over (zone_kkt 2 (inl refl)).wide o
