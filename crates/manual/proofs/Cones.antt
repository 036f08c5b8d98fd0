-- s lies in the product of the cones exactly where every row's meaning holds: the rows in their order are the blocks one after another, so each cone
-- gets the rows of its blocks, and of each row or cone it is known what it says. Assumes nothing.
use Rattle.std.proofs.Common.{ℕ, zero, suc, ◌+◌, ◌*◌, ◌<◌, ◌≡◌, refl, sym, ◌∙◌, ap, ◌↔◌, true, List, [], ◌∷◌, ◌++◌, map, arith, length, replicate, length-append, ℤ, pos, ◌+ℤ◌, ◌*ℤ◌, ◌≤ℤ◌}
use mathlib.Core.Logic.Iff
use Rattle.lists.specs.UpTo.{up_to, each, when, sum}
use Rattle.lists.specs.Entries.{Every}
use Rattle.lists.proofs.Sums.{each-length, sum_ones, sum_ext}
use Rattle.ring.specs.Ops.{whole}
use Rattle.records.specs.AcNetwork.{AcNetwork}
use Rattle.numbering.specs.Numbering.{row_at, n_eq, n_ineq, limits, cone_lengths}
use Rattle.numbering.proofs.EveryPoint.{every-row, row-placed}
use Rattle.numbering.specs.declared.ColumnName.{ColumnName}
use Rattle.numbering.specs.declared.ColumnName.TheVariants.{Pg, Qg, W, Wr, Wi, Pf, Pt, Qf, Qt, CostOf}
use Rattle.numbering.specs.declared.RowName.{RowName}
use Rattle.numbering.specs.declared.RowName.TheVariants.{Pbal, Qbal, OhmPf, OhmQf, OhmPt, OhmQt, Wub, Wlb, Pgub, Pglb, Qgub, Qglb, Angub, Anglb, Segment, Jabr, Thermal}
use Rattle.rows.specs.declared.OhmRow.{OhmRow}
use Rattle.rows.specs.declared.OhmRow.TheVariants.{Pf as pf, Qf as qf, Pt as pt, Qt as qt}
use Rattle.rows.specs.Program.{equalities, inequalities}
use Rattle.manual.specs.Matpower.{scale}
use Rattle.manual.specs.Slack.{slack}
use Rattle.manual.specs.Flows.{line_of, point_at, held_flow, manual}
use Rattle.manual.specs.Balance.{mismatch}
use Rattle.manual.specs.Clarabel.{Cone, zero_cone, nonnegative, second_order, rows_of, InNorm, InProduct, cones}
use Rattle.manual.specs.Documents.{Symmetric, Meant, slacks}
use Rattle.manual.proofs.Products.{every_append, every_one, every-each, product-append, one-cone, rows_alike, each_rows, each-cones, limited-cones}
use Rattle.manual.proofs.Rows.{pbal-zero, qbal-zero, ohm-zero, wub-law, wlb-law, pgub-law, pglb-law, qgub-law, qglb-law, angub-law, anglb-law, cost-law, jabr-law, from-law, to-law}

-- ---- the lengths
rows_replicated : (n w : ℕ) → map rows_of (replicate n (second_order w)) ≡ replicate n w
rows_replicated zero w = refl
rows_replicated (suc n) w = ap (λ (l : List ℕ). w ∷ l) (rows_replicated n w)

map-append : (xs ys : List Cone) → map rows_of (xs ++ ys) ≡ map rows_of xs ++ map rows_of ys
map-append [] ys = refl
map-append (x ∷ xs) ys = ap (λ (l : List ℕ). rows_of x ∷ l) (map-append xs ys)

pub cone-rows : {A : Type 0} (G : AcNetwork A) → map rows_of (cones G) ≡ cone_lengths G
cone-rows G =
    ap (λ (l : List ℕ). n_eq G ∷ n_ineq G ∷ l)
    (map-append (replicate G.m (second_order 4)) (replicate (2 * limits G) (second_order 3))
    ∙ rw (rows_replicated G.m 4, rows_replicated (2 * limits G) 3))

-- ---- what holds at every number below n
abbrev All : ℕ → (ℕ → Type 0) → Type 0
All n Q = (i : ℕ) → i < n → Q i

pointwise : {A B : ℕ → Type 0} (n : ℕ) → ((i : ℕ) → i < n → A i ↔ B i) → ((i : ℕ) → i < n → A i) ↔ ((i : ℕ) → i < n → B i)
pointwise n h = ((λ f i l. (h i l).0 (f i l)), (λ f i l. (h i l).1 (f i l)))

-- lists one after another, and what each says
infixl 20 ◌then◌
◌then◌ : {P : ℤ → Type 0} {X Y : Type 0} {xs ys : List ℤ} → Every P xs ↔ X → Every P ys ↔ Y → Every P (xs ++ ys) ↔ (X × Y)
◌then◌ {P} {xs = xs} {ys = ys} f g = Iff.trans (every_append P xs ys) (Iff.and f g)

-- a list of statements, which `then` proves of a list of blocks
infixl 15 ◌and◌
abbrev ◌and◌ : Type 0 → Type 0 → Type 0
A and B = A × B

module _ (G : AcNetwork ℤ) (x : ColumnName → ℤ) where
  abbrev s : RowName → ℤ
  s r = slack whole G x r

  abbrev block : ℕ → (ℕ → RowName) → List ℤ
  block n r = each n (λ i. s (r i) ∷ [])

  block-length : (n : ℕ) (r : ℕ → RowName) → length (block n r) ≡ n
  block-length n r = each-length n (λ i. s (r i) ∷ []) ∙ sum_ones n

  -- ---- what a block of rows says, and what blocks one after another say
  block-holds : (P : ℤ → Type 0) {Q : ℕ → Type 0} (n : ℕ) (r : ℕ → RowName) → ((i : ℕ) → i < n → P (s (r i)) ↔ Q i) → Every P (block n r) ↔ All n Q
  block-holds P n r h = Iff.trans (every-each P n (λ i. s (r i) ∷ [])) (pointwise n (λ i l. Iff.trans (every_one P (s (r i))) (h i l)))

  -- ---- the rows of the zero cone, and of the nonnegative cone: the program's lists of blocks
  abbrev equal : List ℤ
  equal = equalities G (λ r. s r ∷ [])

  abbrev bounds : List ℤ
  bounds = inequalities G (λ r. s r ∷ [])

  equal-length : length equal ≡ n_eq G
  equal-length = simp (length-append, block-length) (omega arith)

  -- each flow is the manual's, times 2 τ²
  abbrev Flow : OhmRow → ℕ → Type 0
  Flow r e = manual whole (line_of whole (G.branch e)) (point_at G x e) r ≡ scale whole (line_of whole (G.branch e)) *ℤ held_flow whole (point_at G x e) r

  abbrev Z : ℤ → Type 0
  Z v = v ≡ pos 0

  abbrev N : ℤ → Type 0
  N v = pos 0 ≤ℤ v

  -- ---- the generators' segments
  abbrev costs : List ℤ
  costs = each G.k (λ g. block (G.segments g) (Segment g))

  costs-length : length costs ≡ sum G.k G.segments
  costs-length = each-length G.k (λ g. block (G.segments g) (Segment g)) ∙ sum_ext G.k (λ g. length (block (G.segments g) (Segment g))) G.segments (λ g l. block-length (G.segments g) (Segment g))

  costs_hold : Every N costs ↔ ((g : ℕ) → g < G.k → (t : ℕ) → t < G.segments g → (G.slope g t *ℤ x (Pg g) +ℤ G.intercept g t) ≤ℤ x (CostOf g))
  costs_hold =
      Iff.trans (every-each N G.k (λ g. block (G.segments g) (Segment g)))
      (pointwise G.k (λ g l. block-holds N (G.segments g) (Segment g) (λ t m. cost-law G x g t)))

  -- ---- the rows of the second-order cones
  abbrev fours : ℕ → List ℤ
  fours e = each 4 (λ q. s (Jabr e q) ∷ [])

  abbrev froms : ℕ → List ℤ
  froms e = each 3 (λ q. s (Thermal e q) ∷ [])

  abbrev tos : ℕ → List ℤ
  tos e = each 3 (λ q. s (Thermal e (3 + q)) ∷ [])

  abbrev jabrs : List ℤ
  jabrs = each G.m fours

  abbrev thermals : List ℤ
  thermals = each G.m (λ e. when (G.limited e) (froms e ++ tos e))

  jabrs-length : length jabrs ≡ 4 * G.m
  unfolding up_to
  jabrs-length = each_rows 4 G.m fours (λ e l. refl)

  fours_hold : InProduct (replicate G.m (second_order 4)) jabrs ↔ ((e : ℕ) → e < G.m → InNorm (fours e))
  unfolding up_to
  fours_hold = each-cones 4 G.m fours (λ e l. refl)

  threes_hold : InProduct (replicate (2 * limits G) (second_order 3)) thermals ↔ ((e : ℕ) → e < G.m → G.limited e ≡ true → InNorm (froms e) × InNorm (tos e))
  unfolding up_to
  threes_hold = limited-cones 3 G.m G.limited froms tos (λ e. refl) (λ e. refl)

  four-law : (e : ℕ) → InNorm (fours e)
      ↔ (pos 0 ≤ℤ (x (W (G.from e)) +ℤ x (W (G.to e)))) × ((x (Wr e) *ℤ x (Wr e) +ℤ x (Wi e) *ℤ x (Wi e)) ≤ℤ (x (W (G.from e)) *ℤ x (W (G.to e))))
  unfolding up_to
  four-law e = jabr-law G x e

  three-from : (e : ℕ) → InNorm (froms e) ↔ (pos 0 ≤ℤ G.rate_a e) × ((x (Pf e) *ℤ x (Pf e) +ℤ x (Qf e) *ℤ x (Qf e)) ≤ℤ (G.rate_a e *ℤ G.rate_a e))
  unfolding up_to
  three-from e = from-law G x e

  three-to : (e : ℕ) → InNorm (tos e) ↔ (pos 0 ≤ℤ G.rate_a e) × ((x (Pt e) *ℤ x (Pt e) +ℤ x (Qt e) *ℤ x (Qt e)) ≤ℤ (G.rate_a e *ℤ G.rate_a e))
  unfolding up_to
  three-to e = to-law G x e

  -- ---- all rows in their order
  slacks_are : slacks G x ≡ equal ++ bounds ++ (jabrs ++ thermals)
  slacks_are = every-row G (λ p. s (row_at G p) ∷ []) (λ r. s r ∷ []) (λ r h. ap (λ (y : RowName). s y ∷ []) (row-placed G r h))

  module _ (add : sum G.k G.segments ≡ G.s) where
    bounds-length : length bounds ≡ n_ineq G
    bounds-length = simp (length-append, block-length, costs-length) (omega arith)

    -- cone by cone
    by-cones : InProduct (cones G) (slacks G x)
        ↔ ((Every Z equal × Every N bounds) × (InProduct (replicate G.m (second_order 4)) jabrs × InProduct (replicate (2 * limits G) (second_order 3)) thermals))
    by-cones =
        let size : length (equal ++ bounds) ≡ n_eq G + (n_ineq G + 0) = omega (arith, length-append equal bounds, equal-length, bounds-length) in
        rw slacks_are
        (Iff.trans
        (product-append (zero_cone (n_eq G) ∷ nonnegative (n_ineq G) ∷ []) (replicate G.m (second_order 4) ++ replicate (2 * limits G) (second_order 3)) (equal ++ bounds) (jabrs ++ thermals) size)
        (Iff.and
        (Iff.trans (product-append (zero_cone (n_eq G) ∷ []) (nonnegative (n_ineq G) ∷ []) equal bounds (omega (arith, equal-length)))
        (Iff.and (one-cone (zero_cone (n_eq G)) equal equal-length) (one-cone (nonnegative (n_ineq G)) bounds bounds-length)))
        (product-append (replicate G.m (second_order 4)) (replicate (2 * limits G) (second_order 3)) jabrs thermals (jabrs-length ∙ sym (rows_alike 4 G.m)))))

    module _ (symmetric : (e : ℕ) → e < G.m → Symmetric whole (G.branch e)) where
      -- the statements of the zero cone's blocks, and of the nonnegative cone's, in the blocks' order
      abbrev Equal : Type 0
      Equal =
          All G.n (λ i. (mismatch whole G x i).re ≡ pos 0)
          and All G.n (λ i. (mismatch whole G x i).im ≡ pos 0)
          and All G.m (Flow pf)
          and All G.m (Flow qf)
          and All G.m (Flow pt)
          and All G.m (Flow qt)

      equal-holds : Every Z equal ↔ Equal
      equal-holds =
          block-holds Z G.n Pbal (λ i l. pbal-zero G x i)
          then block-holds Z G.n Qbal (λ i l. qbal-zero G x i)
          then block-holds Z G.m OhmPf (λ e l. ohm-zero G x e pf (symmetric e l))
          then block-holds Z G.m OhmQf (λ e l. ohm-zero G x e qf (symmetric e l))
          then block-holds Z G.m OhmPt (λ e l. ohm-zero G x e pt (symmetric e l))
          then block-holds Z G.m OhmQt (λ e l. ohm-zero G x e qt (symmetric e l))

      abbrev Bounds : Type 0
      Bounds =
          All G.n (λ i. G.bounded i ≡ true → x (W i) ≤ℤ (G.vm_max i *ℤ G.vm_max i))
          and All G.n (λ i. G.bounded i ≡ true → (G.vm_min i *ℤ G.vm_min i) ≤ℤ x (W i))
          and All G.k (λ g. G.capable g ≡ true → x (Pg g) ≤ℤ G.pmax g)
          and All G.k (λ g. G.capable g ≡ true → G.pmin g ≤ℤ x (Pg g))
          and All G.k (λ g. G.capable g ≡ true → x (Qg g) ≤ℤ G.qmax g)
          and All G.k (λ g. G.capable g ≡ true → G.qmin g ≤ℤ x (Qg g))
          and All G.m (λ e. G.angled e ≡ true → x (Wi e) ≤ℤ (G.tanmax e *ℤ x (Wr e)))
          and All G.m (λ e. G.angled e ≡ true → (G.tanmin e *ℤ x (Wr e)) ≤ℤ x (Wi e))
          and All G.k (λ g. All (G.segments g) (λ t. (G.slope g t *ℤ x (Pg g) +ℤ G.intercept g t) ≤ℤ x (CostOf g)))

      bounds_hold : Every N bounds ↔ Bounds
      bounds_hold =
          block-holds N G.n Wub (λ i l. wub-law G x i)
          then block-holds N G.n Wlb (λ i l. wlb-law G x i)
          then block-holds N G.k Pgub (λ g l. pgub-law G x g)
          then block-holds N G.k Pglb (λ g l. pglb-law G x g)
          then block-holds N G.k Qgub (λ g l. qgub-law G x g)
          then block-holds N G.k Qglb (λ g l. qglb-law G x g)
          then block-holds N G.m Angub (λ e l. angub-law G x e)
          then block-holds N G.m Anglb (λ e l. anglb-law G x e)
          then costs_hold

      flows : All G.m (Flow pf) → All G.m (Flow qf) → All G.m (Flow pt) → All G.m (Flow qt) → (e : ℕ) → e < G.m → (r : OhmRow) → Flow r e
      flows a b c d e l pf = a e l
      flows a b c d e l qf = b e l
      flows a b c d e l pt = c e l
      flows a b c d e l qt = d e l

      pub from-product : InProduct (cones G) (slacks G x) → Meant G x
      from-product h =
          let p = by-cones.0 h in
          let (((((pbal, qbal), pfs), qfs), pts), qts) = equal-holds.0 p.0.0 in
          let ((((((((wub, wlb), pgub), pglb), qgub), qglb), angub), anglb), cost) = bounds_hold.0 p.0.1 in
          let j = fours_hold.0 p.1.0 in
          let t = threes_hold.0 p.1.1 in
          record {
            pbal = pbal;
            qbal = qbal;
            ohm = flows pfs qfs pts qts;
            wub = wub;
            wlb = wlb;
            pgub = pgub;
            pglb = pglb;
            qgub = qgub;
            qglb = qglb;
            angub = angub;
            anglb = anglb;
            cost = λ g t l m. cost g l t m;
            jabr = λ e l. (four-law e).0 (j e l);
            thermal-from = λ e l q. (three-from e).0 (t e l q).0;
            thermal-to = λ e l q. (three-to e).0 (t e l q).1;
          }

      pub to-product : Meant G x → InProduct (cones G) (slacks G x)
      to-product m =
          by-cones.1 (
            (
              equal-holds.1 (((((m.pbal, m.qbal), (λ e l. m.ohm e l pf)), (λ e l. m.ohm e l qf)), (λ e l. m.ohm e l pt)), (λ e l. m.ohm e l qt)),
              bounds_hold.1 ((((((((m.wub, m.wlb), m.pgub), m.pglb), m.qgub), m.qglb), m.angub), m.anglb), (λ g l t n. m.cost g t l n)),
            ),
            (fours_hold.1 (λ e l. (four-law e).1 (m.jabr e l)), threes_hold.1 (λ e l q. ((three-from e).1 (m.thermal-from e l q), (three-to e).1 (m.thermal-to e l q)))),
          )
