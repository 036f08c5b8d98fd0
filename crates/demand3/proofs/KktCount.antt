-- The number of KKT entries. Assumes nothing.
use Rattle.std.proofs.Common.{ℕ, ◌+◌, ◌*◌, ◌≤◌, ◌≡◌, refl, ◌∙◌, Bool, true, false, ◌||◌, cond, List, [], ◌∷◌, ◌++◌, map, arith, mul-one, eqb, ltb, length, length-append, Float}
use Rattle.std.proofs.lemmas.List.{length-map}
use Rattle.std.specs.Float.{binary64}
use Rattle.std.specs.Float.Ieee.{of_bits, neg, ne, eq, mul}
use Rattle.lists.specs.UpTo.{up_to, each, when, sum, bit}
use Rattle.lists.specs.Entries.{Entry, entry, turned}
use Rattle.lists.proofs.Sums.{sum_ext, sum-le, sum-add, sum_ones, each-length, each-le, each-times, double}
use Rattle.ring.specs.Ops.{rounded}
use Rattle.records.specs.AcNetwork.{AcNetwork}
use Rattle.numbering.specs.Numbering.{column_number, limits}
use Rattle.numbering.specs.Layout.{layout_of}
use Rattle.rows.specs.Rows.{Term, Constant, constant, one, minus_one, minus_half, half, Cell, cell, plain, hits, ends, single, cells, zero64, terms}
use Rattle.rows.specs.Program.{equalities, inequalities, thermal_from, thermal_to, second_order, every_row, nonzero, quadratic}
use Rattle.kkt.specs.Kkt.{arrow, kkt_row, scaled, plain_row, bound_row, cone_row, cone_block, kkt_of}
use Rattle.numbering.specs.declared.ColumnName.{ColumnName}
use Rattle.numbering.specs.declared.ColumnName.TheVariants.{Pg, Qg, W, Pf, Pt, Qf, Qt}
use Rattle.numbering.specs.declared.RowName.{RowName}
use Rattle.numbering.specs.declared.RowName.TheVariants.{Pbal, Qbal, OhmPf, OhmQf, OhmPt, OhmQt, Wub, Wlb, Pgub, Pglb, Qgub, Qglb, Angub, Anglb, Segment, Jabr}
use Rattle.rows.proofs.TermsUp.{terms-le}
use Rattle.demand3.specs.Demand3.{entry_bound}

when-le : {A : Type 0} (b : Bool) (xs : List A) → length (when b xs) ≤ length xs
when-le true xs = omega arith
when-le false xs = omega arith

length-when : {A : Type 0} (b : Bool) (x : A) → length (when b (x ∷ [])) ≡ bit b
length-when true x = refl
length-when false x = refl

pub zero-is-zero : ne zero64 zero64 ≡ false
unfolding ne eq of_bits
zero-is-zero = refl

module _ (G : AcNetwork Float) where
  -- the cells of a row
  abbrev C : RowName → ℕ
  C x = length (cells rounded G x)

  hits-length : (n : ℕ) (s : ℕ → ℕ) (i : ℕ) (c : ℕ → ColumnName) (v : Constant) → length (hits rounded G n s i c v) ≡ sum n (λ j. bit (eqb (s j) i))
  hits-length n s i c v =
      each-length n (λ j. when (eqb (s j) i) (cell (c j) (constant v) ∷ [])) ∙ sum_ext n _ _ (λ j l. length-when (eqb (s j) i) (cell (c j) (constant v)))

  hits_total : (n k : ℕ) (s : ℕ → ℕ) (c : ℕ → ColumnName) (v : Constant) → sum n (λ i. length (hits rounded G k s i c v)) ≤ k
  hits_total n k s c v =
      rw (sum_ext n (λ i. length (hits rounded G k s i c v)) (λ i. sum k (λ j. bit (eqb (s j) i))) (λ i l. hits-length k s i c v)) (double n k s)

  -- a balance row's lists, over all buses
  balance-total : (n : ℕ) (x : ℕ → Cell Float) (p q r : ℕ → ColumnName)
      → sum n (λ i. length (hits rounded G G.k G.gen_bus i p one ++ (x i ∷ []) ++ hits rounded G G.m G.from i q minus_one ++ hits rounded G G.m G.to i r minus_one))
      ≤ n + G.k + 2 * G.m
  balance-total n x p q r =
      let A : ℕ → ℕ = λ i. length (hits rounded G G.k G.gen_bus i p one) in
      let D : ℕ → ℕ = λ i. length (hits rounded G G.m G.from i q minus_one) in
      let F : ℕ → ℕ = λ i. length (hits rounded G G.m G.to i r minus_one) in
      omega (
        arith,
        sum_ext n (λ i. length (hits rounded G G.k G.gen_bus i p one ++ (x i ∷ []) ++ hits rounded G G.m G.from i q minus_one ++ hits rounded G G.m G.to i r minus_one))
            (λ i. A i + 1 + D i + F i) (λ i l. simp length-append),
        sum-add n (λ i. A i + 1 + D i) F,
        sum-add n (λ i. A i + 1) D,
        sum-add n A (λ i. 1),
        hits_total n G.k G.gen_bus p one,
        hits_total n G.m G.from q minus_one,
        hits_total n G.m G.to r minus_one,
        sum_ones n,
      )

  -- rows that have at most as many entries as cells
  equalities-le : (f : RowName → List Entry) → ((x : RowName) → length (f x) ≤ C x) → length (equalities G f) ≤ 2 * G.n + 2 * G.k + 20 * G.m
  equalities-le f h =
      simp length-append
      (omega (
        arith,
        each-length G.n (λ i. f (Pbal i)),
        sum-le G.n (λ i. length (f (Pbal i))) (λ i. C (Pbal i)) (λ i l. h (Pbal i)),
        balance-total G.n (λ i. cell (W i) (plain (neg (G.gs i)))) Pg Pf Pt,
        each-length G.n (λ i. f (Qbal i)),
        sum-le G.n (λ i. length (f (Qbal i))) (λ i. C (Qbal i)) (λ i l. h (Qbal i)),
        balance-total G.n (λ i. cell (W i) (plain (G.bs i))) Qg Qf Qt,
        each-le G.m 4 (λ e. f (OhmPf e)) (λ e. h (OhmPf e)),
        each-le G.m 4 (λ e. f (OhmQf e)) (λ e. h (OhmQf e)),
        each-le G.m 4 (λ e. f (OhmPt e)) (λ e. h (OhmPt e)),
        each-le G.m 4 (λ e. f (OhmQt e)) (λ e. h (OhmQt e)),
      ))

  -- rows of at most a entries more
  inequalities-le : (a : ℕ) (f : RowName → List Entry) → ((x : RowName) → length (f x) ≤ C x + a) → length (inequalities G f)
      ≤ (1 + a) * G.n + (1 + a) * G.n + (1 + a) * G.k + (1 + a) * G.k + (1 + a) * G.k + (1 + a) * G.k + (2 + a) * G.m + (2 + a) * G.m
      + (2 + a) * sum G.k G.segments
  inequalities-le a f h =
      simp length-append
      (omega (
        arith,
        each-le G.n (1 + a) (λ i. f (Wub i)) (λ i. omega (arith, h (Wub i), one-when (G.bounded i) (W i) one)),
        each-le G.n (1 + a) (λ i. f (Wlb i)) (λ i. omega (arith, h (Wlb i), one-when (G.bounded i) (W i) minus_one)),
        each-le G.k (1 + a) (λ i. f (Pgub i)) (λ i. omega (arith, h (Pgub i), one-when (G.capable i) (Pg i) one)),
        each-le G.k (1 + a) (λ i. f (Pglb i)) (λ i. omega (arith, h (Pglb i), one-when (G.capable i) (Pg i) minus_one)),
        each-le G.k (1 + a) (λ i. f (Qgub i)) (λ i. omega (arith, h (Qgub i), one-when (G.capable i) (Qg i) one)),
        each-le G.k (1 + a) (λ i. f (Qglb i)) (λ i. omega (arith, h (Qglb i), one-when (G.capable i) (Qg i) minus_one)),
        each-le G.m (2 + a) (λ e. f (Angub e)) (λ e. omega (arith, h (Angub e), ang_ub e)),
        each-le G.m (2 + a) (λ e. f (Anglb e)) (λ e. omega (arith, h (Anglb e), ang_lb e)),
        each-times G.k (2 + a) G.segments (λ g. each (G.segments g) (λ t. f (Segment g t)))
            (λ g. each-le (G.segments g) (2 + a) (λ t. f (Segment g t)) (λ t. omega (arith, h (Segment g t)))),
      ))
    where
      one-when : (b : Bool) (c : ColumnName) (v : Constant) → length (when b (single rounded G c v)) ≤ 1
      one-when b c v = when-le b (single rounded G c v)

      two-when : (b : Bool) (x y : Cell Float) → length (when b (x ∷ y ∷ [])) ≤ 2
      two-when b x y = when-le b (x ∷ y ∷ [])

      ang_ub : (e : ℕ) → C (Angub e) ≤ 2
      ang_ub e = two-when (G.angled e) _ _

      ang_lb : (e : ℕ) → C (Anglb e) ≤ 2
      ang_lb e = two-when (G.angled e) _ _

  -- so many entries for a cone of four rows and for the two of three
  second-order-le : (p q : ℕ) (f : ℕ → (ℕ → RowName) → List Entry) → ((e : ℕ) → length (f 4 (Jabr e)) ≤ p)
      → ((e : ℕ) → length (f 3 (thermal_from e) ++ f 3 (thermal_to e)) ≤ q) → length (second_order G f) ≤ p * G.m + q * limits G
  second-order-le p q f hp hq =
      simp length-append
      (omega (
        arith,
        each-le G.m p (λ e. f 4 (Jabr e)) hp,
        each-times G.m q (λ e. bit (G.limited e)) (λ e. when (G.limited e) (f 3 (thermal_from e) ++ f 3 (thermal_to e))) (λ e. go (G.limited e) (f 3 (thermal_from e) ++ f 3 (thermal_to e)) (hq e)),
      ))
    where
      go : (b : Bool) (xs : List Entry) → length xs ≤ q → length (when b xs) ≤ q * bit b
      go true xs l = omega (arith, mul-one q)
      go false xs l = omega arith

  ends-two : (e : ℕ) (u v : Constant) → length (ends rounded G e u v) ≡ 2
  ends-two e u v = go (ltb (G.from e) (G.to e))
    where
      f : Cell Float
      f = cell (W (G.from e)) (constant u)

      t : Cell Float
      t = cell (W (G.to e)) (constant v)

      go : (b : Bool) → length (cond b (f ∷ t ∷ []) (t ∷ f ∷ [])) ≡ 2
      go true = refl
      go false = refl

-- ---- the cones

-- 1 where the arrow matrix can have an entry that is not zero
abbrev pattern : ℕ → ℕ → ℕ
pattern j l = bit (eqb j 0 || (eqb l 0 || eqb l j))

arrow-le : {A : Type 0} (v : ℕ → Float) (j l : ℕ) (xs : List A) → length (when (ne (arrow v j l) zero64) xs) ≤ pattern j l * length xs
arrow-le {A} v j l xs = go (eqb j 0) (eqb l 0) (eqb l j)
  where
    go : (a b c : Bool) → length (when (ne (cond a (v l) (cond b (v j) (cond c (v 0) zero64))) zero64) xs) ≤ bit (a || (b || c)) * length xs
    go true b c = omega (arith, when-le (ne (v l) zero64) xs)
    go false true c = omega (arith, when-le (ne (v j) zero64) xs)
    go false false true = omega (arith, when-le (ne (v 0) zero64) xs)
    go false false false = rw zero-is-zero (omega arith)

module _ (G : AcNetwork Float) (s z : RowName → Float) where
  row-le : (d : ℕ) (x : ℕ → RowName) (j : ℕ) → length (cone_row G s z d x j) ≤ sum d (λ l. pattern j l * length (terms G (x l))) + sum d (λ l. pattern j l * 1)
  row-le d x j =
      let X : ℕ → List Entry = λ l. when (ne (arrow (λ i. z (x i)) j l) zero64) (scaled G (kkt_row G (x j)) (neg (arrow (λ i. z (x i)) j l)) (terms G (x l))) in
      let Y : ℕ → List Entry = λ l. nonzero (kkt_row G (x j)) (kkt_row G (x l)) (arrow (λ i. s (x i)) j l) in
      omega (
        arith,
        length-append (each d X) (each d Y),
        each-length d X,
        each-length d Y,
        sum-le d (λ l. length (X l)) (λ l. pattern j l * length (terms G (x l)))
            (λ l h.
            let at = λ (t : Term). entry (kkt_row G (x j)) (column_number G t.col) (mul binary64 (neg (arrow (λ i. z (x i)) j l)) t.coef) in
            rw (← (length-map (terms G (x l)) at)) (arrow-le (λ i. z (x i)) j l _)),
        sum-le d (λ l. length (Y l)) (λ l. pattern j l * 1) (λ l h. arrow-le (λ i. s (x i)) j l (entry (kkt_row G (x j)) (kkt_row G (x l)) (arrow (λ i. s (x i)) j l) ∷ [])),
      )

  block-le : (d : ℕ) (x : ℕ → RowName) → length (cone_block G s z d x) ≤ sum d (λ j. sum d (λ l. pattern j l * length (terms G (x l))) + sum d (λ l. pattern j l * 1))
  block-le d x =
      let most = λ (j : ℕ). sum d (λ l. pattern j l * length (terms G (x l))) + sum d (λ l. pattern j l * 1) in
      omega (arith, each-length d (cone_row G s z d x), sum-le d (λ j. length (cone_row G s z d x j)) most (λ j h. row-le d x j))

  jabr-le : (e : ℕ) → length (cone_block G s z 4 (Jabr e)) ≤ 26
  unfolding up_to
  jabr-le e =
      omega (
        arith,
        block-le 4 (Jabr e),
        terms-le G (Jabr e 0),
        terms-le G (Jabr e 1),
        terms-le G (Jabr e 2),
        terms-le G (Jabr e 3),
        ends-two G e minus_half minus_half,
        ends-two G e minus_half half,
      )

  thermal-le : (e : ℕ) → length (cone_block G s z 3 (thermal_from e) ++ cone_block G s z 3 (thermal_to e)) ≤ 22
  unfolding up_to
  thermal-le e =
      omega (
        arith,
        length-append (cone_block G s z 3 (thermal_from e)) (cone_block G s z 3 (thermal_to e)),
        block-le 3 (thermal_from e),
        block-le 3 (thermal_to e),
        terms-le G (thermal_from e 0),
        terms-le G (thermal_from e 1),
        terms-le G (thermal_from e 2),
        terms-le G (thermal_to e 0),
        terms-le G (thermal_to e 1),
        terms-le G (thermal_to e 2),
      )

  plain-le : (x : RowName) → length (plain_row G x) ≤ length (cells rounded G x)
  plain-le x = omega (arith, length-map (terms G x) (λ t. entry (kkt_row G x) (column_number G t.col) t.coef), terms-le G x)

  bound-le : (x : RowName) → length (bound_row G s z x) ≤ length (cells rounded G x) + 1
  bound-le x = simp (length-append, length-map) (omega (arith, terms-le G x))

  plain-jabr : (e : ℕ) → length (each 4 (λ l. plain_row G (Jabr e l))) ≤ 6
  unfolding up_to
  plain-jabr e =
      omega (
        arith,
        each-length 4 (λ l. plain_row G (Jabr e l)),
        plain-le (Jabr e 0),
        plain-le (Jabr e 1),
        plain-le (Jabr e 2),
        plain-le (Jabr e 3),
        ends-two G e minus_half minus_half,
        ends-two G e minus_half half,
      )

  plain-thermal : (e : ℕ) → length (each 3 (λ l. plain_row G (thermal_from e l)) ++ each 3 (λ l. plain_row G (thermal_to e l))) ≤ 4
  unfolding up_to
  plain-thermal e =
      omega (
        arith,
        length-append (each 3 (λ l. plain_row G (thermal_from e l))) (each 3 (λ l. plain_row G (thermal_to e l))),
        each-length 3 (λ l. plain_row G (thermal_from e l)),
        each-length 3 (λ l. plain_row G (thermal_to e l)),
        plain-le (thermal_from e 0),
        plain-le (thermal_from e 1),
        plain-le (thermal_from e 2),
        plain-le (thermal_to e 0),
        plain-le (thermal_to e 1),
        plain-le (thermal_to e 2),
      )

  three : (a b c : List Entry) → length (a ++ b ++ c) ≡ length a + length b + length c
  three a b c = simp length-append

  five : (a b c d e : List Entry) → length (a ++ b ++ c ++ d ++ e) ≡ length a + length b + length c + length d + length e
  five a b c d e = simp length-append

  program-le : length (every_row G (plain_row G)) ≤ 4 * G.n + 6 * G.k + 30 * G.m + 2 * sum G.k G.segments + 4 * limits G
  program-le =
      omega (
        arith,
        three (equalities G (plain_row G)) (inequalities G (plain_row G)) (second_order G (λ d x. each d (λ l. plain_row G (x l)))),
        equalities-le G (plain_row G) plain-le,
        inequalities-le G 0 (plain_row G) (λ x. omega (arith, plain-le x)),
        second-order-le G 6 4 (λ d x. each d (λ l. plain_row G (x l))) plain-jabr plain-thermal,
      )

  quadratic-le : length (quadratic G) ≤ 1 * G.k
  unfolding quadratic
  quadratic-le = each-le G.k 1 _ (λ g. when-le (ne (mul binary64 rounded.two (G.cq g)) zero64) (entry (column_number G (Pg g)) (column_number G (Pg g)) (mul binary64 rounded.two (G.cq g)) ∷ []))

  pub kkt-count : sum G.k G.segments ≡ G.s → length (kkt_of G s z) ≤ entry_bound (layout_of G)
  unfolding kkt_of
  kkt-count added =
      omega (
        arith,
        added,
        five (quadratic G) (map turned (every_row G (plain_row G))) (equalities G (plain_row G)) (inequalities G (bound_row G s z)) (second_order G (cone_block G s z)),
        quadratic-le,
        length-map (every_row G (plain_row G)) turned,
        program-le,
        equalities-le G (plain_row G) plain-le,
        inequalities-le G 1 (bound_row G s z) bound-le,
        second-order-le G 26 22 (cone_block G s z) jabr-le thermal-le,
      )
