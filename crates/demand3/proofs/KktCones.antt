-- The places of the second-order cones. Assumes nothing.
use Rattle.std.proofs.Common.{ℕ, ◌+◌, ◌*◌, ◌≤◌, ◌<◌, ◌≡◌, refl, sym, Bool, true, false, ◌&&◌, cond, ◌⊎◌, inl, inr, ⊎_elim, List, [], ◌∷◌, arith, eqb, ltb, Float, ne_eqb, eq-eqb}
use Rattle.std.specs.Float.Ieee.{neg, ne}
use native.Mathlib.Decide.{ℕ_discrete}
use Rattle.lists.specs.UpTo.{up_to, each, when, sum, bit}
use Rattle.lists.specs.Entries.{Entry, entry, times}
use Rattle.lists.proofs.Sums.{sum_ext, sum_zeros}
use Rattle.lists.proofs.Ascending.{Asc, stop, more, asc_from, asc_to, asc_each, once, below, above, elsewhere, times-append, times-each}
use Rattle.lists.proofs.Zones.{Zone, zone_rows}
use Rattle.ring.specs.Ops.{rounded}
use Rattle.records.specs.AcNetwork.{AcNetwork}
use Rattle.numbering.specs.Numbering.{nvar, column_number, row_number}
use Rattle.numbering.proofs.Numbers.{column-number, row_number_lem, column-below, column-rises}
use Rattle.rows.specs.Rows.{Constant, constant, constant64, minus_one, minus_half, half, cell, written, Term, term, terms, zero64}
use Rattle.rows.specs.Program.{nonzero}
use Rattle.kkt.specs.Kkt.{arrow, kkt_row, scaled, cone_row, cone_block}
use Rattle.demand3.specs.Demand3.{Doubled}
use Rattle.numbering.specs.declared.ColumnName.{ColumnName}
use Rattle.numbering.specs.declared.ColumnName.TheVariants.{W, Wr, Wi}
use Rattle.numbering.specs.declared.RowName.{RowName}
use Rattle.numbering.specs.declared.RowName.TheVariants.{Jabr}
use Rattle.records.proofs.Sound.{Sound}
use Rattle.demand3.proofs.KktCount.{zero-is-zero}

-- the first row of the cones
abbrev pub cones : AcNetwork Float → ℕ
cones G = row_number G (Jabr 0 0)

-- the rows of a branch's cone of four
pub jabr-at : (G : AcNetwork Float) (e l : ℕ) → row_number G (Jabr e l) ≡ cones G + 4 * e + l
jabr-at G e l = omega (arith, row_number_lem G (Jabr e l), row_number_lem G (Jabr 0 0))

-- 1 where the two are equal, else 0
pub same : ℕ → ℕ → ℕ
same a c = bit (eqb a c)

pub same_cases : (a c : ℕ) → ((a ≡ c) × (same a c ≡ 1)) ⊎ ((a ≡ c → ⊥) × (same a c ≡ 0))
unfolding same
same_cases a c = elim (ℕ_discrete a c) [ yes e ↦ inl (e, (rw (eq-eqb a c e))) | no d ↦ inr (d, (rw (ne_eqb a c d))) ]

pub same-no : (a c : ℕ) → (a ≡ c → ⊥) → same a c ≡ 0
unfolding same
same-no a c d = rw (ne_eqb a c d)

pub asc_nonzero : (r c : ℕ) (v : Float) → Asc r c (c + 1) (nonzero r c v)
asc_nonzero r c v = go (ne v zero64)
  where
    go : (b : Bool) → Asc r c (c + 1) (when b (entry r c v ∷ []))
    go true = let m : c ≤ c = omega arith in let e : c + 1 ≤ c + 1 = omega arith in more m (stop e)
    go false = let m : c ≤ c + 1 = omega arith in stop m

sit_le : (p : Bool) (a c : ℕ) → bit (p && eqb a c) ≤ same a c
unfolding same
sit_le true a c = omega arith
sit_le false a c = omega arith

when-le : (r c : ℕ) (b : Bool) (xs : List Entry) → times r c (when b xs) ≤ times r c xs
unfolding times
when-le r c true xs = omega arith
when-le r c false xs = omega arith

module _ (G : AcNetwork Float) (r c ρ : ℕ) (f : Float) where
  scaled-none : (ρ ≡ r → ⊥) → (ts : List Term) → times r c (scaled G ρ f ts) ≡ 0
  unfolding times
  scaled-none d [] = refl
  scaled-none d (t ∷ ts) = rw (ne_eqb ρ r d) (omega (arith, scaled-none d ts))

  one-le : (a : ColumnName) (v : Float) → times r c (scaled G ρ f (term a v ∷ [])) ≤ same (column_number G a) c
  unfolding times
  one-le a v = omega (arith, sit_le (eqb ρ r) (column_number G a) c)

  two-le : (tm2 : Float) (a b : ColumnName) (u v : Constant) (t : Bool)
      → times r c (scaled G ρ f (written tm2 (cond t (cell a (constant u) ∷ cell b (constant v) ∷ []) (cell b (constant v) ∷ cell a (constant u) ∷ []))))
      ≤ same (column_number G a) c + same (column_number G b) c
  unfolding times
  two-le tm2 a b u v true = omega (arith, sit_le (eqb ρ r) (column_number G a) c, sit_le (eqb ρ r) (column_number G b) c)
  two-le tm2 a b u v false = omega (arith, sit_le (eqb ρ r) (column_number G a) c, sit_le (eqb ρ r) (column_number G b) c)

-- a cone of d rows whose numbers start at q
module _ (G : AcNetwork Float) (s z : RowName → Float) (d q : ℕ) (ρ : ℕ → RowName) (num : (l : ℕ) → row_number G (ρ l) ≡ q + l) (r c j : ℕ) where
  abbrev Xs : ℕ → List Entry
  Xs l = when (ne (arrow (λ i. z (ρ i)) j l) zero64) (scaled G (kkt_row G (ρ j)) (neg (arrow (λ i. z (ρ i)) j l)) (terms G (ρ l)))

  abbrev Ys : ℕ → List Entry
  Ys l = nonzero (kkt_row G (ρ j)) (kkt_row G (ρ l)) (arrow (λ i. s (ρ i)) j l)

  pub X : ℕ → ℕ
  X l = times r c (Xs l)

  pub Z : ℕ
  Z = times r c (each d Ys)

  pub split : times r c (cone_row G s z d ρ j) ≡ sum d X + Z
  unfolding X Z
  split = omega (arith, times-append r c (each d Xs) (each d Ys), times-each r c d Xs)

  pub x_le : (l : ℕ) → X l ≤ times r c (scaled G (kkt_row G (ρ j)) (neg (arrow (λ i. z (ρ i)) j l)) (terms G (ρ l)))
  unfolding X
  x_le l = when-le r c (ne (arrow (λ i. z (ρ i)) j l) zero64) (scaled G (kkt_row G (ρ j)) (neg (arrow (λ i. z (ρ i)) j l)) (terms G (ρ l)))

  pub dropped : (l : ℕ) → (j ≡ 0 → ⊥) → (l ≡ 0 → ⊥) → (l ≡ j → ⊥) → X l ≡ 0
  unfolding X times
  dropped l a b e = rw (ne_eqb j 0 a, ne_eqb l 0 b, ne_eqb l j e, zero-is-zero)

  asc_z : Asc (kkt_row G (ρ j)) (nvar G + q) (nvar G + q + d) (each d Ys)
  asc_z =
      asc_each (kkt_row G (ρ j)) (nvar G + q) d Ys
      (λ l. asc_from (nvar G + q + l) (omega (arith, num l)) (asc_to (nvar G + q + l + 1) (omega (arith, num l)) (asc_nonzero (kkt_row G (ρ j)) (kkt_row G (ρ l)) (arrow (λ i. s (ρ i)) j l))))

  pub z_le : Z ≤ 1
  unfolding Z
  z_le = once r c asc_z

  pub z_none : c < nvar G + q → Z ≡ 0
  unfolding Z
  z_none l = below r c l asc_z

  pub z_past : nvar G + q + d ≤ c → Z ≡ 0
  unfolding Z
  z_past l = above r c l asc_z

  pub gone : (kkt_row G (ρ j) ≡ r → ⊥) → times r c (cone_row G s z d ρ j) ≡ 0
  unfolding X Z
  gone h =
      omega (
        arith,
        split,
        sum_ext d X (λ l. 0) (λ l m. omega (arith, x_le l, scaled-none G r c (kkt_row G (ρ j)) (neg (arrow (λ i. z (ρ i)) j l)) h (terms G (ρ l)))),
        sum_zeros d,
        elsewhere r c h asc_z,
      )

-- the cone of four rows
module _ (G : AcNetwork Float) (sound : Sound G) (s z : RowName → Float) (e : ℕ) (he : e < G.m) (r c j : ℕ) where
  abbrev num4 : (l : ℕ) → row_number G (Jabr e l) ≡ cones G + 4 * e + l
  num4 l = jabr-at G e l

  -- the cone's columns ascend, and its two bus columns differ
  columns : (column_number G (W (G.from e)) < column_number G (Wr e)) × (column_number G (W (G.to e)) < column_number G (Wr e))
      × (column_number G (Wr e) < column_number G (Wi e)) × (column_number G (Wi e) < nvar G)
  columns = (
    column-rises G (W (G.from e)) (Wr e) (sound.from_bus e he) he (omega arith),
    column-rises G (W (G.to e)) (Wr e) (sound.to_bus e he) he (omega arith),
    column-rises G (Wr e) (Wi e) he he (omega arith),
    column-below G (Wi e) he,
  )

  apart : column_number G (W (G.from e)) ≡ column_number G (W (G.to e)) → ⊥
  apart p = sound.apart e he (omega (arith, column-number G (W (G.from e)), column-number G (W (G.to e))))

  abbrev R : ℕ
  R = kkt_row G (Jabr e j)

  abbrev f : ℕ → Float
  f l = neg (arrow (λ i. z (Jabr e i)) j l)

  abbrev U : ℕ
  U = same (column_number G (W (G.from e))) c + same (column_number G (W (G.to e))) c

  abbrev X4 : ℕ → ℕ
  X4 l = X G s z 4 (cones G + 4 * e) (Jabr e) num4 r c j l

  abbrev Z4 : ℕ
  Z4 = Z G s z 4 (cones G + 4 * e) (Jabr e) num4 r c j

  x0 : X4 0 ≤ U
  unfolding terms
  x0 = omega (arith, x_le G s z 4 (cones G + 4 * e) (Jabr e) num4 r c j 0, two-le G r c R (f 0) rounded.one (W (G.from e)) (W (G.to e)) minus_half minus_half (ltb (G.from e) (G.to e)))

  x1 : X4 1 ≤ same (column_number G (Wr e)) c
  unfolding terms
  x1 = omega (arith, x_le G s z 4 (cones G + 4 * e) (Jabr e) num4 r c j 1, one-le G r c R (f 1) (Wr e) (constant64 minus_one))

  x2 : X4 2 ≤ same (column_number G (Wi e)) c
  unfolding terms
  x2 = omega (arith, x_le G s z 4 (cones G + 4 * e) (Jabr e) num4 r c j 2, one-le G r c R (f 2) (Wi e) (constant64 minus_one))

  x3 : X4 3 ≤ U
  unfolding terms
  x3 = omega (arith, x_le G s z 4 (cones G + 4 * e) (Jabr e) num4 r c j 3, two-le G r c R (f 3) rounded.one (W (G.from e)) (W (G.to e)) minus_half half (ltb (G.from e) (G.to e)))

  z_low : c < nvar G → Z4 ≡ 0
  z_low l = z_none G s z 4 (cones G + 4 * e) (Jabr e) num4 r c j (omega arith)

  one-column : U + same (column_number G (Wr e)) c + same (column_number G (Wi e)) c + Z4 ≤ 1
  one-column =
      let order = columns in
      ⊎_elim
      (λ p. omega (
        arith,
        same-no (column_number G (W (G.to e))) c (λ q. apart (omega arith)),
        same-no (column_number G (Wr e)) c (λ q. omega arith),
        same-no (column_number G (Wi e)) c (λ q. omega arith),
        z_low (omega arith),
      ))
      (λ p. ⊎_elim
      (λ q. omega (arith, same-no (column_number G (Wr e)) c (λ y. omega arith), same-no (column_number G (Wi e)) c (λ y. omega arith), z_low (omega arith)))
      (λ q. ⊎_elim
      (λ u. omega (arith, same-no (column_number G (Wi e)) c (λ y. omega arith), z_low (omega arith)))
      (λ u. ⊎_elim (λ v. omega (arith, z_low (omega arith))) (λ v. omega (arith, z_le G s z 4 (cones G + 4 * e) (Jabr e) num4 r c j)) (same_cases (column_number G (Wi e)) c))
      (same_cases (column_number G (Wr e)) c))
      (same_cases (column_number G (W (G.to e))) c))
      (same_cases (column_number G (W (G.from e))) c)

  row-le : times r c (cone_row G s z 4 (Jabr e) j) ≤ 1 + X4 3
  unfolding up_to
  row-le = omega (arith, split G s z 4 (cones G + 4 * e) (Jabr e) num4 r c j, one-column, x0, x1, x2)

  row-twice : times r c (cone_row G s z 4 (Jabr e) j) ≤ 2
  row-twice = omega (arith, row-le, x3, one-column)

  row-once : (((j ≡ 0) ⊎ (j ≡ 3)) × ((c ≡ column_number G (W (G.from e))) ⊎ (c ≡ column_number G (W (G.to e)))) → ⊥) → times r c (cone_row G s z 4 (Jabr e) j) ≤ 1
  row-once no-bus = elim (ℕ_discrete c (column_number G (W (G.from e)))) [
    | yes a ↦ ends (inl a)
    | no a ↦ elim (ℕ_discrete c (column_number G (W (G.to e)))) [
      | yes b ↦ ends (inr b)
      | no b ↦ omega (arith, row-le, x3, same-no (column_number G (W (G.from e))) c (λ q. a (sym q)), same-no (column_number G (W (G.to e))) c (λ q. b (sym q)))
    ]
  ]
    where
      ends : (c ≡ column_number G (W (G.from e))) ⊎ (c ≡ column_number G (W (G.to e))) → times r c (cone_row G s z 4 (Jabr e) j) ≤ 1
      ends p = omega (arith, row-le, dropped G s z 4 (cones G + 4 * e) (Jabr e) num4 r c j 3 (λ q. no-bus (inl q, p)) (λ q. omega arith) (λ q. no-bus (inr (sym q), p)))

  row-wide : nvar G + cones G + 4 * e + 4 ≤ c → times r c (cone_row G s z 4 (Jabr e) j) ≡ 0
  unfolding up_to
  row-wide l =
      let order = columns in
      omega (
        arith,
        split G s z 4 (cones G + 4 * e) (Jabr e) num4 r c j,
        x0,
        x1,
        x2,
        x3,
        same-no (column_number G (W (G.from e))) c (λ q. omega arith),
        same-no (column_number G (W (G.to e))) c (λ q. omega arith),
        same-no (column_number G (Wr e)) c (λ q. omega arith),
        same-no (column_number G (Wi e)) c (λ q. omega arith),
        z_past G s z 4 (cones G + 4 * e) (Jabr e) num4 r c j (omega arith),
      )

-- a bound that the rows keep, the cone keeps
pub zone_jabr : (G : AcNetwork Float) → Sound G → (s z : RowName → Float) (r c b w : ℕ) → ((b ≡ 2) ⊎ ((b ≡ 1) × (Doubled G r c → ⊥))) → (e : ℕ) → e < G.m → nvar G + cones G + 4 * e + 4 ≤ w
    → Zone r c b w (nvar G + cones G + 4 * e) (nvar G + cones G + 4 * e + 4) (cone_block G s z 4 (Jabr e))
zone_jabr G sound s z r c b w bound e he hw =
    zone_rows (nvar G + cones G + 4 * e) 4 (nvar G + cones G + 4 * e + 4) (cone_row G s z 4 (Jabr e)) (omega arith)
    (λ j hj.
    record {
      order = omega arith;
      under = λ l. gone G s z 4 (cones G + 4 * e) (Jabr e) (jabr-at G e) r c j (λ q. omega (arith, jabr-at G e j));
      over = λ l. gone G s z 4 (cones G + 4 * e) (Jabr e) (jabr-at G e) r c j (λ q. omega (arith, jabr-at G e j));
      wide = λ l. row-wide G sound s z e he r c j (omega arith);
      few = ⊎_elim (λ p. omega (arith, row-twice G sound s z e he r c j))
          (λ p. elim (ℕ_discrete r (kkt_row G (Jabr e j))) [
            | yes q ↦ omega (
              arith,
              row-once G sound s z e he r c j
                  (λ t.
                  let at = ⊎_elim (λ y. inl (omega (arith, jabr-at G e 0, jabr-at G e j))) (λ y. inr (omega (arith, jabr-at G e 3, jabr-at G e j))) t.0 in
                  p.1 (record { branch = e; below = he; row = at; col = t.1 })),
            )
            | no q ↦ omega (arith, gone G s z 4 (cones G + 4 * e) (Jabr e) (jabr-at G e) r c j (λ y. q (sym y)))
          ])
          bound;
    })

-- a cone of three rows: none, a term at column a, a term at column b
module _ (G : AcNetwork Float) (s z : RowName → Float) (q : ℕ) (ρ : ℕ → RowName) (num : (l : ℕ) → row_number G (ρ l) ≡ q + l) (a b : ColumnName) (u v : Float)
    (t0 : terms G (ρ 0) ≡ []) (t1 : terms G (ρ 1) ≡ term a u ∷ []) (t2 : terms G (ρ 2) ≡ term b v ∷ []) (ab : column_number G a < column_number G b) (bn : column_number G b < nvar G) (r c j : ℕ) where
  abbrev g : ℕ → Float
  g l = neg (arrow (λ i. z (ρ i)) j l)

  y0 : X G s z 3 q ρ num r c j 0 ≡ 0
  unfolding times
  y0 = let h = rw t0 at (x_le G s z 3 q ρ num r c j 0) in omega arith

  y1 : X G s z 3 q ρ num r c j 1 ≤ same (column_number G a) c
  y1 = let h = rw t1 at (x_le G s z 3 q ρ num r c j 1) in omega (arith, h, one-le G r c (kkt_row G (ρ j)) (g 1) a u)

  y2 : X G s z 3 q ρ num r c j 2 ≤ same (column_number G b) c
  y2 = let h = rw t2 at (x_le G s z 3 q ρ num r c j 2) in omega (arith, h, one-le G r c (kkt_row G (ρ j)) (g 2) b v)

  row3_once : times r c (cone_row G s z 3 ρ j) ≤ 1
  unfolding up_to
  row3_once =
      ⊎_elim
      (λ p. omega (arith, split G s z 3 q ρ num r c j, y0, y1, y2, same-no (column_number G b) c (λ y. omega arith), z_none G s z 3 q ρ num r c j (omega arith)))
      (λ p. ⊎_elim
      (λ t. omega (arith, split G s z 3 q ρ num r c j, y0, y1, y2, z_none G s z 3 q ρ num r c j (omega arith)))
      (λ t. omega (arith, split G s z 3 q ρ num r c j, y0, y1, y2, z_le G s z 3 q ρ num r c j))
      (same_cases (column_number G b) c))
      (same_cases (column_number G a) c)

  row3_wide : nvar G + q + 3 ≤ c → times r c (cone_row G s z 3 ρ j) ≡ 0
  unfolding up_to
  row3_wide l =
      omega
      (arith, split G s z 3 q ρ num r c j, y0, y1, y2, same-no (column_number G a) c (λ y. omega arith), same-no (column_number G b) c (λ y. omega arith), z_past G s z 3 q ρ num r c j l)

pub zone_three : (G : AcNetwork Float) (s z : RowName → Float) (q : ℕ) (ρ : ℕ → RowName) → ((l : ℕ) → row_number G (ρ l) ≡ q + l) → (a b : ColumnName) (u v : Float)
    → terms G (ρ 0) ≡ [] → terms G (ρ 1) ≡ term a u ∷ [] → terms G (ρ 2) ≡ term b v ∷ [] → column_number G a < column_number G b → column_number G b < nvar G
    → (r c k w : ℕ) → 1 ≤ k → nvar G + q + 3 ≤ w → Zone r c k w (nvar G + q) (nvar G + q + 3) (cone_block G s z 3 ρ)
zone_three G s z q ρ num a b u v t0 t1 t2 ab bn r c k w one hw =
    zone_rows (nvar G + q) 3 (nvar G + q + 3) (cone_row G s z 3 ρ) (omega arith)
    (λ j hj.
    record {
      order = omega arith;
      under = λ l. gone G s z 3 q ρ num r c j (λ y. omega (arith, num j));
      over = λ l. gone G s z 3 q ρ num r c j (λ y. omega (arith, num j));
      wide = λ l. row3_wide G s z q ρ num a b u v t0 t1 t2 ab bn r c j (omega arith);
      few = omega (arith, row3_once G s z q ρ num a b u v t0 t1 t2 ab bn r c j);
    })
