-- Example F: in Q, KKT row 28 is the first of the branch's four-row cone. In a bus column it has the negated duals of the cone's first and last row
-- times their terms there, whatever the slacks and the other duals are: all else is in other rows or columns. Assumes nothing.
use Rattle.std.proofs.Common.{ℕ, zero, suc, ◌+◌, ◌<◌, ◌≡◌, refl, sym, ap, ◌∙◌, Bool, true, false, ◌&&◌, List, [], ◌∷◌, ◌++◌, append_assoc, append-nil, arith, eqb, get_or, Float, ne_eqb}
use Rattle.std.specs.Float.{nan}
use Rattle.std.specs.Float.Ieee.{neg, ne}
use Rattle.lists.specs.UpTo.{up_to, each, when, bit}
use Rattle.lists.specs.Entries.{Entry, entry, sits, times}
use Rattle.records.specs.AcNetwork.{AcNetwork}
use Rattle.records.specs.Network.{segment_record}
use Rattle.numbering.specs.Numbering.{nvar, column_number, row_number}
use Rattle.numbering.specs.declared.ColumnName.TheVariants.{Wr, Wi}
use Rattle.numbering.specs.declared.RowName.{RowName}
use Rattle.numbering.specs.declared.RowName.TheVariants.{Jabr, Thermal}
use Rattle.rows.specs.Rows.{terms, zero64}
use Rattle.rows.specs.Program.{thermal_from, thermal_to, second_order, nonzero, quadratic, slack}
use Rattle.kkt.specs.Kkt.{kkt_row, scaled, cone_row, cone_block, kkt_of, kkt}
use Rattle.demand3.proofs.KktCones.{gone}
use Rattle.examples.specs.Networks.{q}
use Rattle.examples.specs.Table.{Q, bits_at, bits, z_f, kkt_f}
use Rattle.examples.proofs.OnLiterals.{numbers_on_literals, rows_on_literals}

-- ---- the values at a place, part by part
module _ (r c : ℕ) where
  joined : (xs ys : List Entry) → bits_at r c (xs ++ ys) ≡ bits_at r c xs ++ bits_at r c ys
  unfolding bits_at
  joined [] ys = refl
  joined (x ∷ xs) ys = rw (joined xs ys) (sym (append_assoc (when (sits r c x) (bits x.val ∷ [])) _ _))

  alone : (xs ys : List Entry) → bits_at r c ys ≡ [] → bits_at r c (xs ++ ys) ≡ bits_at r c xs
  alone xs ys h = joined xs ys ∙ rw h (append-nil _)

  none_each : (n : ℕ) (f : ℕ → List Entry) → ((i : ℕ) → i < n → bits_at r c (f i) ≡ []) → bits_at r c (each n f) ≡ []
  unfolding up_to bits_at
  none_each zero f h = refl
  none_each (suc n) f h = alone (each n f) (f n) (h n (omega arith)) ∙ none_each n f (λ i l. h i (omega arith))

  none-when : (t : Bool) (es : List Entry) → bits_at r c es ≡ [] → bits_at r c (when t es) ≡ []
  unfolding bits_at
  none-when true es h = h
  none-when false es h = refl

  other-column : (p k : ℕ) (v : Float) → (k ≡ c → ⊥) → bits_at r c (entry p k v ∷ []) ≡ []
  unfolding bits_at
  other-column p k v h = rw (ne_eqb k c h) (go (eqb p r))
    where
      go : (t : Bool) → when (t && false) (bits v ∷ []) ++ [] ≡ []
      go true = refl
      go false = refl

  -- a place that is not named has no values
  none_named : (es : List Entry) → times r c es ≡ 0 → bits_at r c es ≡ []
  unfolding times bits_at
  none_named [] h = refl
  none_named (e ∷ es) h = go (sits r c e) h (none_named es)
    where
      go : (t : Bool) → bit t + times r c es ≡ 0 → (times r c es ≡ 0 → bits_at r c es ≡ []) → when t (bits e.val ∷ []) ++ bits_at r c es ≡ []
      go true g k = absurd (omega arith)
      go false g k = k (omega arith)

-- ---- Q: ten columns, the cone of four rows at 18, those of three at 22 and 25
abbrev G : AcNetwork Float
G = Q q

columns : nvar G ≡ 10
unfolding q numbers_on_literals
columns = refl

jabr : (l : ℕ) → row_number G (Jabr 0 l) ≡ 18 + l
unfolding q numbers_on_literals
jabr l = omega arith

thermal : (l : ℕ) → row_number G (Thermal 0 l) ≡ 22 + l
unfolding q numbers_on_literals
thermal l = omega arith

-- ---- KKT row 28, at any slacks and duals
module _ (s z : RowName → Float) (c : ℕ) where
  -- a cone's row that is not row 28
  other : (d p : ℕ) (x : ℕ → RowName) → ((l : ℕ) → row_number G (x l) ≡ p + l) → (j : ℕ) → (p + j ≡ 18 → ⊥) → bits_at 28 c (cone_row G s z d x j) ≡ []
  other d p x num j h = none_named 28 c _ (gone G s z d p x num 28 c j (λ e. h (omega (arith, num j, columns))))

  cones-only : bits_at 28 c (kkt_of G s z) ≡ bits_at 28 c (second_order G (cone_block G s z))
  unfolding q numbers_on_literals rows_on_literals segment_record quadratic kkt_of bits_at
  cones-only = refl

  one-row : bits_at 28 c (second_order G (cone_block G s z)) ≡ bits_at 28 c (cone_row G s z 4 (Jabr 0) 0)
  unfolding up_to
  one-row =
      let from = none_each 28 c 3 (cone_row G s z 3 (thermal_from 0)) (λ j l. other 3 22 (thermal_from 0) thermal j (λ e. omega arith)) in
      let to = none_each 28 c 3 (cone_row G s z 3 (thermal_to 0)) (λ j l. other 3 25 (thermal_to 0) (λ i. omega (arith, thermal (3 + i))) j (λ e. omega arith)) in
      alone 28 c _ _ (none-when 28 c (G.limited 0) _ (alone 28 c _ _ to ∙ from))
      ∙ alone 28 c _ _ (other 4 18 (Jabr 0) jabr 3 (λ e. omega arith))
      ∙ alone 28 c _ _ (other 4 18 (Jabr 0) jabr 2 (λ e. omega arith))
      ∙ alone 28 c _ _ (other 4 18 (Jabr 0) jabr 1 (λ e. omega arith))

  -- what row l of the cone gives to row 28: row 1 in the column of wr, row 2 in that of wi
  abbrev by : ℕ → List Entry
  by l = when (ne (z (Jabr 0 l)) zero64) (scaled G (kkt_row G (Jabr 0 0)) (neg (z (Jabr 0 l))) (terms G (Jabr 0 l)))

  by-wr : c < 4 → bits_at 28 c (by 1) ≡ []
  unfolding numbers_on_literals terms
  by-wr h = none-when 28 c (ne (z (Jabr 0 1)) zero64) _ (other-column 28 c (kkt_row G (Jabr 0 0)) (column_number G (Wr 0)) _ (λ e. omega arith))

  by-wi : c < 4 → bits_at 28 c (by 2) ≡ []
  unfolding numbers_on_literals terms
  by-wi h = none-when 28 c (ne (z (Jabr 0 2)) zero64) _ (other-column 28 c (kkt_row G (Jabr 0 0)) (column_number G (Wi 0)) _ (λ e. omega arith))

  abbrev diagonal : ℕ → List Entry
  diagonal l = nonzero (kkt_row G (Jabr 0 0)) (kkt_row G (Jabr 0 l)) (s (Jabr 0 l))

  by-slacks : c < 4 → bits_at 28 c (each 4 diagonal) ≡ []
  by-slacks h =
      none_each 28 c 4 diagonal
      (λ l k. none-when 28 c (ne (s (Jabr 0 l)) zero64) _ (other-column 28 c (kkt_row G (Jabr 0 0)) (kkt_row G (Jabr 0 l)) _ (λ e. omega (arith, jabr l, columns))))

  bus_columns : c < 4 → bits_at 28 c (cone_row G s z 4 (Jabr 0) 0) ≡ bits_at 28 c (by 0) ++ bits_at 28 c (by 3)
  unfolding up_to
  bus_columns h =
      alone 28 c (each 4 by) (each 4 diagonal) (by-slacks h)
      ∙ joined 28 c _ (by 3)
      ∙ ap (λ (vs : List ℕ). vs ++ bits_at 28 c (by 3)) (alone 28 c _ _ (by-wi h) ∙ alone 28 c _ _ (by-wr h))

  row28 : c < 4 → bits_at 28 c (kkt_of G s z) ≡ bits_at 28 c (by 0) ++ bits_at 28 c (by 3)
  row28 h = cones-only ∙ one-row ∙ bus_columns h

-- ---- and at duals that are 1 in rows 18 and 21
module _ (x z : List Float) where
  -- the duals of the rows
  abbrev duals : RowName → Float
  duals r = get_or (z_f z) (row_number G r) nan

  abbrev found : ℕ → List ℕ
  found c = bits_at 28 c (by (slack G x) duals c 0) ++ bits_at 28 c (by (slack G x) duals c 3)

  in_F : (c : ℕ) → c < 4 → bits_at 28 c (kkt_f x z) ≡ found c
  unfolding kkt
  in_F c h = row28 (slack G x) duals c h

  found2 : found 2 ≡ 0x3fe0000000000000 ∷ 0x3fe0000000000000 ∷ []
  unfolding q numbers_on_literals rows_on_literals bits_at
  found2 = refl

  found3 : found 3 ≡ 0x3fe0000000000000 ∷ 0xbfe0000000000000 ∷ []
  unfolding q numbers_on_literals rows_on_literals bits_at
  found3 = refl

  pub column2 : bits_at 28 2 (kkt_f x z) ≡ 0x3fe0000000000000 ∷ 0x3fe0000000000000 ∷ []
  column2 = in_F 2 (omega arith) ∙ found2

  pub column3 : bits_at 28 3 (kkt_f x z) ≡ 0x3fe0000000000000 ∷ 0xbfe0000000000000 ∷ []
  column3 = in_F 3 (omega arith) ∙ found3
