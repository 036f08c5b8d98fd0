-- The product of cones, list by list: the rows of the cones before go to them, the rest to the rest; and cones alike, one for each branch or two for
-- each limited one. Assumes nothing.
use Rattle.std.proofs.Common.{ℕ, zero, suc, ◌+◌, ◌*◌, ◌≤◌, ◌<◌, ◌≡◌, refl, sym, ◌∙◌, ap, subst, ◌↔◌, Bool, true, false, List, [], ◌∷◌, ◌++◌, map}
use Rattle.std.proofs.Common.{arith, add-one, length, take, drop, replicate, length-append, length-drop, take_all, ℤ}
use Rattle.std.proofs.lemmas.Bool.{false≢true}
use Rattle.std.proofs.lemmas.List.{replicate-append-replicate, take-append-le, drop-append-le}
use mathlib.Core.Logic.Iff
use native.Mathlib.Decide.{dec_lt}
use lib.Seq.{drop-length}
use Rattle.lists.specs.UpTo.{up_to, each, when, bit, count}
use Rattle.lists.specs.Entries.{Every, none, also}
use Rattle.numbering.specs.Numbering.{added}
use Rattle.manual.specs.Clarabel.{Cone, second_order, rows_of, InNorm, InKind, InProduct}

-- ---- what holds up to n, and at n
pub next : (P : ℕ → Type 0) (n : ℕ) → (((i : ℕ) → i < n → P i) × P n) ↔ ((i : ℕ) → i < suc n → P i)
next P n = (
  (λ p i l. elim (dec_lt i n) [
    | yes h ↦ p.0 i h
    | no h ↦ let e : n ≡ i = omega arith in subst P e p.1
  ]),
  (λ p. ((λ i l. p i (omega arith)), p n (omega arith))),
)

-- ---- every element of a list
module _ (P : ℤ → Type 0) where
  pub every_append : (xs ys : List ℤ) → Every P (xs ++ ys) ↔ (Every P xs × Every P ys)
  every_append xs ys = (first xs, (λ p. both p.0 p.1))
    where
      both : {xs : List ℤ} → Every P xs → Every P ys → Every P (xs ++ ys)
      both none q = q
      both (also h p) q = also h (both p q)

      first : (xs : List ℤ) → Every P (xs ++ ys) → Every P xs × Every P ys
      first [] h = (none, h)
      first (x ∷ xs) (also p h) = let q = first xs h in (also p q.0, q.1)

  pub every_one : (v : ℤ) → Every P (v ∷ []) ↔ P v
  every_one v = (only, (λ p. also p none))
    where
      only : Every P (v ∷ []) → P v
      only (also p none) = p

  pub every-each : (n : ℕ) (f : ℕ → List ℤ) → Every P (each n f) ↔ ((i : ℕ) → i < n → Every P (f i))
  unfolding up_to
  every-each zero f = ((λ h i l. absurd (omega arith)), (λ h. none))
  every-each (suc n) f = Iff.trans (every_append (each n f) (f n)) (Iff.trans (Iff.and (every-each n f) ((λ h. h), (λ h. h))) (next (λ i. Every P (f i)) n))

-- ---- the product
pub product-append : (cs ds : List Cone) (xs ys : List ℤ) → length xs ≡ added (map rows_of cs) → InProduct (cs ++ ds) (xs ++ ys) ↔ (InProduct cs xs × InProduct ds ys)
product-append [] ds [] ys h = ((λ p. (refl, p)), (λ p. p.1))
product-append [] ds (x ∷ xs) ys h = absurd (omega arith)
product-append (c ∷ cs) ds xs ys h =
    let l : rows_of c ≤ length xs = omega arith in
    let rest = product-append cs ds (drop (rows_of c) xs) ys (omega (arith, length-drop (rows_of c) xs)) in
    rw (take-append-le (rows_of c) xs ys l, drop-append-le (rows_of c) xs ys l)
    ((λ p. ((p.0, p.1, (rest.0 p.2).0), (rest.0 p.2).1)), (λ p. (p.0.0, p.0.1, rest.1 (p.0.2, p.1))))

pub one-cone : (c : Cone) (xs : List ℤ) → length xs ≡ rows_of c → InProduct (c ∷ []) xs ↔ InKind c xs
one-cone c xs h =
    let t : take (rows_of c) xs ≡ xs = take_all (rows_of c) xs (omega arith) in
    let d : drop (rows_of c) xs ≡ [] = ap (λ (n : ℕ). drop n xs) (sym h) ∙ drop-length xs in
    rw (t, d) ((λ p. p.1), (λ p. (h, p, refl)))

-- ---- cones alike
module _ (w : ℕ) where
  abbrev alike : ℕ → List Cone
  alike n = replicate n (second_order w)

  pub rows_alike : (n : ℕ) → added (map rows_of (alike n)) ≡ w * n
  rows_alike zero = omega arith
  rows_alike (suc n) = omega (arith, rows_alike n)

  alike_next : (n : ℕ) → alike n ++ (second_order w ∷ []) ≡ alike (suc n)
  alike_next n = replicate-append-replicate n 1 (second_order w) ∙ ap (λ (k : ℕ). alike k) (add-one n)

  pub each_rows : (n : ℕ) (f : ℕ → List ℤ) → ((i : ℕ) → i < n → length (f i) ≡ w) → length (each n f) ≡ w * n
  unfolding up_to
  each_rows zero f h = omega arith
  each_rows (suc n) f h = omega (arith, length-append (each n f) (f n), each_rows n f (λ i l. h i (omega arith)), h n (omega arith))

  -- one cone for each of n
  pub each-cones : (n : ℕ) (f : ℕ → List ℤ) → ((i : ℕ) → i < n → length (f i) ≡ w) → InProduct (alike n) (each n f) ↔ ((i : ℕ) → i < n → InNorm (f i))
  unfolding up_to
  each-cones zero f h = ((λ p i l. absurd (omega arith)), (λ p. refl))
  each-cones (suc n) f h =
      let size = each_rows n f (λ i l. h i (omega arith)) in
      subst (λ (cs : List Cone). InProduct cs (each n f ++ f n) ↔ ((i : ℕ) → i < suc n → InNorm (f i))) (alike_next n)
      (Iff.trans (product-append (alike n) (second_order w ∷ []) (each n f) (f n) (omega (arith, rows_alike n)))
      (Iff.trans (Iff.and (each-cones n f (λ i l. h i (omega arith))) (one-cone (second_order w) (f n) (h n (omega arith)))) (next (λ i. InNorm (f i)) n)))

  -- two cones where the flag is set, none where not
  two-cones : (b : Bool) (f g : List ℤ) → length f ≡ w → length g ≡ w → InProduct (alike (2 * bit b)) (when b (f ++ g)) ↔ (b ≡ true → InNorm f × InNorm g)
  two-cones true f g p q =
      Iff.trans (product-append (second_order w ∷ []) (second_order w ∷ []) f g (omega arith))
      (Iff.trans (Iff.and (one-cone (second_order w) f p) (one-cone (second_order w) g q)) ((λ n h. n), (λ n. n refl)))
  two-cones false f g p q = ((λ n h. absurd (false≢true h)), (λ n. refl))

  when-rows : (b : Bool) (f g : List ℤ) → length f ≡ w → length g ≡ w → length (when b (f ++ g)) ≡ w * (2 * bit b)
  when-rows true f g p q = omega (arith, length-append f g)
  when-rows false f g p q = omega arith

  pub limited-rows : (m : ℕ) (b : ℕ → Bool) (f g : ℕ → List ℤ) → ((e : ℕ) → length (f e) ≡ w) → ((e : ℕ) → length (g e) ≡ w)
      → length (each m (λ e. when (b e) (f e ++ g e))) ≡ w * (2 * count m b)
  unfolding up_to
  limited-rows zero b f g p q = omega arith
  limited-rows (suc m) b f g p q =
      omega (arith, length-append (each m (λ e. when (b e) (f e ++ g e))) (when (b m) (f m ++ g m)), limited-rows m b f g p q, when-rows (b m) (f m) (g m) (p m) (q m))

  pub limited-cones : (m : ℕ) (b : ℕ → Bool) (f g : ℕ → List ℤ) → ((e : ℕ) → length (f e) ≡ w) → ((e : ℕ) → length (g e) ≡ w)
      → InProduct (alike (2 * count m b)) (each m (λ e. when (b e) (f e ++ g e))) ↔ ((e : ℕ) → e < m → b e ≡ true → InNorm (f e) × InNorm (g e))
  unfolding up_to
  limited-cones zero b f g p q = ((λ n i l. absurd (omega arith)), (λ n. refl))
  limited-cones (suc m) b f g p q =
      let size = limited-rows m b f g p q in
      let twice : 2 * count m b + 2 * bit (b m) ≡ 2 * (count m b + bit (b m)) = omega arith in
      subst (λ (cs : List Cone). InProduct cs (each m (λ e. when (b e) (f e ++ g e)) ++ when (b m) (f m ++ g m)) ↔ ((e : ℕ) → e < suc m → b e ≡ true → InNorm (f e) × InNorm (g e)))
      (replicate-append-replicate (2 * count m b) (2 * bit (b m)) (second_order w) ∙ ap (λ (k : ℕ). alike k) twice)
      (Iff.trans
      (product-append (alike (2 * count m b)) (alike (2 * bit (b m))) (each m (λ e. when (b e) (f e ++ g e))) (when (b m) (f m ++ g m)) (size ∙ sym (rows_alike (2 * count m b))))
      (Iff.trans (Iff.and (limited-cones m b f g p q) (two-cones (b m) (f m) (g m) (p m) (q m))) (next (λ e. b e ≡ true → InNorm (f e) × InNorm (g e)) m)))
