-- Checks joined by `or_else` go by document 01's order where no cause of one comes after a cause of those that follow it. Assumes nothing.
use mathlib.Core.List.Memᴰ
use mathlib.Core.List.{Memᴰ}
use Rattle.std.proofs.Common.{◌≡◌, refl, sym, ◌∙◌, subst, ◌≤◌, ◌<◌, Bool, true, false, ◌&&◌, ◌||◌, cond, T, eqb, ltb, List, [], ◌∷◌, ◌++◌, ◌⊎◌, inl}
use Rattle.std.proofs.Common.{inr, ⊎_elim, arith, Ok, Err, ltb-true, ltb-false, eqb-true, le-ltb, ne_eqb, eq-eqb}
use Rattle.refusals.specs.Refusals.{Checked, passed, ◌or_else◌, refuse_unless}
use Rattle.refusals.specs.Order.{rank, turn_of, sooner, earlier, by_order}
use Rattle.refusals.specs.declared.Refusal.{Refusal}
use Rattle.std.proofs.lemmas.Bool.{eqb-false}
use Rattle.refusals.proofs.Laws.{never}

-- ---- the order on causes
-- y does not come before x
abbrev Late : Refusal → Refusal → Type 0
Late y x = (rank x < rank y) ⊎ ((rank x ≡ rank y) × (turn_of x ≤ turn_of y))

late : (y x : Refusal) → Late y x → sooner y x ≡ false
unfolding sooner
late y x (inl h) = rw (le-ltb (rank y) (rank x) (omega arith), ne_eqb (rank y) (rank x) (λ e. omega arith))
late y x (inr h) = rw (le-ltb (rank y) (rank x) (omega arith), eq-eqb (rank y) (rank x) (sym h.0), le-ltb (turn_of y) (turn_of x) h.1)

not_sooner : (y x : Refusal) → sooner y x ≡ false → Late y x
unfolding sooner
not_sooner y x = go (ltb (rank y) (rank x)) (eqb (rank y) (rank x)) (ltb (turn_of y) (turn_of x)) refl refl refl
  where
    go : (p q r : Bool) → ltb (rank y) (rank x) ≡ p → eqb (rank y) (rank x) ≡ q → ltb (turn_of y) (turn_of x) ≡ r → p || (q && r) ≡ false → Late y x
    go true q r a b c h = absurd (subst T h tt)
    go false true true a b c h = absurd (subst T h tt)
    go false true false a b c h = inr (sym (eqb-true _ _ b), ltb-false _ _ c)
    go false false r a b c h = let d = eqb-false (rank y) (rank x) b in inl (omega (arith, ltb-false (rank y) (rank x) a))

soon : (y x : Refusal) → sooner y x ≡ true → (rank y < rank x) ⊎ ((rank y ≡ rank x) × (turn_of y < turn_of x))
unfolding sooner
soon y x = go (ltb (rank y) (rank x)) (eqb (rank y) (rank x)) (ltb (turn_of y) (turn_of x)) refl refl refl
  where
    go : (p q r : Bool) → ltb (rank y) (rank x) ≡ p → eqb (rank y) (rank x) ≡ q → ltb (turn_of y) (turn_of x) ≡ r → p || (q && r) ≡ true
        → (rank y < rank x) ⊎ ((rank y ≡ rank x) × (turn_of y < turn_of x))
    go true q r a b c h = inl (ltb-true _ _ a)
    go false true true a b c h = inr (eqb-true _ _ b, ltb-true _ _ c)
    go false true false a b c h = absurd (subst T (sym h) tt)
    go false false r a b c h = absurd (subst T (sym h) tt)

itself : (x : Refusal) → sooner x x ≡ false
itself x = late x x (inr (refl, omega arith))

soon-late : (y x : Refusal) → sooner y x ≡ true → sooner x y ≡ false
soon-late y x h = late x y (⊎_elim (λ p. inl p) (λ p. inr (p.0, omega (arith, p.1))) (soon y x h))

late-late : (z y x : Refusal) → sooner z y ≡ false → sooner y x ≡ false → sooner z x ≡ false
late-late z y x h k = late z x (go (not_sooner z y h) (not_sooner y x k))
  where
    go : Late z y → Late y x → Late z x
    go (inl p) (inl q) = inl (omega arith)
    go (inl p) (inr q) = inl (omega (arith, q.0))
    go (inr p) (inl q) = inl (omega (arith, p.0))
    go (inr p) (inr q) = inr (q.0 ∙ p.0, omega (arith, p.1, q.1))

refused-same : {x y : Refusal} → ◌≡◌ {A = Checked} (Err x) (Err y) → x ≡ y
refused-same e = cc

-- ---- what `by_order` answers: the cause of one of the checks, before which no other's comes; and none where none has a cause
pub record First (cs : List Checked) (x : Refusal) : Type 0 where
  pub found : Memᴰ (Err x) cs
  pub none_before : (y : Refusal) → Memᴰ (Err y) cs → sooner y x ≡ false

pub none_found : (cs : List Checked) → by_order cs ≡ passed → (d : Checked) → Memᴰ d cs → d ≡ passed
unfolding by_order earlier
none_found [] e d m = absurd (Memᴰ.not-nil m)
none_found (Ok u ∷ cs) e d m = ⊎_elim (λ q. q) (λ o. none_found cs e d o) (Memᴰ.cases_cons m)
none_found (Err z ∷ cs) e d m = go (by_order cs) e
  where
    step : (p : Bool) (y : Refusal) → cond p (Err y) (Err z) ≡ passed → d ≡ passed
    step true y q = never (sym q)
    step false y q = never (sym q)

    go : (r : Checked) → earlier (Err z) r ≡ passed → d ≡ passed
    go (Ok u) q = never (sym q)
    go (Err y) q = step (sooner y z) y q

-- one check more, that of cause z
module _ (z : Refusal) (cs : List Checked) (x : Refusal) where
  abbrev Next : Refusal → Type 0
  Next = First (Err z ∷ cs)

  first_more : (r : Checked) → by_order cs ≡ r → ((y : Refusal) → by_order cs ≡ Err y → First cs y) → earlier (Err z) r ≡ Err x → Next x
  unfolding earlier
  first_more (Ok u) b f q =
      subst Next (refused-same q) (record {
        found = Memᴰ.head refl;
        none_before = λ w m. ⊎_elim (λ o. rw (refused-same {x = w} {y = z} o) (itself z)) (λ o. never (sym (none_found cs b (Err w) o))) (Memᴰ.cases_cons m);
      })
  first_more (Err y) b f q = step (sooner y z) refl q
    where
      step : (p : Bool) → sooner y z ≡ p → cond {A = Checked} p (Err y) (Err z) ≡ Err x → Next x
      step true s q =
          subst Next (refused-same q) (record {
            found = Memᴰ.tail (f y b).found;
            none_before = λ w m. ⊎_elim (λ o. rw (refused-same {x = w} {y = z} o) (soon-late y z s)) (λ o. (f y b).none_before w o) (Memᴰ.cases_cons m);
          })
      step false s q =
          subst Next (refused-same q) (record {
            found = Memᴰ.head refl;
            none_before = λ w m. ⊎_elim (λ o. rw (refused-same {x = w} {y = z} o) (itself z)) (λ o. late-late w y z ((f y b).none_before w o) s) (Memᴰ.cases_cons m);
          })

pub first_found : (cs : List Checked) (x : Refusal) → by_order cs ≡ Err x → First cs x
unfolding by_order earlier
first_found [] x e = never e
first_found (Ok u ∷ cs) x e =
    let f = first_found cs x e in
    record {
      found = Memᴰ.tail f.found;
      none_before = λ y m. ⊎_elim (λ q. never (sym q)) (λ o. f.none_before y o) (Memᴰ.cases_cons m);
    }
first_found (Err z ∷ cs) x e = first_more z cs x (by_order cs) refl (λ y b. first_found cs y b) e

-- ---- lists of checks, joined
earlier-none : (c : Checked) → earlier c passed ≡ c
unfolding earlier
earlier-none (Ok u) = refl
earlier-none (Err x) = refl

three : (x y z : Refusal) (p q r : Bool) → sooner y x ≡ p → sooner z y ≡ q → sooner z x ≡ r
    → earlier (Err x) (cond q (Err z) (Err y)) ≡ earlier (cond p (Err y) (Err x)) (Err z)
unfolding earlier
three x y z true true true p q r = rw (q, r)
three x y z true true false p q r = absurd (subst T (sym q ∙ late-late z x y r (soon-late y x p)) tt)
three x y z true false r' p q r = rw (p, q)
three x y z false true true p q r = rw r
three x y z false true false p q r = rw r
three x y z false false true p q r = absurd (subst T (sym r ∙ late-late z y x q p) tt)
three x y z false false false p q r = rw (p, r)

earlier_assoc : (a b c : Checked) → earlier a (earlier b c) ≡ earlier (earlier a b) c
unfolding earlier
earlier_assoc (Ok u) b c = refl
earlier_assoc (Err x) (Ok u) c = refl
earlier_assoc (Err x) (Err y) (Ok u) = sym (earlier-none _)
earlier_assoc (Err x) (Err y) (Err z) = three x y z _ _ _ refl refl refl

pub by-order-join : (cs ds : List Checked) → by_order (cs ++ ds) ≡ earlier (by_order cs) (by_order ds)
unfolding by_order earlier
by-order-join [] ds = refl
by-order-join (c ∷ cs) ds = rw (by-order-join cs ds) (earlier_assoc c (by_order cs) (by_order ds))

pub by-order-one : (c : Checked) → by_order (c ∷ []) ≡ c
unfolding by_order
by-order-one c = earlier-none c

-- ---- checks in turn
or_else_earlier : (c d : Checked) → ((x y : Refusal) → c ≡ Err x → d ≡ Err y → sooner y x ≡ false) → c or_else d ≡ earlier c d
unfolding ◌or_else◌ earlier
or_else_earlier (Ok u) d h = refl
or_else_earlier (Err x) (Ok u) h = refl
or_else_earlier (Err x) (Err y) h = rw (h x y refl refl)

or_else_cause : (c d : Checked) (y : Refusal) → c or_else d ≡ Err y → (c ≡ Err y) ⊎ (d ≡ Err y)
unfolding ◌or_else◌
or_else_cause (Ok u) d y e = inr e
or_else_cause (Err x) d y e = inl e

test_cause : (t : Bool) (x y : Refusal) → refuse_unless t x ≡ Err y → x ≡ y
unfolding refuse_unless
test_cause true x y e = never e
test_cause false x y e = refused-same e

-- the checks cs answer d by the order, and each cause of theirs comes neither before w nor after v
pub record InOrder (w v : Refusal) (cs : List Checked) (d : Checked) : Type 0 where
  pub equal : d ≡ by_order cs
  pub up : sooner v w ≡ false
  pub from : (x : Refusal) → d ≡ Err x → sooner x w ≡ false
  pub to : (x : Refusal) → d ≡ Err x → sooner v x ≡ false

pub in_order : {w v : Refusal} {cs : List Checked} {d : Checked} → InOrder w v cs d → d ≡ by_order cs
in_order i = i.equal

-- no test, and one
pub no_cause : (w v : Refusal) → sooner v w ≡ false → InOrder w v [] passed
unfolding by_order
no_cause w v h = record { equal = refl; up = h; from = λ x e. never e; to = λ x e. never e }

pub alone : (t : Bool) (x : Refusal) → InOrder x x (refuse_unless t x ∷ []) (refuse_unless t x)
alone t x =
    record {
      equal = sym (by-order-one _);
      up = itself x;
      from = λ y e. rw (← test_cause t x y e) (itself x);
      to = λ y e. rw (← test_cause t x y e) (itself x);
    }

-- checks, and then others whose causes come no sooner than theirs
pub next : {w u u' v : Refusal} {cs ds : List Checked} {c d : Checked} → InOrder w u cs c → InOrder u' v ds d → sooner u' u ≡ false → InOrder w v (cs ++ ds) (c or_else d)
next {w = w} {u = u} {u' = u'} {v = v} {cs = cs} {ds = ds} {c = c} {d = d} i j h =
    let a = late-late v u' u j.up h in
    let b = late-late u' u w h i.up in
    record {
      equal =
          or_else_earlier c d (λ x y e f. late-late y u x (late-late y u' u (j.from y f) h) (i.to x e))
          ∙ rw (i.equal, j.equal) (sym (by-order-join cs ds));
      up = late-late v u w a i.up;
      from = λ y e. ⊎_elim (λ o. i.from y o) (λ o. late-late y u' w (j.from y o) b) (or_else_cause c d y e);
      to = λ y e. ⊎_elim (λ o. late-late v u y a (i.to y o)) (λ o. j.to y o) (or_else_cause c d y e);
    }

-- the same as one check, and between other bounds
pub whole : {w v : Refusal} {cs : List Checked} {d : Checked} → InOrder w v cs d → InOrder w v (d ∷ []) d
whole i = record { equal = sym (by-order-one _); up = i.up; from = i.from; to = i.to }

pub wider : {w v w' v' : Refusal} {cs : List Checked} {d : Checked} → InOrder w v cs d → sooner w w' ≡ false → sooner v' v ≡ false → InOrder w' v' cs d
wider {w = w} {v = v} {w' = w'} {v' = v'} i h k =
    record {
      equal = i.equal;
      up = late-late v' v w' k (late-late v w w' i.up h);
      from = λ x e. late-late x w w' (i.from x e) h;
      to = λ x e. late-late v' v x k (i.to x e);
    }

-- of causes of one rank, as those of the records, that whose turn is not before the other's
pub by_turn : (y x : Refusal) → rank x ≡ rank y → turn_of x ≤ turn_of y → sooner y x ≡ false
by_turn y x e h = late y x (inr (e, h))
