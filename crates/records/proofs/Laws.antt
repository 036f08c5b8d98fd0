-- What counts and records that the check accepts have: `Network.Accepted`. Assumes nothing.
use Rattle.std.proofs.Common.{ℕ, ◌+◌, ◌<◌, ◌≡◌, refl, sym, ◌∙◌, subst, Bool, true, false, ◌&&◌, ◌||◌, cond, List, T, eqb, ltb, arith, ltb-true, eqb-true}
use Rattle.std.proofs.lemmas.Bool.{eqb-false, not-true}
use Rattle.refusals.specs.Refusals.{◌or_else◌, passed}
use Rattle.lists.proofs.UpTo.{up_to-each, up_to-same}
use Rattle.refusals.proofs.Laws.{or_else_accepted, test-held}
use Rattle.records.specs.Fields.{kind_of, flags_of, count_of, second_of, from_of, to_of, gen_bus_of, piecewise_of, segments_of}
use Rattle.records.specs.Network as Network
use Rattle.records.specs.Check.{length_cause, record_cause, record_causes, branch_cause, gen_form, gen_cause, count_sum, sum_cause, check_of}
use Rattle.records.proofs.Causes.{counts_in_range, branch_kind, gen_kind}

and_both : (a b : Bool) → a && b ≡ true → (a ≡ true) × (b ≡ true)
and_both true b h = (refl, h)
and_both false b h = absurd (subst T (sym h) tt)

or_left_out : (a b : Bool) → a || b ≡ true → a ≡ false → b ≡ true
or_left_out true b h e = absurd (subst T e tt)
or_left_out false b h e = h

module _ (n m k s : ℕ) (b : List ℕ) where
  each_record : (records : ℕ) → record_causes n m k b records ≡ passed → (r : ℕ) → r < records → record_cause n m k b r ≡ passed
  unfolding record_causes
  each_record = up_to-each ◌or_else◌ passed (record_cause n m k b) or_else_accepted

  branch-ends : (r : ℕ) → branch_cause n b r ≡ passed → (from_of b r < n) × (to_of b r < n) × (from_of b r ≡ to_of b r → ⊥)
  unfolding branch_cause
  branch-ends r p =
      let rest = (or_else_accepted _ _ p).1 in
      let below = and_both (ltb (from_of b r) n) (ltb (to_of b r) n) (test-held _ _ (or_else_accepted _ _ rest).0) in
      let unlike = test-held _ _ (or_else_accepted _ _ rest).1 in
      (ltb-true _ _ below.0, ltb-true _ _ below.1, eqb-false _ _ (not-true _ unlike))

  gen_bus-below : (r : ℕ) → gen_cause n b r ≡ passed → gen_bus_of b r < n
  unfolding gen_cause
  gen_bus-below r p = ltb-true _ _ (test-held _ _ (or_else_accepted _ _ p).1)

  gen_plain : (r : ℕ) → gen_cause n b r ≡ passed → piecewise_of b r ≡ false → count_of b r ≡ 0
  unfolding gen_cause gen_form
  gen_plain r p q =
      let form = test-held _ _ (or_else_accepted _ _ p).0 in
      let first = eqb (kind_of b r) 3 && ltb (flags_of b r) 4 in
      let third = piecewise_of b r || eqb (count_of b r) 0 in
      let counted = (and_both first third (and_both (first && third) _ (and_both (first && third && eqb (second_of b r) 0) _ form).0).0).1 in
      eqb-true _ _ (or_left_out _ _ counted q)

  counted : (r : ℕ) → (piecewise_of b r ≡ false → count_of b r ≡ 0) → segments_of b r ≡ count_of b r
  unfolding segments_of
  counted r h = go (piecewise_of b r) refl
    where
      go : (t : Bool) → piecewise_of b r ≡ t → cond t (count_of b r) 0 ≡ count_of b r
      go true e = refl
      go false e = sym (h e)

  pub accepted : check_of n m k s b ≡ passed → Network.Accepted n m k s b
  unfolding check_of length_cause count_sum sum_cause
  accepted p =
      let counts = or_else_accepted _ _ p in
      let sized = or_else_accepted _ _ counts.1 in
      let records = or_else_accepted _ _ sized.1 in
      let bounds = counts_in_range n m k s counts.0 in
      let each = each_record (n + m + k + s) records.0 in
      let branch : (e : ℕ) → e < m → branch_cause n b (n + e) ≡ passed = λ e h. sym (branch_kind n m k b e h) ∙ each (n + e) (omega arith) in
      let gen : (g : ℕ) → g < k → gen_cause n b (n + m + g) ≡ passed = λ g h. sym (gen_kind n m k b g h) ∙ each (n + m + g) (omega arith) in
      record {
        few-buses = bounds.0;
        few-branches = bounds.1;
        few_generators = bounds.2;
        few-segments = bounds.3;
        size = eqb-true _ _ (test-held _ _ sized.0);
        from-below = λ e h. (branch-ends (n + e) (branch e h)).0;
        to_below = λ e h. (branch-ends (n + e) (branch e h)).1;
        ends_differ = λ e h. (branch-ends (n + e) (branch e h)).2;
        bus_below = λ g h. gen_bus-below (n + m + g) (gen g h);
        plain-count = λ g h. gen_plain (n + m + g) (gen g h);
        counts-add =
            up_to-same ◌+◌ 0 (λ g. segments_of b (n + m + g)) (λ g. count_of b (n + m + g)) k (λ g h. counted (n + m + g) (gen_plain (n + m + g) (gen g h)))
            ∙ eqb-true _ _ (test-held _ _ records.1);
      }
