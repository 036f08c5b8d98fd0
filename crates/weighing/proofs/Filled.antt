-- The buffer goes on by one column. Assumes nothing.
use Rattle.std.proofs.Common.{ℕ, ◌+◌, ◌*◌, ◌-◌, ◌≤◌, ◌<◌, ◌≡◌, refl, sym, ap, ◌∙◌, List, [], ◌∷◌, ◌++◌, arith, length, get_or, set, take, drop}
use Rattle.std.proofs.Common.{get_or-set_same, get_or-set_other, take_at, drop_at}
use Rattle.std.proofs.Common.{Float}
use Rattle.std.specs.Float.{nan}
use native.Mathlib.Decide.{ℕ_discrete}
use Rattle.lists.specs.UpTo.{listed}
use Rattle.lists.specs.Entries.{Cell, cell}
use Rattle.lists.proofs.UpTo.{up_to-same}
use Rattle.lists.proofs.Each.{each-split}
use Rattle.lists.proofs.Listed.{listed_at}
use Rattle.sparse.specs.Sparse.{start_of, segment, item_of}
use Rattle.weighing.specs.Gathering.{held, span, Added, passed_rows, Segmented, Filling}
use Rattle.weighing.proofs.Gathered.{held-length, added-count}
use Rattle.weighing.proofs.Walked.{passed_here, passed-after, onward, before-both, not_reached, further_column}

-- the cells from a on stand behind the first a
held-split : (rows : List ℕ) (values : List Float) (a b : ℕ) → a ≤ b → held rows values b ≡ held rows values a ++ segment rows values a b
unfolding held segment
held-split rows values a b h =
    let e : b ≡ a + (b - a) = omega arith in
    ap (λ (k : ℕ). listed k (λ j. cell (get_or rows j 0) (get_or values j nan))) e
    ∙ each-split (λ j. cell (get_or rows j 0) (get_or values j nan) ∷ []) a (b - a)

module _ {least n n' : ℕ} {ts : List Cell} {rows rows' : List ℕ} {values values' : List Float} (p : Added least ts rows values n rows' values' n') (h : n ≤ n') where
  -- the first n are as they were
  front_same : held rows' values' n ≡ held rows values n
  front_same =
      sym (take_at (held rows' values' n) (segment rows' values' n n') n (held-length rows' values' n))
      ∙ ap (take n) (sym (held-split rows' values' n n' h) ∙ p.adds)
      ∙ take_at (held rows values n) ts n (held-length rows values n)

  -- and what follows is what was added
  pub added-segment : segment rows' values' n n' ≡ ts
  added-segment =
      sym (drop_at (held rows' values' n) (segment rows' values' n n') n (held-length rows' values' n))
      ∙ ap (drop n) (sym (held-split rows' values' n n' h) ∙ p.adds)
      ∙ drop_at (held rows values n) ts n (held-length rows values n)

  cell_same : (j : ℕ) → j < n → cell (get_or rows' j 0) (get_or values' j nan) ≡ cell (get_or rows j 0) (get_or values j nan)
  unfolding held
  cell_same j l =
      sym (listed_at (λ k. cell (get_or rows' k 0) (get_or values' k nan)) n j (cell 0 nan) l)
      ∙ ap (λ (xs : List Cell). get_or xs j (cell 0 nan)) front_same
      ∙ listed_at (λ k. cell (get_or rows k 0) (get_or values k nan)) n j (cell 0 nan) l

  pub segment-same : (a b : ℕ) → b ≤ n → segment rows' values' a b ≡ segment rows values a b
  unfolding segment
  segment-same a b l = up_to-same ◌++◌ [] _ _ (b - a) (λ j i. ap (λ (t : Cell). t ∷ []) (cell_same (a + j) (omega arith)))

module _ {dim c r : ℕ} {rhs : List Float} {starts rows : List ℕ} {values : List Float} where
  pub segmented_none : (past : ℕ → ℕ) → start_of starts 0 ≡ 0 → Segmented dim c r rhs past starts rows values 0 0
  segmented_none past e =
      record {
        last = e;
        rises = λ t l. absurd (omega arith);
        within = λ t l. absurd (omega arith);
        holds = λ t l. absurd (omega arith);
        below = λ j l. absurd (omega arith);
      }

  -- one column more, up to row past s
  pub segmented_more : {s n n' : ℕ} {rows' : List ℕ} {values' : List Float} {past past' : ℕ → ℕ}
      → Segmented dim c r rhs past starts rows values s n → s + 1 < length starts
      → Added dim (span rhs ((c + s) * dim) (passed_rows dim c r (c + s)) (past' s)) rows values n rows' values' n'
      → ((t : ℕ) → t < s → past t ≡ past' t)
      → Segmented dim c r rhs past' (set starts (s + 1) n') rows' values' (s + 1) n'
  unfolding item_of
  segmented_more {s} {n} {n'} {past = past} {past' = past'} g h p e =
      let m : n ≤ n' = omega (arith, added-count p) in
      let new : start_of (set starts (s + 1) n') (s + 1) ≡ n' = get_or-set_same starts (s + 1) n' 0 h in
      let old : (t : ℕ) → t ≤ s → start_of (set starts (s + 1) n') t ≡ start_of starts t = λ t l. get_or-set_other starts (s + 1) t n' 0 (λ i. omega arith) in
      record {
        last = new;
        rises = λ t l.
            elim (ℕ_discrete t s) [
              | yes i ↦ rw (i, old s (omega arith), new, g.last) m
              | no i ↦ rw (old t (omega arith), old (t + 1) (omega arith)) (g.rises t (omega arith))
            ];
        within = λ t l.
            elim (ℕ_discrete t s) [
              | yes i ↦ rw (i, new) (omega arith)
              | no i ↦ rw (old (t + 1) (omega arith)) (omega (arith, g.within t (omega arith)))
            ];
        holds = λ t l.
            elim (ℕ_discrete t s) [
              | yes i ↦ rw (i, old s (omega arith), new, g.last) (added-segment p m)
              | no i ↦
                  rw (old t (omega arith), old (t + 1) (omega arith), ← e t (omega arith))
                  (segment-same p m (start_of starts t) (start_of starts (t + 1)) (g.within t (omega arith)) ∙ g.holds t (omega arith))
            ];
        below = p.below dim (omega arith) g.below;
      }

module _ (dim columns c r : ℕ) (i : r < dim) {rhs : List Float} {starts rows : List ℕ} {values : List Float} {s n : ℕ} (h : s < 8) (l : c + s < columns) (m : n ≤ 256) where
  -- the buffer was full within column c + s
  pub filling_part : (next : ℕ) → Segmented dim c r rhs (λ t. passed_rows dim (c + s) next (c + t)) starts rows values (s + 1) n
      → next < dim → passed_rows dim c r (c + s) < next → Filling dim columns c r rhs starts rows values (s + 1) (c + s) next
  filling_part next g j b =
      let before : c ≡ c + s → r ≤ next = λ e. omega (arith, passed_here dim c r (c + s) (sym e)) in
      record {
        count = n;
        room = m;
        has = g;
        few = omega arith;
        inside = omega arith;
        onward = onward dim c r (c + s) next (omega arith) (omega arith) before;
        earlier = before-both dim c r (c + s) next (omega arith) (omega arith) before;
        later = λ k q. passed-after dim (c + s) next k (omega arith) ∙ sym (passed-after dim c r k (omega arith));
        column-inside = omega arith;
        row_inside = j;
        moved = elim (ℕ_discrete s 0) [
          | yes e ↦ let q : c + s ≡ c = omega arith in rw q (omega (arith, passed_here dim c r (c + s) q))
          | no e ↦ further_column dim c r (c + s) next i (omega arith)
        ];
      }

  -- it was filled up to the end of column c + s
  pub filling_whole : Segmented dim c r rhs (λ t. passed_rows dim (c + (s + 1)) 0 (c + t)) starts rows values (s + 1) n
      → Filling dim columns c r rhs starts rows values (s + 1) (c + (s + 1)) 0
  filling_whole g =
      let before : c ≡ c + (s + 1) → r ≤ 0 = λ e. omega arith in
      record {
        count = n;
        room = m;
        has = g;
        few = omega arith;
        inside = omega arith;
        onward = onward dim c r (c + (s + 1)) 0 (omega arith) (omega arith) before;
        earlier = before-both dim c r (c + (s + 1)) 0 (omega arith) (omega arith) before;
        later = λ k q. not_reached dim (c + (s + 1)) 0 k q (λ e. refl) ∙ sym (passed-after dim c r k (omega arith));
        column-inside = omega arith;
        row_inside = omega arith;
        moved = further_column dim c r (c + (s + 1)) 0 i (omega arith);
      }
