-- A fill of the buffer while it goes on. Assumes nothing.
use Rattle.std.proofs.Common.{ℕ, ◌+◌, ◌*◌, ◌≤◌, ◌<◌, ◌≡◌, refl, sym, ◌∙◌, List, Float, add-zero, arith, length, set}
use native.Mathlib.Decide.{ℕ_discrete}
use Rattle.sparse.specs.Sparse.{start_of}
use Rattle.weighing.specs.Gathering.{span, Added, Stopped, passed_rows, Segmented, Filling}
use Rattle.weighing.proofs.Walked.{passed-before, passed_here, passed-after}
use Rattle.weighing.proofs.Filled.{segmented_none, segmented_more, filling_part, filling_whole}

-- it began at row r of column c, and stands at row r' of column c' with s segments and n cells
pub record Walking (dim columns c r : ℕ) (rhs : List Float) (c' r' : ℕ) (starts rows : List ℕ) (values : List Float) (s n : ℕ) : Type 0 where
  pub inside : c' ≤ columns
  pub below : r' < dim
  pub room : n ≤ 256
  pub few : s ≤ 8
  pub none : s ≡ 0 → (c' ≡ c) × (n ≡ 0)
  pub on : n < 256 → (c' ≡ c + s) × (r' ≡ passed_rows dim c r (c + s))
  pub has : Segmented dim c r rhs (λ t. passed_rows dim c' r' (c + t)) starts rows values s n
  pub fills : 0 < s → Filling dim columns c r rhs starts rows values s c' r'

module _ (dim columns c r : ℕ) (i : c < columns) (j : r < dim) (rhs : List Float) where
  pub walking_none : {starts rows : List ℕ} {values : List Float} → start_of starts 0 ≡ 0 → Walking dim columns c r rhs c r starts rows values 0 0
  walking_none e =
      record {
        inside = omega arith;
        below = j;
        room = omega arith;
        few = omega arith;
        none = λ e. (refl, refl);
        on = λ l. (omega arith, sym (passed_here dim c r (c + 0) (add-zero c)));
        has = segmented_none _ e;
        fills = λ l. absurd (omega arith);
      }

  module _ {c' r' s n : ℕ} {starts rows : List ℕ} {values : List Float} (w : Walking dim columns c r rhs c' r' starts rows values s n) where
    -- it is at its end
    pub walked : (c' < columns → s < 8 → n < 256 → ⊥) → Filling dim columns c r rhs starts rows values s c' r'
    walked stop =
        elim (ℕ_discrete s 0) [
          | yes e ↦ absurd (let z = w.none e in stop (omega arith) (omega arith) (omega arith))
          | no e ↦ w.fills (omega arith)
        ]

    module _ (h : s < 8) (l : n < 256) (k : c' < columns) (long : s + 1 < length starts) {next n' : ℕ} {rows' : List ℕ} {values' : List Float}
        (stopped : Stopped r' dim n' next) (added : Added dim (span rhs (c' * dim) r' next) rows values n rows' values' n') where
      -- up to the end of the column
      pub walking_whole : next ≡ dim → Walking dim columns c r rhs (c' + 1) 0 (set starts (s + 1) n') rows' values' (s + 1) n'
      walking_whole e =
          let at = w.on l in
          let next-column : c' + 1 ≡ c + (s + 1) = omega arith in
          let o = passed-before dim (c + (s + 1)) 0 (c + s) (omega arith) in
          let before : (t : ℕ) → t < s → passed_rows dim c' r' (c + t) ≡ passed_rows dim (c + (s + 1)) 0 (c + t) =
          λ t q. passed-before dim c' r' (c + t) (omega arith) ∙ sym (passed-before dim (c + (s + 1)) 0 (c + t) (omega arith)) in
          let g : Segmented dim c r rhs (λ t. passed_rows dim (c + (s + 1)) 0 (c + t)) (set starts (s + 1) n') rows' values' (s + 1) n' =
          segmented_more w.has long (rw (o, ← at.1, ← at.0) (rw e at added)) before in
          rw next-column (
          record {
            inside = omega arith;
            below = omega arith;
            room = stopped.room;
            few = omega arith;
            none = λ q. absurd (omega arith);
            on = λ q. (refl, sym (passed-after dim c r (c + (s + 1)) (omega arith)));
            has = g;
            fills = λ q. filling_whole dim columns c r j h (omega arith) stopped.room g;
          }
          )

      -- within the column, where the buffer is full
      pub walking_part : next < dim → Walking dim columns c r rhs c' next (set starts (s + 1) n') rows' values' (s + 1) n'
      walking_part m =
          let at = w.on l in
          let o = passed_here dim (c + s) next (c + s) refl in
          let before : (t : ℕ) → t < s → passed_rows dim c' r' (c + t) ≡ passed_rows dim (c + s) next (c + t) =
          λ t q. passed-before dim c' r' (c + t) (omega arith) ∙ sym (passed-before dim (c + s) next (c + t) (omega arith)) in
          let g : Segmented dim c r rhs (λ t. passed_rows dim (c + s) next (c + t)) (set starts (s + 1) n') rows' values' (s + 1) n' =
          segmented_more w.has long (rw (o, ← at.1, ← at.0) added) before in
          rw at.0 (
          record {
            inside = omega arith;
            below = m;
            room = stopped.room;
            few = omega arith;
            none = λ q. absurd (omega arith);
            on = λ q. absurd (omega (arith, stopped.full m));
            has = g;
            fills = λ q. filling_part dim columns c r j h (omega arith) stopped.room next g m (rw (← at.1) stopped.moved);
          }
          )
