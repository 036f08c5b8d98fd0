-- What the entries answer. Assumes nothing.
use Rattle.std.proofs.Common.{T, subst, false, is_err, refl, IsErrAnd, Err, Ok, ℕ, ◌≤◌, ◌<◌, ◌≡◌, sym, ap, ◌∙◌, List, le-leb, length, Float}
use Rattle.std.proofs.lemmas.Bool.{lt-leb}
use Rattle.lists.specs.UpTo.{overlay}
use Rattle.lists.specs.Entries.{Cell}
use Rattle.lists.specs.Compressed.{joined, starts_from}
use Rattle.refusals.specs.Refusals.{Checked, Written, passed, ◌or_else◌, refuse_unless, room_for}
use Rattle.refusals.specs.declared.Refusal.{Refusal}
use Rattle.refusals.specs.declared.Refusal.TheVariants.{OutputTooShort}
use Rattle.records.specs.Check.{check_of}
use Rattle.refusals.proofs.Laws.{has_room, or_else_accepted, or_else_refused, or_else_passed, left-written, left_alone, answer-held, answer-refused, leaves, held}
use Rattle.records.specs.Network.{network_of}
use Rattle.records.specs.AcNetwork.{AcNetwork}
use Rattle.numbering.specs.Network.{grid, Opened}
use Rattle.numbering.specs.declared.network.Network.{Network}
use Rattle.program.specs.Answered.{floats_check, FloatsWritten, columns_check, ListsWritten}
use Rattle.cells.specs.declared.Compressed.{Compressed}
use Rattle.cells.specs.Lent.{SameLists, WholeIn}
use Rattle.cells.proofs.Ends.{whole-count, whole-starts, whole-rows, whole-vals}

-- ---- rooms
room-held : {need have : ℕ} → need ≤ have → room_for need have ≡ passed
room-held {need} {have} h = held _ _ (le-leb need have h)

pub room-short : {need have : ℕ} → have < need → room_for need have ≡ Err (OutputTooShort need)
unfolding refuse_unless
room-short {need} {have} h = rw (lt-leb need have h)

pub entries-fit : {need there there' : ℕ} {r : Checked} → r ≡ room_for need there or_else room_for need there' → r ≡ passed → (need ≤ there) × (need ≤ there')
entries-fit q h = let p = or_else_accepted _ _ (sym q ∙ h) in (has_room _ _ p.0, has_room _ _ p.1)

pub passed-unless : (c : Checked) → is_err c ≡ false → c ≡ passed
passed-unless (Ok u) h = refl
passed-unless (Err cause) h = absurd (subst T h tt)

-- ---- a list of floats
module _ {check : Checked} {xs ys₀ : List Float} where
  floats_cause : {out : Written} {cause : Refusal} → floats_check check xs ys₀ ≡ Err cause → IsErrAnd out (λ x. x ≡ cause) → FloatsWritten check xs ys₀ ys₀ out
  floats_cause o h = record { answer = leaves h ∙ sym (answer-refused _ o); left = sym (left_alone _ _ o) }

  pub floats_refused : {out : Written} {cause : Refusal} → check ≡ Err cause → IsErrAnd out (λ x. x ≡ cause) → FloatsWritten check xs ys₀ ys₀ out
  unfolding floats_check
  floats_refused e h = floats_cause (or_else_refused _ e) h

  pub floats_short : {need : ℕ} {out : Written} {r : Checked} {cause : Refusal} → check ≡ passed → need ≡ length xs
      → r ≡ room_for need (length ys₀) → r ≡ Err cause → IsErrAnd out (λ x. x ≡ cause) → FloatsWritten check xs ys₀ ys₀ out
  unfolding floats_check
  floats_short e p q k h = floats_cause (or_else_passed _ e ∙ rw p at (sym q ∙ k)) h

  pub floats_written : {need : ℕ} {ys : List Float} → check ≡ passed → need ≡ length xs → length xs ≤ length ys₀ → ys ≡ overlay xs ys₀
      → FloatsWritten check xs ys₀ ys (Ok need)
  unfolding floats_check
  floats_written {need} e p h q =
      let o : floats_check check xs ys₀ ≡ passed = or_else_passed _ e ∙ room-held h in
      record { answer = rw p (sym (answer-held (length xs) o)); left = q ∙ sym (left-written xs ys₀ o) }

-- ---- compressed columns
pub same-lists : {t : Compressed} → SameLists t t
same-lists = record { starts = refl; rows = refl; values = refl }

module _ {check : Checked} {cs : List (List Cell)} {t : Compressed} where
  columns_cause : {out : Written} {cause : Refusal} → columns_check check cs t.starts.now t.rows.now t.values.now ≡ Err cause → IsErrAnd out (λ x. x ≡ cause)
      → ListsWritten check cs t t out
  columns_cause o h =
      record {
        lent = same-lists;
        written = record {
          answer = leaves h ∙ sym (answer-refused _ o);
          starts = sym (left_alone _ t.starts.now o);
          rows = sym (left_alone _ t.rows.now o);
          values = sym (left_alone _ t.values.now o);
        };
      }

  pub columns-refused : {out : Written} {cause : Refusal} → check ≡ Err cause → IsErrAnd out (λ x. x ≡ cause) → ListsWritten check cs t t out
  unfolding columns_check
  columns-refused e h = columns_cause (or_else_refused _ e) h

  -- refused by the first list that is too short
  module _ {need : ℕ} {out : Written} {r : Checked} {cause : Refusal} (e : check ≡ passed) where
    pub short-starts : need ≡ length (starts_from 0 cs) → r ≡ room_for need (length t.starts.now) → r ≡ Err cause → IsErrAnd out (λ x. x ≡ cause)
        → ListsWritten check cs t t out
    unfolding columns_check
    short-starts p q k h = columns_cause (or_else_passed _ e ∙ or_else_refused _ (rw p at (sym q ∙ k))) h

    pub short-entries : length (starts_from 0 cs) ≤ length t.starts.now → need ≡ length (joined cs)
        → r ≡ room_for need (length t.rows.now) or_else room_for need (length t.values.now) → r ≡ Err cause → IsErrAnd out (λ x. x ≡ cause) → ListsWritten check cs t t out
    unfolding columns_check
    short-entries s p q k h = columns_cause (or_else_passed _ e ∙ or_else_passed _ (room-held s) ∙ rw p at (sym q ∙ k)) h

  pub columns-written : {need : ℕ} {t' : Compressed} → check ≡ passed
      → length (starts_from 0 cs) ≤ length t.starts.now → length (joined cs) ≤ length t.rows.now → length (joined cs) ≤ length t.values.now
      → WholeIn cs t t' need → ListsWritten check cs t t' (Ok need)
  unfolding columns_check
  columns-written e s p q w =
      let o : columns_check check cs t.starts.now t.rows.now t.values.now ≡ passed =
      or_else_passed _ e ∙ or_else_passed _ (room-held s) ∙ or_else_passed _ (room-held p) ∙ room-held q in
      record {
        lent = w.lent;
        written = record {
          answer = ap Ok (whole-count w.whole) ∙ sym (answer-held _ o);
          starts = whole-starts w.whole s ∙ sym (left-written _ t.starts.now o);
          rows = whole-rows w.whole p ∙ sym (left-written _ t.rows.now o);
          values = whole-vals w.whole q ∙ sym (left-written _ t.values.now o);
        };
      }

-- ---- of a case what its network gives

module _ {n m k s : ℕ} {b : List ℕ} {w : Network} (o : Opened n m k s b w) where
  same_network : grid w ≡ network_of n m k s b
  same_network = rw (o.layout, o.bytes) refl

  pub pass_floats : (f : AcNetwork Float → List Float) {ys₀ ys : List Float} {out : Written} → FloatsWritten passed (f (grid w)) ys₀ ys out
      → FloatsWritten (check_of n m k s b) (f (network_of n m k s b)) ys₀ ys out
  pass_floats f w = rw (o.accepted, ← same_network) w

  pub pass-columns : (f : AcNetwork Float → List (List Cell)) {t t' : Compressed} {out : Written}
      → ListsWritten passed (f (grid w)) t t' out → ListsWritten (check_of n m k s b) (f (network_of n m k s b)) t t' out
  pass-columns f w = rw (o.accepted, ← same_network) w
