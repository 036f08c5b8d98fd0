-- How the answer follows from the checks and from what was written. Assumes nothing.
use Rattle.std.proofs.Common.{ℕ, ◌+◌, ◌≤◌, ◌<◌, ◌^◌, ◌≡◌, refl, sym, ap, subst, ◌∙◌, T, true, Ok, Err, IsErrAnd, List, map, length, length-append, arith, zero-add, le-leb, Float}
use Rattle.std.specs.Result.{is_ok}
use Rattle.lists.specs.Entries.{Entry, row_of, col_of, val_of}
use Rattle.lists.proofs.Sums.{each-length, sum_ones, sum-le}
use Rattle.lists.proofs.Written.{rows-front, cols-front, vals-front}
use Rattle.refusals.specs.Refusals.{Checked, Written, passed, ◌or_else◌}
use Rattle.refusals.specs.declared.Refusal.{Refusal}
use Rattle.refusals.proofs.Laws.{or_else_refused, or_else_accepted, accepted-first, held, has_room, left-written, left_alone, answer-held, answer-refused, leaves}
use Rattle.records.specs.AcNetwork.{AcNetwork}
use Rattle.records.proofs.Sound.{sound}
use Rattle.numbering.specs.Laid.{net_of, Laid}
use Rattle.numbering.specs.declared.SocWrLayout.{SocWrLayout}
use Rattle.numbering.proofs.Laid.{limits_are}
use Rattle.demand3.specs.Demand3.{entry_bound}
use Rattle.kkt.specs.Kkt.{kkt}
use Rattle.demand3.proofs.Demand3.{kkt-places}
use Rattle.solution.specs.Lengths.{solution_cause}
use Rattle.solution.proofs.Lengths.{both_long}
use Rattle.rows.specs.Program.{inequalities}
use Rattle.numbering.specs.declared.RowName.TheVariants.{Wub}
use Rattle.complementarity.specs.Writes.{Given, row_entries}
use Rattle.lists.specs.declared.Triplets.{Triplets}
use Rattle.dealing.specs.Ahead.{PutsFinished}
use Rattle.entries.specs.Answer.{room_cause, ListAnswered}

-- a check that is no error passed
pub passed_if : (c : Checked) → is_ok c ≡ true → c ≡ passed
passed_if (Ok u) h = refl
passed_if (Err cause) h = absurd (subst T (sym h) tt)

module _ {l : SocWrLayout} {bytes : List ℕ} where
  pub given : {x z : List Float} → Laid l bytes → solution_cause (net_of l bytes) (length x) (length z) ≡ passed → Given l bytes x z
  given h e = let p = both_long _ _ _ e in record { laid = h; x_length = p.0; z_length = p.1 }

  -- the list is not longer than demand 3 says
  pub short : {x z : List Float} → Given l bytes x z → (length (kkt (net_of l bytes) x z) ≤ entry_bound l) × (entry_bound l + l.n < 2 ^ 31)
  short {x} {z} g =
      let h = g.laid in
      let q = h.range in
      (omega (arith, (kkt-places (net_of l bytes) (sound l.n l.m l.k l.s bytes h.accepted) x z).bound, limits_are l bytes h), omega arith)

-- the rows of the nonnegative cone are at least as many entries as buses
pub covers : (G : AcNetwork Float) (x z : List Float) → G.n ≤ length (inequalities G (row_entries G x z true))
unfolding row_entries
covers G x z =
    simp length-append
    (omega (arith, each-length G.n (λ i. row_entries G x z true (Wub i)), sum_ones G.n, sum-le G.n (λ i. 1) (λ i. length (row_entries G x z true (Wub i))) (λ i d. one-at_least i)))
  where
    one-at_least : (i : ℕ) → 1 ≤ length (row_entries G x z true (Wub i))
    one-at_least i = rw length-append (omega arith)

pub rooms : (need : ℕ) (rs cs : List ℕ) (vs : List Float) → room_cause need rs cs vs ≡ passed → (need ≤ length rs) × (need ≤ length cs) × (need ≤ length vs)
unfolding room_cause
rooms need rs cs vs e =
    let p = or_else_accepted _ _ e in
    let q = or_else_accepted _ _ p.1 in
    (has_room _ _ p.0, has_room _ _ q.0, has_room _ _ q.1)

pub room-less : {need more : ℕ} (rs cs : List ℕ) (vs : List Float) → need ≤ more → room_cause more rs cs vs ≡ passed → room_cause need rs cs vs ≡ passed
unfolding room_cause
room-less {need} {more} rs cs vs d e =
    let p = rooms more rs cs vs e in
    rw (held _ _ (le-leb need (length rs) (omega arith)), held _ _ (le-leb need (length cs) (omega arith)), held _ _ (le-leb need (length vs) (omega arith)), accepted-first, accepted-first)

module _ {t : Triplets} where
  pub refused : {a : Checked} {es : List Entry} {out : Written} {cause : Refusal} → a ≡ Err cause → IsErrAnd out (λ x. x ≡ cause) → ListAnswered a es t t out
  refused h e =
      record {
        rows = refl;
        cols = refl;
        vals = refl;
        answered =
            record {
              answer = leaves e ∙ sym (answer-refused _ h);
              rows = sym (left_alone _ t.rows.now h);
              cols = sym (left_alone _ t.cols.now h);
              vals = sym (left_alone _ t.vals.now h);
            };
      }

  pub wrote : {a : Checked} {es : List Entry} {t' : Triplets} → a ≡ passed → room_cause (length es) t.rows.now t.cols.now t.vals.now ≡ passed
      → PutsFinished es (record t { at = 0 }) t' → ListAnswered a es t t' (Ok t'.at)
  wrote {a} {es} h room p =
      let r = rooms _ _ _ _ room in
      let f = p.finished in
      let w = f.wrote (rw zero-add r.0) (rw zero-add r.1) in
      record {
        rows = p.rows;
        cols = p.cols;
        vals = p.vals;
        answered =
            record {
              answer = ap Ok (f.position ∙ zero-add (length es)) ∙ sym (answer-held (length es) h);
              rows = rows-front w r.0 ∙ sym (left-written (map row_of es) t.rows.now h);
              cols = cols-front w r.1 ∙ sym (left-written (map col_of es) t.cols.now h);
              vals = vals-front w r.2 ∙ sym (left-written (map val_of es) t.vals.now h);
            };
      }

  -- the first of two checks refused, or passed
  pub stopped : {a : Checked} {es : List Entry} {out : Written} {cause : Refusal} (b : Checked) → a ≡ Err cause → IsErrAnd out (λ x. x ≡ cause)
      → ListAnswered (a or_else b) es t t out
  stopped b h e = refused (or_else_refused b h) e

  pub went_on : {a b : Checked} {es : List Entry} {t' : Triplets} {w : Written} → a ≡ passed → ListAnswered b es t t' w → ListAnswered (a or_else b) es t t' w
  went_on {b = b} h p = rw (h, accepted-first b) p
