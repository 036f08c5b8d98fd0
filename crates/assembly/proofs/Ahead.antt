-- Columns written while some starts and some values past theirs are in use. Assumes nothing.
use Rattle.std.proofs.lemmas.List.{length-map, set_comm}
use Rattle.std.proofs.lemmas.List.Edits.{sets, sets-eq}
use Rattle.std.proofs.Common.{ℕ, suc, ◌+◌, ◌-◌, ◌≤◌, ◌<◌, ◌≡◌, refl, sym, ap, ◌∙◌, List, [], ◌∷◌, ◌++◌, map, append_assoc, ⊎_elim, arith, length, set, take, drop, take-append-drop}
use Rattle.std.proofs.Common.{length-append, length-drop, set-set, Float}
use borrow.Rule.Slice.PartMut.{put_mid, Post-is}
use Rattle.lists.specs.Entries.{Cell, cell_val}
use Rattle.lists.specs.Compressed.{CellOut, cell_out, WroteCells, write_cells, pos_of, joined}
use Rattle.lists.proofs.Compressed.{rows_of, vals_of, write_cells-pos, rows_sets, vals_sets, joined-append, then, pos}
use Rattle.cells.specs.Columns.{ends_from, Columns}
use Rattle.cells.specs.declared.Cells.{Cells}
use Rattle.cells.specs.Puts.{cells_of, SameLent, PutsColumns}
use Rattle.cells.proofs.Fills.{sets_append}
use Rattle.cells.proofs.Puts.{same-then}
use Rattle.cells.proofs.Ends.{ends-length, ends-append}
use Rattle.dealing.proofs.Dealing.{same?}
use Rattle.assembly.specs.Ahead.{Ahead}

-- ---- stores over earlier ones

module _ {A : Type 0} where
  set_before : (xs l : List A) (at p : ℕ) (v : A) → p < at → set (sets l at xs) p v ≡ sets (set l p v) at xs
  set_before [] l at p v h = refl
  set_before (x ∷ xs) l at p v h =
      set_before xs (set l at x) (suc at) p v (omega arith) ∙ ap (λ (r : List A). sets r (suc at) xs) (set_comm l at p x v (λ e. omega (arith, e)))

  sets_cover : (xs ys l : List A) (x at : ℕ) → at ≤ x → x + length xs ≤ at + length ys → sets (sets l x xs) at ys ≡ sets l at ys
  sets_cover [] ys l x at h k = refl
  sets_cover (z ∷ xs) [] l x at h k = absurd (omega arith)
  sets_cover (z ∷ xs) (y ∷ ys) l x at h k =
      ⊎_elim
      (λ e.
      let p : set (sets l x (z ∷ xs)) x y ≡ sets (set l x y) (suc x) xs =
      set_before xs (set l x z) (suc x) x y (omega arith) ∙ ap (λ (r : List A). sets r (suc x) xs) (set-set l x z y) in
      rw e (ap (λ (r : List A). sets r (suc x) ys) p ∙ sets_cover xs ys (set l x y) (suc x) (suc x) (omega arith) (omega arith)))
      (λ d.
      ap (λ (r : List A). sets r (suc at) ys) (set_before (z ∷ xs) l x at y (omega arith))
      ∙ sets_cover (z ∷ xs) ys (set l at y) x (suc at) (omega arith) (omega arith))
      (same? at x)

-- cells written over values that were written over others
out-is : (o : CellOut) → o ≡ cell_out (rows_of o) (vals_of o) (pos_of o)
out-is (cell_out rs vs at) = refl

wrote-over : (xs : List Float) {cs : List Cell} {rs : List ℕ} {vs : List Float} {x at : ℕ} {o : CellOut} → at ≤ x → x + length xs ≤ at + length cs
    → WroteCells cs (cell_out rs (sets vs x xs) at) o → WroteCells cs (cell_out rs vs at) o
wrote-over xs {cs} {rs} {vs} {x} {at} h k w =
    let o₁ = cell_out rs (sets vs x xs) at in
    let o₂ = cell_out rs vs at in
    let p = write_cells-pos cs o₁ ∙ sym (write_cells-pos cs o₂) in
    let r = rows_sets cs o₁ ∙ sym (rows_sets cs o₂) in
    let v = vals_sets cs o₁ ∙ sets_cover xs (map cell_val cs) vs x at h (omega (arith, length-map cs cell_val)) ∙ sym (vals_sets cs o₂) in
    record { is = w.is ∙ out-is (write_cells cs o₁) ∙ rw (p, r, v) (sym (out-is (write_cells cs o₂))) }

-- ---- the columns after those cover what is ahead

pub ahead_then : {xs ys : List (List Cell)} {c c' used far : ℕ} {ss₀ ss ss'' : List ℕ} {o o' o'' : CellOut} → Ahead xs c used far ss₀ o ss o' → c' ≡ c + length xs → used ≤ length ys
    → far ≤ pos_of o' + length (joined ys) → Columns ys c' ss o' ss'' o'' → Columns (xs ++ ys) c ss₀ o ss'' o''
ahead_then {xs} {ys} {c} {c'} {ss₀ = ss₀} {ss = ss} {o = o} {o' = o'} {o'' = o''} h e u f k =
    let zs = ends_from (pos_of o') ys in
    let es = ends_from (pos_of o) xs in
    let q : c' + 1 ≡ c + 1 + length xs = omega (arith, e) in
    let n : c + 1 + length xs ≡ c + 1 + length es = omega (arith, ends-length (pos_of o) xs) in
    let s₁ : sets ss (c' + 1) zs ≡ sets (sets ss₀ (c + 1) es) (c + 1 + length xs) zs = rw q (h.ends zs (omega (arith, ends-length (pos_of o') ys))) in
    let s₂ : sets (sets ss₀ (c + 1) es) (c + 1 + length xs) zs ≡ sets ss₀ (c + 1) (es ++ zs) = rw n (sym (sets_append es zs ss₀ (c + 1))) in
    let s₃ : es ++ zs ≡ ends_from (pos_of o) (xs ++ ys) = ap (λ (p : ℕ). es ++ ends_from p ys) h.next ∙ sym (ends-append (pos_of o) xs ys) in
    record {
      cells = rw (joined-append xs ys) (h.cells (joined ys) o'' f k.cells);
      ends = record { is = k.ends.is ∙ s₁ ∙ s₂ ∙ ap (sets ss₀ (c + 1)) s₃ };
    }

-- in the same two lists
pub puts_then : {xs ys : List (List Cell)} {c c' used far : ℕ} {ss₀ ss ss'' : List ℕ} {t t' t'' : Cells}
    → SameLent t t' → Ahead xs c used far ss₀ (cells_of t) ss (cells_of t') → c' ≡ c + length xs → used ≤ length ys
    → far ≤ t'.at + length (joined ys) → PutsColumns ys c' ss t' ss'' t'' → PutsColumns (xs ++ ys) c ss₀ t ss'' t''
puts_then s h e u f k = record { lent = same-then s k.lent; columns = ahead_then h e u f k.columns }

-- ---- a part of the starts that is lent: the ends in front, anything behind; and values that were written far ahead

pub part_ahead : {cs : List (List Cell)} {c n used : ℕ} (es : List ℕ) (xs : List Float) {ss₀ rs₀ rs : List ℕ} {vs₀ vs : List Float} {at next x far : ℕ}
    → c + 1 + n + used ≤ length ss₀ → length cs ≡ n
    → WroteCells (joined cs) (cell_out rs₀ (sets vs₀ x xs) at) (cell_out rs vs next) → at ≤ x → far ≡ x + length xs → take n es ≡ ends_from at cs → length es ≡ n + used
    → Ahead cs c used far ss₀ (cell_out rs₀ vs₀ at) (put_mid (c + 1) (c + 1 + n + used - (c + 1)) ss₀ es) (cell_out rs vs next)
part_ahead {cs} {c} {n} {used} es xs {ss₀} {at = at} {x = x} h e v b f q m =
    let a : c + 1 ≤ c + 1 + n + used = omega arith in
    let k : c + 1 + n + used ≡ c + 1 + length es = omega arith in
    let l : length (ends_from at cs) ≡ n = ends-length at cs ∙ e in
    let whole : put_mid (c + 1) (c + 1 + n + used - (c + 1)) ss₀ es ≡ sets ss₀ (c + 1) es =
    rw (Post-is (c + 1) (c + 1 + n + used) ss₀ a, k) (sym (sets-eq es ss₀ (c + 1) (omega arith) ∙ append_assoc (take (c + 1) ss₀) es (drop (c + 1 + length es) ss₀))) in
    let parts : sets ss₀ (c + 1) es ≡ sets (sets ss₀ (c + 1) (ends_from at cs)) (c + 1 + n) (drop n es) =
    ap (sets ss₀ (c + 1)) (sym (take-append-drop n es) ∙ ap (λ (x : List ℕ). x ++ drop n es) q) ∙ sets_append (ends_from at cs) (drop n es) ss₀ (c + 1) ∙ rw l in
    record {
      next = pos v;
      cells = λ ds o'' g w. wrote-over xs b (omega (arith, pos v, length-append (joined cs) ds, g, f)) (then v w);
      ends = λ zs u. rw (e, whole, parts) (sets_cover (drop n es) zs (sets ss₀ (c + 1) (ends_from at cs)) (c + 1 + n) (c + 1 + n) (omega arith) (omega (arith, length-drop n es)));
    }
