-- Laws of columns and their ends. Assumes nothing.
use Rattle.std.proofs.lemmas.List.{length-map}
use Rattle.std.proofs.lemmas.List.Edits.{sets}
use Rattle.std.proofs.Common.{ℕ, ◌+◌, ◌≤◌, ◌≡◌, refl, sym, ap, ◌∙◌, List, [], ◌∷◌, ◌++◌, map, add-zero, zero-add, arith, length, set, length-append, Float}
use Rattle.lists.specs.UpTo.{overlay}
use Rattle.lists.specs.Entries.{Cell, cell_row, cell_val}
use Rattle.lists.specs.Compressed.{CellOut, cell_out, WroteCells, pos_of, joined, starts_from}
use Rattle.lists.proofs.Written.{overlaid}
use Rattle.lists.proofs.Compressed.{write_cells-pos, rows_sets, vals_sets, rows_of, vals_of, then, wrote_none, joined-append, joined-one}
use Rattle.cells.specs.Columns.{ends_from, Columns, Whole}
use Rattle.cells.proofs.Fills.{filled-then, filled_empty}

pub ends-length : (p : ℕ) (cs : List (List Cell)) → length (ends_from p cs) ≡ length cs
unfolding ends_from
ends-length p [] = refl
ends-length p (c ∷ cs) = omega (arith, ends-length (p + length c) cs)

pub ends-append : (p : ℕ) (xs ys : List (List Cell)) → ends_from p (xs ++ ys) ≡ ends_from p xs ++ ends_from (p + length (joined xs)) ys
unfolding ends_from joined
ends-append p [] ys = rw add-zero
ends-append p (x ∷ xs) ys =
    let e : p + length (x ++ joined xs) ≡ p + length x + length (joined xs) = simp length-append (omega arith) in
    rw (e, ends-append (p + length x) xs ys)

starts-ends : (p : ℕ) (cs : List (List Cell)) → starts_from p cs ≡ p ∷ ends_from p cs
unfolding starts_from ends_from
starts-ends p [] = refl
starts-ends p (c ∷ cs) = rw (starts-ends (p + length c) cs)

module _ {xs : List (List Cell)} {c : ℕ} {ss₀ ss : List ℕ} {o o' : CellOut} (h : Columns xs c ss₀ o ss o') where
  pub columns-pos : pos_of o' ≡ pos_of o + length (joined xs)
  columns-pos = ap pos_of h.cells.is ∙ write_cells-pos (joined xs) o

  -- one run of columns after another
  pub columns-then : {ys : List (List Cell)} {c' : ℕ} {ss'' : List ℕ} {o'' : CellOut} → c' ≡ c + length xs → Columns ys c' ss o' ss'' o'' → Columns (xs ++ ys) c ss₀ o ss'' o''
  columns-then {ys} {c'} e k =
      record {
        cells = rw (joined-append xs ys) (then h.cells k.cells);
        ends =
            rw (ends-append (pos_of o) xs ys, ← columns-pos)
            (filled-then h.ends (omega (arith, ends-length (pos_of o) xs)) k.ends);
      }

pub no-columns : {c : ℕ} {ss : List ℕ} {o : CellOut} → Columns [] c ss o ss o
unfolding joined ends_from
no-columns = record { cells = wrote_none; ends = filled_empty }

-- one column: its cells are written, then its end is stored
pub one-column : {cs : List Cell} {c : ℕ} {ss ss' rs rs' : List ℕ} {vs vs' : List Float} {at at' : ℕ}
    → WroteCells cs (cell_out rs vs at) (cell_out rs' vs' at') → ss' ≡ set ss (c + 1) at' → Columns (cs ∷ []) c ss (cell_out rs vs at) ss' (cell_out rs' vs' at')
unfolding ends_from
one-column {cs} {c} {ss} {rs = rs} {vs = vs} {at = at} w e =
    let p : _ ≡ at + length cs = ap pos_of w.is ∙ write_cells-pos cs (cell_out rs vs at) in
    record { cells = rw (joined-one cs) w; ends = record { is = e ∙ rw p } }

-- ---- what all columns leave in the three lists

module _ {cs : List (List Cell)} {ss₀ ss rs₀ rs : List ℕ} {vs₀ vs : List Float} {at : ℕ} (h : Whole cs ss₀ rs₀ vs₀ ss rs vs at) where
  pub whole-count : at ≡ length (joined cs)
  whole-count = columns-pos h.columns ∙ zero-add _

  pub whole-starts : length (starts_from 0 cs) ≤ length ss₀ → ss ≡ overlay (starts_from 0 cs) ss₀
  whole-starts l = h.columns.ends.is ∙ ap (sets ss₀ 0) (sym (starts-ends 0 cs)) ∙ overlaid (starts_from 0 cs) ss₀ l

  pub whole-rows : length (joined cs) ≤ length rs₀ → rs ≡ overlay (map cell_row (joined cs)) rs₀
  whole-rows l = ap rows_of h.columns.cells.is ∙ rows_sets (joined cs) _ ∙ overlaid (map cell_row (joined cs)) rs₀ (rw length-map l)

  pub whole-vals : length (joined cs) ≤ length vs₀ → vs ≡ overlay (map cell_val (joined cs)) vs₀
  whole-vals l = ap vals_of h.columns.cells.is ∙ vals_sets (joined cs) _ ∙ overlaid (map cell_val (joined cs)) vs₀ (rw length-map l)
