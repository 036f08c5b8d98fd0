-- A segment cut out of its lists, and a loop over its rows and weights: which pair a turn has, and how many turns there are. Assumes nothing.
use Rattle.std.proofs.Common.{◌≡◌, ℕ, ◌+◌, ◌-◌, ◌<◌, ◌≤◌, List, [], ◌∷◌, ◌++◌, length, get_or, take, drop, arith, ◌∙◌, ap₂, length-take, length-drop, Float, Bor, Iter, Option, Some, None}
use Rattle.std.specs.Float.{nan}
use Rattle.std.specs.Iterator.{Yields}
use Rattle.std.specs.Iterator.Adapters.{zip_first, zip_second}
use Rattle.std.specs.Slice.Iter.{iter_rest}
use Rattle.std.specs.declared.iter.Zip.{Zip}
use Rattle.std.proofs.iter.Yields.{fronts}
use Rattle.std.proofs.lemmas.Iterator.{zips}
use Rattle.std.proofs.lemmas.List.{get_or-take, get_or-drop}
use Rattle.std.proofs.lemmas.Slice.Zip.{zip_turn, zip_end}
use Rattle.lists.specs.Entries.{cell}
use Rattle.lists.proofs.UpTo.{up_to-same}
use Rattle.sparse.specs.Sparse.{segment, cells}

-- the part of a list from first up to past
abbrev pub part : {A : Type 0} → List A → ℕ → ℕ → List A
part l first past = take (past - first) (drop first l)

module _ {A : Type 0} (l : List A) (first past : ℕ) (h : first ≤ past) (k : past ≤ length l) where
  pub part-length : length (part l first past) ≡ past - first
  part-length = omega (arith, length-take (past - first) (drop first l), length-drop first l)

  pub part_at : (n : ℕ) (d : A) → n < past - first → get_or (part l first past) n d ≡ get_or l (first + n) d
  part_at n d i = get_or-take (past - first) (drop first l) n d i ∙ get_or-drop first l n d

pub part-segment : (rows : List ℕ) (weights : List Float) (first past : ℕ) → first ≤ past → past ≤ length rows → past ≤ length weights
    → cells (part rows first past) (part weights first past) ≡ segment rows weights first past
unfolding cells segment
part-segment rows weights first past f h k =
    rw (part-length rows first past f h)
    (up_to-same ◌++◌ [] _ _ (past - first)
    (λ j l. ap₂ (λ (a : ℕ) (b : Float). cell a b ∷ []) (part_at rows first past f h j 0 l) (part_at weights first past f k j nan l)))

-- the pair at place n
pub record At (rows : List ℕ) (weights : List Float) (n row : ℕ) (weight : Float) : Type 0 where
  pub within : n < length rows
  pub row-is : row ≡ get_or rows n 0
  pub weight-is : weight ≡ get_or weights n nan

module _ (rows : List ℕ) (weights : List Float) (k : length weights ≡ length rows)
    (xs : List (Bor ℕ × Bor Float)) (s t u : Zip (Iter ℕ) (Iter Float)) (r : Option (Bor ℕ × Bor Float))
    (one : iter_rest (zip_first s) ≡ rows) (two : iter_rest (zip_second s) ≡ weights)
    (y : Yields (zips fronts fronts) s xs t) where
  pub pair_at : (p : Bor ℕ × Bor Float) → r ≡ Some p → zips fronts fronts t r u → At rows weights (length xs) p.0.now p.1.now
  pair_at p e step =
      let w = zip_turn rows weights xs s t u r one two y p e step in
      record { within = w.0; row-is = w.2 0; weight-is = w.3 nan }

  pub pairs-all : r ≡ None → zips fronts fronts t r u → length xs ≡ length rows
  pairs-all e step = omega (arith, zip_end rows weights xs s t u r one two y e step)
