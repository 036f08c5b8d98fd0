-- Terms by a column of a matrix that is cut out of it, or begins what is left of it. Assumes nothing.
use Rattle.std.proofs.Common.{ℕ, ◌+◌, ◌-◌, ◌≡◌, sym, ap, ◌∙◌, List, add_assoc, arith, length, take, drop, length-drop, get_or, Float}
use Rattle.std.specs.Float.{binary64, nan}
use Rattle.std.specs.Float.Ieee.{add, mul}
use Rattle.std.proofs.lemmas.List.{take_all, get_or-drop}
use Rattle.lists.specs.Entries.{Cell, cell}
use Rattle.lists.specs.Steps.{through}
use Rattle.weighing.specs.Weighing.{weigh, weighed}

-- one term, wherever its row is read
pub weigh-at : (x : List Float) (base n row : ℕ) (w a : Float) → n ≡ base + row → add binary64 a (mul binary64 w (get_or x n nan)) ≡ weigh x base (cell row w) a
unfolding weigh
weigh-at x base n row w a e = ap (λ (i : ℕ). add binary64 a (mul binary64 w (get_or x i nan))) e

-- terms by what is left from base on
pub weighed-behind : (x : List Float) (base b : ℕ) (ts : List Cell) (a : Float) → weighed (take (length x - base) (drop base x)) b ts a ≡ weighed x (base + b) ts a
unfolding weighed weigh
weighed-behind x base b ts a =
    let tail : take (length x - base) (drop base x) ≡ drop base x = take_all (length x - base) (drop base x) (omega (arith, length-drop base x)) in
    rw tail
    (ap (λ (f : Cell → Float → Float). through f ts a)
    (λ i t v. add binary64 v (mul binary64 t.val ((get_or-drop base x (b + t.row) nan ∙ ap (λ (n : ℕ). get_or x n nan) (sym (add_assoc base b t.row))) i))))
