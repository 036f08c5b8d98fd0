-- A state that a loop steps through.
use Rattle.std.specs.Prelude.{ℕ, zero, suc, List, [], ◌∷◌}

-- after the turns 0, 1, .., n - 1
unfoldable pub turns : {S : Type 0} → (ℕ → S → S) → ℕ → S → S
turns f zero s = s
turns f (suc n) s = f n (turns f n s)

-- after a step for each element of a list, the first first
unfoldable pub through : {A S : Type 0} → (A → S → S) → List A → S → S
through f [] s = s
through f (x ∷ xs) s = through f xs (f x s)
