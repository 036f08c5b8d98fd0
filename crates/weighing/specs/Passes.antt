-- What one pass of the combinations does to the cells of a table: each of them is weighed by the terms of its own segment, once.
-- Cell (d, s), of the dense column d and the segment s, lies at at + d * dense + s * across.
use Rattle.std.specs.Prelude.{ℕ, ◌+◌, ◌*◌, ◌<◌, ◌≡◌, List, length, get_or, Float}
use Rattle.std.specs.Float.{nan}
use Rattle.sparse.specs.Sparse.{item_of}
use Rattle.sparse.specs.declared.lent.Dense.{Dense}
use Rattle.sparse.specs.declared.lent.Terms.{Terms}
use Rattle.weighing.specs.Weighing.{weighed}

abbrev pub place : ℕ → ℕ → ℕ → ℕ → ℕ → ℕ
place at dense across d s = at + d * dense + s * across

-- the cells of count dense columns and so many segments
abbrev pub Below : ℕ → ℕ → ℕ → ℕ → Type 0
Below count segments d s = (d < count) × (s < segments)

-- the cells lie inside n elements, no two at one place
pub record Spread (at dense across count segments n : ℕ) : Type 0 where
  pub inside : (d s : ℕ) → Below count segments d s → place at dense across d s < n
  pub apart : (d s d' s' : ℕ) → Below count segments d s → Below count segments d' s' → place at dense across d s ≡ place at dense across d' s' → (d ≡ d') × (s ≡ s')

-- m' is m with f applied to the cells of P, and nothing else
pub record Passed (pos : ℕ → ℕ → ℕ) (P : ℕ → ℕ → Type 0) (f : ℕ → ℕ → Float → Float) (m m' : List Float) : Type 0 where
  pub long : length m' ≡ length m
  pub done : (d s : ℕ) → P d s → get_or m' (pos d s) nan ≡ f d s (get_or m (pos d s) nan)
  pub kept : (i : ℕ) → ((d s : ℕ) → P d s → i ≡ pos d s → ⊥) → get_or m' i nan ≡ get_or m i nan

-- the terms of segment s by the dense column d, whose first begins at base
abbrev pub weighed_at : List Float → ℕ → ℕ → List ℕ → List ℕ → List Float → ℕ → ℕ → Float → Float
weighed_at x base dim starts rows weights d s a = weighed x (base + d * dim) (item_of starts rows weights s) a

-- the same, of what is lent
abbrev pub weighed_by : Dense → ℕ → Terms → ℕ → ℕ → Float → Float
weighed_by x base t = weighed_at x.values.now base x.dim t.selector.starts.now t.selector.rows.now t.selector.weights.now
