-- The names in a table by block have their blocks' keys. Assumes nothing.
use Rattle.std.proofs.Common.{ℕ, zero, suc, ◌+◌, ◌<◌, ◌≡◌, refl, List, [], ◌∷◌, length, get_or, take, arith}
use Rattle.numbering.specs.Blocks.{key}
use Rattle.numbering.specs.Numbering.{row_key, row_names, cost_rows, SameKey}
use Rattle.numbering.specs.declared.RowName.{RowName}

-- from block b on, each name of record i has its block's key
abbrev Keyed : ℕ → ℕ → List RowName → Type 0
Keyed i b [] = Unit
Keyed i b (x ∷ xs) = (row_key x ≡ key b i 0) × Keyed i (suc b) xs

keyed_at : (i b : ℕ) (xs : List RowName) → Keyed i b xs → (d : RowName) (c : ℕ) → c < length xs → row_key (get_or xs c d) ≡ key (c + b) i 0
keyed_at i b [] k d c h = absurd (omega arith)
keyed_at i b (x ∷ xs) k d zero h = let e : 0 + b ≡ b = omega arith in rw e k.0
keyed_at i b (x ∷ xs) k d (suc c) h =
    let e : suc c + b ≡ c + suc b = omega arith in
    rw e (keyed_at i (suc b) xs k.1 d c (omega arith))

-- the names of the blocks of one row for each record
abbrev rows : ℕ → List RowName
rows i = take cost_rows (row_names i 0)

pub rows_keyed : (i : ℕ) (d : RowName) (c : ℕ) → c < cost_rows → SameKey (row_key (get_or (rows i) c d)) (key c i 0)
rows_keyed i d c h =
    let all : Keyed i 0 (rows i) = search in
    let e : c + 0 ≡ c = omega arith in
    rw (keyed_at i 0 (rows i) all d c h, e) (record { block = refl; item = refl; place = refl })
