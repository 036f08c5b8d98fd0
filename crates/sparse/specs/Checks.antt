-- Document 01, 'Causes turned away', number 12: what of it the lists of several entries have in common.
use Rattle.std.specs.Prelude.{ℕ, ◌+◌, Bool, ◌&&◌, List, eqb, leb, ltb, length, get_or, Float}
use Rattle.lists.specs.UpTo.{all}
use Rattle.sparse.specs.Sparse.{items_of, start_of}

-- "dim above 294,912"; the KKT matrix of no accepted network is larger (kernel/proofs/Dims.antt)
abbrev pub most_dim : ℕ
most_dim = 294912

-- not "more than 65,536 columns or items, dim above 294,912"
unfoldable pub bounded : ℕ → ℕ → Bool
bounded dim columns = leb columns 65536 && leb dim most_dim

-- not "row or column outside dim"
unfoldable pub all_below : ℕ → List ℕ → Bool
all_below dim xs = all (length xs) (λ j. ltb (get_or xs j 0) dim)

-- not "unequal lists", rows and columns inside
unfoldable pub entries_fit : ℕ → List ℕ → List ℕ → List Float → Bool
entries_fit dim rows cols values =
    eqb (length cols) (length rows) && eqb (length values) (length rows) && all_below dim rows && all_below dim cols

-- not "starts that are empty, fall, or don't run from 0 to the length of the row list"
unfoldable pub starts_fit : List ℕ → ℕ → Bool
starts_fit starts n =
    ltb 0 (length starts)
    && eqb (start_of starts 0) 0
    && eqb (start_of starts (items_of starts)) n
    && all (items_of starts) (λ o. leb (start_of starts o) (start_of starts (o + 1)))

unfoldable pub selector_fits : ℕ → List ℕ → List ℕ → List Float → Bool
selector_fits dim starts rows weights =
    bounded dim (items_of starts)
    && starts_fit starts (length rows)
    && eqb (length weights) (length rows)
    && all_below dim rows
