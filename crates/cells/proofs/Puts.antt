-- Laws of `PutsCells` and `PutsColumns`. Assumes nothing.
use Rattle.std.proofs.Common.{ℕ, ◌+◌, ◌<◌, ◌≡◌, refl, sym, ap, ◌∙◌, List, [], ◌∷◌, ◌++◌, length, set, arith}
use Rattle.lists.specs.UpTo.{up_to, each, listed}
use Rattle.lists.specs.Entries.{Cell}
use Rattle.lists.specs.Compressed.{joined}
use Rattle.lists.proofs.Each.{each_more, each_next}
use Rattle.lists.proofs.Listed.{listed-length}
use Rattle.lists.proofs.Compressed as written
use Rattle.cells.proofs.Ends as ends
use Rattle.cells.specs.declared.Cells.{Cells}
use Rattle.cells.specs.Puts.{SameLent, PutsCells, PutsColumns}

pub same : {t : Cells} → SameLent t t
same = record { rows = refl; vals = refl }

pub same-then : {t t' t'' : Cells} → SameLent t t' → SameLent t' t'' → SameLent t t''
same-then p q = record { rows = q.rows ∙ p.rows; vals = q.vals ∙ p.vals }

pub none : {t : Cells} → PutsCells [] t t
none = record { lent = same; wrote = written.wrote_none }

pub then : {xs ys : List Cell} {t t' t'' : Cells} → PutsCells xs t t' → PutsCells ys t' t'' → PutsCells (xs ++ ys) t t''
then p q = record { lent = same-then p.lent q.lent; wrote = written.then p.wrote q.wrote }

pub pos : {cs : List Cell} {t t' : Cells} → PutsCells cs t t' → t'.at ≡ t.at + length cs
pos p = written.pos p.wrote

-- ---- a loop that writes cells: no turn, one turn more, and the room of the next turn, where the whole has it
pub no-turn : (f : ℕ → List Cell) {t : Cells} → PutsCells (each 0 f) t t
unfolding up_to
no-turn f = none

pub turn : (f : ℕ → List Cell) (j : ℕ) {t t' t'' : Cells} → PutsCells (each j f) t t' → PutsCells (f j) t' t'' → PutsCells (each (j + 1) f) t t''
turn f j p q = rw (each_more f j) (then p q)

pub room : {t t' : Cells} {b : ℕ} (f : ℕ → List Cell) (j n : ℕ) → PutsCells (each j f) t t' → j < n → t.at + length (each n f) < b → t'.at + length (f j) < b
room f j n p d h = omega (arith, pos p, each_next f j n d)

-- ---- columns
pub columns-at : {xs : List (List Cell)} {c : ℕ} {ss₀ ss : List ℕ} {t t' : Cells} → PutsColumns xs c ss₀ t ss t' → t'.at ≡ t.at + length (joined xs)
columns-at p = ends.columns-pos p.columns

pub vals-length : {xs : List (List Cell)} {c : ℕ} {ss₀ ss : List ℕ} {t t' : Cells} → PutsColumns xs c ss₀ t ss t' → length t'.vals.now ≡ length t.vals.now
vals-length p = written.len-vals p.columns.cells

pub columns-then : {xs ys : List (List Cell)} {c d : ℕ} {ss₀ ss ss' : List ℕ} {t t' t'' : Cells}
    → PutsColumns xs c ss₀ t ss t' → d ≡ c + length xs → PutsColumns ys d ss t' ss' t'' → PutsColumns (xs ++ ys) c ss₀ t ss' t''
columns-then p e q = record { lent = same-then p.lent q.lent; columns = ends.columns-then p.columns e q.columns }

pub columns-none : {c : ℕ} {ss : List ℕ} {t : Cells} → PutsColumns [] c ss t ss t
columns-none = record { lent = same; columns = ends.no-columns }

-- one column: its cells are written, then its end is stored
pub column-one : {cs : List Cell} {c : ℕ} {ss ss' : List ℕ} {t t' : Cells} → PutsCells cs t t' → ss' ≡ set ss (c + 1) t'.at → PutsColumns (cs ∷ []) c ss t ss' t'
column-one p e = record { lent = p.lent; columns = ends.one-column p.wrote e }

-- ---- a loop that writes one column a turn
pub no-column : (f : ℕ → List Cell) {c : ℕ} {ss : List ℕ} {t : Cells} → PutsColumns (listed 0 f) c ss t ss t
unfolding up_to
no-column f = columns-none

pub column : (f : ℕ → List Cell) (j : ℕ) {c : ℕ} {ss₀ ss ss' : List ℕ} {t t' t'' : Cells}
    → PutsColumns (listed j f) c ss₀ t ss t' → PutsCells (f j) t' t'' → ss' ≡ set ss (c + j + 1) t''.at → PutsColumns (listed (j + 1) f) c ss₀ t ss' t''
column f j {c} p q e =
    rw (each_more (λ i. f i ∷ []) j) (columns-then p (ap (λ (k : ℕ). c + k) (sym (listed-length f j))) (column-one q e))

-- ---- a loop that writes some columns a turn
pub columns-turn : (f : ℕ → List (List Cell)) (j : ℕ) {c d : ℕ} {ss₀ ss ss' : List ℕ} {t t' t'' : Cells}
    → PutsColumns (each j f) c ss₀ t ss t' → d ≡ c + length (each j f) → PutsColumns (f j) d ss t' ss' t'' → PutsColumns (each (j + 1) f) c ss₀ t ss' t''
columns-turn f j p e q = rw (each_more f j) (columns-then p e q)
