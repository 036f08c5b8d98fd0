-- What is written of a row's numbers is what the KKT list has of the row. Assumes nothing.
use Rattle.std.proofs.Common.{ℕ, zero, suc, ◌+◌, ◌<◌, ◌^◌, ◌≡◌, refl, sym, ap, ap₂, ◌∙◌, Bool, true, false, cond, List, [], ◌∷◌, ◌++◌, map, arith, length, get_or, Float}
use Rattle.std.specs.Float.{binary64, nan}
use Rattle.std.specs.Float.Ieee.{neg, ne, add, sub, mul}
use Rattle.lists.specs.UpTo.{when}
use Rattle.lists.specs.Entries.{Entry, entry}
use Rattle.lists.proofs.Each.{each_ext}
use Rattle.records.specs.AcNetwork.{AcNetwork}
use Rattle.numbering.specs.Numbering.{nvar, ncon, column_number}
use Rattle.numbering.specs.Layout.{nvar_of}
use Rattle.numbering.specs.Laid.{net_of}
use Rattle.numbering.specs.declared.SocWrLayout.{SocWrLayout}
use Rattle.numbering.specs.declared.RowName.{RowName}
use Rattle.rows.specs.Rows.{Term, terms, zero64}
use Rattle.rows.specs.Program.{nonzero, slack, sum_of}
use Rattle.kkt.specs.Kkt.{arrow, kkt_row, scaled, cone_row}
use Rattle.lines.specs.Line.{line_at, line_sum, line_slack, Within, Stands, cone_line, ConeStands, Cone}
use Rattle.lines.proofs.Sizes.{nvar-is, small}
use Rattle.lines.specs.declared.Line.{Line}
use Rattle.complementarity.specs.Writes.{Given, bound_line, line_in, part, duals_of, slacks_of, by_x, by_z, cone_row_of, cone_of, plain_cone, cone_lines, dual, row_entries, cone_in}

-- the sum of entries at x, on top of a
unfoldable dot : List Float → Float → List Entry → Float
dot x a [] = a
dot x a (e ∷ es) = dot x (add binary64 a (mul binary64 e.val (get_or x e.col nan))) es

sum-dot : (G : AcNetwork Float) (x : List Float) (a : Float) (ts : List Term) → sum_of G x a ts ≡ dot x a (map (λ t. entry 0 (column_number G t.col) t.coef) ts)
unfolding sum_of dot
sum-dot G x a [] = refl
sum-dot G x a (t ∷ ts) = sum-dot G x (add binary64 a (mul binary64 t.coef (get_or x (column_number G t.col) nan))) ts

line-dot : (x : List Float) (l : Line) → dot x (neg zero64) (line_at 0 (λ a. a) l) ≡ line_sum x l
unfolding dot line_at line_sum
line-dot x l = go l.first.on l.second.on
  where
    go : (p q : Bool) → dot x (neg zero64) (when p (entry 0 l.first.col l.first.val ∷ []) ++ when q (entry 0 l.second.col l.second.val ∷ []))
        ≡ cond q (add binary64 (cond p (add binary64 (neg zero64) (mul binary64 l.first.val (get_or x l.first.col nan))) (neg zero64)) (mul binary64 l.second.val (get_or x l.second.col nan)))
        (cond p (add binary64 (neg zero64) (mul binary64 l.first.val (get_or x l.first.col nan))) (neg zero64))
    go true true = refl
    go true false = refl
    go false true = refl
    go false false = refl

-- ---- cones
duals-part : (z : List Float) (c : Cone) (l : ℕ) → part (duals_of z c) l ≡ get_or z (cone_line c l).row nan
duals-part z c zero = refl
duals-part z c (suc zero) = refl
duals-part z c (suc (suc zero)) = refl
duals-part z c (suc (suc (suc l))) = refl

slacks-part : (x : List Float) (c : Cone) (l : ℕ) → part (slacks_of x c) l ≡ line_slack x (cone_line c l)
slacks-part x c zero = refl
slacks-part x c (suc zero) = refl
slacks-part x c (suc (suc zero)) = refl
slacks-part x c (suc (suc (suc l))) = refl

arrow-same : (u v : ℕ → Float) (n j l : ℕ) → ((i : ℕ) → i < n → u i ≡ v i) → j < n → l < n → arrow u j l ≡ arrow v j l
arrow-same u v n j l h p q = cc (h l q, h j p, h 0 (omega arith))

module _ {G : AcNetwork Float} where
  pub slack-line : {r : RowName} {l : Line} → Stands G r l → (x : List Float) → slack G x r ≡ line_slack x l
  unfolding slack
  slack-line {r} {l} h x =
      ap₂ (sub binary64) (sym h.rhs) (sum-dot G x (neg zero64) (terms G r) ∙ ap (dot x (neg zero64)) (h.entries 0 (λ a. a)) ∙ line-dot x l)

  pub line_in_lem : {r : RowName} {l : Line} → Stands G r l → (x z : List Float) (d : Bool) → line_in (nvar G) x z d l ≡ row_entries G x z d r
  unfolding line_in row_entries bound_line
  line_in_lem {r} {l} h x z true =
      ap (λ (k : ℕ). line_at (nvar G + k) (mul binary64 (neg (get_or z k nan))) l ++ (entry (nvar G + k) (nvar G + k) (line_slack x l) ∷ [])) h.number
      ∙ ap₂ (λ (es : List Entry) (s : Float). es ++ (entry (kkt_row G r) (kkt_row G r) s ∷ [])) (sym (h.entries (kkt_row G r) (mul binary64 (neg (dual G z r))))) (sym (slack-line h x))
  line_in_lem {r} {l} h x z false = ap (λ (k : ℕ). line_at (nvar G + k) (λ a. a) l) h.number ∙ sym (h.entries (kkt_row G r) (λ a. a))

  module _ (x z : List Float) (n : ℕ) (r : ℕ → RowName) (c : Cone) (h : ConeStands G n r c) where
    z_same : (i : ℕ) → i < n → part (duals_of z c) i ≡ dual G z (r i)
    z_same i d = duals-part z c i ∙ ap (λ (k : ℕ). get_or z k nan) (h.lines i d).number

    s-same : (i : ℕ) → i < n → part (slacks_of x c) i ≡ slack G x (r i)
    s-same i d = slacks-part x c i ∙ sym (slack-line (h.lines i d) x)

    by_x_lem : (j l : ℕ) → j < n → l < n → by_x (nvar G) c (duals_of z c) j l
        ≡ when (ne (arrow (λ i. dual G z (r i)) j l) zero64) (scaled G (kkt_row G (r j)) (neg (arrow (λ i. dual G z (r i)) j l)) (terms G (r l)))
    unfolding by_x
    by_x_lem j l a d =
        rw (
          arrow-same (part (duals_of z c)) (λ i. dual G z (r i)) n j l z_same a d,
          (h.lines j a).number,
          (h.lines l d).entries (kkt_row G (r j)) (mul binary64 (neg (arrow (λ i. dual G z (r i)) j l))),
        )

    by_z_lem : (j l : ℕ) → j < n → l < n → by_z (nvar G) c (slacks_of x c) j l ≡ nonzero (kkt_row G (r j)) (kkt_row G (r l)) (arrow (λ i. slack G x (r i)) j l)
    unfolding by_z
    by_z_lem j l a d = rw (arrow-same (part (slacks_of x c)) (λ i. slack G x (r i)) n j l s-same a d, (h.lines j a).number, (h.lines l d).number)

    cone-row : (j : ℕ) → j < n → cone_row_of (nvar G) c (duals_of z c) (slacks_of x c) n j ≡ cone_row G (slack G x) (dual G z) n r j
    unfolding cone_row_of
    cone-row j a = ap₂ (◌++◌) (each_ext _ _ n (λ l d. by_x_lem j l a d)) (each_ext _ _ n (λ l d. by_z_lem j l a d))

    pub cone_in_lem : (d : Bool) → cone_lines (nvar G) x z d c n ≡ cone_in G x z d n r
    unfolding cone_lines cone_in cone_of plain_cone
    cone_in_lem true = each_ext _ _ n cone-row
    cone_in_lem false = each_ext _ _ n (λ l d. rw (h.lines l d).number (sym ((h.lines l d).entries (kkt_row G (r l)) (λ a. a))))

-- ---- what a writer of a row asks, of a network

pub record Ready (v : ℕ) (x z : List Float) (d : Bool) (line : Line) (es : List Entry) : Type 0 where
  pub within : Within (length x) (length z) line
  pub small : v + length z < 2 ^ 32
  pub same : line_in v x z d line ≡ es

pub record ConeReady (v : ℕ) (x z : List Float) (d : Bool) (c : Cone) (n : ℕ) (es : List Entry) : Type 0 where
  pub within : (j : ℕ) → Within (length x) (length z) (cone_line c j)
  pub small : v + length z < 2 ^ 32
  pub same : cone_lines v x z d c n ≡ es

module _ {l : SocWrLayout} {bytes : List ℕ} {x z : List Float} {v : ℕ} (g : Given l bytes x z) (e : v ≡ nvar_of l) (d : Bool) where
  fits : v + length z < 2 ^ 32
  fits = omega (arith, small g.laid, nvar-is g.laid e, g.z_length)

  inside : {line : Line} → Within (nvar (net_of l bytes)) (ncon (net_of l bytes)) line → Within (length x) (length z) line
  inside w = record { row = omega (arith, w.row, g.z_length); first = omega (arith, w.first, g.x_length); second = omega (arith, w.second, g.x_length) }

  pub ready : {r : RowName} {line : Line} → Stands (net_of l bytes) r line → Ready v x z d line (row_entries (net_of l bytes) x z d r)
  ready s = record { within = inside s.within; small = fits; same = rw (nvar-is g.laid e) (line_in_lem s x z d) }

  pub cone-ready : {n : ℕ} {r : ℕ → RowName} {c : Cone} → ConeStands (net_of l bytes) n r c → ConeReady v x z d c n (cone_in (net_of l bytes) x z d n r)
  cone-ready {n} {r} {c} s = record { within = λ j. inside (s.within j); small = fits; same = rw (nvar-is g.laid e) (cone_in_lem x z n r c s d) }
