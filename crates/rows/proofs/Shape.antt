-- The terms of the rows that are made by counting or by a choice, in the shape in which code writes them. The other rows' terms compute. Assumes nothing.
use Rattle.std.proofs.Common.{ℕ, zero, suc, ◌≡◌, refl, sym, ◌∙◌, Bool, true, false, cond, List, [], ◌∷◌, ◌++◌, append_assoc, append-nil, eqb, ltb, Float}
use Rattle.std.specs.Float.Ieee.{neg}
use Rattle.lists.specs.UpTo.{up_to, each, when}
use Rattle.lists.proofs.Each.{each_ext}
use Rattle.ring.specs.Ops.{rounded}
use Rattle.records.specs.AcNetwork.{AcNetwork}
use Rattle.rows.specs.Rows.{Constant, one, minus_one, half, minus_half, constant, plain, Cell, cell, hits, constant64, Term, term, kept, written, written_cell, terms}
use Rattle.numbering.specs.declared.ColumnName.{ColumnName}
use Rattle.numbering.specs.declared.ColumnName.TheVariants.{Pg, Qg, W, Pf, Pt, Qf, Qt}
use Rattle.numbering.specs.declared.RowName.TheVariants.{Pbal, Qbal, Jabr}

pub written-append : (t : Float) (xs ys : List (Cell Float)) → written t (xs ++ ys) ≡ written t xs ++ written t ys
written-append t [] ys = refl
written-append t (x ∷ xs) ys = rw (written-append t xs ys) (sym (append_assoc (written_cell t x.column x.value) (written t xs) (written t ys)))

pub written-each : (t : Float) (n : ℕ) (f : ℕ → List (Cell Float)) → written t (each n f) ≡ each n (λ j. written t (f j))
unfolding up_to
written-each t zero f = refl
written-each t (suc n) f = written-append t (each n f) (f n) ∙ rw (written-each t n f)

pub written-when : (t : Float) (b : Bool) (xs : List (Cell Float)) → written t (when b xs) ≡ when b (written t xs)
written-when t true xs = refl
written-when t false xs = refl

-- v at each column c j, j below n, with s j = i
unfoldable pub hit_terms : ℕ → (ℕ → ℕ) → ℕ → (ℕ → ColumnName) → Constant → List Term
hit_terms n s i c v = each n (λ j. when (eqb (s j) i) (term (c j) (constant64 v) ∷ []))

module _ (G : AcNetwork Float) where
  written-hits : (t : Float) (n : ℕ) (s : ℕ → ℕ) (i : ℕ) (c : ℕ → ColumnName) (v : Constant) → written t (hits rounded G n s i c v) ≡ hit_terms n s i c v
  unfolding hit_terms
  written-hits t n s i c v =
      written-each t n (λ j. when (eqb (s j) i) (cell (c j) (constant v) ∷ []))
      ∙ each_ext _ _ n (λ j l. written-when t (eqb (s j) i) (cell (c j) (constant v) ∷ []))

  balance : (t : Float) (i : ℕ) (g f d : ℕ → ColumnName) (a : Float)
      → written t (hits rounded G G.k G.gen_bus i g one ++ (cell (W i) (plain a) ∷ []) ++ hits rounded G G.m G.from i f minus_one ++ hits rounded G G.m G.to i d minus_one)
      ≡ hit_terms G.k G.gen_bus i g one ++ kept (W i) a ++ hit_terms G.m G.from i f minus_one ++ hit_terms G.m G.to i d minus_one
  balance t i g f d a =
      rw (
        written-append t (hits rounded G G.k G.gen_bus i g one ++ (cell (W i) (plain a) ∷ []) ++ hits rounded G G.m G.from i f minus_one) (hits rounded G G.m G.to i d minus_one),
        written-append t (hits rounded G G.k G.gen_bus i g one ++ (cell (W i) (plain a) ∷ [])) (hits rounded G G.m G.from i f minus_one),
        written-append t (hits rounded G G.k G.gen_bus i g one) (cell (W i) (plain a) ∷ []),
        written-hits t G.k G.gen_bus i g one,
        written-hits t G.m G.from i f minus_one,
        written-hits t G.m G.to i d minus_one,
        append-nil (kept (W i) a),
      )

  pub pbal-terms : (i : ℕ) → terms G (Pbal i)
      ≡ hit_terms G.k G.gen_bus i Pg one ++ kept (W i) (neg (G.gs i)) ++ hit_terms G.m G.from i Pf minus_one ++ hit_terms G.m G.to i Pt minus_one
  unfolding terms
  pbal-terms i = balance rounded.one i Pg Pf Pt (neg (G.gs i))

  pub qbal-terms : (i : ℕ) → terms G (Qbal i)
      ≡ hit_terms G.k G.gen_bus i Qg one ++ kept (W i) (G.bs i) ++ hit_terms G.m G.from i Qf minus_one ++ hit_terms G.m G.to i Qt minus_one
  unfolding terms
  qbal-terms i = balance rounded.one i Qg Qf Qt (G.bs i)

  -- two terms at a branch's buses, the smaller number first
  unfoldable pub end_terms : ℕ → Constant → Constant → List Term
  end_terms e f t =
      cond (ltb (G.from e) (G.to e))
      (term (W (G.from e)) (constant64 f) ∷ term (W (G.to e)) (constant64 t) ∷ [])
      (term (W (G.to e)) (constant64 t) ∷ term (W (G.from e)) (constant64 f) ∷ [])

  written-cond : (t : Float) (b : Bool) (xs ys : List (Cell Float)) → written t (cond b xs ys) ≡ cond b (written t xs) (written t ys)
  written-cond t true xs ys = refl
  written-cond t false xs ys = refl

  pub jabr-first : (e : ℕ) → terms G (Jabr e 0) ≡ end_terms e minus_half minus_half
  unfolding terms end_terms
  jabr-first e = written-cond rounded.one (ltb (G.from e) (G.to e)) _ _

  pub jabr-last : (e : ℕ) → terms G (Jabr e 3) ≡ end_terms e minus_half half
  unfolding terms end_terms
  jabr-last e = written-cond rounded.one (ltb (G.from e) (G.to e)) _ _
