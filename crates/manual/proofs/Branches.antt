-- The multiplied-out Ybr is 2 τ² times the manual's, where cos² + sin² is 1: across, the two products differ by that factor alone. Assumes nothing.
use Rattle.std.proofs.Common.{◌≡◌, sym, ◌∙◌, ap, List, [], ◌∷◌}
use Rattle.ring.specs.Ops.{Ops}
use Rattle.ring.specs.Laws.{CommutativeRing}
use Rattle.ring.proofs.Ring.{E, formal, Same, den, ring}
use Rattle.manual.specs.Matpower.{Complex, complex, Line, YbrEntry, ff, ft, tf, tt', left, right, real, square, conj, ◌⊗◌}
use Rattle.manual.proofs.Formal.{complex_f, line_f}

-- cos² + sin², and a complex number times it
module _ {A : Type 0} (o : Ops A) (l : Line A) where
  infixl 60 ◌+◌
  infixl 70 ◌*◌
  open o use {◌+◌, ◌*◌}

  abbrev norm : A
  norm = l.cosθ * l.cosθ + l.sinθ * l.sinθ

  abbrev normed : Complex A → Complex A
  normed z = complex o (z.re * norm) (z.im * norm)

-- v conj(ysh v) and conj(ysh) |v|²
module _ {A : Type 0} (o : Ops A) where
  abbrev drawn : Complex A → Complex A → Complex A
  drawn ysh v = ◌⊗◌ o v (conj o (◌⊗◌ o ysh v))

  abbrev weight : Complex A → Complex A → Complex A
  weight ysh v = ◌⊗◌ o (conj o ysh) (real o (square o v))

abbrev ysh_f : Complex E
ysh_f = complex_f 0 1

abbrev v_f : Complex E
v_f = complex_f 2 3

module _ {A : Type 0} (o : Ops A) (R : CommutativeRing o) where
  abbrev values : Line A → List A
  values l = l.g ∷ l.b ∷ l.bc ∷ l.τ ∷ l.cosθ ∷ l.sinθ ∷ []

  -- two complex numbers that are polynomials in a line
  by_parts : (l : Line A) (a b : Complex E) → Same a.re b.re → Same a.im b.im
      → ◌≡◌ {A = Complex A} (complex o (den o a.re (values l)) (den o a.im (values l))) (complex o (den o b.re (values l)) (den o b.im (values l)))
  by_parts l a b p q = λ i. record { re = ring o R a.re b.re (values l) p i; im = ring o R a.im b.im (values l) q i }

  unnormed : (l : Line A) (z : Complex A) → norm o l ≡ o.one → normed o l z ≡ z
  unnormed l z h =
      λ i. record { re = (ap (λ t. o.◌*◌ z.re t) h ∙ R.mul-one z.re) i; im = (ap (λ t. o.◌*◌ z.im t) h ∙ R.mul-one z.im) i }

  pub branch-law : (l : Line A) → norm o l ≡ o.one → (e : YbrEntry) → left o l e ≡ right o l e
  branch-law l h ff = by_parts l (left formal line_f ff) (right formal line_f ff) tt tt
  branch-law l h ft = sym (by_parts l (right formal line_f ft) (normed formal line_f (left formal line_f ft)) tt tt ∙ unnormed l (left o l ft) h)
  branch-law l h tf = sym (by_parts l (right formal line_f tf) (normed formal line_f (left formal line_f tf)) tt tt ∙ unnormed l (left o l tf) h)
  branch-law l h tt' = by_parts l (left formal line_f tt') (right formal line_f tt') tt tt

  pub shunt-law : (ysh v : Complex A) → drawn o ysh v ≡ weight o ysh v
  shunt-law ysh v =
      let ρ : List A = ysh.re ∷ ysh.im ∷ v.re ∷ v.im ∷ [] in
      λ i. record { re = ring o R (drawn formal ysh_f v_f).re (weight formal ysh_f v_f).re ρ tt i; im = ring o R (drawn formal ysh_f v_f).im (weight formal ysh_f v_f).im ρ tt i }
