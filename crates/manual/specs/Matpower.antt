-- The MATPOWER User's Manual, chapter 'Modeling', on complex numbers that are pairs over any operations. Section 'Branches': with series
-- admittance ys = g + j b, total charging susceptance bc, tap ratio τ and phase shift θ,
--   [i_f; i_t] = Ybr [v_f; v_t]
--   Ybr = [ (ys + j bc/2) / τ²   -ys / (τ e^(-jθ)) ]
--         [ -ys / (τ e^(jθ))     ys + j bc/2       ]
-- and section 'Network Equations', for one branch: S_f = v_f conj(i_f), S_t = v_t conj(i_t).
use Rattle.ring.specs.Ops.{Ops}

pub record Complex (A : Type 0) : Type 0 where
  pub re : A
  pub im : A

-- a fraction that is not worked out
pub record Ratio (A : Type 0) : Type 0 where
  pub over : Complex A
  pub under : Complex A

-- a branch as the manual has it: θ by its cosine and sine
pub record Line (A : Type 0) : Type 0 where
  pub g : A
  pub b : A
  pub bc : A
  pub τ : A
  pub cosθ : A
  pub sinθ : A

-- the four elements of Ybr
pub data YbrEntry : Type 0 where
  ff ft tf tt' : YbrEntry

module _ {A : Type 0} (o : Ops A) where
  infixl 60 ◌+◌
  infixl 60 ◌-◌
  infixl 70 ◌*◌
  infixl 60 ◌⊕◌
  infixl 70 ◌⊗◌
  infixl 65 ◌⊘◌
  open o use {◌+◌, ◌-◌, ◌*◌, neg, zero}

  -- ---- complex numbers
  abbrev pub complex : A → A → Complex A
  complex a b = record { re = a; im = b }

  abbrev pub ◌⊕◌ : Complex A → Complex A → Complex A
  x ⊕ y = complex (x.re + y.re) (x.im + y.im)

  abbrev pub ◌⊗◌ : Complex A → Complex A → Complex A
  x ⊗ y = complex (x.re * y.re - x.im * y.im) (x.re * y.im + x.im * y.re)

  abbrev pub minus : Complex A → Complex A
  minus x = complex (neg x.re) (neg x.im)

  abbrev pub conj : Complex A → Complex A
  conj x = complex x.re (neg x.im)

  abbrev pub real : A → Complex A
  real a = complex a zero

  abbrev pub two : Complex A
  two = real o.two

  -- |x|²
  abbrev pub square : Complex A → A
  square x = x.re * x.re + x.im * x.im

  abbrev pub ◌⊘◌ : Complex A → Complex A → Ratio A
  x ⊘ y = record { over = x; under = y }

  module _ (l : Line A) where
    abbrev pub ys : Complex A
    ys = complex l.g l.b

    -- 2 (ys + j bc/2)
    abbrev pub end_admittance : Complex A
    end_admittance = two ⊗ ys ⊕ complex zero l.bc

    -- τ²; τ e^(jθ) and τ e^(-jθ)
    abbrev pub τ² : A
    τ² = l.τ * l.τ

    abbrev pub turned_tap : Complex A
    turned_tap = real l.τ ⊗ complex l.cosθ l.sinθ

    abbrev pub turned_back : Complex A
    turned_back = real l.τ ⊗ complex l.cosθ (neg l.sinθ)

    -- ---- Ybr, with the half of bc multiplied out
    abbrev pub ybr : YbrEntry → Ratio A
    ybr ff = end_admittance ⊘ (two ⊗ real τ²)
    ybr ft = minus ys ⊘ turned_back
    ybr tf = minus ys ⊘ turned_tap
    ybr tt' = end_admittance ⊘ two

    -- ---- 2 τ² times Ybr: each denominator multiplied out, and "the manual's 1/e^(-jθ) read as e^(jθ)"
    abbrev pub scale : A
    scale = o.two * τ²

    abbrev pub multiple : YbrEntry → Complex A
    multiple ff = end_admittance
    multiple ft = minus (two ⊗ ys ⊗ turned_tap)
    multiple tf = minus (two ⊗ ys ⊗ turned_back)
    multiple tt' = real τ² ⊗ end_admittance

    -- both by one: two fractions are equal where the products across are
    abbrev pub left : YbrEntry → Complex A
    left e = real scale ⊗ (ybr e).over

    abbrev pub right : YbrEntry → Complex A
    right e = multiple e ⊗ (ybr e).under

  -- S_f = v_f conj(i_f) and S_t = v_t conj(i_t), of the four elements of Ybr or of their multiples
  abbrev pub sf : (YbrEntry → Complex A) → Complex A → Complex A → Complex A
  sf y vf vt = vf ⊗ conj (y ff ⊗ vf ⊕ y ft ⊗ vt)

  abbrev pub st : (YbrEntry → Complex A) → Complex A → Complex A → Complex A
  st y vf vt = vt ⊗ conj (y tf ⊗ vf ⊕ y tt' ⊗ vt)

  -- the same of w_f = |v_f|², w_t = |v_t|² and c = v_f conj(v_t)
  abbrev pub sf_w : (YbrEntry → Complex A) → A → A → Complex A → Complex A
  sf_w y wf wt c = real wf ⊗ conj (y ff) ⊕ c ⊗ conj (y ft)

  abbrev pub st_w : (YbrEntry → Complex A) → A → A → Complex A → Complex A
  st_w y wf wt c = conj c ⊗ conj (y tf) ⊕ real wt ⊗ conj (y tt')
