-- Laws of checks and of what they leave in a lent list. Assumes nothing.
use Rattle.std.proofs.Common.{◌≡◌, refl, sym, ◌∙◌, ap, subst, ℕ, ◌≤◌, Bool, true, false, T, is_err, IsErrAnd, List, ◌++◌, length, drop, Result, Ok, Err, leb-true}
use Rattle.std.proofs.lemmas.Result.{err_from_is_err_and}
use Rattle.lists.specs.UpTo.{overlay}
use Rattle.refusals.specs.Refusals.{Checked, passed, ◌or_else◌, refuse_unless, room_for, answer_if, left_in}
use Rattle.refusals.specs.declared.Refusal.{Refusal}

pub never : {A : Type 0} {x : A} {cause : Refusal} {B : Type 0} → Ok x ≡ Err cause → B
never {A} e = absurd (subst T (sym (ap (is_err {T = A} {E = Refusal}) e)) tt)

-- a check that refuses ends the whole, one that passes leaves the rest
pub or_else_refused : {A : Type 0} {a : Checked} {cause : Refusal} (c : Result A Refusal) → a ≡ Err cause → a or_else c ≡ Err cause
unfolding ◌or_else◌
or_else_refused c h = rw h

pub or_else_passed : {A : Type 0} {a : Checked} (c : Result A Refusal) → a ≡ passed → a or_else c ≡ c
unfolding ◌or_else◌
or_else_passed c h = rw h

pub accepted-first : {A : Type 0} (c : Result A Refusal) → passed or_else c ≡ c
unfolding ◌or_else◌
accepted-first c = refl

pub or_else_accepted : {A : Type 0} {x : A} (a : Checked) (c : Result A Refusal) → a or_else c ≡ Ok x → (a ≡ passed) × (c ≡ Ok x)
unfolding ◌or_else◌
or_else_accepted (Ok u) c h = (refl, h)
or_else_accepted (Err cause) c h = never (sym h)

pub or_else_assoc : {A : Type 0} (a b : Checked) (c : Result A Refusal) → (a or_else b) or_else c ≡ a or_else b or_else c
unfolding ◌or_else◌
or_else_assoc (Ok u) b c = refl
or_else_assoc (Err cause) b c = refl

-- an answer r that is a's: the whole ends with it, or goes on with what is left
pub stopped : {A : Type 0} {r a : Checked} {cause : Refusal} (x : Result A Refusal) → r ≡ a → r ≡ Err cause → Err cause ≡ a or_else x
stopped x e h = sym (or_else_refused x (sym e ∙ h))

pub went_on : {A : Type 0} {r a : Checked} {y x : Result A Refusal} → r ≡ a → r ≡ passed → y ≡ x → y ≡ a or_else x
went_on {x = x} e h p = p ∙ sym (or_else_passed x (sym e ∙ h))

-- ---- a test, and the rest of a check
pub test-held : (t : Bool) (cause : Refusal) → refuse_unless t cause ≡ passed → t ≡ true
unfolding refuse_unless
test-held true cause h = refl
test-held false cause h = never (sym h)

pub held : (t : Bool) (cause : Refusal) → t ≡ true → refuse_unless t cause ≡ passed
unfolding refuse_unless
held t cause h = rw h

pub has_room : (need there : ℕ) → room_for need there ≡ passed → need ≤ there
has_room need there h = leb-true need there (test-held _ _ h)

-- ---- what is left in a lent list, and what is answered, where the check passed and where it refused
module _ {A : Type 0} {c : Checked} where
  pub left-written : (xs ys : List A) → c ≡ passed → left_in c xs ys ≡ overlay xs ys
  unfolding left_in
  left-written xs ys e = rw e

  pub left_alone : {cause : Refusal} (xs ys : List A) → c ≡ Err cause → left_in c xs ys ≡ ys
  unfolding left_in
  left_alone xs ys e = rw e

  -- where the check passed, the front that was lent on is the list itself, and so is a copy
  pub left-front : {xs part : List A} (n : ℕ) (ys : List A) → c ≡ passed → part ≡ xs → length part ≡ n → part ++ drop n ys ≡ left_in c xs ys
  unfolding left_in overlay
  left-front n ys e p l = rw (e, ← p, l)

  pub left_copied : (zs xs ys : List A) {d : List A} → c ≡ passed → d ≡ overlay zs ys → zs ≡ xs → d ≡ left_in c xs ys
  left_copied zs xs ys h p q = p ∙ rw q (sym (left-written xs ys h))

pub answer-held : {A : Type 0} {c : Checked} (a : A) → c ≡ passed → answer_if c a ≡ Ok a
answer-held a e = or_else_passed (Ok a) e

pub answer-refused : {A : Type 0} {c : Checked} {cause : Refusal} (a : A) → c ≡ Err cause → answer_if c a ≡ Err cause
answer-refused a e = or_else_refused (Ok a) e

-- ---- the exits of a `?`: what it returns is the cause itself
pub leaves : {A : Type 0} {out : Result A Refusal} {cause : Refusal} → IsErrAnd out (λ e. e ≡ cause) → out ≡ Err cause
leaves {out = out} h =
    let p = err_from_is_err_and out h in
    p.1 ∙ ap Err p.2

-- a check r that is a's ends the whole
pub ends : {A : Type 0} {out : Result A Refusal} {cause : Refusal} {r a : Checked} (x : Result A Refusal) → IsErrAnd out (λ e. e ≡ cause) → r ≡ Err cause → r ≡ a → out ≡ a or_else x
ends x h e p = leaves h ∙ stopped x p e

-- ---- an answer r that holds a value v of its own where the check a passes
module _ {A : Type 0} (a : Checked) (v : A) {r : Result A Refusal} (e : r ≡ answer_if a v) where
  pub held_by : {w : A} → r ≡ Ok w → (a ≡ passed) × (v ≡ w)
  held_by h =
      let p = or_else_accepted a (Ok v) (sym e ∙ h) in
      (p.0, cc p.1)

  pub refused_by : {cause : Refusal} → r ≡ Err cause → a ≡ Err cause
  unfolding ◌or_else◌
  refused_by {cause} h = go a (sym e ∙ h)
    where
      go : (x : Checked) → answer_if x v ≡ Err cause → x ≡ Err cause
      go (Ok u) p = never p
      go (Err y) p = let q : y ≡ cause = cc in ap Err q

  pub ends_by : {B : Type 0} {out : Result B Refusal} {cause : Refusal} (x : Result B Refusal) → IsErrAnd out (λ d. d ≡ cause) → r ≡ Err cause → out ≡ a or_else x
  ends_by x h k = leaves h ∙ sym (or_else_refused x (refused_by k))

  pub went_on_by : {B : Type 0} {w : A} {y x : Result B Refusal} → r ≡ Ok w → (v ≡ w → y ≡ x) → y ≡ a or_else x
  went_on_by {x = x} h p =
      let q = held_by h in
      p q.1 ∙ sym (or_else_passed x q.0)

-- ---- an entry that makes the check a, then others d, and then writes: the answer, and what a lent list holds
module _ {A : Type 0} {r a : Checked} (e : r ≡ a) where
  pub left_stopped : {cause : Refusal} (xs ys : List A) → r ≡ Err cause → ys ≡ left_in a xs ys
  left_stopped xs ys h = sym (left_alone xs ys (sym e ∙ h))

  pub left_ended : {cause : Refusal} (d : Checked) (xs ys : List A) → r ≡ Err cause → ys ≡ left_in (a or_else d) xs ys
  left_ended d xs ys h = sym (left_alone xs ys (or_else_refused d (sym e ∙ h)))

  pub left_went_on : (d : Checked) (xs ys : List A) {zs : List A} → r ≡ passed → zs ≡ left_in d xs ys → zs ≡ left_in (a or_else d) xs ys
  left_went_on d xs ys h p = p ∙ ap (λ (c : Checked). left_in c xs ys) (sym (or_else_passed d (sym e ∙ h)))

module _ {B : Type 0} {r a : Checked} (d : Checked) (v : B) (e : r ≡ a) where
  pub answer_ended : {out : Result B Refusal} {cause : Refusal} → IsErrAnd out (λ x. x ≡ cause) → r ≡ Err cause → out ≡ answer_if (a or_else d) v
  answer_ended h k = ends _ h k e ∙ sym (or_else_assoc _ _ _)

  pub answer_went_on : {out : Result B Refusal} → r ≡ passed → out ≡ answer_if d v → out ≡ answer_if (a or_else d) v
  answer_went_on h p = went_on e h p ∙ sym (or_else_assoc _ _ _)
