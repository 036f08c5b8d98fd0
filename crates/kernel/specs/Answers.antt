-- The structs of include/socwr.h, by their fields.
use Rattle.std.specs.Prelude.{ℕ, ◌≡◌, Float, Result, Ok, Err}
use Rattle.refusals.specs.Refusals.{Checked, Written, cause_number, cause_value, answer_number, answer_value}
use Rattle.refusals.specs.declared.Refusal.{Refusal}
use Rattle.records.specs.AcNetwork.{AcNetwork}
use Rattle.numbering.specs.Blocks.{key}
use Rattle.numbering.specs.Numbering.{limits, curves, nvar, ncon, n_eq, n_ineq}
use Rattle.numbering.specs.declared.Key.{Key}
use Rattle.numbering.specs.declared.SocWrLayout.{SocWrLayout}
use Rattle.lookups.specs.Lookups.{Lookup, number_or_none}
use Rattle.elements.specs.Ids.{element_value}
use Rattle.elements.specs.declared.ElementId.{ElementId}
use Rattle.kernel.specs.declared.Answer.{Answer}
use Rattle.kernel.specs.declared.numbers.Sizes.{Sizes}
use Rattle.kernel.specs.declared.numbers.Name.{Name}

-- C-ENTRIES: "`number` 0 means answered, and `value` is the answer (0 where there is nothing to say); any other `number` is document 01's"
pub record CauseAnswer (cause : Refusal) (r : Answer) : Type 0 where
  pub number : r.number ≡ cause_number cause
  pub value : r.value ≡ cause_value cause

pub record AnswerIs {A : Type 0} (f : A → ℕ) (a : Result A Refusal) (r : Answer) : Type 0 where
  pub number : r.number ≡ answer_number a
  pub value : r.value ≡ answer_value f a

abbrev pub CheckedAnswer : Checked → Answer → Type 0
CheckedAnswer c r = AnswerIs (λ u. 0) c r

abbrev pub WrittenAnswer : Written → Answer → Type 0
WrittenAnswer w r = AnswerIs (λ n. n) w r

-- "A lookup that answers None has `number` 0 and `value` `SOCWR_NONE`"
abbrev pub LookupAnswer : Lookup → Answer → Type 0
LookupAnswer l r = AnswerIs number_or_none l r

abbrev pub ElementAnswer : Result ElementId Refusal → Answer → Type 0
ElementAnswer a r = AnswerIs element_value a r

-- a size where the check passed, and else 0
abbrev pub if_accepted : Checked → ℕ → ℕ
if_accepted (Ok u) x = x
if_accepted (Err cause) x = 0

-- `socwr_sizes`: the number and the value of `SocWrLayout::new`'s answer a; "the last six are 0 on a refusal", and else the sizes of the
-- network: its nvar and ncon are those of demand 3
pub record SizesAnswer (a : Result SocWrLayout Refusal) (c : Checked) (G : AcNetwork Float) (r : Sizes) : Type 0 where
  pub number : r.number ≡ answer_number a
  pub value : r.value ≡ answer_value (λ l. 0) a
  pub n_eq : r.n_eq ≡ if_accepted c (n_eq G)
  pub n_ineq : r.n_ineq ≡ if_accepted c (n_ineq G)
  pub nvar : r.nvar ≡ if_accepted c (nvar G)
  pub ncon : r.ncon ≡ if_accepted c (ncon G)
  pub t : r.t ≡ if_accepted c (limits G)
  pub cost_columns : r.cost_columns ≡ if_accepted c (curves G)

pub record NoSizes (cause : Refusal) (r : Sizes) : Type 0 where
  pub number : r.number ≡ cause_number cause
  pub value : r.value ≡ cause_value cause
  pub n_eq : r.n_eq ≡ 0
  pub n_ineq : r.n_ineq ≡ 0
  pub nvar : r.nvar ≡ 0
  pub ncon : r.ncon ≡ 0
  pub t : r.t ≡ 0
  pub cost_columns : r.cost_columns ≡ 0

-- `socwr_name`: the key of the name that a holds; "the last three are 0 on a refusal"
abbrev pub key_in : {A : Type 0} → (A → Key) → Result A Refusal → Key
key_in f (Ok x) = f x
key_in f (Err cause) = key 0 0 0

pub record NameAnswer {A : Type 0} (f : A → Key) (a : Result A Refusal) (r : Name) : Type 0 where
  pub number : r.number ≡ answer_number a
  pub value : r.value ≡ answer_value (λ x. 0) a
  pub block : r.block ≡ (key_in f a).block
  pub index : r.index ≡ (key_in f a).item
  pub place : r.place ≡ (key_in f a).place
