-- Document 01, 'Causes turned away': the number and the returned value of each cause, and how checks are joined.
use Rattle.std.specs.Prelude.{ℕ, Bool, true, false, List, leb, Result, Ok, Err}
use Rattle.lists.specs.UpTo.{overlay}
use Rattle.refusals.specs.declared.Refusal.{Refusal}
use Rattle.refusals.specs.declared.Refusal.TheVariants.{CountTooLarge, RecordsLength, BadRecord, NoSuchBus, EqualEnds, SolutionLength, PastEnd}
use Rattle.refusals.specs.declared.Refusal.TheVariants.{PiecewiseCost, NotInSocWr, OutputTooShort, ModeAuto, BadLists, InputTooLong}

-- what a check answers, and what an entry that writes does: the count
abbrev pub Checked : Type 0
Checked = Result (Unit {0}) Refusal

-- the answer of a check that finds no cause
abbrev pub passed : Checked
passed = Ok (tt {0})

abbrev pub Written : Type 0
Written = Result ℕ Refusal

-- the table's column 'number'
abbrev pub cause_number : Refusal → ℕ
cause_number (CountTooLarge which) = 1
cause_number (RecordsLength length) = 2
cause_number (BadRecord r) = 3
cause_number (NoSuchBus r) = 4
cause_number (EqualEnds r) = 5
cause_number (SolutionLength list) = 6
cause_number (PastEnd index) = 7
cause_number (PiecewiseCost id) = 8
cause_number NotInSocWr = 9
cause_number (OutputTooShort need) = 10
cause_number ModeAuto = 11
cause_number BadLists = 12
cause_number InputTooLong = 13

-- the table's column 'returned'
abbrev pub cause_value : Refusal → ℕ
cause_value (CountTooLarge which) = which
cause_value (RecordsLength length) = length
cause_value (BadRecord r) = r
cause_value (NoSuchBus r) = r
cause_value (EqualEnds r) = r
cause_value (SolutionLength list) = list
cause_value (PastEnd index) = index
cause_value (PiecewiseCost id) = id
cause_value NotInSocWr = 0
cause_value (OutputTooShort need) = need
cause_value ModeAuto = 0
cause_value BadLists = 0
cause_value InputTooLong = 512

-- ---- checks
-- "refuses .. by the first in this order": a check's cause, or else the answer
infixr 20 ◌or_else◌
unfoldable pub ◌or_else◌ : {A : Type 0} → Checked → Result A Refusal → Result A Refusal
◌or_else◌ (Ok u) a = a
◌or_else◌ (Err cause) a = Err cause

-- passed where the test holds, and else refused for that cause
unfoldable pub refuse_unless : Bool → Refusal → Checked
refuse_unless true cause = passed
refuse_unless false cause = Err cause

-- "an output slice too short": the length needed, against the length that is there
abbrev pub room_for : ℕ → ℕ → Checked
room_for need there = refuse_unless (leb need there) (OutputTooShort need)

-- ---- answers: this one where the check passed
abbrev pub answer_if : {A : Type 0} → Checked → A → Result A Refusal
answer_if c a = c or_else Ok a

-- the number and the value of an answer: 0 and the value of what it holds, or the cause's
abbrev pub answer_number : {A : Type 0} → Result A Refusal → ℕ
answer_number (Ok a) = 0
answer_number (Err cause) = cause_number cause

abbrev pub answer_value : {A : Type 0} → (A → ℕ) → Result A Refusal → ℕ
answer_value f (Ok a) = f a
answer_value f (Err cause) = cause_value cause

-- a check's value is 0, a count's the count
abbrev pub checked_value : Checked → ℕ
checked_value c = answer_value (λ u. 0) c

abbrev pub written_value : Written → ℕ
written_value w = answer_value (λ n. n) w

-- "left as it was", and "output past the length needed is unchanged": what a lent list holds after xs was to be written to its front.
-- Floats have one nan (lib.Ieee): of a NaN that is left alone this says that it is a NaN still, not which bits it has. Those are run, not
-- proved (README, 'Read the proofs').
unfoldable pub left_in : {A : Type 0} → Checked → List A → List A → List A
left_in (Ok u) xs ys = overlay xs ys
left_in (Err cause) xs ys = ys
