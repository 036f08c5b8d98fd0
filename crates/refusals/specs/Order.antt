-- Document 01, 'Causes turned away': "Order: 13, 1, 2; then record by record 3, 4, 5, lastly the sum; then 6, 11, 9, 7, 8, 12, 10. An entry
-- makes those checks whose inputs it has, and refuses exactly when one of them finds its cause, by the first in this order."
use Rattle.std.specs.Prelude.{ℕ, ◌+◌, ◌*◌, Bool, ◌&&◌, ◌||◌, cond, List, [], ◌∷◌, eqb, ltb, Ok, Err}
use Rattle.refusals.specs.declared.Refusal.{Refusal}
use Rattle.refusals.specs.declared.Refusal.TheVariants.{CountTooLarge, RecordsLength, BadRecord, NoSuchBus, EqualEnds, SolutionLength, PastEnd}
use Rattle.refusals.specs.declared.Refusal.TheVariants.{PiecewiseCost, NotInSocWr, OutputTooShort, ModeAuto, BadLists, InputTooLong}
use Rattle.refusals.specs.Refusals.{Checked, passed}

-- the place of a cause in this order; 3, 4 and 5 share theirs
abbrev pub rank : Refusal → ℕ
rank InputTooLong = 0
rank (CountTooLarge which) = 1
rank (RecordsLength length) = 2
rank (BadRecord r) = 3
rank (NoSuchBus r) = 3
rank (EqualEnds r) = 3
rank (SolutionLength list) = 4
rank ModeAuto = 5
rank NotInSocWr = 6
rank (PastEnd index) = 7
rank (PiecewiseCost id) = 8
rank BadLists = 9
rank (OutputTooShort need) = 10

-- "record by record 3, 4, 5": the place of a record's cause among those of all records. "lastly the sum": its record n+m+k+S is past them.
abbrev pub turn_of : Refusal → ℕ
turn_of InputTooLong = 0
turn_of (CountTooLarge which) = 0
turn_of (RecordsLength length) = 0
turn_of (BadRecord r) = 3 * r
turn_of (NoSuchBus r) = 3 * r + 1
turn_of (EqualEnds r) = 3 * r + 2
turn_of (SolutionLength list) = 0
turn_of ModeAuto = 0
turn_of NotInSocWr = 0
turn_of (PastEnd index) = 0
turn_of (PiecewiseCost id) = 0
turn_of BadLists = 0
turn_of (OutputTooShort need) = 0

-- x comes before y in this order
unfoldable pub sooner : Refusal → Refusal → Bool
sooner x y = ltb (rank x) (rank y) || (eqb (rank x) (rank y) && ltb (turn_of x) (turn_of y))

-- of two answers that whose cause comes first; the first of them where neither comes before the other
unfoldable pub earlier : Checked → Checked → Checked
earlier (Ok u) d = d
earlier (Err x) (Ok u) = Err x
earlier (Err x) (Err y) = cond (sooner y x) (Err y) (Err x)

-- "refuses exactly when one of them finds its cause, by the first in this order": cs are what the checks that an entry makes answer
unfoldable pub by_order : List Checked → Checked
by_order [] = passed
by_order (c ∷ cs) = earlier c (by_order cs)
