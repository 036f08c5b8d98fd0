-- 7 past the branches or the four rows, and else the layout's row.
use Rattle.std.proofs.Common.{ℕ, refl, ap, ◌∙◌, Some, Ok}
use Rattle.refusals.proofs.Laws.{ends, went_on}
use Rattle.numbering.specs.Network.{grid}
use Rattle.numbering.specs.declared.RowName.TheVariants.{Jabr}
use Rattle.numbering.proofs.Laid.{laid-row}
use Rattle.lookups.proofs.Asked.{ask_jabr}
use Rattle.lookups.proofs.numbers.jabr_row.Goals as goal

pub returns-in_err-below : goal.returns-in_err-below
returns-in_err-below c = ends _ c.from_residual.ensures.1 c.in_err-below.was c.below.ensures.value ∙ ask_jabr (grid c.args.net.now) c.args.e c.args.place

pub returns-in_err-below-2 : goal.returns-in_err-below-2
returns-in_err-below-2 c =
    let a = c.args in
    let w = a.net.now in
    went_on c.below.ensures.value c.in_ok-below.was
    (ends _ c.from_residual-in_err-below-2.ensures.1 c.in_err-below-2.was c.below-2.ensures.value)
    ∙ ask_jabr (grid w) a.e a.place

pub returns : goal.returns
returns c =
    let a = c.args in
    let w = a.net.now in
    let number = c.jabr_row.ensures ∙ laid-row w.layout w.bytes.now w.laid (Jabr a.e a.place) refl in
    went_on c.below.ensures.value c.in_ok-below.was
    (went_on c.below-2.ensures.value c.in_ok-below-2.was (ap (λ (p : ℕ). Ok (Some p)) number))
    ∙ ask_jabr (grid w) a.e a.place
