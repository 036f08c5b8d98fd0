-- `all` tests the floats of the range.
use Rattle.std.proofs.Common.{ℕ, refl, ◌-◌, ◌∙◌, eqb, rules, tests}
use Rattle.std.proofs.lemmas.Iterator.{YieldsList-from_range}
use Rattle.std.proofs.lemmas.Iterator.Search.{all_from_yields_List}
use Rattle.records.specs.Fields.{bits_of}
use Rattle.records.specs.Check.{zero_floats}
use Rattle.record_causes.proofs.Ranges.{all_in_range}
use Rattle.record_causes.proofs.inner.zero_floats.Goals as goal

pub returns : goal.returns
unfolding zero_floats
returns c =
    let r = c.args.r in
    let zero = λ (i : ℕ). eqb (bits_of r.bytes.now r.r i) 0 in
    all_from_yields_List zero _ _ c.all.result c.all.ensures.ran (YieldsList-from_range c.args.j 14 (14 - c.args.j) (cc) refl) (λ x b q k. search (rules, tests))
    ∙ all_in_range zero c.args.j (14 - c.args.j)
