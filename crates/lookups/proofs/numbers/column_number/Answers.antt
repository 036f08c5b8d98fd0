-- The name's key is asked.
use Rattle.std.proofs.Common.{ap, ◌∙◌}
use Rattle.numbering.specs.declared.Key.{Key}
use Rattle.numbering.proofs.Names.{same_key}
use Rattle.lookups.specs.Lookups.{column_lookup}
use Rattle.lookups.proofs.numbers.column_number.Goals as goal

pub returns : goal.returns
returns c =
    let a = c.args.case in
    c.column_number_at.ensures ∙ ap (λ (x : Key). column_lookup a.n a.m a.k a.s a.bytes.now x) (same_key c.column_key.ensures)
