-- The name's key is asked.
use Rattle.std.proofs.Common.{ap, ◌∙◌}
use Rattle.numbering.specs.declared.Key.{Key}
use Rattle.numbering.proofs.Names.{same_key}
use Rattle.lookups.specs.Lookups.{row_lookup}
use Rattle.lookups.proofs.numbers.row_number.Goals as goal

pub returns : goal.returns
returns c =
    let a = c.args.case in
    c.row_number_at.ensures ∙ ap (λ (x : Key). row_lookup a.n a.m a.k a.s a.bytes.now x) (same_key c.row_key.ensures)
