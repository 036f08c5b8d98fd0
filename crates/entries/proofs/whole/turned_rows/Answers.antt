use Rattle.std.proofs.lemmas.List.{length-map}
use Rattle.dealing.proofs.Ahead.{turned-back}
use Rattle.entries.proofs.whole.turned_rows.Goals as goal

pub program_rows-requires : goal.program_rows-requires
program_rows-requires c = rw c.exchange.ensures (rw length-map at c.requires)

pub returns : goal.returns
returns c = rw c.exchange-2.ensures (turned-back (rw c.exchange.ensures at c.program_rows.ensures))
