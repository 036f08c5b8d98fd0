-- Each block is asked by its own function, and one that there is none of is 7.
use Rattle.std.proofs.Common.{arith}
use Rattle.numbering.specs.Network.{grid}
use Rattle.numbering.proofs.Tables.{columns-many}
use Rattle.lookups.specs.Lookups.{column_asked}
use Rattle.lookups.proofs.Asked.{ask_block}
use Rattle.lookups.proofs.numbers.column_asked.Goals as goal

pub returns : goal.returns
unfolding column_asked
returns c =
    let a = c.args in
    let w = a.net.now in
    ask_block _ _ _ (omega (arith, columns-many (grid w)))
