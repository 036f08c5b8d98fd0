-- The sizes of the network that is opened, or of none.
use Rattle.refusals.specs.Refusals.{◌or_else◌}
use Rattle.refusals.proofs.Laws.{answer-refused}
use Rattle.kernel.proofs.Sized.{no_sizes}
use Rattle.kernel.proofs.numbers.socwr_layout_new.Goals as goal

pub returns-in-Ok : goal.returns-in-Ok
unfolding ◌or_else◌
returns-in-Ok c =
    let o = rw (c.in-Ok.is, c.case_of.ensures) at c.new.ensures in
    rw o.accepted (rw (o.layout, o.bytes) at c.from.ensures)

pub returns-in-Err : goal.returns-in-Err
returns-in-Err c =
    let h = rw (c.in-Err.is, c.case_of.ensures) at c.new.ensures in
    no_sizes _ (answer-refused _ h) h c.from-in-Err.ensures
