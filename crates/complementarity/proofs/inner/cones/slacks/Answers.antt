-- `complementarity::inner::cones::slacks` meets its contract. Assumes nothing.
use Rattle.complementarity.proofs.inner.cones.slacks.Goals as goal

pub slack-requires : goal.slack-requires
slack-requires c = c.requires 0

pub slack-requires-2 : goal.slack-requires-2
slack-requires-2 c = c.requires 1

pub slack-requires-3 : goal.slack-requires-3
slack-requires-3 c = c.requires 2

pub slack-requires-4 : goal.slack-requires-4
slack-requires-4 c = c.requires 3
