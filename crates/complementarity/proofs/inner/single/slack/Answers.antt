-- `complementarity::inner::single::slack` meets its contract. Assumes nothing.
use Rattle.lines.specs.Line.{line_sum}
use Rattle.complementarity.proofs.inner.single.slack.Goals as goal

pub returns : goal.returns
unfolding line_sum
returns c = rw (c.add_term.ensures, c.add_term-a.ensures)
