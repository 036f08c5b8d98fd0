use Rattle.std.proofs.Common.{◌∙◌, arith, zero-add}
use Rattle.entries.proofs.Answers.{short}
use Rattle.entries.proofs.whole.kkt_count.Goals as goal

pub put_kkt-requires : goal.put_kkt-requires
put_kkt-requires c = let q = short c.args.p.now.given in omega arith

pub returns : goal.returns
returns c = c.put_kkt.ensures.finished.position ∙ zero-add _
