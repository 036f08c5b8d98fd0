-- One pass checks the records and gives the network.
use Rattle.demand3.proofs.Demand3.{demand3}
use Rattle.entries.specs.Answer.{kkt_check}
use Rattle.entries.proofs.Answers.{stopped, went_on}
use Rattle.entries.proofs.kkt_entries.Goals as goal

pub returns-in_err-net : goal.returns-in_err-net
unfolding kkt_check
returns-in_err-net c =
    let a = c.args in
    record {
      answered = stopped _ (rw c.in_err-net.was at c.new.ensures) c.from_residual.ensures.1;
      demanded = demand3 a.case.n a.case.m a.case.k a.case.s a.case.bytes.now a.x.now a.z.now;
    }

pub returns : goal.returns
unfolding kkt_check
returns c =
    let a = c.args in
    let o = rw c.in_ok-net.was at c.new.ensures in
    record {
      answered = went_on o.accepted (rw (o.layout, o.bytes) at c.kkt_checked.ensures);
      demanded = demand3 a.case.n a.case.m a.case.k a.case.s a.case.bytes.now a.x.now a.z.now;
    }
