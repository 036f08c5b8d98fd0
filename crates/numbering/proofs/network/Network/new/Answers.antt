-- The cause is passed on, or the layout is that of accepted records.
use Rattle.std.proofs.Common.{refl}
use Rattle.refusals.proofs.Laws.{leaves, refused_by}
use Rattle.numbering.proofs.OnePass.{new-check, new-layout, new-laid}
use Rattle.numbering.proofs.network.Network.new.Goals as goal

pub returns-in_err-layout : goal.returns-in_err-layout
returns-in_err-layout c = rw (leaves c.from_residual.ensures.1) (refused_by _ _ c.new.ensures c.in_err-layout.was)

pub invariant_of-result : goal.invariant_of-result
invariant_of-result c = record { laid = new-laid _ _ _ _ _ c.new.ensures c.in_ok-layout.was }

pub returns : goal.returns
returns c =
    let e = c.new.ensures in
    let h = c.in_ok-layout.was in
    record { accepted = new-check _ _ _ _ _ e h; layout = new-layout _ _ _ _ _ e h; bytes = refl }
