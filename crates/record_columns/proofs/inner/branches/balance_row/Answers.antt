use Rattle.std.proofs.Common.{refl, ◌∙◌, ⊎_elim}
use Rattle.numbering.specs.declared.RowName.TheVariants.{Pbal, Qbal}
use Rattle.numbering.proofs.Laid.{laid-row}
use Rattle.record_columns.proofs.inner.branches.balance_row.Goals as goal

pub returns-in-Pf : goal.returns-in-Pf
returns-in-Pf c =
    let net = c.args.net.now in
    let row = c.pbal_row.ensures ∙ laid-row net.layout net.bytes.now net.laid (Pbal c.args.i) refl in
    ⊎_elim (λ q. rw q row) (λ q. rw q row) c.in-Pf.is

pub returns-in-Qf : goal.returns-in-Qf
returns-in-Qf c =
    let net = c.args.net.now in
    let row = c.qbal_row.ensures ∙ laid-row net.layout net.bytes.now net.laid (Qbal c.args.i) refl in
    ⊎_elim (λ q. rw q row) (λ q. rw q row) c.in-Qf.is
