use Rattle.std.proofs.Common.{ℕ, refl, ap, ◌∙◌}
use Rattle.numbering.specs.Layout.{layout_row}
use Rattle.numbering.specs.Network.{grid}
use Rattle.numbering.specs.declared.RowName.TheVariants.{Qbal, Qgub, Qglb}
use Rattle.numbering.proofs.Laid.{laid-row}
use Rattle.matrix.specs.Columns.{qg_cells}
use Rattle.record_columns.specs.Writers.{head, pair}
use Rattle.record_columns.proofs.inner.generators.put_qg.Goals as goal

pub returns-clause-puts : goal.returns-clause-puts
unfolding qg_cells head pair
returns-clause-puts c =
    let net = c.args.net.now in
    let row = laid-row net.layout net.bytes.now net.laid in
    let r = c.generator-r.ensures in
    let bus = rw (r.place, r.bytes) at c.gen_bus.ensures in
    let balance = c.qbal_row-balance.ensures ∙ ap (λ (i : ℕ). layout_row net.layout (Qbal i)) bus ∙ row (Qbal ((grid net).gen_bus c.args.g)) refl in
    let upper = c.qgub_row.ensures ∙ row (Qgub c.args.g) refl in
    let lower = c.qglb_row.ensures ∙ row (Qglb c.args.g) refl in
    rw (balance, upper, lower, r.place, r.bytes) at c.put_head.ensures.puts
