use Rattle.std.proofs.Common.{ℕ, ◌≡◌, sym, ap, ◌∙◌, arith}
use Rattle.numbering.specs.Numbering.{row_number}
use Rattle.numbering.specs.Network.{grid}
use Rattle.numbering.specs.declared.RowName.TheVariants.{Thermal}
use Rattle.numbering.proofs.Laid.{laid-thermal}
use Rattle.matrix.specs.Columns.{flow_cells, thermal_place, balance_row}
use Rattle.cells.proofs.Puts.{none, then}
use Rattle.record_columns.proofs.Written.{limited-below}
use Rattle.record_columns.proofs.inner.branches.put_flow.Goals as goal

pub thermal_row-requires-clause-rank_le_t : goal.thermal_row-requires-clause-rank_le_t
thermal_row-requires-clause-rank_le_t c =
    let net = c.args.net.now in
    let h = c.requires in
    (omega (arith, h.rank_value, limited-below net.layout net.bytes.now net.laid c.args.e (omega (arith, h.e_lt_m))), c.thermal_place.ensures.upper_bound)

pub returns-then-thermal_limit_active-clause-puts : goal.returns-then-thermal_limit_active-clause-puts
unfolding flow_cells
returns-then-thermal_limit_active-clause-puts c =
    let net = c.args.net.now in
    let q = c.args.q in
    let e = c.args.e in
    let r = c.branch-net.ensures in
    let bus = c.balance_row.ensures ∙ ap (λ (i : ℕ). row_number (grid net) (balance_row q i)) c.end_bus.ensures.value in
    let thermal : c.thermal_row.result ≡ row_number (grid net) (Thermal e (thermal_place q)) =
    rw (c.requires.rank_value, c.thermal_place.ensures.value) at c.thermal_row.ensures ∙ laid-thermal net.layout net.bytes.now net.laid e (thermal_place q) in
    let first = then (rw bus at c.put.ensures.puts) (rw c.ohm_row.ensures at c.put-2.ensures.puts) in
    rw (sym (rw (r.place, r.bytes) at c.thermal_limit_active.ensures) ∙ c.if-thermal_limit_active.true) (then first (rw thermal at c.put-then-thermal_limit_active.ensures.puts))

pub returns-else-thermal_limit_active-clause-puts : goal.returns-else-thermal_limit_active-clause-puts
unfolding flow_cells
returns-else-thermal_limit_active-clause-puts c =
    let net = c.args.net.now in
    let r = c.branch-net.ensures in
    let bus = c.balance_row.ensures ∙ ap (λ (i : ℕ). row_number (grid net) (balance_row c.args.q i)) c.end_bus.ensures.value in
    let first = then (rw bus at c.put.ensures.puts) (rw c.ohm_row.ensures at c.put-2.ensures.puts) in
    rw (sym (rw (r.place, r.bytes) at c.thermal_limit_active.ensures) ∙ c.if-thermal_limit_active.false) (then first none)
