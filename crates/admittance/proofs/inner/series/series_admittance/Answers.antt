-- `admittance::inner::series::series_admittance` meets its contract: the ten entries are at the numbers of the branch's names. Assumes nothing.
use Rattle.std.proofs.Common.{◌∙◌, ap, List}
use Rattle.admittance.specs.Stores.{Store, stored_all}
use Rattle.admittance.proofs.Entries.{series-same}
use Rattle.admittance.proofs.inner.series.series_admittance.Goals as goal

pub returns : goal.returns
returns c =
    let a = c.args in
    let net = a.net.now in
    let r = c.branch-net.ensures in
    c.land_all.ensures
    ∙ ap (λ (ss : List Store). stored_all ss a.column.now)
    (rw (c.entries-es.ensures, c.series.ensures, r.bytes, r.place)
    (series-same net.layout net.bytes.now net.laid a.x.now a.z.now a.e c.column_count.ensures c.ohm_rows-rows.ensures c.ohm_columns.ensures a.gb))
