-- Parts of the KKT list.
use Rattle.std.specs.Prelude.{List, ◌++◌, map, Float}
use Rattle.lists.specs.Entries.{Entry, turned}
use Rattle.records.specs.AcNetwork.{AcNetwork}
use Rattle.rows.specs.Program.{quadratic, equalities, every_row}
use Rattle.kkt.specs.Kkt.{plain_row}

-- the list up to the rows of the zero cone
abbrev pub stationarity : AcNetwork Float → List Entry
stationarity G = quadratic G ++ map turned (every_row G (plain_row G)) ++ equalities G (plain_row G)
