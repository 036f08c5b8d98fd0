-- Document 01: "Per branch, the products of tap are gathered in a struct of five floats: g, b, tr, ti, tm2".
use Rattle.std.specs.Prelude.{Float}
use Rattle.rows.specs.Branch.{Branch}
use Rattle.branch.specs.declared.Series.{Series}

-- the five floats of a branch
abbrev pub series_of : Branch Float → Series
series_of t = record { g = t.g; b = t.b; tr = t.tr; ti = t.ti; tm2 = t.tm2 }
