-- What a segment that is lent holds.
use Rattle.std.specs.Prelude.{List}
use Rattle.lists.specs.Entries.{Cell}
use Rattle.sparse.specs.Sparse.{cells}
use Rattle.sparse.specs.declared.lent.Segment.{Segment}

abbrev pub cells_of : Segment → List Cell
cells_of t = cells t.rows.now t.weights.now
