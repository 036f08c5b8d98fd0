-- What a writer does to lent lists and to the position beside them.
use Rattle.std.specs.Prelude.{◌≡◌, List}
use Rattle.lists.specs.Entries.{Entry}
use Rattle.lists.specs.Out.{Out, out, Wrote}
use Rattle.lists.specs.declared.Triplets.{Triplets}

-- what the lists hold, and the position
abbrev pub out_of : Triplets → Out
out_of t = out t.rows.now t.cols.now t.vals.now t.at

-- the lists of rows and of columns in each other's place
abbrev pub exchanged : Triplets → Triplets
exchanged t = record { rows = t.cols; cols = t.rows; vals = t.vals; at = t.at }

-- the same three lists are lent before and after, and the entries were written to them
pub record Puts (es : List Entry) (t t' : Triplets) : Type 0 where
  pub rows : t'.rows.ghost_name ≡ t.rows.ghost_name
  pub cols : t'.cols.ghost_name ≡ t.cols.ghost_name
  pub vals : t'.vals.ghost_name ≡ t.vals.ghost_name
  pub wrote : Wrote es (out_of t) (out_of t')
