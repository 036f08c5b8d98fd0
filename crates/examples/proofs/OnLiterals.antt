-- What an example unfolds to be computed, bundle by bundle. Assumes nothing.
use Rattle.std.specs.Prelude.{⊤}
use Rattle.std.specs.Float.Ieee.{of_bits, to_bits, neg, mul, div, add, sub, ne, eq, le, lt}
use Rattle.lists.specs.UpTo.{up_to}
use Rattle.refusals.specs.Refusals.{refuse_unless, ◌or_else◌}
use Rattle.records.specs.Bytes.{le16, le32, le64}
use Rattle.records.specs.Fields.{kind_of, flags_of, count_of, id_of, first_of, second_of, bits_of, float_of, flag_bit, limited_of, piecewise_of, segments_of}
use Rattle.records.specs.Fields.{g_of, b_of, g_fr_of, b_fr_of, g_to_of, b_to_of, tap_of, angled_of}
use Rattle.records.specs.Network.{branch_data_of}
use Rattle.records.specs.Check.{count_cause, length_cause, zero_floats, bus_form, branch_form, gen_form, segment_form, choose, sum_cause, check_of}
use Rattle.records.specs.Check.{bus_cause, branch_cause, gen_cause, segment_cause, record_cause, record_causes, count_sum}
use Rattle.rows.specs.Branch.{gathered}
use Rattle.rows.specs.Rows.{kept, terms, b}
use Rattle.numbering.specs.Blocks.{start, size, before, total, number_of}
use Rattle.numbering.specs.Numbering.{column_table, row_table, column_blocks, row_blocks, nvar, ncon, column_number, row_number}

-- the fields of a record, and what is counted over records
unfoldable pub fields_on_literals : ⊤
unfolding up_to le16 le32 le64 kind_of flags_of count_of id_of first_of second_of bits_of flag_bit limited_of piecewise_of segments_of
fields_on_literals = tt

-- the record check
unfoldable pub check_on_literals : ⊤
unfolding ◌or_else◌ refuse_unless fields_on_literals choose zero_floats count_cause length_cause bus_form branch_form gen_form segment_form bus_cause branch_cause
    gen_cause segment_cause record_cause record_causes count_sum sum_cause check_of
check_on_literals = tt

-- the numbers of rows and columns
unfoldable pub numbers_on_literals : ⊤
unfolding fields_on_literals start size before total number_of column_table row_table column_blocks row_blocks nvar ncon column_number row_number
numbers_on_literals = tt

-- what is computed with floats
unfoldable pub floats_on_literals : ⊤
unfolding of_bits to_bits neg mul div add sub ne eq le lt
floats_on_literals = tt

-- a branch's data, and the terms and right sides of rows
unfoldable pub rows_on_literals : ⊤
unfolding float_of g_of b_of g_fr_of b_fr_of g_to_of b_to_of tap_of angled_of gathered branch_data_of kept terms b floats_on_literals
rows_on_literals = tt
