-- The fields of a record of 128 bytes (document 01, 'Forms that must change shape', first point). b is the slice, r the record,
-- counted from 0 over all kinds: buses, branches, generators, segments.
use Rattle.std.specs.Prelude.{ℕ, ◌+◌, ◌*◌, ◌/◌, ◌%◌, ◌^◌, Bool, not, ◌&&◌, cond, List, eqb, get_or, Float}
use Rattle.std.specs.Float.{binary64}
use Rattle.std.specs.Float.Ieee.{of_bits, neg, le}
use Rattle.records.specs.Bytes.{le16, le32, le64}

-- "Byte 0: kind (1 bus, 2 branch, 3 generator, 4 segment). Byte 1: flags. Bytes 2-3: count. Bytes 4-7: id."
unfoldable pub kind_of : List ℕ → ℕ → ℕ
kind_of b r = get_or b (128 * r) 0

unfoldable pub flags_of : List ℕ → ℕ → ℕ
flags_of b r = get_or b (128 * r + 1) 0

unfoldable pub count_of : List ℕ → ℕ → ℕ
count_of b r = le16 b (128 * r + 2)

unfoldable pub id_of : List ℕ → ℕ → ℕ
id_of b r = le32 b (128 * r + 4)

-- "Bytes 8-11 and 12-15: first and second number."
unfoldable pub first_of : List ℕ → ℕ → ℕ
first_of b r = le32 b (128 * r + 8)

unfoldable pub second_of : List ℕ → ℕ → ℕ
second_of b r = le32 b (128 * r + 12)

-- "Bytes 16-127: fourteen floats", "binary64": the bits of float j, j below 14, and the float. A NaN's bits read as the NaN.
unfoldable pub bits_of : List ℕ → ℕ → ℕ → ℕ
bits_of b r j = le64 b (128 * r + 16 + 8 * j)

unfoldable pub float_of : List ℕ → ℕ → ℕ → Float
float_of b r j = of_bits binary64 (bits_of b r j)

-- "flag bit 0", "bit 1": flag bit j
unfoldable pub flag_bit : List ℕ → ℕ → ℕ → Bool
flag_bit b r j = eqb (flags_of b r / 2 ^ j % 2) 1

-- ---- "bus: id; flag bit 0 voltage bound active; floats gs, bs, pd, qd, vm_min, vm_max."
abbrev pub voltage_bound_of : List ℕ → ℕ → Bool
voltage_bound_of b r = flag_bit b r 0

abbrev pub gs_of : List ℕ → ℕ → Float
gs_of b r = float_of b r 0

abbrev pub bs_of : List ℕ → ℕ → Float
bs_of b r = float_of b r 1

abbrev pub pd_of : List ℕ → ℕ → Float
pd_of b r = float_of b r 2

abbrev pub qd_of : List ℕ → ℕ → Float
qd_of b r = float_of b r 3

abbrev pub vm_min_of : List ℕ → ℕ → Float
vm_min_of b r = float_of b r 4

abbrev pub vm_max_of : List ℕ → ℕ → Float
vm_max_of b r = float_of b r 5

-- ---- "branch: id; flag bit 0 thermal limit active, bit 1 angle bound active; from bus, to bus; floats g, b, g_fr, b_fr, g_to, b_to,
-- tap, cosine and sine of shift, angmin, angmax, tangent of angmin, tangent of angmax, rate_a."
unfoldable pub limited_of : List ℕ → ℕ → Bool
limited_of b r = flag_bit b r 0

abbrev pub angle_bound_of : List ℕ → ℕ → Bool
angle_bound_of b r = flag_bit b r 1

abbrev pub from_of : List ℕ → ℕ → ℕ
from_of b r = first_of b r

abbrev pub to_of : List ℕ → ℕ → ℕ
to_of b r = second_of b r

unfoldable pub g_of : List ℕ → ℕ → Float
g_of b r = float_of b r 0

unfoldable pub b_of : List ℕ → ℕ → Float
b_of b r = float_of b r 1

unfoldable pub g_fr_of : List ℕ → ℕ → Float
g_fr_of b r = float_of b r 2

unfoldable pub b_fr_of : List ℕ → ℕ → Float
b_fr_of b r = float_of b r 3

unfoldable pub g_to_of : List ℕ → ℕ → Float
g_to_of b r = float_of b r 4

unfoldable pub b_to_of : List ℕ → ℕ → Float
b_to_of b r = float_of b r 5

unfoldable pub tap_of : List ℕ → ℕ → Float
tap_of b r = float_of b r 6

abbrev pub cos_shift_of : List ℕ → ℕ → Float
cos_shift_of b r = float_of b r 7

abbrev pub sin_shift_of : List ℕ → ℕ → Float
sin_shift_of b r = float_of b r 8

abbrev pub angmin_of : List ℕ → ℕ → Float
angmin_of b r = float_of b r 9

abbrev pub angmax_of : List ℕ → ℕ → Float
angmax_of b r = float_of b r 10

abbrev pub tan_angmin_of : List ℕ → ℕ → Float
tan_angmin_of b r = float_of b r 11

abbrev pub tan_angmax_of : List ℕ → ℕ → Float
tan_angmax_of b r = float_of b r 12

abbrev pub rate_a_of : List ℕ → ℕ → Float
rate_a_of b r = float_of b r 13

-- "Angle rows have entries if the flag is set and not (angmin ≤ -π and angmax ≥ π), π being binary64 3.141592653589793"
abbrev pub π64 : Float
π64 = of_bits binary64 0x400921fb54442d18

unfoldable pub angled_of : List ℕ → ℕ → Bool
angled_of b r = angle_bound_of b r && not (le (angmin_of b r) (neg π64) && le π64 (angmax_of b r))

-- ---- "generator: id; flag bit 0 capability active, bit 1 piecewise cost; count of its segments (zero without bit 1; zero allowed with
-- it); first number its bus; floats pmin, pmax, qmin, qmax, cq, cl, cc."
abbrev pub capability_of : List ℕ → ℕ → Bool
capability_of b r = flag_bit b r 0

unfoldable pub piecewise_of : List ℕ → ℕ → Bool
piecewise_of b r = flag_bit b r 1

-- the segments of a generator's cost: its count if the cost is piecewise, else none
unfoldable pub segments_of : List ℕ → ℕ → ℕ
segments_of b r = cond (piecewise_of b r) (count_of b r) 0

abbrev pub gen_bus_of : List ℕ → ℕ → ℕ
gen_bus_of b r = first_of b r

abbrev pub pmin_of : List ℕ → ℕ → Float
pmin_of b r = float_of b r 0

abbrev pub pmax_of : List ℕ → ℕ → Float
pmax_of b r = float_of b r 1

abbrev pub qmin_of : List ℕ → ℕ → Float
qmin_of b r = float_of b r 2

abbrev pub qmax_of : List ℕ → ℕ → Float
qmax_of b r = float_of b r 3

abbrev pub cq_of : List ℕ → ℕ → Float
cq_of b r = float_of b r 4

abbrev pub cl_of : List ℕ → ℕ → Float
cl_of b r = float_of b r 5

abbrev pub cc_of : List ℕ → ℕ → Float
cc_of b r = float_of b r 6

-- ---- "segment: slope, intercept."
abbrev pub slope_of : List ℕ → ℕ → Float
slope_of b r = float_of b r 0

abbrev pub intercept_of : List ℕ → ℕ → Float
intercept_of b r = float_of b r 1
