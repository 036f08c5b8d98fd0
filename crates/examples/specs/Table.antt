-- The lettered examples of document 01, in a single table: what the definitions give, and what the document says. Floats stand as their bits.
use Rattle.std.specs.Prelude.{ℕ, Bool, true, false, ◌||◌, cond, ◌≡◌, List, [], ◌∷◌, ◌++◌, map, eqb, length, get_or, Float}
use Rattle.std.specs.Float.{binary64, nan}
use Rattle.std.specs.Float.Ieee.{of_bits, to_bits}
use Rattle.lists.specs.UpTo.{listed, when}
use Rattle.lists.specs.Entries.{Entry, sits}
use Rattle.refusals.specs.Refusals.{answer_number, checked_value}
use Rattle.records.specs.AcNetwork.{AcNetwork}
use Rattle.records.specs.Network.{network_of}
use Rattle.records.specs.Check.{check_of}
use Rattle.numbering.specs.Numbering.{nvar, ncon, cone_lengths, column_number, column_key, row_key}
use Rattle.lookups.specs.Lookups.{Lookup, lookup_number, lookup_value, column_asked, row_asked}
use Rattle.numbering.specs.declared.ColumnName.TheVariants.{W, Wr, CostOf}
use Rattle.numbering.specs.declared.RowName.TheVariants.{OhmPf, Wub, Wlb, Angub, Anglb, Segment}
use Rattle.rows.specs.Rows.{terms, b}
use Rattle.kkt.specs.Kkt.{kkt_row, kkt}
use Rattle.interface.specs.Scales.{served_unit_scale}
use Rattle.interface.specs.declared.Operand.TheVariants.{Price}
use Rattle.interface.specs.declared.Parameter.TheVariants.{Demand, SeriesAdmittance}
use Rattle.interface.specs.declared.Power.TheVariants.{Active, Reactive}
use Rattle.interface.specs.declared.GB.TheVariants.{Conductance}
use Rattle.columns.specs.Jacobian.{jacobian}
use Rattle.examples.specs.Networks.{q, unlimited, curve, bounded_bus, wide, tapped, buses}

abbrev pub Q : List ℕ → AcNetwork Float
Q l = network_of 2 1 1 0 l

abbrev pub P : ℕ → AcNetwork Float
P s = network_of 1 0 2 s (curve s)

-- the record check's number and value: 0 and 0 where it accepts
abbrev pub checked : (n m k s : ℕ) → List ℕ → List ℕ
checked n m k s l = answer_number (check_of n m k s l) ∷ checked_value (check_of n m k s l) ∷ []

-- the number and value of a lookup, where the check accepts: 0 and the row or column
abbrev pub found : Lookup → List ℕ
found a = lookup_number a ∷ lookup_value a ∷ []

-- lists of floats that are 0 or 1, and the bits of a float
abbrev pub float : Bool → Float
float t = of_bits binary64 (cond t 0x3ff0000000000000 0)

abbrev pub bits : Float → ℕ
bits v = to_bits binary64 v

-- the values at a place, in the list's order
unfoldable pub bits_at : ℕ → ℕ → List Entry → List ℕ
bits_at r c [] = []
bits_at r c (e ∷ es) = when (sits r c e) (bits e.val ∷ []) ++ bits_at r c es

-- what the definitions give, at an x and a z where these are open, and what the document says
pub record Example : Type 0 where
  pub computed : List Float → List Float → List ℕ
  pub stated : List ℕ

infix 10 ◌is◌
abbrev pub ◌is◌ : List ℕ → List ℕ → Example
xs is ys = record { computed = λ x z. xs; stated = ys }

-- the same with x and z open: the claim is of every x and z
infix 10 ◌always◌
abbrev pub ◌always◌ : (List Float → List Float → List ℕ) → List ℕ → Example
f always ys = record { computed = f; stated = ys }

-- "Q: nvar 10, cones 8, 10, 4, 3, 3."
unfoldable pub letter_a : List Example
letter_a =
    (checked 2 1 1 0 q is 0 ∷ 0 ∷ [])
    ∷ (nvar (Q q) ∷ cone_lengths (Q q) is 10 ∷ 8 ∷ 10 ∷ 4 ∷ 3 ∷ 3 ∷ [])
    ∷ []

-- "Q without limit: ncon 22."
unfoldable pub letter_b : List Example
letter_b =
    (checked 2 1 1 0 unlimited is 0 ∷ 0 ∷ [])
    ∷ (ncon (Q unlimited) ∷ [] is 22 ∷ [])
    ∷ []

-- "All counts 0: ncon 0, cones 0, 0."
unfoldable pub letter_c : List Example
letter_c =
    (checked 0 0 0 0 [] is 0 ∷ 0 ∷ [])
    ∷ (ncon (network_of 0 0 0 0 []) ∷ cone_lengths (network_of 0 0 0 0 []) is 0 ∷ 0 ∷ 0 ∷ [])
    ∷ []

-- "n 1, k 2, second piecewise with 3 segments: cost column 5, rows 12..14, ncon 15, nvar 6."
unfoldable pub letter_d : List Example
letter_d =
    (checked 1 0 2 3 (curve 3) is 0 ∷ 0 ∷ [])
    ∷ (found (column_asked (P 3) (column_key (CostOf 1))) is 0 ∷ 5 ∷ [])
    ∷ (found (row_asked (P 3) (row_key (Segment 1 0))) is 0 ∷ 12 ∷ [])
    ∷ (found (row_asked (P 3) (row_key (Segment 1 1))) is 0 ∷ 13 ∷ [])
    ∷ (found (row_asked (P 3) (row_key (Segment 1 2))) is 0 ∷ 14 ∷ [])
    ∷ (ncon (P 3) ∷ nvar (P 3) ∷ [] is 15 ∷ 6 ∷ [])
    ∷ []

-- "Same, 0 segments: column 5, ncon 12."
unfoldable pub letter_e : List Example
letter_e =
    (checked 1 0 2 0 (curve 0) is 0 ∷ 0 ∷ [])
    ∷ (found (column_asked (P 0) (column_key (CostOf 1))) is 0 ∷ 5 ∷ [])
    ∷ (ncon (P 0) ∷ [] is 12 ∷ [])
    ∷ []

-- F: any x, and any z of 28 floats with "1 at rows 18 and 21"
abbrev pub z_f : List Float → List Float
z_f z = listed 28 (λ r. cond (eqb r 18 || eqb r 21) (float true) (get_or z r nan))

abbrev pub kkt_f : List Float → List Float → List Entry
kkt_f x z = kkt (Q q) x (z_f z)

-- "Q, z 1 at rows 18 and 21: KKT row 28 has 0.5, 0.5 in column 2 and 0.5, -0.5 in column 3."
unfoldable pub letter_f : List Example
letter_f =
    ((λ x z. bits_at 28 2 (kkt_f x z)) always 0x3fe0000000000000 ∷ 0x3fe0000000000000 ∷ [])
    ∷ ((λ x z. bits_at 28 3 (kkt_f x z)) always 0x3fe0000000000000 ∷ 0xbfe0000000000000 ∷ [])
    ∷ []

-- "vm_max 1.5, vm_min 0.5, active: b 2.25 and -0.25."
unfoldable pub letter_g : List Example
letter_g =
    (checked 1 0 0 0 bounded_bus is 0 ∷ 0 ∷ [])
    ∷ (bits (b (network_of 1 0 0 0 bounded_bus) (Wub 0)) ∷ bits (b (network_of 1 0 0 0 bounded_bus) (Wlb 0)) ∷ [] is 0x4002000000000000 ∷ 0xbfd0000000000000 ∷ [])
    ∷ []

-- "angmin -π, angmax π, flag set: rows empty, b 1."
unfoldable pub letter_h : List Example
letter_h =
    (checked 2 1 1 0 wide is 0 ∷ 0 ∷ [])
    ∷ (length (terms (Q wide) (Angub 0)) ∷ length (terms (Q wide) (Anglb 0)) ∷ [] is 0 ∷ 0 ∷ [])
    ∷ (bits (b (Q wide) (Angub 0)) ∷ bits (b (Q wide) (Anglb 0)) ∷ [] is 0x3ff0000000000000 ∷ 0x3ff0000000000000 ∷ [])
    ∷ []

-- "n 4,096 with matching bytes passes check 1; n 4,097 is number 1."
unfoldable pub letter_i : List Example
letter_i =
    (checked 4096 0 0 0 (buses 4096) is 0 ∷ 0 ∷ [])
    ∷ (checked 4097 0 0 0 (buses 4097) is 1 ∷ 0 ∷ [])
    ∷ []

-- "Base 4: price by demand scale 0.0625."
unfoldable pub letter_j : List Example
letter_j =
    (bits (served_unit_scale (Price Active) (Demand Active) (of_bits binary64 0x4010000000000000)) ∷ [] is 0x3fb0000000000000 ∷ [])
    ∷ (bits (served_unit_scale (Price Reactive) (Demand Reactive) (of_bits binary64 0x4010000000000000)) ∷ [] is 0x3fb0000000000000 ∷ [])
    ∷ []

-- K: "x all 0 but w at from and wr 1": columns 2 and 4
abbrev pub x_k : List Float
x_k = listed 10 (λ c. float (eqb c 2 || eqb c 4))

abbrev pub z_k : List Float
z_k = listed 28 (λ r. float false)

-- "conductance column has 0.25 in row ohm_pf."
unfoldable pub letter_k : List Example
letter_k =
    (checked 2 1 1 0 tapped is 0 ∷ 0 ∷ [])
    ∷ (column_number (Q tapped) (W 0) ∷ column_number (Q tapped) (Wr 0) ∷ [] is 2 ∷ 4 ∷ [])
    ∷ (bits (get_or (jacobian (Q tapped) x_k z_k (SeriesAdmittance Conductance) 0) (kkt_row (Q tapped) (OhmPf 0)) nan) ∷ [] is 0x3fd0000000000000 ∷ [])
    ∷ []

-- ---- the table, and the claim over it
unfoldable pub table : List (List Example)
table = letter_a ∷ letter_b ∷ letter_c ∷ letter_d ∷ letter_e ∷ letter_f ∷ letter_g ∷ letter_h ∷ letter_i ∷ letter_j ∷ letter_k ∷ []

abbrev pub Right : List Example → Type 0
Right es = (x z : List Float) → map (λ (e : Example). e.computed x z) es ≡ map (λ (e : Example). e.stated) es

abbrev pub AllRight : List (List Example) → Type 0
AllRight [] = Unit {0}
AllRight (es ∷ rest) = Right es × AllRight rest
