-- `read_socwr` of problem/conic.rs: the lists of x, the prices and the objective.
use Rattle.std.specs.Prelude.{ℕ, zero, suc, ◌+◌, List, [], ◌++◌, ltb, length, get_or, Float, Result, Ok, Err}
use Rattle.std.specs.Float.{nan}
use Rattle.std.specs.Float.Ieee.{neg}
use Rattle.lists.specs.UpTo.{listed}
use Rattle.refusals.specs.Refusals.{Checked, ◌or_else◌, refuse_unless, room_for, answer_if}
use Rattle.refusals.specs.declared.Refusal.{Refusal}
use Rattle.refusals.specs.declared.Refusal.TheVariants.{PastEnd}
use Rattle.records.specs.AcNetwork.{AcNetwork}
use Rattle.records.specs.Network.{network_of}
use Rattle.records.specs.Check.{check_of}
use Rattle.numbering.specs.Numbering.{column_number, row_number}
use Rattle.numbering.specs.declared.ColumnName.{ColumnName}
use Rattle.numbering.specs.declared.ColumnName.TheVariants.{Pg, Qg, W, Wr, Wi, Pf, Pt, Qf, Qt}
use Rattle.numbering.specs.declared.RowName.TheVariants.{Pbal, Qbal}
use Rattle.rows.specs.Rows.{zero64}
use Rattle.solution.specs.Lengths.{x_cause, z_cause, solution_cause}
use Rattle.cost.specs.Cost.{total_cost}
use Rattle.reading.specs.declared.PreparedObjective.{PreparedObjective}
use Rattle.reading.specs.declared.PreparedObjective.TheVariants.{Feasibility, NetworkGeneratorCost, Other}
use Rattle.reading.specs.declared.SolutionList.{SolutionList}

-- the lists of `SocWrSolution` in x: the column of element i, and how many there are of n buses, m branches, k generators
abbrev pub part_column : SolutionList → ℕ → ColumnName
part_column SolutionList.Pg i = Pg i
part_column SolutionList.Qg i = Qg i
part_column SolutionList.W i = W i
part_column SolutionList.Wr i = Wr i
part_column SolutionList.Wi i = Wi i
part_column SolutionList.Pf i = Pf i
part_column SolutionList.Pt i = Pt i
part_column SolutionList.Qf i = Qf i
part_column SolutionList.Qt i = Qt i

abbrev pub part_count : (n m k : ℕ) → SolutionList → ℕ
part_count n m k SolutionList.Pg = k
part_count n m k SolutionList.Qg = k
part_count n m k SolutionList.W = n
part_count n m k SolutionList.Wr = m
part_count n m k SolutionList.Wi = m
part_count n m k SolutionList.Pf = m
part_count n m k SolutionList.Pt = m
part_count n m k SolutionList.Qf = m
part_count n m k SolutionList.Qt = m

module _ (G : AcNetwork Float) where
  -- as `pg: (0..k).map(|g| x[lay.col_pg(g)])`
  unfoldable pub part_list : List Float → SolutionList → List Float
  part_list x p = listed (part_count G.n G.m G.k p) (λ i. get_or x (column_number G (part_column p i)) nan)

  -- "the active prices fill the first n places and the reactive prices the next n. They are negated z."
  unfoldable pub price_list : List Float → List Float
  price_list z = listed G.n (λ i. neg (get_or z (row_number G (Pbal i)) nan)) ++ listed G.n (λ i. neg (get_or z (row_number G (Qbal i)) nan))

  -- "0 for feasibility; the sum of `generator_cost` in order for generator cost; else the solver's number"
  unfoldable pub objective_of : PreparedObjective → List Float → Float → Float
  objective_of Feasibility x solver = zero64
  objective_of NetworkGeneratorCost x solver = total_cost G x
  objective_of Other x solver = solver

  -- 6 of a z of zs floats, then 10 "an output slice too short", of the length needed, 2n
  abbrev pub prices_cause : (zs room : ℕ) → Checked
  prices_cause zs room = z_cause G zs or_else room_for (G.n + G.n) room

-- "A refused reading hands back the empty part"
unfoldable pub part_if : Checked → List Float → List Float
part_if (Ok u) xs = xs
part_if (Err cause) xs = []

-- the codes of the objectives, counted from 0; 3 and above name nothing
unfoldable pub objective_at : ℕ → PreparedObjective
objective_at zero = Feasibility
objective_at (suc zero) = NetworkGeneratorCost
objective_at (suc (suc c)) = Other

-- a number, or why there is none
abbrev pub Scalar : Type 0
Scalar = Result Float Refusal

-- ---- on counts and records
module _ (n m k s : ℕ) (b : List ℕ) where
  -- "a separate check says whether it was refused"
  unfoldable pub reading_check : List Float → List Float → Checked
  reading_check x z = check_of n m k s b or_else solution_cause (network_of n m k s b) (length x) (length z)

  -- a part, or the objective, is handed x and no z
  unfoldable pub part_check : List Float → Checked
  part_check x = check_of n m k s b or_else x_cause (network_of n m k s b) (length x)

  unfoldable pub part_of : List Float → SolutionList → List Float
  part_of x p = part_if (part_check x) (part_list (network_of n m k s b) x p)

  unfoldable pub prices_check : List Float → ℕ → Checked
  prices_check z room = check_of n m k s b or_else prices_cause (network_of n m k s b) (length z) room

  unfoldable pub objective_answer : PreparedObjective → List Float → Float → Scalar
  objective_answer objective x solver = answer_if (part_check x) (objective_of (network_of n m k s b) objective x solver)

  -- by a code: 7 with a code that names nothing
  unfoldable pub code_answer : ℕ → List Float → Float → Scalar
  code_answer code x solver =
      answer_if (part_check x or_else refuse_unless (ltb code 3) (PastEnd code)) (objective_of (network_of n m k s b) (objective_at code) x solver)
