-- Places of a matrix that lies by columns, and of a table that lies by items. Assumes nothing.
use Rattle.std.proofs.Common.{ℕ, ◌+◌, ◌*◌, ◌≤◌, ◌<◌, ◌≡◌, mul-le-mul_right, suc-mul, mul_comm, add-one, arith}

-- row r of column c lies inside
pub inside : (c columns r dim : ℕ) → c < columns → r < dim → c * dim + r < dim * columns
inside c columns r dim h k = omega (arith, mul-le-mul_right dim h, suc-mul c dim, mul_comm dim columns)

pub next-column : (c dim : ℕ) → (c + 1) * dim ≡ c * dim + dim
next-column c dim = rw (add-one, suc-mul)

-- the whole of column c lies inside
pub column-inside : (c columns dim : ℕ) → c < columns → c * dim + dim ≤ dim * columns
column-inside c columns dim h = omega (arith, mul-le-mul_right dim h, suc-mul c dim, mul_comm dim columns)
