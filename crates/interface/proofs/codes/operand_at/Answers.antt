-- An arm for each code, and past the last one nothing is named.
use Rattle.std.proofs.Common.{sym, map, Some, None, arith}
use Rattle.std.proofs.lemmas.List.{get_or_past}
use Rattle.interface.specs.Codes.{operands}
use Rattle.interface.proofs.codes.operand_at.Goals as goal

pub returns-in_default : goal.returns-in_default
returns-in_default c = sym (get_or_past (map Some operands) c.args.code None (omega arith))
