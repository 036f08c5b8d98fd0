-- What is said of a case as it is lent.
use Rattle.std.specs.Prelude.{Float}
use Rattle.refusals.specs.Refusals.{Checked}
use Rattle.records.specs.AcNetwork.{AcNetwork}
use Rattle.records.specs.Network.{network_of}
use Rattle.records.specs.Check.{check_of}
use Rattle.records.specs.declared.Case.{Case}

-- what the record check answers on its counts and bytes
abbrev pub case_check : Case → Checked
case_check c = check_of c.n c.m c.k c.s c.bytes.now

-- the network that they stand for
abbrev pub case_network : Case → AcNetwork Float
case_network c = network_of c.n c.m c.k c.s c.bytes.now
