-- What is left of the text, from here.
use Rattle.std.proofs.Common.{◌≡◌, drop}
use Rattle.import_profile.specs.OneWay.{opens_from, opens_variable}
use Rattle.import_profile.proofs.one_way.opens_variable.Given as goal

abbrev pub invariant-loop-byte : goal.invariant-loop-byte
invariant-loop-byte l = opens_from l.escaped l.at (drop l.byte-index l.text) ≡ opens_variable l.text
