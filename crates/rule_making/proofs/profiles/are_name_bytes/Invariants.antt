-- What is left of the name, from here.
use Rattle.std.proofs.Common.{◌≡◌, drop, false}
use Rattle.rule_profile.specs.Readable.{are_name_bytes}
use Rattle.rule_making.proofs.profiles.are_name_bytes.Given as goal

abbrev pub invariant-loop-byte : goal.invariant-loop-byte
invariant-loop-byte l = are_name_bytes l.escaped (drop l.byte-index l.name) ≡ are_name_bytes false l.name
