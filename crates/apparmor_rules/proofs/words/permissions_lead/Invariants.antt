-- Neither a path nor permissions came before.
use Rattle.std.proofs.Common.{◌≡◌, drop}
use Rattle.apparmor_rules.specs.RuleWords.{permissions_lead}
use Rattle.apparmor_rules.proofs.words.permissions_lead.Given as goal

abbrev pub invariant-loop-part : goal.invariant-loop-part
invariant-loop-part l = permissions_lead (drop l.part-index l.parts) ≡ permissions_lead l.parts
