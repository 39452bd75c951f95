-- The bytes so far are items.
use Rattle.std.proofs.Common.{◌≡◌, ◌++◌, IsTrue, drop, map}
use Rattle.rule_globs.specs.Tokens.{all_full, byte, tokens_of}
use Rattle.trace_audit.proofs.added.items_of.Given as goal

abbrev pub invariant-loop-byte : goal.invariant-loop-byte
invariant-loop-byte l = record {
  tokens : tokens_of l.items.items ++ map byte (drop l.byte-index l.name) ≡ map byte l.name;
  full : IsTrue (all_full l.items.items);
}
