-- The rules with the paths that were yielded, and that those that are left can be read.
use Rattle.std.proofs.Common.{◌≡◌, ◌++◌, map, All, IsTrue}
use Rattle.rule_profile.specs.Readable.{is_path}
use Rattle.import_profile.specs.inner.GatheredRules.{placed_value}
use Rattle.import_profile.proofs.placed.push_restated.Given as goal

abbrev pub invariant-loop-path : goal.invariant-loop-path
invariant-loop-path l = record {
  pushed : l.rules.items ≡ l.fn.rules.items ++ map (placed_value l.place l.shape) l.yielded;
  readable : All (λ path. IsTrue (is_path path)) l.path-iterator.rest.items;
}
