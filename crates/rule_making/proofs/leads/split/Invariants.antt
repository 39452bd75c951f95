-- The paths so far, each of which can be read, and those that are left to make.
use Rattle.std.proofs.Common.{◌≡◌, ◌++◌, drop, map, true}
use Rattle.std.specs.List.{list_all}
use Rattle.rule_globs.specs.Tokens.{tokens_of}
use Rattle.rule_profile.specs.Readable.{is_path}
use Rattle.rule_making.proofs.leads.split.Given as goal

abbrev pub invariant-loop-items : goal.invariant-loop-items
invariant-loop-items l = record {
  made : l.paths.items ++ map (λ items. tokens_of items.items ++ tokens_of l.follow) (drop l.items-index l.alternatives)
      ≡ map (λ items. tokens_of items.items ++ tokens_of l.follow) l.alternatives;
  readable : list_all is_path l.paths.items ≡ true;
}
