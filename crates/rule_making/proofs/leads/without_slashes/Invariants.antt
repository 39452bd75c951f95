-- What is made so far, and what is left to make.
use Rattle.std.proofs.Common.{◌≡◌, ◌++◌, drop, map, IsTrue}
use Rattle.std.specs.List.{list_all}
use Rattle.rule_globs.specs.Tokens.{tokens_of, all_full}
use Rattle.rule_making.specs.Leads.{gives_slash}
use Rattle.rule_making.proofs.leads.without_slashes.Given as goal

abbrev pub invariant-loop-items : goal.invariant-loop-items
invariant-loop-items l = record {
  slashes : IsTrue (list_all gives_slash (map (λ items. tokens_of items.items) (drop l.items-index l.alternatives)));
  tokens : map (λ items. tokens_of items.items) l.bare.items ++ map (drop 1)
      (map (λ items. tokens_of items.items) (drop l.items-index l.alternatives))
      ≡ map (drop 1) (map (λ items. tokens_of items.items) l.alternatives);
  full : IsTrue (list_all (λ items. all_full items.items) l.bare.items);
}
