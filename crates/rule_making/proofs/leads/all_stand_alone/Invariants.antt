-- What is left of the alternatives, from here.
use Rattle.std.proofs.Common.{◌≡◌, drop, map}
use Rattle.std.specs.List.{list_all}
use Rattle.rule_globs.specs.Tokens.{tokens_of}
use Rattle.rule_making.specs.Leads.{stands_alone}
use Rattle.rule_making.proofs.leads.all_stand_alone.Given as goal

abbrev pub invariant-loop-items : goal.invariant-loop-items
invariant-loop-items l =
    list_all (stands_alone (tokens_of l.follow)) (map (λ items. tokens_of items.items) (drop l.items-index l.alternatives))
    ≡ list_all (stands_alone (tokens_of l.follow)) (map (λ items. tokens_of items.items) l.alternatives)
