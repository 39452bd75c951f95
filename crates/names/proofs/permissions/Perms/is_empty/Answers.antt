-- `all` answers whether each permission of the list passes, and every permission is in the list.
use Rattle.std.proofs.Common.{◌≡◌, not, rules, tests, sym, ◌∙◌}
use Rattle.std.specs.List.{list_all}
use Rattle.std.proofs.lemmas.Bool.{not-true, not_from_false}
use Rattle.std.proofs.lemmas.Iterator.{YieldsList-from_slice}
use Rattle.std.proofs.lemmas.Iterator.Search.{all_from_yields_List}
use Rattle.names.specs.Permissions.{all_permissions, has}
use Rattle.names.specs.laws.PermissionSets.{all_pass, each_passes}
use Rattle.names.proofs.permissions.Perms.is_empty.Goals as goal

pub returns : goal.returns
returns c =
    let s = c.args.self in
    let answer : c.all.result ≡ list_all (λ p. not (has s p)) all_permissions =
    all_from_yields_List (λ p. not (has s p)) _ _ c.all.result c.all.ensures.ran (YieldsList-from_slice all_permissions cc)
    (λ x b q k. search (rules, tests)) in (
      λ e p. not-true (has s p) (each_passes (λ q. not (has s q)) (sym answer ∙ e) p),
      λ none. answer ∙ all_pass (λ q. not (has s q)) (λ p. not_from_false (has s p) (none p)),
    )
