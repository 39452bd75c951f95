-- `any` answers whether some permission of the list passes, and every permission is in the list.
use Rattle.std.proofs.Common.{◌≡◌, ◌&&◌, rules, tests, sym, ◌∙◌}
use Rattle.std.specs.List.{list_any}
use Rattle.std.proofs.lemmas.Iterator.{YieldsList-from_slice}
use Rattle.std.proofs.lemmas.Iterator.Search.{any_from_yields_List}
use Rattle.names.specs.Permissions.{has, all_permissions}
use Rattle.names.specs.laws.PermissionSets.{shares_by_any}
use Rattle.names.proofs.permissions.Perms.intersects.Goals as goal

pub returns : goal.returns
returns c =
    let s = c.args.self in
    let t = c.args.other in
    let answer : c.any.result ≡ list_any (λ q. has s q && has t q) all_permissions =
    any_from_yields_List (λ q. has s q && has t q) _ _ c.any.result c.any.ensures.ran (YieldsList-from_slice all_permissions cc)
    (λ x b q k. search (rules, tests)) in
    ((λ e. (shares_by_any s t).0 (sym answer ∙ e)), λ w. answer ∙ (shares_by_any s t).1 w)
