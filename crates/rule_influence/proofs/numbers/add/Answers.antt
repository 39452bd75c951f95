-- The number is put in its place.
use Rattle.std.proofs.Common.{◌≡◌, Err, nat_cmp, ℕ, List, sym, subst}
use Rattle.std.specs.List.Sorted.{IsBinarySearchResult}
use Rattle.rule_influence.specs.inner.Lists.{AreAdded}
use Rattle.rule_influence.proofs.AddedNumbers.{number_added}
use Rattle.rule_influence.proofs.numbers.add.Goals as goal

pub returns-in-Ok-insert : goal.returns-in-Ok-insert
returns-in-Ok-insert c up =
    let is : IsBinarySearchResult (λ y. nat_cmp y c.args.number) c.args.list.now.items (Err c.in-Err.place) =
    subst (λ (z : List ℕ). IsBinarySearchResult (λ y. nat_cmp y c.args.number) z (Err c.in-Err.place)) c.deref.ensures.value
    (subst (λ r. IsBinarySearchResult (λ y. nat_cmp y c.args.number) c.deref.result.now r) c.in-Err.is c.binary_search.ensures.position) in
    subst (λ (z : List ℕ). AreAdded (λ n. n ≡ c.args.number) c.args.list.now.items z) (sym c.in-Ok-insert.ensures.items)
    (number_added c.args.list.now.items c.args.number c.in-Err.place is up)
