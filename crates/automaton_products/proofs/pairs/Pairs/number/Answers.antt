-- The pair is found, or it is appended.
use Rattle.std.proofs.Common.{◌≡◌, ◌∙◌, ◌++◌, ◌∷◌, [], false, ap, sym, arith, if◌then◌else◌}
use Rattle.std.specs.List.{list_any}
use Rattle.automaton_products.specs.contracts.pairs.PairPartialEq.TheImpl as pair_impl
use Rattle.automaton_products.specs.laws.PairNumbers.{all_distinct, not_there, numbered_found, numbered_new}
use Rattle.automaton_products.proofs.pairs.Pairs.number.Goals as goal

pub returns-in-Some-clause-ok : goal.returns-in-Some-clause-ok
returns-in-Some-clause-ok c =
    numbered_found pair_impl.eq-value.it c.equal_pairs_are_one.ensures.one c.equal_pairs_are_one.ensures.itself c.args.self.now.pairs.keys
    c.args.pair c.in-Some.number c.len-count.ensures.unique (sym c.get_index_of.ensures.index ∙ c.in-Some.is) c.requires

pub returns-then-count-eq-MOST_SETS-clause-err : goal.returns-then-count-eq-MOST_SETS-clause-err
returns-then-count-eq-MOST_SETS-clause-err c = (
  omega (arith, c.if-count-eq-MOST_SETS.true, c.len-count.ensures.len),
  all_distinct pair_impl.eq-value.it c.equal_pairs_are_one.ensures.one c.equal_pairs_are_one.ensures.itself c.args.self.now.pairs.keys
      c.len-count.ensures.unique,
  not_there pair_impl.eq-value.it c.equal_pairs_are_one.ensures.one c.equal_pairs_are_one.ensures.itself c.args.self.now.pairs.keys
      c.args.pair (sym c.in_default.ensures.found),
)

pub returns-in-Ok-clause-ok : goal.returns-in-Ok-clause-ok
returns-in-Ok-clause-ok c =
    let keys = c.args.self.now.pairs.keys in
    let none : list_any (λ y. pair_impl.eq-value.it c.args.pair y) keys ≡ false = sym c.in_default.ensures.found in
    numbered_new pair_impl.eq-value.it c.equal_pairs_are_one.ensures.one c.equal_pairs_are_one.ensures.itself keys
    c.insert_full.new.self.keys c.args.pair c.in-Ok.number
    (c.in-Ok.ensures.keys ∙ ap (λ b. if b then keys else keys ++ c.args.pair ∷ []) none)
    c.in-Ok.ensures.stored c.insert_full.ensures.unique c.requires
    (λ e. let other = c.if-count-eq-MOST_SETS.false in
    omega (arith, e, other, c.len-count.ensures.len))
