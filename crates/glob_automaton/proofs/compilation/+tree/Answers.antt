use Rattle.std.proofs.Common.{◌≡◌, ◌+◌, ◌-◌, ◌/◌, ℕ, sym, subst, arith}
use Rattle.std.proofs.lemmas.Result.{IfOk-weaker, IfErr-weaker}
use Rattle.rule_profile.specs.Profile.{profile_value, rule_value}
use Rattle.glob_automaton.proofs.NamePrefixes.{each_with_slash}
use Rattle.glob_automaton.specs.Parts.{IsAutomatonOfPart}
use Rattle.glob_automaton.proofs.DeadPart.{dead_part}
use Rattle.glob_automaton.proofs.compilation.+tree.Goals as goal

pub returns-then-first-last-clause-ok : goal.returns-then-first-last-clause-ok
returns-then-first-last-clause-ok t c =
    dead_part c.records_are_their_hits.ensures.made (profile_value c.args.profile.now).rules c.args.first c.args.last c.in_ok-dead.field-0
    c.if-first-last.true c.in_ok-dead.ensures.whole c.in_ok-dead.ensures.alone c.in_ok-dead.ensures.none

pub leaf-requires : goal.leaf-requires
leaf-requires t c = record {
  built = c.requires.built;
  slash = each_with_slash (profile_value c.args.profile.now) c.args.profile.now.readable c.args.first (rule_value c.rule_at.result.now)
      c.rule_at.ensures;
}

pub returns-then-last-first-eq1-clause-ok : goal.returns-then-last-first-eq1-clause-ok
returns-then-last-first-eq1-clause-ok t c =
    let rules = (profile_value c.args.profile.now).rules in
    let one : c.args.first + 1 ≡ c.args.last = omega (arith, c.if-last-first-eq1.true, c.requires.ordered) in
    IfOk-weaker c.leaf.result _ _ (λ d h. subst (λ z. IsAutomatonOfPart rules c.args.first z d) one
    (h rules c.args.first (sym one) c.rule_at.ensures)) c.leaf.ensures.ok

pub returns-then-last-first-eq1-clause-err : goal.returns-then-last-first-eq1-clause-err
returns-then-last-first-eq1-clause-err t c =
    IfErr-weaker c.leaf.result _ _ (λ fault h. h (profile_value c.args.profile.now).rules c.args.first c.rule_at.ensures)
    c.leaf.ensures.err

pub returns-clause-ok : goal.returns-clause-ok
returns-clause-ok t c =
    let rules = (profile_value c.args.profile.now).rules in
    let middle : ℕ = c.args.first + (c.args.last - c.args.first) / 2 in
    IfOk-weaker c.product.result _ _ (λ d h. c.parts_make_a_part.ensures rules c.args.first middle c.args.last c.in_ok-one.one
    c.in_ok-other.other d (omega arith) (omega (arith, c.requires.ordered)) c.in_ok-one.ensures.ok c.in_ok-other.ensures.ok h)
    c.product.ensures.ok

pub returns-clause-err : goal.returns-clause-err
returns-clause-err t c =
    let rules = (profile_value c.args.profile.now).rules in
    let middle : ℕ = c.args.first + (c.args.last - c.args.first) / 2 in
    IfErr-weaker c.product.result _ _ (λ fault h. c.parts_are_no_more.ensures.products rules c.args.first middle c.args.last
    c.in_ok-one.one c.in_ok-other.other fault (each_with_slash (profile_value c.args.profile.now) c.args.profile.now.readable)
    (omega arith) (omega (arith, c.requires.ordered)) c.in_ok-one.ensures.ok c.in_ok-other.ensures.ok h) c.product.ensures.err
