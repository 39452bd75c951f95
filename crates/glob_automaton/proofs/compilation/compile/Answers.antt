use Rattle.std.proofs.Common.{◌≡◌, ◌∙◌, length, ap, sym, subst}
use Rattle.std.proofs.lemmas.List.{length-map}
use Rattle.std.proofs.lemmas.Result.{IfOk-weaker}
use Rattle.rule_profile.specs.Profile.{profile_value, rule_value}
use Rattle.glob_automaton.proofs.NamePrefixes.{each_with_slash}
use Rattle.glob_automaton.specs.Parts.{IsAutomatonOfPart}
use Rattle.glob_automaton.proofs.compilation.compile.Goals as goal

pub returns-clause-ok : goal.returns-clause-ok
returns-clause-ok c =
    let rules = (profile_value c.args.profile.now).rules in
    let all : length c.rules.result.now ≡ length rules = sym (length-map c.rules.result.now rule_value)
    ∙ ap length c.rules.ensures.rules in
    IfOk-weaker c.tree.result _ _ (λ d h. c.whole_parts_are_automata.ensures rules d
    (each_with_slash (profile_value c.args.profile.now) c.args.profile.now.readable)
    (subst (λ z. IsAutomatonOfPart rules 0 z d) all h)) c.tree.ensures.ok
