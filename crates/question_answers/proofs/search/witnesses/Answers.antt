-- The names that are wanted, by their first rules or the least of all.
use Rattle.std.proofs.Common.{◌≡◌, ◌≢◌, ◌∙◌, ℕ, Bool, true, false, true≢false, List, Some, refl, sym, ap, subst}
use Rattle.std.proofs.lemmas.Result.{IfOk-weaker}
use Rattle.names.specs.declared.permissions.Perms.{Perms}
use Rattle.profile_questions.specs.declared.answer.Answer.{Answer}
use Rattle.profile_questions.specs.declared.answer.Answer.TheVariants as answer
use Rattle.rule_globs.specs.Rules.{RuleValue}
use Rattle.rule_globs.specs.Tokens.{Token}
use Rattle.question_answers.specs.Findings.{AreWitnesses, IsWanted, IsWantedBy}
use Rattle.question_answers.specs.LeastNames.{AreLeast, AreLeastNames, listed}
use Rattle.question_answers.specs.declared.quantifier.Quantifier.{Quantifier}
use Rattle.question_answers.specs.declared.quantifier.Quantifier.TheVariants.{Any, All}
use Rattle.question_answers.specs.declared.quantifier.Witnesses.{Witnesses}
use Rattle.question_answers.specs.declared.quantifier.Witnesses.TheVariants.{EachRule, Least}
use Rattle.question_answers.specs.inner.Causes.{HasCauses}
use Rattle.question_answers.specs.inner.Wants.{IsWantedOf, listed_by, wanted_by}
use Rattle.question_answers.proofs.Translations.{asked, each_rule, least_too, wanted_so}
use Rattle.question_answers.proofs.search.witnesses.Goals as goal

abbrev is_each : Witnesses → Bool
is_each EachRule = true
is_each Least = false

unlike : EachRule ≢ Least
unlike e = true≢false (ap is_each e)

least_listed : (q : Quantifier) (rules : List RuleValue) (path : List Token) (ask : Perms) (names : List (List ℕ)) → listed_by q ≡ Least →
    AreLeast (IsWanted q rules path ask) names → AreWitnesses q rules path ask names
least_listed (Any Least) rules path ask names e are = are
least_listed (Any EachRule) rules path ask names e are = absurd (unlike e)
least_listed All rules path ask names e are = are

each_listed : (q : Quantifier) (rules : List RuleValue) (path : List Token) (ask : Perms) (names : List (List ℕ)) →
    listed_by q ≡ EachRule → AreLeastNames (IsWantedBy rules path ask) names → AreWitnesses q rules path ask names
each_listed (Any EachRule) rules path ask names e are = are
each_listed (Any Least) rules path ask names e are = absurd (unlike (sym e))
each_listed All rules path ask names e are = absurd (unlike (sym e))

-- only some names are listed by their rules
any_by_rule : (q : Quantifier) (ask : Perms) → listed_by q ≡ EachRule → wanted_by q ask ≡ answer.Allowed ask
any_by_rule (Any witnesses) ask e = refl
any_by_rule All ask e = absurd (unlike (sym e))

pub returns-in-EachRule : goal.returns-in-EachRule
returns-in-EachRule c path second third =
    let compared = c.args.comparison.now in
    let ask = c.args.ask in
    let is : listed_by c.args.quantifier ≡ EachRule = sym c.listed_by.ensures ∙ c.in-EachRule.is in
    let wanted : c.wanted_by.result ≡ answer.Allowed ask = c.wanted_by.ensures ∙ any_by_rule c.args.quantifier ask is in
    IfOk-weaker c.least_by_causes.result _ _
    (λ names are.
    each_listed c.args.quantifier compared.first path ask (listed names.items) is
    (each_rule ask path compared second (listed names.items)
    (subst (λ (a : Answer). AreLeastNames (HasCauses (Some path) compared (record { first = a; second = answer.Any }) ask)
    (listed names.items)) wanted are)))
    (c.least_by_causes.ensures (Some path) third refl)

pub returns-in-Least : goal.returns-in-Least
returns-in-Least c path second third =
    let compared = c.args.comparison.now in
    let ask = c.args.ask in
    let q = c.args.quantifier in
    IfOk-weaker c.least_alone.result _ _
    (λ names are.
    least_listed q compared.first path ask (listed names.items) (sym c.listed_by.ensures ∙ c.in-Least.is)
    (least_too (IsWantedOf (Some path) compared (asked q ask)) (IsWanted q compared.first path ask)
    (wanted_so ask path compared q) (listed names.items)
    (subst (λ (a : Answer). AreLeast (IsWantedOf (Some path) compared (record { first = a; second = answer.Any })) (listed names.items))
    c.wanted_by.ensures are)))
    (c.least_alone.ensures (Some path) third refl)
