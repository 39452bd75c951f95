-- The parts, their stand-ins and their lines.
use Rattle.std.proofs.Common.{◌≡◌, ◌∙◌, ℕ, List, Vec, Global, inr, sym, ap, map, subst, length}
use Rattle.rule_globs.specs.Rules.{RuleValue}
use Rattle.rule_influence.specs.StandIns.{AreStandIns}
use Rattle.rule_influence.specs.declared.substitutes.IdleCase.{IdleCase}
use Rattle.rule_profile.specs.Profile.{profile_value}
use Rattle.rule_profile.specs.RuleSpans.{profile_spans}
use Rattle.trace_lint.specs.Parts.{case_of}
use Rattle.trace_lint.specs.declared.findings.Part.{Part}
use Rattle.trace_lint.specs.inner.Found.{HaveNumbers, ListsHaveNumbers}
use Rattle.trace_lint.proofs.AllFound.{lists_numbered, parts_numbered}
use Rattle.trace_lint.proofs.Written.{linted}
use Rattle.trace_lint.proofs.lint_command.answer_by.Goals as goal

pub cases_of-requires : goal.cases_of-requires
cases_of-requires c =
    let rules = (profile_value c.profile-profile.result.now).rules in
    subst (HaveNumbers (length rules)) (sym (c.deref.ensures.value ∙ c.in-Ok.ensures)) (parts_numbered rules c.args.decided.now)

pub lines-requires-clause-parts : goal.lines-requires-clause-parts
lines-requires-clause-parts c =
    let rules = (profile_value c.profile-profile.result.now).rules in
    subst (HaveNumbers (length rules)) (sym (c.deref-3.ensures.value ∙ c.in-Ok.ensures)) (parts_numbered rules c.args.decided.now)

pub lines-requires-clause-lists : goal.lines-requires-clause-lists
lines-requires-clause-lists c =
    let same = c.profile-profile.ensures.rules ∙ c.rules.ensures.rules in
    subst (λ (z : List RuleValue). ListsHaveNumbers (length z) c.deref-4.result.now) (sym same)
    (subst (ListsHaveNumbers (length c.args.pair.now.rules)) (sym c.deref-4.ensures.value)
    (lists_numbered c.args.pair.now.rules c.deref-2.result.now c.in_ok-lists.lists.items c.in_ok-lists.ensures.ok))

pub returns-in-Ok-lines : goal.returns-in-Ok-lines
returns-in-Ok-lines c =
    let rules = (profile_value c.profile-profile.result.now).rules in
    let same = c.profile-profile.ensures.rules ∙ c.rules.ensures.rules in
    let spans = c.profile-profile.ensures.spans ∙ c.rules.ensures.spans ∙ c.requires.spans in
    let cases : c.deref-2.result.now ≡ map (case_of rules) c.deref-3.result.now =
    c.deref-2.ensures.value ∙ c.in-Ok-cases_of.ensures
    ∙ ap (λ (z : List Part). map (case_of rules) z) (c.deref.ensures.value ∙ sym c.deref-3.ensures.value) in
    let items : List (Vec ℕ Global) → List (List ℕ) = λ lists. map (λ list. list.items) lists in
    let stands : AreStandIns c.args.pair.now.rules (map (case_of rules) c.deref-3.result.now) (items c.deref-4.result.now) =
    subst (λ (z : List IdleCase). AreStandIns c.args.pair.now.rules z (items c.deref-4.result.now)) cases
    (subst (λ (z : List (Vec ℕ Global)). AreStandIns c.args.pair.now.rules c.deref-2.result.now (items z))
    (sym c.deref-4.ensures.value) c.in_ok-lists.ensures.ok) in
    inr (
      c.requires.answerable,
      linted c.args.format c.args.text.now c.args.pair.now.rules rules (profile_spans c.profile-profile.result.now) c.args.decided.now
          c.deref-3.result.now (items c.deref-4.result.now) c.in-Ok-lines.lines.items same spans c.requires.decided
          (c.deref-3.ensures.value ∙ c.in-Ok.ensures) stands c.in-Ok-lines.ensures,
    )
