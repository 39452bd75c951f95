use Rattle.std.proofs.Common.{◌≡◌, ◌≢◌, ◌↔◌, List, refl, sym, ap, ◌∙◌, subst}
use Rattle.rule_globs.specs.Rules.{RuleValue}
use Rattle.rule_globs.specs.Verdict.{IsVerdict}
use Rattle.names.specs.declared.verdict.Verdict.TheVariants.{Allowed}
use Rattle.apparmor_rules.specs.declared.effect.Extent.{Extent}
use Rattle.apparmor_rules.specs.declared.effect.Extent.TheVariants.{Exact, Wider, Narrower}
use Rattle.apparmor_rules.specs.declared.effect.Effect.{Effect}
use Rattle.apparmor_rules.specs.declared.mode.Mode.{Mode}
use Rattle.apparmor_rules.specs.Changes.{mode_change, AreExact, NoneIsNarrower, NoneIsWider}
use Rattle.apparmor_rules.specs.SecondJudge.{IsAllowedTo}
use Rattle.apparmor_rules.specs.SubjectRules.{SubjectRule}
use Rattle.import_spans.specs.declared.span.Span.{Span}
use Rattle.import_profile.specs.FileRules.{item_reading}
use Rattle.import_profile.specs.Imports.{choice_of}
use Rattle.import_laws.proofs.AddedTold.{added_for_chosen}
use Rattle.import_laws.proofs.AllTold.{all_rules_told}
use Rattle.import_laws.proofs.Opened.{known}
use Rattle.import_laws.proofs.SpansBefore.{Tells}
use Rattle.import_laws.proofs.ToldMode.{mode_told}
use Rattle.import_laws.proofs.meaning.exact_imports_say_the_same.Goals as goal

abbrev on : Effect → Extent
on effect = effect.on_chosen

pub returns-clause-exact : goal.returns-clause-exact
returns-clause-exact c options text value rules mode i m exact unknown name ask =
    let choice = choice_of options m.head m.number in
    let variables = known options m.items m.head in
    let reading = item_reading variables options.subject in
    let items = c.items_are_the_text.ensures.items text m.items _ m.read in
    let told = subst (λ (spans : List Span). Tells on (λ (x : Extent). x ≡ Exact) spans) m.spans exact in
    let all : AreExact options.subject options.subject rules =
    subst (λ (r : List SubjectRule). AreExact options.subject options.subject r) (sym m.rules_are)
    (all_rules_told on options.subject (λ (x : Extent). x ≡ Exact) variables choice
    (c.exact_spans_mean_exact_rules.ensures.exact reading choice)
    (added_for_chosen (λ (x : Extent). x ≡ Exact) (λ e. absurd cc) options.subject) m.items items told) in
    let mode_exact : mode_change mode ≡ Exact = ap mode_change m.mode_is
    ∙ mode_told on (λ chosen mode. refl) (λ (x : Extent). x ≡ Exact) refl choice reading m.items items told in
    subst (λ (r : List RuleValue). IsVerdict r name ask Allowed ↔ IsAllowedTo unknown mode options.subject rules name ask)
    (sym (c.imports_are_restated_rules.ensures.rules options text value rules mode i m))
    (c.exact_rules_say_the_same.ensures.allowed unknown mode options.subject options.subject rules name ask all mode_exact)

pub returns-clause-narrower : goal.returns-clause-narrower
returns-clause-narrower c options text value rules mode i m none_wider unknown name ask allowed =
    let choice = choice_of options m.head m.number in
    let variables = known options m.items m.head in
    let reading = item_reading variables options.subject in
    let items = c.items_are_the_text.ensures.items text m.items _ m.read in
    let told = subst (λ (spans : List Span). Tells on (λ (x : Extent). x ≢ Wider) spans) m.spans none_wider in
    let all : NoneIsWider options.subject options.subject rules =
    subst (λ (r : List SubjectRule). NoneIsWider options.subject options.subject r) (sym m.rules_are)
    (all_rules_told on options.subject (λ (x : Extent). x ≢ Wider) variables choice
    (c.exact_spans_mean_exact_rules.ensures.not_wider reading choice)
    (added_for_chosen (λ (x : Extent). x ≢ Wider) (λ isnt. absurd (isnt refl)) options.subject) m.items items told) in
    c.narrower_rules_allow_no_more.ensures.allowed unknown mode options.subject options.subject rules name ask all
    (subst (λ (r : List RuleValue). IsVerdict r name ask Allowed) (c.imports_are_restated_rules.ensures.rules options text value
    rules mode i m) allowed)

pub returns-clause-wider : goal.returns-clause-wider
returns-clause-wider c options text value rules mode i m none_narrower unknown name ask allowed =
    let choice = choice_of options m.head m.number in
    let variables = known options m.items m.head in
    let reading = item_reading variables options.subject in
    let items = c.items_are_the_text.ensures.items text m.items _ m.read in
    let told = subst (λ (spans : List Span). Tells on (λ (x : Extent). x ≢ Narrower) spans) m.spans none_narrower in
    let all : NoneIsNarrower options.subject options.subject rules =
    subst (λ (r : List SubjectRule). NoneIsNarrower options.subject options.subject r) (sym m.rules_are)
    (all_rules_told on options.subject (λ (x : Extent). x ≢ Narrower) variables choice
    (c.exact_spans_mean_exact_rules.ensures.not_narrower reading choice)
    (added_for_chosen (λ (x : Extent). x ≢ Narrower) (λ isnt e. cc) options.subject) m.items items told) in
    let not_narrower : mode_change mode ≢ Narrower = subst (λ (x : Mode). mode_change x ≢ Narrower) (sym m.mode_is)
    (mode_told on (λ chosen mode. refl) (λ (x : Extent). x ≢ Narrower) (λ e. cc) choice reading m.items items told) in
    subst (λ (r : List RuleValue). IsVerdict r name ask Allowed)
    (sym (c.imports_are_restated_rules.ensures.rules options text value rules mode i m))
    (c.wider_rules_allow_no_less.ensures.allowed unknown mode options.subject options.subject rules name ask all not_narrower allowed)
