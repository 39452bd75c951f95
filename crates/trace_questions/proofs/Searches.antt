-- What `any` and `all` write on a profile that was read.
use Rattle.std.proofs.Common.{◌≡◌, inl, inr, ⊎_elim, ℕ, List, [], ◌∷◌, refl, sym, ap, subst, ◌∙◌}
use Rattle.std.proofs.Common.{Result, Ok}
use Rattle.derived_profiles.specs.Pattern.{read_rule}
use Rattle.glob_automaton.specs.Automata.{most_sets}
use Rattle.glob_automaton.specs.Sets.{AreMoreThan}
use Rattle.names.specs.declared.permissions.Perms.{Perms}
use Rattle.profile_questions.specs.Faults.{IsQuestionFault}
use Rattle.profile_questions.specs.declared.fault.QuestionFault.TheVariants as question
use Rattle.question_answers.specs.Findings.{Finding, IsFinding}
use Rattle.question_answers.specs.declared.quantifier.Quantifier.{Quantifier}
use Rattle.rule_globs.specs.Rules.{RuleValue, ProfileValue}
use Rattle.rule_globs.specs.Tokens.{Token}
use Rattle.rule_profile.specs.declared.profile.Span.{Span}
use Rattle.rule_reader.specs.Spans.{spans_of}
use Rattle.rule_reader.specs.declared.fault.ReadFault.{ReadFault}
use Rattle.trace_questions.specs.Refusals.{IsAnswerable}
use Rattle.trace_questions.specs.Search.{IsSearchOf, IsSearchOutputOf, search_text}
use Rattle.trace_questions.specs.declared.answer.Answer.{Answer}
use Rattle.trace_questions.specs.inner.Questions.{IsAnswered}
use Rattle.trace_questions.specs.inner.Comparisons.{IsCompileRefusal, IsQuestionRefusal}
use Rattle.trace_questions.proofs.Refused.{compile_refused, question_refused}
use Rattle.trace_report.specs.Fault.{IsFaultOfAnswer}
use Rattle.trace_report.specs.declared.format.Format.{Format}
use Rattle.trace_report.specs.Output.{Output}
use Rattle.trace_report.specs.declared.fault.Fault.{Fault}

module _ (format : Format) (q : Quantifier) (ask : Perms) (path : List Token) (text : List ℕ) where
  -- what may be written of a text that was read
  pub of_text : (profile : ProfileValue) (rules : List RuleValue) (outcome : Result ProfileValue ReadFault) (r : Result Answer Fault) →
      outcome ≡ Ok profile → rules ≡ profile.rules → IsAnswered (IsSearchOf format q ask path text rules) r →
      IsAnswered (IsSearchOutputOf format q ask path text outcome) r
  of_text profile rules outcome r read same h =
      subst (λ (o : Result ProfileValue ReadFault). IsAnswered (IsSearchOutputOf format q ask path text o) r) (sym read)
      (subst (λ (them : List RuleValue). IsAnswered (IsSearchOf format q ask path text them) r) same h)

  pub large_rules : (profile : ProfileValue) (outcome : Result ProfileValue ReadFault) (f : Fault) → outcome ≡ Ok profile →
      IsCompileRefusal profile.rules f → IsFaultOfAnswer (IsSearchOutputOf format q ask path text outcome) f
  large_rules profile outcome f read h =
      subst (λ (o : Result ProfileValue ReadFault). IsFaultOfAnswer (IsSearchOutputOf format q ask path text o) f) (sym read)
      (compile_refused (IsSearchOf format q ask path text profile.rules) profile.rules f h (λ over. inl (inl (inl over, refl))))

  module _ (rules : List RuleValue) where
    pub large_pattern : (pattern : List RuleValue) (f : Fault) → pattern ≡ read_rule path ∷ [] → IsCompileRefusal pattern f →
        IsFaultOfAnswer (IsSearchOf format q ask path text rules) f
    large_pattern pattern f is h =
        compile_refused (IsSearchOf format q ask path text rules) (read_rule path ∷ []) f
        (subst (λ (them : List RuleValue). IsCompileRefusal them f) is h) (λ over. inl (inl (inr (inr over), refl)))

    pub large_both : (two three : List RuleValue) (f : Fault) → two ≡ [] → three ≡ read_rule path ∷ [] →
        IsQuestionRefusal rules two three f → IsFaultOfAnswer (IsSearchOf format q ask path text rules) f
    large_both two three f second third h =
        question_refused (IsSearchOf format q ask path text rules) rules [] (read_rule path ∷ []) f
        (subst (λ (them : List RuleValue). IsQuestionRefusal rules them (read_rule path ∷ []) f) second
        (subst (λ (them : List RuleValue). IsQuestionRefusal rules two them f) third h))
        (λ many. inl (inr (many, refl)))

    -- none of the three lists has too many states, nor have all together
    pub answerable : (one two three : List RuleValue) → one ≡ rules → two ≡ [] → three ≡ read_rule path ∷ [] →
        ¬ (AreMoreThan most_sets rules) → ¬ (AreMoreThan most_sets []) → ¬ (AreMoreThan most_sets three) →
        ¬ (IsQuestionFault one two three question.TooManyStates) → IsAnswerable rules [] (read_rule path ∷ [])
    answerable one two three first second third few none small all = (
      ⊎_elim few (⊎_elim none (subst (λ (them : List RuleValue). ¬ (AreMoreThan most_sets them)) third small)),
      subst (λ (them : List RuleValue). ¬ (IsQuestionFault them [] (read_rule path ∷ []) question.TooManyStates)) first
          (subst (λ (them : List RuleValue). ¬ (IsQuestionFault one them (read_rule path ∷ []) question.TooManyStates)) second
          (subst (λ (them : List RuleValue). ¬ (IsQuestionFault one two them question.TooManyStates)) third all)),
    )

    pub found_by : (first kept : List RuleValue) (spans : List Span) (what : Finding) (output : Output) →
        IsAnswerable rules [] (read_rule path ∷ []) → first ≡ rules →
        kept ≡ rules → spans ≡ spans_of text → IsFinding q first path ask what → output ≡ search_text format q text kept spans ask what →
        IsSearchOf format q ask path text rules output
    found_by first kept spans what output small one same there is e =
        inr (
          small,
          what,
          subst (λ (them : List RuleValue). IsFinding q them path ask what) one is,
          e ∙ ap (λ z. search_text format q text z spans ask what) same ∙ ap (λ z. search_text format q text rules z ask what) there,
        )
