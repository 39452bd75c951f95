-- Arguments that are bad, input that failed, and good arguments.
use Rattle.std.proofs.Common.{◌≡◌, ◌≢◌, ◌⊎◌, inl, inr, ℕ, Bool, true, false, List, [], ◌∷◌, Result, Ok, Err, refl, sym, ap, subst, ◌∙◌}
use Rattle.std.specs.List.{flat_map}
use Rattle.matcher.specs.declared.fault.MakeFault.TheVariants.{TooManyStates}
use Rattle.names.specs.declared.permissions.Perms.{Perms}
use Rattle.rule_globs.specs.Rules.{RuleValue, ProfileValue}
use Rattle.rule_globs.specs.Tokens.{Token}
use Rattle.rule_profile.specs.declared.profile.Span.{Span}
use Rattle.rule_reader.specs.ReadText.{outcome_of}
use Rattle.rule_reader.specs.Spans.{spans_of}
use Rattle.rule_reader.specs.declared.fault.ReadFault.{ReadFault}
use Rattle.trace_questions.specs.Asked.{asked_of}
use Rattle.question_answers.specs.Findings.{Finding, found, no_name}
use Rattle.trace_questions.specs.Search.{IsSearchOutput, IsSearchOutputFor, IsSearchOutputOf, name_text, no_name_text}
use Rattle.trace_questions.specs.Search.{nothing_text, search_text}
use Rattle.trace_questions.specs.declared.answer.Answer.{Answer}
use Rattle.question_answers.specs.declared.quantifier.Quantifier.{Quantifier}
use Rattle.trace_questions.specs.inner.Questions.{IsAnswered}
use Rattle.trace_questions.proofs.Endings.{found_good, refused_good}
use Rattle.trace_report.specs.Fault.{AreGood, IsFaultOfAnswer, fault_text}
use Rattle.trace_report.specs.declared.format.Format.{Format}
use Rattle.trace_report.specs.Output.{Output, compile_refusal, fault, finding, question_refusal, refusal}
use Rattle.trace_report.specs.declared.fault.Fault.{Fault}
use Rattle.trace_report.specs.declared.fault.Fault.TheVariants.{Input, Memory, Pattern, Permissions}
use Rattle.trace_report.specs.declared.status.Status.TheVariants.{BadArguments}

module _ (format : Format) (q : Quantifier) where
  searched_good : (text : List ℕ) (rules : List RuleValue) (spans : List Span) (ask : Perms) (output : Output) (what : Finding) →
      output ≡ search_text format q text rules spans ask what → output.status ≢ BadArguments
  searched_good text rules spans ask output no_name e = found_good output (no_name_text format) false e
  searched_good text rules spans ask output (found []) e = found_good output (nothing_text format q) false e
  searched_good text rules spans ask output (found (name ∷ names)) e =
      found_good output (flat_map (name_text format q text rules spans ask) (name ∷ names)) true e

  of_good : (ask : Perms) (path : List Token) (text : List ℕ) (outcome : Result ProfileValue ReadFault) →
      AreGood (IsSearchOutputOf format q ask path text outcome)
  of_good ask path text (Err f) output e = refused_good output (refusal f) e
  of_good ask path text (Ok profile) output (inl (inl h)) = refused_good output (compile_refusal TooManyStates) h.1
  of_good ask path text (Ok profile) output (inl (inr h)) = refused_good output question_refusal h.1
  of_good ask path text (Ok profile) output (inr h) = searched_good text profile.rules (spans_of text) ask output h.1 h.3

  -- where there is an answer, the arguments are good
  answer_good : (asked : Result (Perms × List Token) (List ℕ)) (text bytes : List ℕ) (some : Bool) →
      IsSearchOutputFor format q asked text (finding bytes some) → AreGood (IsSearchOutputFor format q asked text)
  answer_good (Err told) text bytes some e =
      absurd (found_good (finding bytes some) bytes some refl (ap (λ (o : Output). o.status) e))
  answer_good (Ok asked) text bytes some h = of_good asked.0 asked.1 text (outcome_of text)

  pub good_by_answer : (perms pattern text bytes : List ℕ) (some : Bool) → IsSearchOutput format q perms pattern text
      (finding bytes some) →
      AreGood (IsSearchOutput format q perms pattern text)
  good_by_answer perms pattern text bytes some h = answer_good (asked_of perms pattern) text bytes some h

  module _ (perms pattern text : List ℕ) where
    -- bad arguments are reported as such, whatever the text
    pub asked_in_vain : (f : Fault) →
        ((asked_of perms pattern ≡ Err (fault_text f)) × ((f ≡ Permissions) ⊎ (f ≡ Pattern))) ⊎ (f ≡ Memory) →
        IsFaultOfAnswer (IsSearchOutput format q perms pattern text) f
    asked_in_vain f (inr e) = subst (IsFaultOfAnswer (IsSearchOutput format q perms pattern text)) (sym e) tt
    asked_in_vain f (inl (e, inl p)) = subst (IsFaultOfAnswer (IsSearchOutput format q perms pattern text)) (sym p)
        (subst (λ a. IsSearchOutputFor format q a text (fault (fault_text Permissions) BadArguments))
        (sym (e ∙ ap (λ g. Err (fault_text g)) p)) refl)
    asked_in_vain f (inl (e, inr p)) = subst (IsFaultOfAnswer (IsSearchOutput format q perms pattern text)) (sym p)
        (subst (λ a. IsSearchOutputFor format q a text (fault (fault_text Pattern) BadArguments))
        (sym (e ∙ ap (λ g. Err (fault_text g)) p)) refl)

    module _ (ask : Perms) (path : List Token) (asked : asked_of perms pattern ≡ Ok (ask, path)) where
      -- a fault that hides the text says only that the arguments are good
      pub text_unread : (f : Fault) → (f ≡ Input) ⊎ (f ≡ Memory) → IsFaultOfAnswer (IsSearchOutput format q perms pattern text) f
      text_unread f (inr e) = subst (IsFaultOfAnswer (IsSearchOutput format q perms pattern text)) (sym e) tt
      text_unread f (inl e) = subst (IsFaultOfAnswer (IsSearchOutput format q perms pattern text)) (sym e)
          (subst (λ a. AreGood (IsSearchOutputFor format q a text)) (sym asked) (of_good ask path text (outcome_of text)))

      pub text_answered : (r : Result Answer Fault) → IsAnswered (IsSearchOutputOf format q ask path text (outcome_of text)) r →
          IsAnswered (IsSearchOutput format q perms pattern text) r
      text_answered r h = subst (λ a. IsAnswered (IsSearchOutputFor format q a text) r) (sym asked) h
