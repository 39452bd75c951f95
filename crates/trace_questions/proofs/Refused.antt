-- Faults of rules that can't be compiled or compared, as outputs.
use Rattle.std.proofs.Common.{◌≡◌, ◌⊎◌, inl, inr, List, Result, Ok, Err, IsErrAnd, refl, sym, subst}
use Rattle.glob_automaton.specs.Automata.{most_sets}
use Rattle.glob_automaton.specs.Sets.{AreMoreThan}
use Rattle.matcher.specs.declared.fault.MakeFault.TheVariants.{TooManyStates}
use Rattle.profile_questions.specs.Faults.{IsQuestionFault}
use Rattle.profile_questions.specs.declared.fault.QuestionFault.TheVariants as question
use Rattle.rule_globs.specs.Rules.{RuleValue}
use Rattle.trace_questions.specs.declared.answer.Answer.{Answer}
use Rattle.trace_questions.specs.inner.Questions.{IsAnswered}
use Rattle.trace_questions.specs.inner.Comparisons.{IsCompileRefusal, IsQuestionRefusal}
use Rattle.trace_report.specs.Fault.{IsFaultOfAnswer}
use Rattle.trace_report.specs.Output.{Output, compile_refusal, fault, question_refusal}
use Rattle.trace_report.specs.declared.fault.Fault.{Fault}
use Rattle.trace_report.specs.declared.fault.Fault.TheVariants.{Compiling, Memory, Question}
use Rattle.trace_report.specs.declared.status.Status.TheVariants.{Refused}

-- no memory, or rules have too many states
pub compile_cases : (rules : List RuleValue) (f : Fault) → IsCompileRefusal rules f →
    (f ≡ Memory) ⊎ ((f ≡ Compiling TooManyStates) × AreMoreThan most_sets rules)
compile_cases rules Memory h = inl refl
compile_cases rules f h = inr h

-- no memory, or all together have
pub question_cases : (one two three : List RuleValue) (f : Fault) → IsQuestionRefusal one two three f →
    (f ≡ Memory) ⊎ ((f ≡ Question) × IsQuestionFault one two three question.TooManyStates)
question_cases one two three Memory h = inl refl
question_cases one two three f h = inr h

module _ (Wanted : Output → Type 0) where
  -- a fault that is passed on
  pub passed_on : (r : Result Answer Fault) (f : Fault) → IsErrAnd r (λ g. g ≡ f) → IsFaultOfAnswer Wanted f → IsAnswered Wanted r
  passed_on (Ok answer) f is h = absurd is
  passed_on (Err g) f is h = subst (IsFaultOfAnswer Wanted) (sym is) h

  large_by_cases : (rules : List RuleValue) (f : Fault) → (f ≡ Memory) ⊎ ((f ≡ Compiling TooManyStates) × AreMoreThan most_sets rules) →
      (AreMoreThan most_sets rules → Wanted (fault (compile_refusal TooManyStates) Refused)) → IsFaultOfAnswer Wanted f
  large_by_cases rules f (inl e) k = subst (IsFaultOfAnswer Wanted) (sym e) tt
  large_by_cases rules f (inr h) k = subst (IsFaultOfAnswer Wanted) (sym h.0) (k h.1)

  -- what is written where rules have too many states
  pub compile_refused : (rules : List RuleValue) (f : Fault) → IsCompileRefusal rules f →
      (AreMoreThan most_sets rules → Wanted (fault (compile_refusal TooManyStates) Refused)) → IsFaultOfAnswer Wanted f
  compile_refused rules f h k = large_by_cases rules f (compile_cases rules f h) k

  many_by_cases : (one two three : List RuleValue) (f : Fault) →
      (f ≡ Memory) ⊎ ((f ≡ Question) × IsQuestionFault one two three question.TooManyStates) →
      (IsQuestionFault one two three question.TooManyStates → Wanted (fault question_refusal Refused)) → IsFaultOfAnswer Wanted f
  many_by_cases one two three f (inl e) k = subst (IsFaultOfAnswer Wanted) (sym e) tt
  many_by_cases one two three f (inr h) k = subst (IsFaultOfAnswer Wanted) (sym h.0) (k h.1)

  -- where all together have
  pub question_refused : (one two three : List RuleValue) (f : Fault) → IsQuestionRefusal one two three f →
      (IsQuestionFault one two three question.TooManyStates → Wanted (fault question_refusal Refused)) → IsFaultOfAnswer Wanted f
  question_refused one two three f h k = many_by_cases one two three f (question_cases one two three f h) k
