-- What a lint writes on a profile that was read.
use Rattle.std.proofs.Common.{◌≡◌, ◌⊎◌, inl, inr, ℕ, Bool, not, ◌==◌, List, [], ◌∷◌, Result, Ok, Err, Vec, Global, IsErrAnd, length, map}
use Rattle.std.proofs.Common.{refl, sym, ap, ◌∙◌, subst, arith}
use Rattle.std.proofs.lemmas.Bool.{ne_eqb}
use Rattle.std.specs.List.{flat_map}
use Rattle.glob_automaton.specs.Automata.{most_sets}
use Rattle.glob_automaton.specs.Sets.{AreMoreThan}
use Rattle.matcher.specs.declared.fault.MakeFault.TheVariants.{TooManyStates}
use Rattle.names.specs.declared.permissions.Perms.{Perms}
use Rattle.profile_questions.specs.Faults.{IsQuestionFault}
use Rattle.profile_questions.specs.declared.fault.QuestionFault.TheVariants as question
use Rattle.rule_globs.specs.Rules.{ProfileValue, RuleValue}
use Rattle.rule_influence.specs.Influence.{AreDecided}
use Rattle.rule_influence.specs.StandIns.{AreStandIns}
use Rattle.rule_profile.specs.declared.profile.Span.{Span}
use Rattle.rule_reader.specs.ReadText.{outcome_of}
use Rattle.rule_reader.specs.Spans.{spans_of}
use Rattle.rule_reader.specs.declared.fault.ReadFault.{ReadFault}
use Rattle.trace_lint.specs.LintOutput.{IsLinted, IsLintOutput, IsLintOutputOf, answer_of, finding_in}
use Rattle.trace_lint.specs.Parts.{case_of, idle_parts}
use Rattle.trace_lint.specs.declared.findings.Part.{Part}
use Rattle.trace_lint.specs.inner.Questions.{IsAnswered, IsCompileRefusal, IsQuestionRefusal, profile_with}
use Rattle.trace_lint.specs.inner.Found.{all_found}
use Rattle.trace_lint.proofs.AllFound.{are_findings}
use Rattle.trace_report.specs.Fault.{AreGood, IsFaultOfAnswer}
use Rattle.trace_report.specs.Output.{Output, compile_refusal, fault, finding, question_refusal, refusal}
use Rattle.trace_report.specs.Streams.{EndsAnswered, Streams}
use Rattle.trace_report.specs.declared.fault.Fault.{Fault}
use Rattle.trace_report.specs.declared.fault.Fault.TheVariants.{Compiling, Image, Input, Memory, Name, Pattern}
use Rattle.trace_report.specs.declared.fault.Fault.TheVariants.{Permissions, Question, Text}
use Rattle.trace_report.specs.declared.format.Format.{Format}
use Rattle.trace_report.specs.declared.status.Status.{Status}
use Rattle.trace_report.specs.declared.status.Status.TheVariants.{BadArguments, Done, FaultsFailed, InputFailed, NoMemory, OutputFailed}
use Rattle.trace_report.specs.declared.status.Status.TheVariants.{Refused, Unmet}

pub linted : (format : Format) (text : List ℕ) (rules others : List RuleValue) (spans : List Span) (decided : List Perms)
    (parts : List Part) (lists : List (List ℕ)) (lines : List ℕ) → others ≡ rules → spans ≡ spans_of text → AreDecided rules decided →
    parts ≡ idle_parts others decided → AreStandIns rules (map (case_of others) parts) lists →
    lines ≡ flat_map (finding_in format text others spans) (all_found others decided parts lists) →
    IsLinted format text rules (answer_of lines)
linted format text rules others spans decided parts lists lines same there are is stands e = (
  decided,
  are,
  (
    all_found rules decided parts lists,
    are_findings rules decided parts lists (is ∙ ap (λ z. idle_parts z decided) same)
        (subst (λ (z : List RuleValue). AreStandIns rules (map (case_of z) parts) lists) same stands),
    ap answer_of (e ∙ ap (λ z. flat_map (finding_in format text z spans) (all_found z decided parts lists)) same
        ∙ ap (λ z. flat_map (finding_in format text rules z) (all_found rules decided parts lists)) there),
  ),
)

-- ---- faults

module _ (Wanted : Output → Type 0) where
  -- a fault that is passed on
  pub passed_on : (r : Result (Vec ℕ Global) Fault) (f : Fault) → IsErrAnd r (λ g. g ≡ f) → IsFaultOfAnswer Wanted f → IsAnswered Wanted r
  passed_on (Ok lines) f is h = absurd is
  passed_on (Err g) f is h = subst (IsFaultOfAnswer Wanted) (sym is) h

  refused_by : (f g : Fault) → f ≡ g → IsFaultOfAnswer Wanted g → IsFaultOfAnswer Wanted f
  refused_by f g e h = subst (IsFaultOfAnswer Wanted) (sym e) h

  -- what is written where the rules have too many states
  pub compile_refused : (rules : List RuleValue) (f : Fault) → IsCompileRefusal rules f →
      (AreMoreThan most_sets rules → Wanted (fault (compile_refusal TooManyStates) Refused)) → IsFaultOfAnswer Wanted f
  compile_refused rules Memory h k = tt
  compile_refused rules Permissions h k = refused_by Permissions (Compiling TooManyStates) h.0 (k h.1)
  compile_refused rules Name h k = refused_by Name (Compiling TooManyStates) h.0 (k h.1)
  compile_refused rules Pattern h k = refused_by Pattern (Compiling TooManyStates) h.0 (k h.1)
  compile_refused rules (Text f) h k = refused_by (Text f) (Compiling TooManyStates) h.0 (k h.1)
  compile_refused rules (Compiling f) h k = refused_by (Compiling f) (Compiling TooManyStates) h.0 (k h.1)
  compile_refused rules (Image f) h k = refused_by (Image f) (Compiling TooManyStates) h.0 (k h.1)
  compile_refused rules Question h k = refused_by Question (Compiling TooManyStates) h.0 (k h.1)
  compile_refused rules Input h k = refused_by Input (Compiling TooManyStates) h.0 (k h.1)

  -- where names have too many sets of live places
  pub question_refused : (rules : List RuleValue) (f : Fault) → IsQuestionRefusal rules f →
      (IsQuestionFault rules [] [] question.TooManyStates → Wanted (fault question_refusal Refused)) → IsFaultOfAnswer Wanted f
  question_refused rules Memory h k = tt
  question_refused rules Permissions h k = refused_by Permissions Question h.0 (k h.1)
  question_refused rules Name h k = refused_by Name Question h.0 (k h.1)
  question_refused rules Pattern h k = refused_by Pattern Question h.0 (k h.1)
  question_refused rules (Text f) h k = refused_by (Text f) Question h.0 (k h.1)
  question_refused rules (Compiling f) h k = refused_by (Compiling f) Question h.0 (k h.1)
  question_refused rules (Image f) h k = refused_by (Image f) Question h.0 (k h.1)
  question_refused rules Question h k = refused_by Question Question h.0 (k h.1)
  question_refused rules Input h k = refused_by Input Question h.0 (k h.1)

-- the rules of a profile that was read are all that counts
pub of_outcome : (format : Format) (text : List ℕ) (outcome : Result ProfileValue ReadFault) (profile : ProfileValue)
    (rules : List RuleValue)
    (r : Result (Vec ℕ Global) Fault) → outcome ≡ Ok profile → rules ≡ profile.rules →
    IsAnswered (IsLintOutputOf format text (Ok (profile_with rules))) r → IsAnswered (IsLintOutputOf format text outcome) r
of_outcome format text outcome profile rules r read same h =
    subst (λ o. IsAnswered (IsLintOutputOf format text o) r) (sym read)
    (subst (λ (z : List RuleValue). IsAnswered (IsLintOutputOf format text (Ok (profile_with z))) r) same h)

pub decided_refused : (format : Format) (text : List ℕ) (outcome : Result ProfileValue ReadFault) (profile : ProfileValue)
    (rules : List RuleValue)
    (f : Fault) → outcome ≡ Ok profile → rules ≡ profile.rules → IsQuestionRefusal rules f →
    IsFaultOfAnswer (IsLintOutputOf format text outcome) f
decided_refused format text outcome profile rules f read same h =
    subst (λ o. IsFaultOfAnswer (IsLintOutputOf format text o) f) (sym read)
    (question_refused (IsLintOutputOf format text (Ok profile)) profile.rules f
    (subst (λ (z : List RuleValue). IsQuestionRefusal z f) same h)
    (λ many. inl (inr (many, refl))))

-- no lint reports bad arguments
answer_good : (lines : List ℕ) (output : Output) → output ≡ answer_of lines → output.status ≡ BadArguments → ⊥
answer_good [] output e = rw e (λ bad. cc)
answer_good (b ∷ lines) output e = rw e (λ bad. cc)

refused_good : (text : List ℕ) (output : Output) → output ≡ fault text Refused → output.status ≡ BadArguments → ⊥
refused_good text output e = rw e (λ bad. cc)

pub of_good : (format : Format) (text : List ℕ) (outcome : Result ProfileValue ReadFault) → AreGood (IsLintOutputOf format text outcome)
of_good format text (Err f) output e = refused_good (refusal f) output e
of_good format text (Ok profile) output (inl (inl h)) = refused_good (compile_refusal TooManyStates) output h.1
of_good format text (Ok profile) output (inl (inr h)) = refused_good question_refusal output h.1
of_good format text (Ok profile) output (inr h) = answer_good _ output h.1.2.2

-- a text that wasn't read
pub unread : (format : Format) (text : List ℕ) (f : Fault) → (f ≡ Input) ⊎ (f ≡ Memory) → IsFaultOfAnswer (IsLintOutput format text) f
unread format text f (inr e) = subst (IsFaultOfAnswer (IsLintOutput format text)) (sym e) tt
unread format text f (inl e) = subst (IsFaultOfAnswer (IsLintOutput format text)) (sym e) (of_good format text (outcome_of text))

-- ---- endings

module _ (streams : Streams) (Wanted : Output → Type 0) (output : Output) (of : Wanted output) (good : AreGood Wanted) where
  -- an ending with this output is one with an output that may be written
  one_of : (status : Status) → EndsAnswered streams (λ o. o ≡ output) status → EndsAnswered streams Wanted status
  one_of Done h = (h.0, subst Wanted (sym h.1) of, h.2)
  one_of Unmet h = (h.0, subst Wanted (sym h.1) of, h.2)
  one_of BadArguments h = (h.0, subst Wanted (sym h.1) of, h.2)
  one_of Refused h = (h.0, subst Wanted (sym h.1) of, h.2)
  one_of OutputFailed h = (h.0, subst Wanted (sym h.1) of, h.2)
  one_of NoMemory h = h
  one_of InputFailed h = record { answers = h.answers; faults = h.faults; arguments = good }
  one_of FaultsFailed (inl h) = inl h
  one_of FaultsFailed (inr h) = inr (h.0, subst Wanted (sym h.1) of, h.2)

by_lines : (lines : List ℕ) (found : Bool) → found ≡ not (length lines == 0) → finding lines found ≡ answer_of lines
by_lines [] found is = ap (finding []) is
by_lines (b ∷ lines) found is = ap (finding (b ∷ lines)) (is ∙ ap not (ne_eqb (length (b ∷ lines)) 0 (λ e. omega (arith, e))))

pub answered : (format : Format) (streams : Streams) (text lines bytes : List ℕ) (found : Bool) (status : Status) → bytes ≡ lines →
    found ≡ not (length lines == 0) → IsLintOutput format text (answer_of lines) →
    EndsAnswered streams (λ o. o ≡ finding bytes found) status →
    EndsAnswered streams (IsLintOutput format text) status
answered format streams text lines bytes found status e is of h =
    one_of streams (IsLintOutput format text) (answer_of lines) of (of_good format text (outcome_of text)) status
    (subst (λ (o : Output). EndsAnswered streams (λ z. z ≡ o) status) (ap (λ z. finding z found) e ∙ by_lines lines found is) h)
