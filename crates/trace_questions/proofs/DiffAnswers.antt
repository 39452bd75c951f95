-- How it is reported that two profiles aren't compared, and how the command ends.
use Rattle.std.proofs.Common.{◌≡◌, ◌≢◌, ◌⊎◌, ◌∙◌, ℕ, Bool, true, false, List, [], ◌∷◌, ◌++◌, Option, Result, Ok, Err, IsErrAnd}
use Rattle.std.proofs.Common.{inl, inr, ⊎_elim, refl, sym, ap, subst, append-nil}
use Rattle.std.specs.Prelude.{codes}
use Rattle.glob_automaton.specs.Automata.{most_sets}
use Rattle.glob_automaton.specs.Sets.{AreMoreThan}
use Rattle.matcher.specs.declared.fault.MakeFault.TheVariants as making
use Rattle.profile_questions.specs.Faults.{IsQuestionFault}
use Rattle.profile_questions.specs.declared.fault.QuestionFault.TheVariants as question
use Rattle.question_answers.specs.Below.{rules_below}
use Rattle.trace_questions.specs.declared.report.Report.{Report}
use Rattle.question_answers.specs.declared.side.Side.{Side}
use Rattle.question_answers.specs.declared.side.Side.TheVariants.{New, Old}
use Rattle.rule_globs.specs.Rules.{ProfileValue, RuleValue}
use Rattle.rule_globs.specs.Tokens.{Token}
use Rattle.rule_reader.specs.ReadText.{outcome_of}
use Rattle.rule_reader.specs.declared.fault.ReadFault.{ReadFault}
use Rattle.rule_reader.specs.declared.fault.ReadFault.TheVariants as reading
use Rattle.trace_questions.specs.Differences.{IsCompared, IsDiffOf, IsDiffOutputFor, IsDiffOutputOf, IsRefusedDiff, Versions, answer_of}
use Rattle.trace_questions.specs.Differences.{side_text, versions_of, words_text}
use Rattle.trace_questions.specs.Refusals.{IsAnswerable}
use Rattle.trace_report.specs.declared.format.Format.{Format}
use Rattle.trace_questions.specs.declared.answer.Answer.{Answer}
use Rattle.trace_questions.specs.declared.sides.SideFault.{SideFault}
use Rattle.trace_questions.specs.declared.sides.SideFault.TheVariants.{Neither, Of}
use Rattle.trace_questions.specs.inner.Comparisons.{IsCompileRefusal, IsQuestionRefusal}
use Rattle.trace_questions.specs.inner.Differences.{IsCompileRefusalIn, IsDiffAnswer, IsSideFaultOf}
use Rattle.trace_questions.specs.inner.Sides.{side_fault_of, side_fault_status, side_fault_text}
use Rattle.trace_questions.proofs.Endings.{found_good, refused_good}
use Rattle.trace_questions.proofs.Refused.{compile_cases, compile_refused, question_refused}
use Rattle.trace_report.specs.laws.Endings.{answered_told, keeps, told_alone, written}
use Rattle.trace_report.specs.Fault.{AreGood, IsFaultOfAnswer, fault_of_text, fault_text}
use Rattle.trace_report.specs.Output.{Output, compile_refusal, fault, finding, question_refusal, refusal}
use Rattle.trace_report.specs.Streams.{EndsAnswered, IsTold}
use Rattle.trace_report.specs.declared.fault.Fault.{Fault}
use Rattle.trace_report.specs.declared.fault.Fault.TheVariants.{Compiling, Input, Memory, Pattern, Text}
use Rattle.trace_report.specs.declared.status.Status.{Status}
use Rattle.trace_report.specs.declared.status.Status.TheVariants.{BadArguments, Refused}

-- a fault that is passed on
pub fault_passed_on : (Wanted : Output → Type 0) (r : Result Answer SideFault) (f : SideFault) → IsErrAnd r (λ g. g ≡ f) →
    IsSideFaultOf Wanted f → IsDiffAnswer Wanted r
fault_passed_on Wanted (Ok answer) f is h = absurd is
fault_passed_on Wanted (Err g) f is h = subst (IsSideFaultOf Wanted) (sym is) h

-- ---- faults of rules

refused_by_cases : (side : Side) (rules : List RuleValue) (f : Fault) →
    (f ≡ Memory) ⊎ ((f ≡ Compiling making.TooManyStates) × AreMoreThan most_sets rules) →
    IsCompileRefusalIn side rules (side_fault_of side f)
refused_by_cases side rules f (inl h) = inl (ap (side_fault_of side) h)
refused_by_cases side rules f (inr h) = inr (h.1, ap (side_fault_of side) h.0)

pub refused_in : (side : Side) (rules : List RuleValue) (f : Fault) → IsCompileRefusal rules f →
    IsCompileRefusalIn side rules (side_fault_of side f)
refused_in side rules f h = refused_by_cases side rules f (compile_cases rules f h)

-- ---- faults of texts

abbrev pub IsTextRefused : Side → Result ProfileValue ReadFault → SideFault → Type 0
IsTextRefused side outcome f = (f ≡ Neither Memory) ⊎ ((fault : ReadFault) × (outcome ≡ Err fault) × (f ≡ Of side (Text fault)))

pub unread_in : (side : Side) (outcome : Result ProfileValue ReadFault) (f : ReadFault) → (f ≡ reading.NoMemory) ⊎ (outcome ≡ Err f) →
    IsTextRefused side outcome (side_fault_of side (fault_of_text f))
unread_in side outcome reading.NoMemory h = inl refl
unread_in side outcome f (inl h) = inl (ap (λ (g : ReadFault). side_fault_of side (fault_of_text g)) h)
unread_in side outcome f (inr h) = inr (f, h, refl)

pub old_refused : (w : Report) (below : Option (List Token)) (old new : List ℕ) (one two : Result ProfileValue ReadFault) (f : SideFault) →
    IsTextRefused Old one f → IsSideFaultOf (IsDiffOutputOf w below old new one two) f
old_refused w below old new one two f (inl h) = rw h tt
old_refused w below old new one two f (inr h) = rw (h.1, h.2) (refl, refl)

pub new_refused : (w : Report) (below : Option (List Token)) (old new : List ℕ) (profile : ProfileValue)
    (one two : Result ProfileValue ReadFault)
    (f : SideFault) → one ≡ Ok profile → IsTextRefused New two f → IsSideFaultOf (IsDiffOutputOf w below old new one two) f
new_refused w below old new profile one two f e (inl h) = rw h tt
new_refused w below old new profile one two f e (inr h) = rw (e, h.1, h.2) (refl, refl)

-- ---- refusals of rules that were read

module _ (w : Report) (below : Option (List Token)) (v : Versions) where
  pub large_old : (f : SideFault) → IsCompileRefusalIn Old v.old.rules f → IsSideFaultOf (IsDiffOf w below v) f
  large_old f (inl h) = rw h tt
  large_old f (inr h) = rw h.1 (refl, inl (inl (h.0, refl)))

  pub large_new : (f : SideFault) → IsCompileRefusalIn New v.new.rules f → IsSideFaultOf (IsDiffOf w below v) f
  large_new f (inl h) = rw h tt
  large_new f (inr h) = rw h.1 (refl, inl (inr (inl (h.0, refl))))

  pub large_below : (rules : List RuleValue) (f : Fault) → rules ≡ rules_below below → IsCompileRefusal rules f →
      IsFaultOfAnswer (IsDiffOf w below v) f
  large_below rules f e h =
      compile_refused (IsDiffOf w below v) (rules_below below) f (subst (λ (them : List RuleValue). IsCompileRefusal them f) e h)
      (λ over. inl (inr (inr (inl (
        over,
        ap (λ (text : List ℕ). fault text Refused) (sym (append-nil (compile_refusal making.TooManyStates))),
      )))))

  pub large_all : (third : List RuleValue) (f : Fault) → third ≡ rules_below below →
      IsQuestionRefusal v.old.rules v.new.rules third f → IsFaultOfAnswer (IsDiffOf w below v) f
  large_all third f e h =
      question_refused (IsDiffOf w below v) v.old.rules v.new.rules (rules_below below) f
      (subst (λ (them : List RuleValue). IsQuestionRefusal v.old.rules v.new.rules them f) e h)
      (λ many. inl (inr (inr (inr (many, refl)))))

-- neither profile nor the path has too many states, nor have all together
pub answerable : (below : Option (List Token)) (one two three : List RuleValue) → three ≡ rules_below below →
    ¬ (AreMoreThan most_sets one) → ¬ (AreMoreThan most_sets two) → ¬ (AreMoreThan most_sets three) →
    ¬ (IsQuestionFault one two three question.TooManyStates) → IsAnswerable one two (rules_below below)
answerable below one two three third few small least all = (
  ⊎_elim few (⊎_elim small (subst (λ (them : List RuleValue). ¬ (AreMoreThan most_sets them)) third least)),
  subst (λ (them : List RuleValue). ¬ (IsQuestionFault one two them question.TooManyStates)) third all,
)

-- the same rules, as they are kept
pub same_versions : (old new : List ℕ) (one two first second : List RuleValue) → one ≡ first → two ≡ second →
    versions_of old one new two ≡ versions_of old first new second
same_versions old new one two first second e1 e2 =
    ap (λ (rules : List RuleValue). versions_of old rules new two) e1 ∙ ap (λ (rules : List RuleValue). versions_of old first new rules) e2

-- what may be written of two texts that were read
pub of_texts : (w : Report) (below : Option (List Token)) (old new : List ℕ) (one two : ProfileValue)
    (first second : Result ProfileValue ReadFault) (r : Result Answer SideFault) → first ≡ Ok one → second ≡ Ok two →
    IsDiffAnswer (IsDiffOf w below (versions_of old one.rules new two.rules)) r →
    IsDiffAnswer (IsDiffOutputOf w below old new first second) r
of_texts w below old new one two first second r e1 e2 h = rw (e1, e2) h

-- ---- arguments

lines_good : (format : Format) (output : Output) (lines : List ℕ) → output ≡ answer_of format lines → output.status ≢ BadArguments
lines_good format output [] e = found_good output (words_text format (codes "same")) false e
lines_good format output (b ∷ lines) e = found_good output (b ∷ lines) true e

refusal_good : (below : Option (List Token)) (v : Versions) (output : Output) → IsRefusedDiff below v output → output.status ≢ BadArguments
refusal_good below v output (inl h) = refused_good output (compile_refusal making.TooManyStates ++ side_text Old) h.1
refusal_good below v output (inr (inl h)) = refused_good output (compile_refusal making.TooManyStates ++ side_text New) h.1
refusal_good below v output (inr (inr (inl h))) = refused_good output (compile_refusal making.TooManyStates ++ []) h.1
refusal_good below v output (inr (inr (inr h))) = refused_good output question_refusal h.1

compared_good : (w : Report) (below : Option (List Token)) (v : Versions) (output : Output) → IsCompared w below v output →
    output.status ≢ BadArguments
compared_good w below v output (inl h) = found_good output (words_text w.format (codes "no name matches")) false h.1
compared_good w below v output (inr h) = lines_good w.format output h.1.0 h.1.2

texts_good : (w : Report) (below : Option (List Token)) (old new : List ℕ) (one two : Result ProfileValue ReadFault) →
    AreGood (IsDiffOutputOf w below old new one two)
texts_good w below old new (Err f) two output h = refused_good output (refusal f ++ side_text Old) h
texts_good w below old new (Ok one) (Err f) output h = refused_good output (refusal f ++ side_text New) h
texts_good w below old new (Ok one) (Ok two) output (inl h) = refusal_good below (versions_of old one.rules new two.rules) output h
texts_good w below old new (Ok one) (Ok two) output (inr h) = compared_good w below (versions_of old one.rules new two.rules) output h.1

abbrev pub Asked : Type 0
Asked = Result (Option (List Token)) (List ℕ)

pub found_good_for : (w : Report) (asked : Asked) (old new bytes : List ℕ) (found : Bool) → IsDiffOutputFor w asked old new
    (finding bytes found) →
    AreGood (IsDiffOutputFor w asked old new)
found_good_for w (Err told) old new bytes found h =
    absurd (found_good (finding bytes found) bytes found refl (ap (λ (output : Output). output.status) h))
found_good_for w (Ok below) old new bytes found h = texts_good w below old new (outcome_of old) (outcome_of new)

pub unasked : (w : Report) (asked : Asked) (old new : List ℕ) (f : Fault) → ((asked ≡ Err (fault_text f)) × (f ≡ Pattern)) ⊎ (f ≡ Memory) →
    IsSideFaultOf (IsDiffOutputFor w asked old new) (Neither f)
unasked w asked old new f (inl h) = rw (h.0, h.1) refl
unasked w asked old new f (inr h) = rw h tt

pub unread : (w : Report) (asked : Asked) (below : Option (List Token)) (old new : List ℕ) (f : Fault) → asked ≡ Ok below →
    (f ≡ Input) ⊎ (f ≡ Memory) →
    IsSideFaultOf (IsDiffOutputFor w asked old new) (Neither f)
unread w asked below old new f e (inl h) = rw (h, e) (texts_good w below old new (outcome_of old) (outcome_of new))
unread w asked below old new f e (inr h) = rw h tt

pub answered_on : (w : Report) (asked : Asked) (below : Option (List Token)) (old new old_here new_here : List ℕ)
    (result : Result Answer SideFault) →
    asked ≡ Ok below → old_here ≡ old → new_here ≡ new →
    IsDiffAnswer (IsDiffOutputOf w below old_here new_here (outcome_of old_here) (outcome_of new_here)) result →
    IsDiffAnswer (IsDiffOutputFor w asked old new) result
answered_on w asked below old new old_here new_here result e o n h = rw e (rw (o, n) at h)

-- ---- how the command ends

-- a fault was reported
pub diff_told : (answers before after : Option (List ℕ)) (Wanted : Output → Type 0) (f : SideFault) (status : Status)
    → IsSideFaultOf Wanted f → IsTold before after (side_fault_text f) (side_fault_status f) status →
    EndsAnswered (told_alone answers before after) Wanted status
diff_told answers before after Wanted (Neither f) status of told = answered_told answers before after Wanted f status of told
diff_told answers before after Wanted (Of side f) status of (inl e) = rw e (inl (keeps answers))
diff_told answers before after Wanted (Of side f) status of (inr h) =
    let text : List ℕ = fault_text f ++ side_text side in
    rw (h.0 ∙ of.0) (fault text Refused, of.1, written answers before after _ text Refused refl h.1)
