-- What expectations and answers add to what was printed.
use Rattle.std.proofs.Common.{◌≡◌, ℕ, Bool, true, false, cond, List, [], ◌∷◌, ◌++◌, Option, Result, Ok, Err, refl, sym, ap, ◌∙◌, subst}
use Rattle.std.proofs.Common.{length, Some, None}
use Rattle.trace_report.specs.Output.{line}
use Rattle.trace_report.specs.laws.Endings.{appends_nothing, keeps}
use Rattle.trace_script.specs.declared.stop.Stop.{Stop}
use Rattle.trace_script.specs.declared.stop.Stop.TheVariants.{NoCommand, Input, TooLong, Memory, Output}
use Rattle.trace_script.specs.Engine.{IsPut}
use Rattle.trace_script.specs.FollowedScripts.{IsPrinted, IsStep, Lines, Step}
use Rattle.trace_script.specs.declared.line.Command.TheVariants.{Remove, Alter, JudgeOpen, JudgeLink}
use Rattle.trace_script.specs.RunOutput.{Printed, text_of_lines}
use Rattle.trace_script.specs.laws.FollowedScripts.{printed}
use Rattle.std.specs.Prelude.{OnOk, if◌then◌else◌}
use Rattle.trace_test.specs.Expectations.{Expectation, Last, nothing, answer, refusal, holds, last_of}
use Rattle.trace_test.specs.Expectations.{once_compared, refuses, text_of, unexpected}
use Rattle.trace_test.specs.Questions.{RulesByName}
use Rattle.test_script.specs.declared.line.Asked.{Asked as AskedHere}
use Rattle.test_script.specs.declared.line.Asked.TheVariants.{Run, Judge, Explain}
use Rattle.test_script.specs.LineValues.{asked_value}
use Rattle.glob_automaton.specs.Automata.{StateLimit}
use Rattle.trace_test.specs.TestOutput.{failure_text}
use Rattle.trace_test.specs.inner.Tests.{Testing, answered_step, expected_step, last_by, with_one}

-- what an expectation does, if it holds or not
abbrev step_by : Testing → Expectation → Bool → Step Testing
step_by t e is_held = record { lines = cond is_held [] (failure_text t.options.format e ∷ []) ++ []; state = with_one t is_held }

pub held_done : {T : Type 0} (t : Testing) (e : Expectation) (state : Testing) (known : Option (List ℕ)) (done : T) → holds e ≡ true →
    state ≡ with_one t true
    → IsPrinted (IsStep (expected_step t e)) state known known (Ok done)
held_done {T = T} t e state known done held same =
    let P : Bool → Type 0 = λ b. IsPrinted {T = T} (IsStep (step_by t e b)) state known known (Ok done) in
    subst P (sym held) ([], (refl, same), appends_nothing known)

pub failed_done : {T : Type 0} (t : Testing) (e : Expectation) (state : Testing) (before after : Option (List ℕ)) (bytes : List ℕ)
    (result : Result T Stop) → holds e ≡ false
    → state ≡ with_one t false → bytes ≡ line (failure_text t.options.format e) → IsPut before after bytes result →
    IsPrinted (IsStep (expected_step t e)) state before after result
failed_done {T = T} t e state before after bytes result fails same is put =
    let P : Bool → Type 0 = λ b. IsPrinted {T = T} (IsStep (step_by t e b)) state before after result in
    let text = failure_text t.options.format e in
    subst P (sym fails) (printed (IsStep (step_by t e false)) state bytes text before after result is (refl, same) put)

-- lines that were composed and written, or not
pub printed_lines : {S T : Type 0} (step : Step S) (new : S) (bytes : List ℕ) (before after : Option (List ℕ)) (result : Result T Stop) →
    bytes ≡ text_of_lines step.lines → new ≡ step.state → IsPut before after bytes result
    → IsPrinted (IsStep step) new before after result
printed_lines step new bytes before after (Ok done) e same put = (step.lines, (refl, same), rw e at put)
printed_lines step new bytes before after (Err Output) e same put = (step.lines, step.state, (refl, refl), rw e at put)
printed_lines step new bytes before after (Err (NoCommand number)) e same put = absurd put
printed_lines step new bytes before after (Err Input) e same put = absurd put
printed_lines step new bytes before after (Err TooLong) e same put = absurd put
printed_lines step new bytes before after (Err Memory) e same put = absurd put

-- an answer stays the same when it was compared
pub once_text : (last : Last) → text_of (once_compared last) ≡ text_of last
once_text nothing = refl
once_text (answer text) = refl
once_text (refusal number text) = refl

-- a refusal is counted until it is expected
pub once_quiet : (last : Last) → length (unexpected (once_compared last)) ≡ 0
once_quiet nothing = refl
once_quiet (answer text) = refl
once_quiet (refusal number text) = refl

-- the last answer by the line of the policy that it refuses
pub last_so : (start : ℕ) (text : List ℕ) (b : Bool) → last_by (if b then Some start else None) text ≡ last_of start text b
last_so start text true = refl
last_so start text false = refl

-- whether it refuses a policy doesn't depend on its text
pub refusals_so : (refused : Option ℕ) (text : List ℕ) → length (unexpected (last_by refused text))
    ≡ length (unexpected (last_by refused []))
refusals_so None text = refl
refusals_so (Some number) text = refl

-- a command of a line refuses no policy
pub no_refusal : (limit : StateLimit) (c : AskedHere) → refuses limit (asked_value c) ≡ false
no_refusal limit (Run (Remove name)) = refl
no_refusal limit (Run (Alter words)) = refl
no_refusal limit (Run (JudgeOpen profile path asked)) = refl
no_refusal limit (Run (JudgeLink profile old new)) = refl
no_refusal limit (Judge q) = refl
no_refusal limit (Explain q) = refl

-- the same step with the same parts
pub step_so : {T : Type 0} (t : Testing) (number : ℕ) (p : Printed) (r rules : RulesByName) (l last : Last) (n new : Testing)
    (before after : Option (List ℕ)) (result : Result T Stop) → r ≡ rules → l ≡ last → n ≡ new →
    IsPrinted (IsStep (answered_step t number p r l)) n before after result
    → IsPrinted (IsStep (answered_step t number p rules last)) new before after result
step_so t number p r rules l last n new before after result e f h done =
    let P : RulesByName → Type 0 = λ (r : RulesByName). IsPrinted (IsStep (answered_step t number p r l)) n before after result in
    let Q : Last → Type 0 = λ (l : Last). IsPrinted (IsStep (answered_step t number p rules l)) n before after result in
    let R : Testing → Type 0 = λ (n : Testing). IsPrinted (IsStep (answered_step t number p rules last)) n before after result in
    subst R h (subst Q f (subst P e done))

-- what holds, holds where a call returns a value
pub on_ok : {T E : Type 0} (r : Result T E) (P : Type 0) → P → OnOk r P
on_ok (Ok done) P p = p
on_ok (Err e) P p = tt

pub on_ok_so : {T E : Type 0} (r : Result T E) (P Q : Type 0) → (P → Q) → OnOk r P → OnOk r Q
on_ok_so (Ok done) P Q so p = so p
on_ok_so (Err e) P Q so p = tt
