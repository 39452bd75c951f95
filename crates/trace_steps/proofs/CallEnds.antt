-- The outcomes of single events and calls of sessions, in terms of script lines.
use Rattle.std.proofs.Common.{◌≡◌, ℕ, ◌<◌, ◌≤◌, List, [], ◌∷◌, ◌++◌, Option, Some, None, Ok, codes, decimal, refl, ap, ◌∙◌, subst, inl}
use Rattle.std.proofs.Common.{inr, append_assoc, append-nil, arith}
use Rattle.std.proofs.lemmas.Bool.Decides.{nat_tests}
use Rattle.justification.specs.declared.answer.Answer.{Answer}
use Rattle.event_machine.specs.Machine.{Call, Event, Machine}
use Rattle.event_machine.specs.Machine.Event.{begin, read_policy, read_count, read_cell, check_count, answer}
use Rattle.event_machine.specs.Machine.Stage.{resting, begun}
use Rattle.event_machine.specs.Takes.{Takes}
use Rattle.event_machine.specs.Runs.{Runs}
use Rattle.event_machine.specs.Lawful.{IsLawful, HasTurn, cell_reads}
use Rattle.trace_report.specs.Output.{line}
use Rattle.trace_steps.specs.StepLines.{Lines, Finishes, Goes, OpensWhole, TakesOne, TakesUpTo, fresh, none_taken, not_now, told_text}
use Rattle.trace_steps.specs.inner.Actions.{HasCome, IsAnswered, IsLedOn, IsTurnTaken}
use Rattle.trace_steps.proofs.Cells.{reads_are}
use Rattle.trace_steps.proofs.Stages.{cells_read_on, come_start, count_checked_on, count_read_on, is_told, policy_read_on, stage_of}
use Rattle.trace_steps.proofs.Stages.{stage_moved}

-- ---- single events

pub took_none : (old new : Machine) (event : Event) → ¬ (IsLawful old event) → new ≡ old → TakesOne old event (not_now ∷ []) new
took_none old new event other same = inr (other, (refl, same))

-- some may be taken, and none was
pub none_was_taken : (most count : ℕ) → 0 < most → count ≡ 0 → not_now ∷ [] ≡ none_taken most count
none_was_taken most count some none = grind (arith, nat_tests)

pub read_up_to : (s most count : ℕ) (old new : Machine) (lines : Lines) → count ≤ most → Runs old (cell_reads s count) [] new →
    (count < most → ¬ (IsLawful new (read_cell s)))
    → lines ≡ none_taken most count → TakesUpTo old most (read_cell s) lines new
read_up_to s most count old new lines few runs all is =
    (count, few, subst (λ (events : List Event). Runs old events [] new) (reads_are s count) runs, all, is)

-- ---- whole calls

begins_silently : (m n : Machine) (s : ℕ) (call : Call) (told : Option Answer) → Takes m (begin s call) told n →
    Takes m (begin s call) None n
begins_silently m n s call None takes = takes
begins_silently m n s call (Some told) (own, is, answers) = cc

-- a session that has begun a call isn't at rest
has_begun : (m n : Machine) (s : ℕ) (call : Call) (told : Option Answer) → Takes m (begin s call) told n → stage_of s n ≡ resting → ⊥
has_begun m n s call (Some told) (own, is, answers) ended = cc
has_begun m n s call None (rests, is) ended =
    let began : stage_of s n ≡ begun call = ap (stage_of s) is ∙ stage_moved m s (begun call) in
    cc

-- each of these leads the call on, if it is its turn, and only the answer is left
pub has_come_on : (s : ℕ) (old policy count cells check : Machine) → IsTurnTaken old (read_policy s) policy →
    IsTurnTaken policy (read_count s) count → IsLedOn s count cells → ¬ (HasTurn cells (read_cell s))
    → IsTurnTaken cells (check_count s) check → HasCome s 5 old check
has_come_on s old policy count cells check policed counted led all checked =
    count_checked_on s old cells check
    (cells_read_on s old count cells (count_read_on s old policy count (policy_read_on s old old policy (come_start s old) policed)
    counted) led all) checked

pub answered_so : (s : ℕ) (old mid new : Machine) (told : Option Answer) → HasCome s 5 old mid → Takes mid (answer s) told new →
    IsAnswered s old new (Ok told)
answered_so s old mid new (Some told) come takes = is_told s old mid new told come takes
answered_so s old mid new None come takes = absurd takes

-- what was answered, given an equal answer
answered_as : (s : ℕ) (old new : Machine) (result wanted : Option Answer) → result ≡ wanted → IsAnswered s old new (Ok result) →
    IsAnswered s old new (Ok wanted)
answered_as s old new result wanted is answered = subst (λ (r : Option Answer). IsAnswered s old new (Ok r)) is answered

finishes : (s : ℕ) (start : List ℕ) (old new : Machine) (told : Answer) → IsAnswered s old new (Ok (Some told)) →
    Finishes old s start ((start ++ told_text (new.sessions s).name told) ∷ []) new
finishes s start old new told (events, all, runs) = (events, told, all, runs, refl)

pub goes : (s : ℕ) (old new : Machine) (result : Option Answer) (told : Answer) (start name : List ℕ) → result ≡ Some told →
    IsAnswered s old new (Ok result)
    → start ≡ decimal s ++ codes ": " → name ≡ (new.sessions s).name → Goes old s ((start ++ told_text name told) ∷ []) new
goes s old new result told start name is answered starts named =
    inl (rw (starts, named) (finishes s (decimal s ++ codes ": ") old new told (answered_as s old new result (Some told) is answered)))

pub goes_not : (s : ℕ) (old new : Machine) (result : Option Answer) → result ≡ None → IsAnswered s old new (Ok result) →
    Goes old s (not_now ∷ []) new
goes_not s old new result is answered =
    let (rests, same) = answered_as s old new result None is answered in
    inr (rests, (refl, same))

pub opens_whole : (old mid new : Machine) (call : Call) (first result : Option Answer) (told : Answer) (name : List ℕ) →
    Takes old (begin fresh call) first mid → result ≡ Some told
    → IsAnswered fresh mid new (Ok result) → name ≡ (new.sessions fresh).name → OpensWhole old call (told_text name told ∷ []) new
opens_whole old mid new call first result told name takes is answered named =
    inl (
      mid,
      begins_silently old mid fresh call first takes,
      rw named
          (finishes fresh [] mid new told (answered_as fresh mid new result (Some told) is answered)),
    )

-- a call that was begun is answered
pub opens_so : (old mid new : Machine) (call : Call) (first result : Option Answer) → Takes old (begin fresh call) first mid →
    result ≡ None → IsAnswered fresh mid new (Ok result) → ⊥
opens_so old mid new call first result takes is answered =
    let (rests, same) = answered_as fresh mid new result None is answered in
    has_begun old mid fresh call first takes rests

pub opens_not : (old new : Machine) (call : Call) → ¬ (IsLawful old (begin fresh call)) → new ≡ old →
    OpensWhole old call (not_now ∷ []) new
opens_not old new call other same = inr (other, (refl, same))

-- ---- lines

-- a line after its beginning
pub line_behind : (start text : List ℕ) → start ++ line text ++ [] ≡ line (start ++ text)
line_behind start text = simp (append_assoc, append-nil)
