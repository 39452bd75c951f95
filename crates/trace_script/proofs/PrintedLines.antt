-- What `run` prints for a command, and what the commands of its engine print.
use Rattle.std.proofs.Common.{◌≡◌, ℕ, ◌+◌, ◌≤◌, List, [], ◌∷◌, ◌++◌, take, Result, Ok, Err, refl, ap, ◌∙◌, length-append}
use Rattle.std.proofs.Common.{arith, suc, zero, codes, decimal, Vec, Global}
use Rattle.std.specs.Prelude.{IsOk, OnOk}
use Rattle.glob_automaton.specs.Automata.{StateLimit}
use Rattle.names.specs.declared.errors.Errno.{Errno}
use Rattle.names.specs.Errors.{errno_text}
use Rattle.directory_tree.specs.declared.change.Change.{Change}
use Rattle.directory_tree.specs.Apply.{Changed}
use Rattle.directory_tree.specs.Plain.{outcome}
use Rattle.rule_profile.specs.Profile.{ProfileValue}
use Rattle.trace_script.specs.declared.stop.Stop.{Stop}
use Rattle.trace_script.specs.Engine.{IsComposed}
use Rattle.trace_script.specs.inner.FollowedScripts.{run_engine}
use Rattle.trace_report.specs.Output.{line}
use Rattle.mediation.specs.History.{History, policy_version, with_change, with_deed, after_link, tree_version}
use Rattle.trace_script.specs.RunOutput.{Printed, printed, printed_lines, drop_printed, change_printed}
use Rattle.mediation.specs.Links.{LinkAnswered, made, not_allowed, failed, no_profile}
use Rattle.mediation.specs.Deeds.{published_rules, removed}
use Rattle.trace_script.specs.Script.{Command}
use Rattle.trace_script.specs.laws.Exact.{lines_by}

-- the engine of `run` prints a line for each command
pub run_lines_are : (limit : StateLimit) (history : History) (cs : List Command) → lines_by (run_engine limit) history cs
    ≡ printed_lines limit history cs
run_lines_are limit history [] = refl
run_lines_are limit history (c ∷ cs) = ap (λ lines. (printed limit history c).text ∷ lines)
    (run_lines_are limit (printed limit history c).history cs)

first_lines_are : (limit : StateLimit) (history : History) (count : ℕ) (cs : List Command) → printed_lines limit history (take count cs)
    ≡ take count (printed_lines limit history cs)
first_lines_are limit history zero cs = refl
first_lines_are limit history (suc count) [] = refl
first_lines_are limit history (suc count) (c ∷ cs) = ap (λ lines. (printed limit history c).text ∷ lines)
    (first_lines_are limit (printed limit history c).history count cs)

pub first_run_lines_are : (limit : StateLimit) (history : History) (count : ℕ) (cs : List Command)
    → lines_by (run_engine limit) history (take count cs) ≡ take count (printed_lines limit history cs)
first_run_lines_are limit history count cs = run_lines_are limit history (take count cs) ∙ first_lines_are limit history count cs

-- a change that was accepted
abbrev changed_printed : History → Change → Changed → Printed
changed_printed history c o = elim o [
  | Ok t ↦ record { text = codes "ok " ++ decimal (tree_version history + 1); history = with_change history c }
  | Err errno ↦ record { text = errno_text errno; history = history }
]

pub accepted : (history after : History) (c : Change) (version : ℕ) → IsOk (outcome history.tree c) → after ≡ with_change history c →
    version ≡ tree_version after
    → (line (codes "ok " ++ decimal version) ≡ line (change_printed history (Ok c)).text)
    × (after ≡ (change_printed history (Ok c)).history)
accepted history after c version ok e v = by (outcome history.tree c) ok
  where
    counted : version ≡ tree_version history + 1
    counted = v ∙ ap tree_version e ∙ length-append history.tree.history (c ∷ [])

    by : (o : Changed) → IsOk o → (line (codes "ok " ++ decimal version) ≡ line (changed_printed history c o).text)
        × (after ≡ (changed_printed history c o).history)
    by (Ok t) h = (ap (λ n. line (codes "ok " ++ decimal n)) counted, e)
    by (Err errno) h = cc

-- each command makes one version of the policy at most
abbrev pub AtMostOneMore : History → History → Type 0
AtMostOneMore history after = policy_version after ≤ policy_version history + 1

pub drop_few : (history after : History) (name : List ℕ) → after ≡ (drop_printed history name).history → AtMostOneMore history after
drop_few history after name e = rw e (omega (arith, length-append history.deeds (removed name ∷ [])))

pub publish_few : (history after : History) (profile : ProfileValue) → after ≡ with_deed history (published_rules profile) →
    AtMostOneMore history after
publish_few history after profile e = rw e (omega (arith, length-append history.deeds (published_rules profile ∷ [])))

pub same_few : (history after : History) → after ≡ history → AtMostOneMore history after
same_few history after e = rw e (omega arith)

pub change_few : (history after : History) (r : Result Change Errno) → after ≡ (change_printed history r).history →
    AtMostOneMore history after
change_few history after r e = rw e (tried r)
  where
    changed_by : (c : Change) (o : Changed) → AtMostOneMore history (changed_printed history c o).history
    changed_by c (Ok t) = omega arith
    changed_by c (Err errno) = omega arith

    tried : (r : Result Change Errno) → AtMostOneMore history (change_printed history r).history
    tried (Ok c) = changed_by c (outcome history.tree c)
    tried (Err errno) = omega arith

pub link_few : (history after : History) (old new : List ℕ) (a : LinkAnswered) → after ≡ after_link history old new a →
    AtMostOneMore history after
link_few history after old new a e = rw e (by a)
  where
    by : (a : LinkAnswered) → AtMostOneMore history (after_link history old new a)
    by (made j version policy) = omega arith
    by (not_allowed j version policy) = omega arith
    by (failed errno version) = omega arith
    by (no_profile policy) = omega arith

-- of a line that was composed, or not
pub composed_few : (p : Printed) (history after : History) (result : Result (Vec ℕ Global) Stop) →
    (after ≡ p.history → AtMostOneMore history after) → IsComposed p after result
    → OnOk result (AtMostOneMore history after)
composed_few p history after (Ok text) few (same, done) = few done
composed_few p history after (Err stop) few h = tt
