-- How a run ends whose words weren't followed.
use Rattle.std.proofs.Common.{◌≡◌, ◌⊎◌, ℕ, Bool, true, false, List, [], ◌∷◌, Option, Some, None, refl, ap, inl, inr, subst, sym}
use Rattle.std.specs.Prelude.{codes, is_some}
use Rattle.std.proofs.lemmas.List.Elements.{All-cons, All-nil}
use Rattle.glob_automaton.specs.Automata.{StateLimit}
use Rattle.trace_arguments.specs.Values.{CommandValue, LineValue, all_names, any_name, audit, check, compile, diff, explain}
use Rattle.trace_arguments.specs.Values.{explain_flattened, import_text, judge, lint, match_name, names, run, steps, storm, test}
use Rattle.trace_audit.specs.Audit.{AreTexts, IsAuditOutput}
use Rattle.trace_audit.specs.Lookups.{TextValue}
use Rattle.trace_program.specs.Notes.{AreNotesOf, EndsWithNotes, IsUnreadWhole, has_notes}
use Rattle.trace_program.specs.Program.{CommandEnds, LineEnds, LineEndsBy, ProgramEnds, TellsUsage}
use Rattle.trace_commands.specs.Explain.{explain_output}
use Rattle.trace_commands.specs.Judge.{judge_output}
use Rattle.trace_program.proofs.Unanswered.{nothing_answered, nothing_stepped, nothing_tested}
use Rattle.trace_program.specs.Questions.{text_named}
use Rattle.trace_report.specs.Output.{Output}
use Rattle.trace_report.specs.Streams.{EndsAnswered, EndsInOne, IsTextOf, IsTold, Streams}
use Rattle.trace_report.specs.Fault.{AreGood, fault_status, fault_text}
use Rattle.trace_report.specs.declared.fault.Fault.{Fault}
use Rattle.trace_report.specs.declared.fault.Fault.TheVariants.{Input, Memory}
use Rattle.trace_report.specs.declared.format.Format.{Format}
use Rattle.trace_report.specs.declared.status.Status.{Status}
use Rattle.trace_report.specs.declared.status.Status.TheVariants.{NoMemory}
use Rattle.trace_commands.specs.laws.OneOutput.{compile_arguments, check_arguments}
use Rattle.trace_report.specs.laws.Endings.{keeps, nothing_yet, text_of, told_alone}

abbrev Texts : Type 0
Texts = List ℕ → Option (List ℕ)

pub usage_ends : (limit : StateLimit) (known : Texts) (line : Option LineValue) (text : List ℕ)
    (left answers before after : Option (List ℕ)) (status : Status)
    → (is_some line ≡ true → ⊥) → TellsUsage before after status
    → ProgramEnds limit known line text (told_alone answers before after) left left status
usage_ends limit known None text left answers before after status no_line told = record { answers = keeps answers; faults = told }
usage_ends limit known (Some line) text left answers before after status no_line told = absurd (no_line refl)

-- a question whose words weren't read, since memory was refused
unanswered : (Wanted : Output → Type 0) (answers before after : Option (List ℕ)) (status : Status)
    → IsTold before after (codes "no memory") NoMemory status → EndsAnswered (told_alone answers before after) Wanted status
unanswered Wanted answers before after status (inl e) = rw e (inl (keeps answers))
unanswered Wanted answers before after status (inr h) = rw h.0 (record { answers = keeps answers; faults = h.1 })

-- a command whose arguments are always good
cut_short : (Wanted : Output → Type 0) (answers before after : Option (List ℕ)) (status : Status) → AreGood Wanted
    → IsTold before after (codes "no memory") NoMemory status → EndsInOne (told_alone answers before after) Wanted status
cut_short Wanted answers before after status good (inl e) = rw e (inl (keeps answers))
cut_short Wanted answers before after status good (inr h) =
    rw h.0 (record { answers = keeps answers; faults = h.1; arguments = good })

-- whatever is known of texts with these names, there may be such texts
abbrev IsKnownAs : Texts → TextValue → Type 0
IsKnownAs known t = IsTextOf (known t.name) t.text

some_texts : (known : Texts) (files : List (List ℕ)) → (texts : List TextValue) × AreTexts known files texts
some_texts known [] = ([], record { named = refl; are = All-nil (IsKnownAs known) })
some_texts known (first ∷ more) =
    let one = text_of (known first) in
    let others = some_texts known more in
    let text : TextValue = record { name = first; text = one.0 } in (
      text ∷ others.0,
      record {
        named = ap (λ (l : List (List ℕ)). first ∷ l) others.1.named;
        are = All-cons (IsKnownAs known) text others.0 one.1 others.1.are;
      },
    )

audit_good : (format : Format) (texts : List TextValue) (log : List ℕ) → AreGood (IsAuditOutput format texts log)
audit_good format texts log output of = rw of.2 (λ bad. cc)

pub command_memory_ends : (limit : StateLimit) (known : Texts) (command : CommandValue) (text : List ℕ)
    (left answers before after : Option (List ℕ)) (status : Status) → IsTextOf left text
    → IsTold before after (codes "no memory") NoMemory status
    → CommandEnds limit known command text (told_alone answers before after) left left status
command_memory_ends limit known (judge perms name format false) text left answers before after status is (inl e) =
    inl (rw e (nothing_yet answers (judge_output format perms name text).answers))
command_memory_ends limit known (judge perms name format false) text left answers before after status is (inr h) =
    inr (h.0, record { answers = keeps answers; faults = h.1 })
command_memory_ends limit known (judge perms name format true) text left answers before after status is told =
    unanswered _ answers before after status told
command_memory_ends limit known (match_name perms name format false) text left answers before after status is (inl e) =
    inl (rw e (inl (keeps answers)))
command_memory_ends limit known (match_name perms name format false) text left answers before after status is (inr h) =
    inr (h.0, record { answers = keeps answers; faults = h.1 })
command_memory_ends limit known (match_name perms name format true) text left answers before after status is told =
    unanswered _ answers before after status told
command_memory_ends limit known (explain perms name format) text left answers before after status is (inl e) =
    inl (rw e (nothing_yet answers (explain_output format perms name text).answers))
command_memory_ends limit known (explain perms name format) text left answers before after status is (inr h) =
    inr (h.0, record { answers = keeps answers; faults = h.1 })
command_memory_ends limit known (explain_flattened perms name format choice) text left answers before after status is told =
    inr (record { answers = keeps answers; faults = told })
command_memory_ends limit known (any_name perms pattern each_rule format) text left answers before after status is told =
    unanswered _ answers before after status told
command_memory_ends limit known (all_names perms pattern format) text left answers before after status is told =
    unanswered _ answers before after status told
command_memory_ends limit known (diff old new below each_rule format) text left answers before after status is told =
    let one = text_of (known old) in
    let two = text_of (text_named known text new) in
    (one.0, two.0, one.1, two.1, unanswered _ answers before after status told)
command_memory_ends limit known (lint format) text left answers before after status is told =
    unanswered _ answers before after status told
command_memory_ends limit known (run capacity) text left answers before after status is told =
    nothing_answered limit capacity text left answers before after status told
command_memory_ends limit known (test capacity format shown) text left answers before after status is told =
    nothing_tested (record { format = format; answers = shown }) limit capacity text left answers before after status told
command_memory_ends limit known (steps capacity) text left answers before after status is told =
    nothing_stepped limit capacity text left answers before after status told
command_memory_ends limit known (compile depth) text left answers before after status is told =
    cut_short _ answers before after status (compile_arguments depth text) told
command_memory_ends limit known check text left answers before after status is told =
    cut_short _ answers before after status (check_arguments text) told
command_memory_ends limit known (storm sessions opens changes) text left answers before after status is told =
    inr (record { answers = keeps answers; faults = told })
command_memory_ends limit known (import_text asked) text left answers before after status is told =
    inr (record { answers = keeps answers; faults = told })
command_memory_ends limit known (names asked) text left answers before after status is (inl e) =
    let one = text_of (known asked.profile) in
    inl (one.0, one.1, rw e (inl (keeps answers)))
command_memory_ends limit known (names asked) text left answers before after status is (inr h) =
    inr (h.0, record { answers = keeps answers; faults = h.1 })
command_memory_ends limit known (audit profiles format) text left answers before after status is told =
    let texts = some_texts known profiles in
    record {
      texts = texts.0;
      are_texts = texts.1;
      log = text;
      is_log = is;
      ends = cut_short _ answers before after status (audit_good format texts.0 text) told;
    }

-- ---- notes

pub unnoted_line : (limit : StateLimit) (known : Texts) (line : LineValue) (text : List ℕ) (streams : Streams)
    (left_before left_after : Option (List ℕ)) (status : Status) → has_notes line ≡ false
    → CommandEnds limit known line.command text streams left_before left_after status
    → LineEnds limit known line text streams left_before left_after status
unnoted_line limit known line text streams left_before left_after status none ended =
    subst (λ (b : Bool). LineEndsBy b limit known line.command text streams left_before left_after status) (sym none) ended

pub noted_line : (limit : StateLimit) (known : Texts) (line : LineValue) (text : List ℕ) (streams : Streams)
    (left_before left_after : Option (List ℕ)) (status : Status) → has_notes line ≡ true
    → EndsWithNotes (CommandEnds limit known line.command text) (AreNotesOf line.command text) text streams status
    → LineEnds limit known line text streams left_before left_after status
noted_line limit known line text streams left_before left_after status noted ended =
    subst (λ (b : Bool). LineEndsBy b limit known line.command text streams left_before left_after status) (sym noted) ended

-- standard input couldn't be read
pub unread_whole : (f : Fault) (answers before after : Option (List ℕ)) (status : Status) → (f ≡ Input) ⊎ (f ≡ Memory)
    → IsTold before after (fault_text f) (fault_status f) status → IsUnreadWhole (told_alone answers before after) status
unread_whole f answers before after status (inl e) told = record { answers = keeps answers; faults = inl (rw e at told) }
unread_whole f answers before after status (inr e) told = record { answers = keeps answers; faults = inr (rw e at told) }

line_memory_ends : (noted : Bool) (limit : StateLimit) (known : Texts) (command : CommandValue) (text : List ℕ)
    (left answers before after : Option (List ℕ)) (status : Status) → IsTextOf left text
    → IsTold before after (codes "no memory") NoMemory status
    → LineEndsBy noted limit known command text (told_alone answers before after) left left status
line_memory_ends true limit known command text left answers before after status is told =
    inr (record { answers = keeps answers; faults = inr told })
line_memory_ends false limit known command text left answers before after status is told =
    command_memory_ends limit known command text left answers before after status is told

pub memory_ends : (limit : StateLimit) (known : Texts) (line : Option LineValue) (text : List ℕ)
    (left answers before after : Option (List ℕ)) (status : Status) → IsTextOf left text
    → IsTold before after (codes "no memory") NoMemory status
    → ProgramEnds limit known line text (told_alone answers before after) left left status
memory_ends limit known None text left answers before after status is (inl e) = record { answers = keeps answers; faults = rw e tt }
memory_ends limit known None text left answers before after status is (inr h) = record { answers = keeps answers; faults = rw h.0 h.1 }
memory_ends limit known (Some line) text left answers before after status is told =
    line_memory_ends (has_notes line) limit known line.command text left answers before after status is told
