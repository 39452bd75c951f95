-- What commands print and do, one after the other, and line by line.
use Rattle.std.proofs.Common.{◌≡◌, ℕ, ◌+◌, ◌≤◌, Bool, true, false, List, [], ◌∷◌, ◌++◌, length, map, Option, Result, Ok, Err}
use Rattle.std.proofs.Common.{refl, sym, ap, ◌∙◌, append_assoc, length-append, arith, subst, MatchBool}
use Rattle.std.specs.List.{concat}
use Rattle.std.specs.Io.KnownBytes.{Appends}
use Rattle.std.proofs.lemmas.List.{append-nil, map-append}
use Rattle.std.proofs.lemmas.List.Folds.{concat-append}
use Rattle.std.proofs.Math.Seq.{take-append_seam}
use Rattle.trace_script.specs.declared.stop.Stop.{Stop}
use Rattle.trace_script.specs.declared.stop.Stop.TheVariants.{NoCommand, Input, TooLong, Memory, Output}
use Rattle.trace_script.specs.Engine.{IsPut, is_open_at}
use Rattle.trace_script.specs.FollowedScripts.{Engine, Lines, IsPrinted, KindDoes, LineDoes, DoesAll, PrintsFirst, script}
use Rattle.trace_script.specs.RunOutput.{text_of_lines}
use Rattle.trace_script.specs.Script.{Section, outside, within, LineOf, ignored, opens_policy, command, no_command, is_end, line_feed}
use Rattle.trace_script.specs.Script.{ScriptOf, script_by, first_command, stops_at}
use Rattle.trace_report.specs.Output.{line}
use Rattle.trace_report.specs.Streams.{AppendsFront}
use Rattle.trace_report.specs.laws.Endings.{appends_nothing, keeps}
use Rattle.trace_report.specs.laws.Fronts.{Appends-more}
use Rattle.trace_script.specs.laws.Grammars.{script_kind, script_within, few_commands}

-- ---- lines that are written

-- one line is the text of its list
pub one_line : (text : List ℕ) → line text ≡ text_of_lines (text ∷ [])
one_line text = sym (append-nil (line text))

pub text_of_lines-append : (xs ys : Lines) → text_of_lines (xs ++ ys) ≡ text_of_lines xs ++ text_of_lines ys
text_of_lines-append xs ys = ap concat (map-append line xs ys) ∙ concat-append (map line xs) (map line ys)

-- more lines were written
pub wrote_more : (a b c : Option (List ℕ)) (xs ys : Lines) → Appends a b (text_of_lines xs) → Appends b c (text_of_lines ys) →
    Appends a c (text_of_lines (xs ++ ys))
wrote_more a b c xs ys p q = rw (text_of_lines-append xs ys) (Appends-more a b c (text_of_lines xs) (text_of_lines ys) p q)

-- these lines are written, and a front part of the next ones
pub front_more : (a b c : Option (List ℕ)) (lines more : Lines) → Appends a b (text_of_lines lines) →
    AppendsFront b c (text_of_lines more) → AppendsFront a c (text_of_lines (lines ++ more))
front_more a b c lines more h (front, back, split, appended) = (
  text_of_lines lines ++ front,
  back,
  text_of_lines-append lines more ∙ ap (λ l. text_of_lines lines ++ l) split ∙ sym (append_assoc (text_of_lines lines) front back),
  Appends-more a b c (text_of_lines lines) front h appended,
)

-- a front part of some lines is one of more lines
pub front_of_more : (a b : Option (List ℕ)) (lines more : Lines) → AppendsFront a b (text_of_lines lines) →
    AppendsFront a b (text_of_lines (lines ++ more))
front_of_more a b lines more (front, back, split, appended) = (
  front,
  back ++ text_of_lines more,
  text_of_lines-append lines more ∙ ap (λ l. l ++ text_of_lines more) split ∙ append_assoc front back (text_of_lines more),
  appended,
)

-- ---- lines that a command prints

-- a composed line that was written, or not
pub printed : {S T : Type 0} (Does : Lines → S → Type 0) (new : S) (bytes text : List ℕ) (before after : Option (List ℕ))
    (result : Result T Stop)
    → bytes ≡ line text → Does (text ∷ []) new → IsPut before after bytes result → IsPrinted Does new before after result
printed Does new bytes text before after (Ok done) e does put = (text ∷ [], does, rw (← one_line text) (rw e at put))
printed Does new bytes text before after (Err Output) e does put = (text ∷ [], new, does, rw (← one_line text) (rw e at put))
printed Does new bytes text before after (Err (NoCommand number)) e does put = absurd put
printed Does new bytes text before after (Err Input) e does put = absurd put
printed Does new bytes text before after (Err TooLong) e does put = absurd put
printed Does new bytes text before after (Err Memory) e does put = absurd put

pub nothing_printed : {S T : Type 0} (Does : Lines → S → Type 0) (new : S) (known : Option (List ℕ)) (done : T) → Does [] new →
    IsPrinted Does new known known (Ok done)
nothing_printed Does new known done does = ([], does, appends_nothing known)

-- out of memory, and nothing else
pub not_printed : (T : Type 0) {S : Type 0} (Does : Lines → S → Type 0) (new : S) (known : Option (List ℕ)) (stop : Stop) →
    stop ≡ Memory → IsPrinted {T = T} Does new known known (Err stop)
not_printed T Does new known stop e = rw e (keeps known)

-- ---- commands, one after the other

module _ {C S : Type 0} (engine : Engine C S) where
  pub did_one : (old new : S) (c : C) (lines : Lines) → engine.Does old c lines new → DoesAll engine old (c ∷ []) lines new
  did_one old new c lines does = (lines, [], new, does, (refl, refl), sym (append-nil lines))

  pub did_more : (old mid new : S) (done more : List C) (lines later : Lines)
      → DoesAll engine old done lines mid → DoesAll engine mid more later new → DoesAll engine old (done ++ more) (lines ++ later) new
  did_more old mid new [] more lines later (none, same) on =
      subst (λ (m : S). DoesAll engine m more (lines ++ later) new) same
      (subst (λ (ls : Lines). DoesAll engine mid more (ls ++ later) new) (sym none) on)
  did_more old mid new (c ∷ done) more lines later (here, rest, between, does, all, is) on = (
    here,
    rest ++ later,
    between,
    does,
    did_more between mid new done more rest later all on,
    ap (λ (ls : Lines). ls ++ later) is ∙ append_assoc here rest later,
  )

  -- ---- lines, one after the other

  abbrev pub from_line : Section → ℕ → List (List ℕ) → ScriptOf C
  from_line section before left = script_by engine.grammar section before left

  -- the outcome of one more line, whatever lines are left
  pub record IsNext (old new : S) (whole rest : List (List ℕ) → ScriptOf C) (lines : Lines) : Type 0 where
    pub more : List C
    pub does : DoesAll engine old more lines new
    pub commands : (left : List (List ℕ)) → (whole left).commands ≡ more ++ (rest left).commands
    pub stopped : (left : List (List ℕ)) → (whole left).stopped ≡ (rest left).stopped

  module _ (old new : S) (before : ℕ) (line : List ℕ) (next : Section) (lines : Lines) where
    abbrev Comes : (List (List ℕ) → ScriptOf C) → Type 0
    Comes whole = IsNext old new whole (from_line next (before + 1)) lines

    -- nothing, or a command
    nothing : (whole : List (List ℕ) → ScriptOf C) (to : Section) → next ≡ to → (lines ≡ []) → new ≡ old →
        ((left : List (List ℕ)) → whole left ≡ from_line to (before + 1) left) → Comes whole
    nothing whole to at none same is = record {
      more = [];
      does = (none, same);
      commands = λ left. rw (at, is) refl;
      stopped = λ left. rw (at, is) refl;
    }

    one : (whole : List (List ℕ) → ScriptOf C) (c : C) → next ≡ outside → engine.Does old c lines new →
        ((left : List (List ℕ)) → whole left ≡ first_command c (from_line outside (before + 1) left)) → Comes whole
    one whole c at does is = record {
      more = c ∷ [];
      does = did_one old new c lines does;
      commands = λ left. rw (at, is) refl;
      stopped = λ left. rw (at, is) refl;
    }

    pub next_line : (section : Section) → LineDoes engine old section (before + 1) line next lines new →
        Comes (λ left. from_line section before (line ∷ left))
    next_line outside does = by (engine.grammar.kind (before + 1) line) does
      where
        by : (s : LineOf C) → KindDoes engine old (before + 1) s next lines new →
            Comes (λ left. script_kind engine.grammar before left s)
        by ignored (to, none, same) = nothing _ outside to none same (λ left. refl)
        by opens_policy (to, none, same) = nothing _ (within (before + 1) []) to none same (λ left. refl)
        by (command c) (to, does) = one _ c to does (λ left. refl)
        by no_command does = absurd does
    next_line (within start text) does = by (is_end line) does
      where
        by : (b : Bool) → MatchBool b ((next ≡ outside) × engine.Does old (engine.grammar.policy start text) lines new)
            ((next ≡ within start (text ++ line ++ line_feed ∷ [])) × (lines ≡ []) × (new ≡ old))
            → Comes (λ left. script_within engine.grammar start text before line left b)
        by true (to, does) = one _ (engine.grammar.policy start text) to does (λ left. refl)
        by false (to, none, same) = nothing _ (within start (text ++ line ++ line_feed ∷ [])) to none same (λ left. refl)

  -- no command is on the line
  pub no_line : (before : ℕ) (line : List ℕ) → engine.grammar.kind (before + 1) line ≡ no_command → (left : List (List ℕ)) →
      from_line outside before (line ∷ left) ≡ stops_at (before + 1)
  no_line before line e left = ap (script_kind engine.grammar before left) e

  -- The commands of a text: these, and then those of the lines that are left.
  pub record IsAhead (text : List ℕ) (section : Section) (before : ℕ) (done : List C) (left : List (List ℕ)) : Type 0 where
    pub commands : (script engine text).commands ≡ done ++ (from_line section before left).commands
    pub stopped : (script engine text).stopped ≡ (from_line section before left).stopped

  -- one more line
  pub ahead_next : (now new : S) (text : List ℕ) (section : Section) (before : ℕ) (done : List C) (line : List ℕ) (left : List (List ℕ))
      (next : Section) (lines : Lines)
      → IsAhead text section before done (line ∷ left) →
      (n : IsNext now new (λ ls. from_line section before (line ∷ ls)) (from_line next (before + 1)) lines)
      → IsAhead text next (before + 1) (done ++ n.more) left
  ahead_next now new text section before done line left next lines ahead n = record {
    commands = ahead.commands ∙ ap (λ (cs : List C). done ++ cs) (n.commands left)
        ∙ sym (append_assoc done n.more (from_line next (before + 1) left).commands);
    stopped = ahead.stopped ∙ n.stopped left;
  }

  -- all commands of a text are done except those of the lines that are left
  pub still_few : (text : List ℕ) (section : Section) (before : ℕ) (done : List C) (left : List (List ℕ)) →
      IsAhead text section before done left → length left ≤ 1
      → length (script engine text).commands ≤ length done + 1
  still_few text section before done left ahead one =
      omega (
        arith,
        ap length ahead.commands,
        length-append done (from_line section before left).commands,
        few_commands engine.grammar before left section,
        one,
      )

  -- the first commands are done
  pub first_done : (old now : S) (text : List ℕ) (done rest : List C) (lines : Lines) →
      (script engine text).commands ≡ done ++ rest → DoesAll engine old done lines now
      → PrintsFirst engine old text (length done) lines
  first_done old now text done rest lines e did = (now, rw (e, take-append_seam done rest) did)

  -- all of them are
  pub all_first : (old now : S) (text : List ℕ) (lines : Lines) → DoesAll engine old (script engine text).commands lines now →
      (count : ℕ) × PrintsFirst engine old text count lines
  all_first old now text lines did =
      let all = (script engine text).commands in
      (length all, first_done old now text all [] lines (sym (append-nil all)) did)

  -- no line is left
  none_left : (section : Section) (before : ℕ) → (from_line section before []).commands ≡ []
  none_left outside before = refl
  none_left (within start text) before = refl

  pub stopped_left : (section : Section) (before : ℕ) → (from_line section before []).stopped ≡ is_open_at section
  stopped_left outside before = refl
  stopped_left (within start text) before = refl

  pub all_done : (old now : S) (text : List ℕ) (section : Section) (before : ℕ) (done : List C) (lines : Lines)
      → IsAhead text section before done [] → DoesAll engine old done lines now →
      DoesAll engine old (script engine text).commands lines now
  all_done old now text section before done lines ahead did = rw (ahead.commands, none_left section before, append-nil done) did
