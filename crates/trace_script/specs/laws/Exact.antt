-- Engines whose commands print and do one thing in each state: what a script that is followed by one prints.
use Rattle.std.proofs.Common.{◌≡◌, ℕ, List, [], ◌∷◌, ◌++◌, take, drop, Option, Some, None, Result, Ok, Err, refl, sym, ap, ◌∙◌}
use Rattle.std.proofs.Common.{append_assoc, take-append-drop, subst}
use Rattle.std.specs.Io.KnownBytes.{Appends, Consumes}
use Rattle.trace_script.specs.declared.stop.Stop.{Stop}
use Rattle.trace_script.specs.declared.stop.Stop.TheVariants.{NoCommand, Input, TooLong, Memory, Output}
use Rattle.trace_script.specs.Engine.{IsTooLong}
use Rattle.trace_script.specs.FollowedScripts.{CommandsRead, DoesAll, ExactEngine, IsFollowed, IsShort, IsWhole, Lines, exactly, script}
use Rattle.trace_script.specs.RunOutput.{text_of_lines}
use Rattle.trace_report.specs.Streams.{AppendsFront}
use Rattle.trace_script.specs.laws.FollowedScripts.{front_of_more}

module _ {C S : Type 0} (engine : ExactEngine C S) where
  -- the lines that commands print, one after the other, and the state that they lead to
  abbrev pub lines_by : S → List C → Lines
  lines_by state [] = []
  lines_by state (c ∷ cs) = (engine.does state c).lines ++ lines_by (engine.does state c).state cs

  abbrev pub state_by : S → List C → S
  state_by state [] = state
  state_by state (c ∷ cs) = state_by (engine.does state c).state cs

  pub lines_by-append : (state : S) (cs ds : List C) → lines_by state (cs ++ ds) ≡ lines_by state cs ++ lines_by (state_by state cs) ds
  lines_by-append state [] ds = refl
  lines_by-append state (c ∷ cs) ds =
      let step = engine.does state c in
      ap (λ l. step.lines ++ l) (lines_by-append step.state cs ds)
      ∙ sym (append_assoc step.lines (lines_by step.state cs) (lines_by (state_by step.state cs) ds))

  pub all_by : (state new : S) (cs : List C) (lines : Lines) → DoesAll (exactly engine) state cs lines new →
      (lines ≡ lines_by state cs) × (new ≡ state_by state cs)
  all_by state new [] lines did = did
  all_by state new (c ∷ cs) lines (here, later, between, (printed, reached), all, is) =
      let step = engine.does state c in
      let rest = all_by step.state new cs later (subst (λ (s : S). DoesAll (exactly engine) s cs later new) reached all) in
      (is ∙ ap (λ (ls : Lines). ls ++ later) printed ∙ ap (λ (ls : Lines). step.lines ++ ls) rest.0, rest.1)

  -- what the first commands print was printed, those of all commands that were read except perhaps the last
  abbrev pub IsShortBy : S → Option (List ℕ) → Option (List ℕ) → List ℕ → Option (List ℕ) → Option (List ℕ) → Type 0
  IsShortBy state left left_after text before after =
      (count : ℕ) × CommandsRead (exactly engine) left left_after count × Appends before after
      (text_of_lines (lines_by state (take count (script (exactly engine) text).commands)))

  -- what the commands of a script print was printed, or what the first ones print, and why there is no more
  abbrev pub IsFollowedBy : {T : Type 0} → S → Option (List ℕ) → Option (List ℕ) → List ℕ → S → Option (List ℕ) → Option (List ℕ) →
      Result T Stop → Type 0
  IsFollowedBy state left left_after text now before after (Ok done) =
      ((script (exactly engine) text).stopped ≡ None) × (now ≡ state_by state (script (exactly engine) text).commands)
      × Appends before after (text_of_lines (lines_by state (script (exactly engine) text).commands)) × Consumes left left_after text
  IsFollowedBy state left left_after text now before after (Err (NoCommand number)) =
      ((script (exactly engine) text).stopped ≡ Some number)
      × Appends before after (text_of_lines (lines_by state (script (exactly engine) text).commands))
  IsFollowedBy state left left_after text now before after (Err Input) = IsShortBy state left left_after text before after
  IsFollowedBy state left left_after text now before after (Err TooLong) = IsTooLong left left_after
      × IsShortBy state left left_after text before after
  IsFollowedBy state left left_after text now before after (Err Memory) = IsShortBy state left left_after text before after
  IsFollowedBy state left left_after text now before after (Err Output) =
      AppendsFront before after (text_of_lines (lines_by state (script (exactly engine) text).commands))

  module _ (state : S) (left left_after : Option (List ℕ)) (text : List ℕ) (now : S) (before after : Option (List ℕ)) where
    abbrev commands : List C
    commands = (script (exactly engine) text).commands

    written_by : (cs : List C) (lines : Lines) (new : S) → DoesAll (exactly engine) state cs lines new →
        Appends before after (text_of_lines lines) → Appends before after (text_of_lines (lines_by state cs))
    written_by cs lines new did h = subst (λ (ls : Lines). Appends before after (text_of_lines ls)) (all_by state new cs lines did).0 h

    short_by : IsShort (exactly engine) state left left_after text before after → IsShortBy state left left_after text before after
    short_by (count, lines, read, (reached, did), h) = (count, read, written_by (take count commands) lines reached did h)

    whole_by : IsWhole (exactly engine) state text now before after → (now ≡ state_by state commands)
        × Appends before after (text_of_lines (lines_by state commands))
    whole_by (lines, did, h) = ((all_by state now commands lines did).1, written_by commands lines now did h)

    pub followed_by : {T : Type 0} (result : Result T Stop) →
        IsFollowed (exactly engine) state left left_after text now before after result
        → IsFollowedBy state left left_after text now before after result
    followed_by (Ok done) (stopped, whole, consumed) = (stopped, (whole_by whole).0, (whole_by whole).1, consumed)
    followed_by (Err (NoCommand number)) (stopped, whole) = (stopped, (whole_by whole).1)
    followed_by (Err Input) short = short_by short
    followed_by (Err TooLong) (long, short) = (long, short_by short)
    followed_by (Err Memory) short = short_by short
    followed_by (Err Output) (count, lines, (reached, did), front) =
        let first = take count commands in
        let rest = lines_by (state_by state first) (drop count commands) in
        let all : lines_by state first ++ rest ≡ lines_by state commands = sym (lines_by-append state first (drop count commands))
        ∙ ap (lines_by state) (take-append-drop count commands) in
        let here = subst (λ (ls : Lines). AppendsFront before after (text_of_lines ls)) (all_by state reached first lines did).0 front in
        subst (λ (ls : Lines). AppendsFront before after (text_of_lines ls)) all
        (front_of_more before after (lines_by state first) rest here)
