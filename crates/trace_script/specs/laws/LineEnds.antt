-- The outcome of a line, by what it says and by the section that it is in.
use Rattle.std.proofs.Common.{◌≡◌, ℕ, Bool, true, false, List, [], ◌∷◌, ◌++◌, Option, Err, Vec, Global, MatchBool, refl, sym, ap, subst}
use Rattle.trace_report.specs.laws.Endings.{keeps}
use Rattle.trace_script.specs.declared.section.Section.{Section as SectionHere}
use Rattle.trace_script.specs.declared.section.Section.TheVariants.{Within}
use Rattle.trace_script.specs.declared.stop.Stop.{Stop}
use Rattle.trace_script.specs.declared.stop.Stop.TheVariants.{NoCommand, Input, TooLong, Memory, Output}
use Rattle.trace_script.specs.Engine.{section_value}
use Rattle.trace_script.specs.FollowedScripts.{Engine, Lines, IsPrinted, KindDoes, LineDoes, IsLineFollowed}
use Rattle.trace_script.specs.Script.{Section, outside, within, LineOf, command, no_command, is_end, line_feed}

module _ {C S : Type 0} (engine : Engine C S) (old : S) where
  -- following stopped at a line, in the middle of its command
  line_stopped : (section : Section) (number : ℕ) (line : List ℕ) (new : S) (before after : Option (List ℕ)) (Does : Lines → S → Type 0)
      (next : Section) (stop : Stop)
      → ((lines : Lines) (reached : S) → Does lines reached → LineDoes engine old section number line next lines reached)
      → IsPrinted {T = Unit {0}} Does new before after (Err stop) →
      IsLineFollowed engine old section number line new before after (Err stop)
  line_stopped section number line new before after Does next (NoCommand told) so h = absurd h
  line_stopped section number line new before after Does next Input so h = absurd h
  line_stopped section number line new before after Does next TooLong so h = absurd h
  line_stopped section number line new before after Does next Memory so h = h
  line_stopped section number line new before after Does next Output so (lines, reached, does, front) =
      (next, lines, reached, so lines reached does, front)

  -- ---- lines outside a policy

  module _ (number : ℕ) (line : List ℕ) where
    -- by what the line says
    pub by_kind : (kind : LineOf C) (next : Section) (lines : Lines) (new : S) → kind ≡ engine.grammar.kind number line →
        KindDoes engine old number kind next lines new → LineDoes engine old outside number line next lines new
    by_kind kind next lines new is does = subst (λ (kind : LineOf C). KindDoes engine old number kind next lines new) is does

    pub command_stopped : (c : C) (new : S) (before after : Option (List ℕ)) (stop : Stop) →
        command c ≡ engine.grammar.kind number line
        → IsPrinted {T = Unit {0}} (engine.Does old c) new before after (Err stop) →
        IsLineFollowed engine old outside number line new before after (Err stop)
    command_stopped c new before after stop is h =
        line_stopped outside number line new before after (engine.Does old c) outside stop
        (λ lines reached does. by_kind (command c) outside lines reached is (refl, does)) h

    pub not_followed : (known : Option (List ℕ)) → no_command ≡ engine.grammar.kind number line →
        IsLineFollowed engine old outside number line old known known (Err (NoCommand number))
    not_followed known is = (refl, sym is, refl, refl, keeps known)

  -- ---- lines of a policy

  abbrev DoesWithin : ℕ → List ℕ → List ℕ → Section → Lines → S → Bool → Type 0
  DoesWithin start text line next lines new ends = MatchBool ends
      ((next ≡ outside) × engine.Does old (engine.grammar.policy start text) lines new)
      ((next ≡ within start (text ++ line ++ line_feed ∷ [])) × (lines ≡ []) × (new ≡ old))

  module _ (section : SectionHere) (start : ℕ) (text : Vec ℕ Global) (number : ℕ) (line : List ℕ) (is : section ≡ Within start text) where
    from_within : (ends : Bool) (next : Section) (lines : Lines) (new : S) → is_end line ≡ ends →
        DoesWithin start text.items line next lines new ends
        → LineDoes engine old (section_value section) number line next lines new
    from_within ends next lines new at does =
        let P : SectionHere → Type 0 = λ section. LineDoes engine old (section_value section) number line next lines new in
        subst P (sym is) (subst (DoesWithin start text.items line next lines new) (sym at) does)

    pub within_ends : (seen : List ℕ) (lines : Lines) (new : S) → is_end line ≡ true → seen ≡ text.items →
        engine.Does old (engine.grammar.policy start seen) lines new
        → LineDoes engine old (section_value section) number line outside lines new
    within_ends seen lines new ends same does = from_within true outside lines new ends
        (refl, subst (λ (bytes : List ℕ). engine.Does old (engine.grammar.policy start bytes) lines new) same does)

    pub within_goes_on : (longer : List ℕ) → is_end line ≡ false → longer ≡ text.items ++ line ++ line_feed ∷ [] →
        LineDoes engine old (section_value section) number line (within start longer) [] old
    within_goes_on longer goes_on more = from_within false (within start longer) [] old goes_on (ap (within start) more, refl, refl)

    pub policy_stopped : (seen : List ℕ) (new : S) (before after : Option (List ℕ)) (stop : Stop) → is_end line ≡ true →
        seen ≡ text.items
        → IsPrinted {T = Unit {0}} (engine.Does old (engine.grammar.policy start seen)) new before after (Err stop)
        → IsLineFollowed engine old (section_value section) number line new before after (Err stop)
    policy_stopped seen new before after stop ends same h =
        line_stopped (section_value section) number line new before after (engine.Does old (engine.grammar.policy start seen)) outside stop
        (λ lines reached does. within_ends seen lines reached ends same does) h
