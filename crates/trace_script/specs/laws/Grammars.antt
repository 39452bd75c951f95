-- Scripts of any grammar, by what their next line says.
use Rattle.std.proofs.Common.{ℕ, ◌+◌, ◌≤◌, Bool, true, false, cond, List, [], ◌∷◌, ◌++◌, length, arith}
use Rattle.trace_script.specs.Script.{Section, outside, within, LineOf, ignored, opens_policy, command, no_command, is_end, line_feed}
use Rattle.trace_script.specs.Script.{ScriptOf, Grammar, script_by, first_command, stops_at}

module _ {C : Type 0} (grammar : Grammar C) where
  abbrev pub script_kind : ℕ → List (List ℕ) → LineOf C → ScriptOf C
  script_kind before left s = elim s [
    | ignored ↦ script_by grammar outside (before + 1) left
    | opens_policy ↦ script_by grammar (within (before + 1) []) (before + 1) left
    | command c ↦ first_command c (script_by grammar outside (before + 1) left)
    | no_command ↦ stops_at (before + 1)
  ]

  abbrev pub script_within : ℕ → List ℕ → ℕ → List ℕ → List (List ℕ) → Bool → ScriptOf C
  script_within start text before line left ends =
      cond ends (first_command (grammar.policy start text) (script_by grammar outside (before + 1) left))
      (script_by grammar (within start (text ++ line ++ line_feed ∷ [])) (before + 1) left)

  -- a line has one command at most
  abbrev FewLeft : ℕ → List (List ℕ) → Type 0
  FewLeft before left = (section : Section) → length (script_by grammar section before left).commands ≤ length left

  few_kind : (before : ℕ) (line : List ℕ) (left : List (List ℕ)) → FewLeft (before + 1) left → (s : LineOf C) →
      length (script_kind before left s).commands ≤ length (line ∷ left)
  few_kind before line left rest ignored = omega (arith, rest outside)
  few_kind before line left rest opens_policy = omega (arith, rest (within (before + 1) []))
  few_kind before line left rest (command c) = omega (arith, rest outside)
  few_kind before line left rest no_command = omega arith

  few_within : (start : ℕ) (text : List ℕ) (before : ℕ) (line : List ℕ) (left : List (List ℕ)) → FewLeft (before + 1) left → (b : Bool)
      → length (script_within start text before line left b).commands ≤ length (line ∷ left)
  few_within start text before line left rest true = omega (arith, rest outside)
  few_within start text before line left rest false = omega (arith, rest (within start (text ++ line ++ line_feed ∷ [])))

  pub few_commands : (before : ℕ) (left : List (List ℕ)) → FewLeft before left
  few_commands before [] outside = omega arith
  few_commands before [] (within start text) = omega arith
  few_commands before (line ∷ left) outside = few_kind before line left (few_commands (before + 1) left) (grammar.kind (before + 1) line)
  few_commands before (line ∷ left) (within start text) = few_within start text before line left (few_commands (before + 1) left)
      (is_end line)
