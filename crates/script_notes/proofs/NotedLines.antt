-- The notes on a line, and those on the lines after it.
use Rattle.std.proofs.Common.{◌≡◌, ℕ, ◌+◌, Bool, ◌||◌, List, ◌∷◌, ◌++◌, Option, Some, append_assoc, ap, ◌∙◌}
use Rattle.std.specs.Option.{is_some}
use Rattle.script_notes.specs.ScriptNotes.{control_in, control_notes, line_notes, notes_from, section_after}
use Rattle.script_notes.specs.declared.line.Script.{Script}
use Rattle.trace_script.specs.Script.{Section}

-- what is noted once a line was noted, with what comes after it
after_line : (old c l rest mid new total : List ℕ) → mid ≡ old ++ c → new ≡ mid ++ l → old ++ (c ++ (l ++ rest)) ≡ total →
    new ++ rest ≡ total
after_line old c l rest mid new total e1 e2 h =
    ap (λ (x : List ℕ). x ++ rest) (e2 ∙ ap (λ (x : List ℕ). x ++ l) e1) ∙ append_assoc (old ++ c) l rest
    ∙ append_assoc old c (l ++ rest) ∙ h

pub goes_on : (script : Script) (noted now : Bool) (s : Section) (next : Option Section) (before : ℕ) (line : List ℕ)
    (lines all : List (List ℕ)) (old mid new total : List ℕ) → all ≡ line ∷ lines →
    mid ≡ old ++ control_notes noted (before + 1) (control_in script s (before + 1) line) →
    new ≡ mid ++ line_notes script s before line →
    now ≡ (noted || is_some (control_in script s (before + 1) line)) → next ≡ section_after script s (before + 1) line →
    old ++ notes_from script noted (Some s) before all ≡ total →
    new ++ notes_from script now next (before + 1) lines ≡ total
goes_on script noted now s next before line lines all old mid new total e_all e_mid e_new e_now e_next h =
    let found : Option ℕ = control_in script s (before + 1) line in
    let after : Option Section = section_after script s (before + 1) line in
    let here = rw e_all at h in
    ap (λ (b : Bool). new ++ notes_from script b next (before + 1) lines) e_now
    ∙ ap (λ (o : Option Section). new ++ notes_from script (noted || is_some found) o (before + 1) lines) e_next
    ∙ after_line old (control_notes noted (before + 1) found) (line_notes script s before line)
    (notes_from script (noted || is_some found) after (before + 1) lines) mid new total e_mid e_new here
