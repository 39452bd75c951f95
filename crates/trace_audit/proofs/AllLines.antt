-- Lines of denials, one more at a time.
use Rattle.std.proofs.Common.{◌≡◌, ◌∙◌, ◌<◌, ◌≤◌, ◌+◌, ℕ, List, [], ◌∷◌, ◌++◌, ap, append_assoc, append-nil, drop, get_or, length, map}
use Rattle.std.proofs.Common.{refl, subst, sym}
use Rattle.std.proofs.lemmas.List.{drop_all, drop_more}
use Rattle.trace_audit.specs.inner.GroupValues.{group_value}
use Rattle.trace_audit.specs.declared.groups.Group as code
use Rattle.trace_audit.specs.Answers.{answer_to}
use Rattle.trace_audit.specs.Audit.{AreLines, line_in}
use Rattle.trace_audit.specs.Groups.{Group}
use Rattle.trace_audit.specs.Lookups.{TextValue}
use Rattle.trace_audit.specs.inner.KnownProfiles.{IsLineOf}
use Rattle.trace_report.specs.declared.format.Format.{Format}

-- one more line, in front of those of the other groups
pub one_more_line : (format : Format) (texts : List TextValue) (g : Group) (groups : List Group) (before after others : List ℕ)
    → IsLineOf format texts g before after → AreLines format texts groups others
    → (lines : List ℕ) × AreLines format texts (g ∷ groups) lines × (after ++ others ≡ before ++ lines)
one_more_line format texts g groups before after others (to, is, e) h =
    let line = line_in format g (answer_to to g.denial) in
    (line ++ others, (to, is, (others, h, refl)), ap (λ (l : List ℕ). l ++ others) e ∙ append_assoc before line others)

module _ (format : Format) (texts : List TextValue) (groups : List code.Group) (i : ℕ) where
  -- the lines so far, and those of the groups that are left, are all
  abbrev pub AreDone : ℕ → List ℕ → Type 0
  AreDone n lines = (others : List ℕ) → AreLines format texts (map group_value (drop n groups)) others
      → AreLines format texts (map group_value groups) (lines ++ others)

  pub next_line : (g : code.Group) (before after : List ℕ) → i < length groups → g ≡ get_or groups i g
      → IsLineOf format texts (group_value g) before after → AreDone i before → AreDone (i + 1) after
  next_line g before after lt is line done others h =
      let more = one_more_line format texts (group_value g) (map group_value (drop (i + 1) groups)) before after others line h in
      let left = drop_more groups i g lt ∙ ap (λ (x : code.Group). x ∷ drop (i + 1) groups) (sym is) in
      subst (λ (l : List ℕ). AreLines format texts (map group_value groups) l) (sym more.2)
      (done more.0 (subst (λ (l : List code.Group). AreLines format texts (map group_value l) more.0) (sym left) more.1))

  pub last_line : (lines : List ℕ) → length groups ≤ i → AreDone i lines → AreLines format texts (map group_value groups) lines
  last_line lines le done =
      subst (λ (l : List ℕ). AreLines format texts (map group_value groups) l) (append-nil lines)
      (done [] (subst (λ (l : List code.Group). AreLines format texts (map group_value l) []) (sym (drop_all i groups le)) refl))
