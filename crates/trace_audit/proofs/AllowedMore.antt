-- Numbers of rules that allow what is asked, one more permission at a time.
use Rattle.std.proofs.Common.{◌≡◌, ◌∙◌, ◌<◌, ◌+◌, ℕ, List, ◌∷◌, ap, drop, get_or, length, sym}
use Rattle.std.proofs.lemmas.List.{drop_more}
use Rattle.names.specs.declared.permissions.Permission.{Permission}
use Rattle.names.specs.declared.permissions.Perms.{Perms}
use Rattle.rule_profile.specs.Profile.{RuleValue}
use Rattle.trace_audit.specs.Answers.{allowing_after, with_permission}

module _ (rules : List RuleValue) (name : List ℕ) (ask : Perms) where
  pub allowed_more : (old new : List ℕ) (ps : List Permission) (i : ℕ) (p : Permission) (all : List ℕ) → i < length ps
      → new ≡ with_permission rules name ask old (get_or ps i p) → allowing_after rules name ask old (drop i ps) ≡ all
      → allowing_after rules name ask new (drop (i + 1) ps) ≡ all
  allowed_more old new ps i p all lt e h =
      ap (λ (numbers : List ℕ). allowing_after rules name ask numbers (drop (i + 1) ps)) e
      ∙ ap (λ (l : List Permission). allowing_after rules name ask old l) (sym (drop_more ps i p lt)) ∙ h

  pub allowed_first : (numbers : List ℕ) (ps : List Permission) (none : List ℕ) → numbers ≡ none
      → allowing_after rules name ask numbers ps ≡ allowing_after rules name ask none ps
  allowed_first numbers ps none e = ap (λ (n : List ℕ). allowing_after rules name ask n ps) e
