-- The parts of one more rule.
use Rattle.std.proofs.Common.{◌≡◌, ℕ, ◌+◌, ◌-◌, ◌<◌, List, ◌++◌, length, get_or, slice_get, sym, ap, ◌∙◌, arith}
use Rattle.std.specs.List.{flat_map, range_with_len}
use Rattle.std.specs.Option.{option_map_or}
use Rattle.std.proofs.lemmas.List.{get_or_default}
use Rattle.std.proofs.lemmas.Option.{slice_get-get_or}
use Rattle.names.specs.declared.permissions.Perms.{Perms}
use Rattle.rule_globs.specs.Rules.{RuleValue}
use Rattle.trace_lint.specs.Parts.{decided_by, letters_of, no_perms, parts_of_rule}
use Rattle.trace_lint.specs.declared.findings.Part.{Part}
use Rattle.trace_lint.proofs.RuleNumbers.{each_more}

module _ (rules : List RuleValue) (decided : List Perms) where
  abbrev parts_at : ℕ → List Part
  parts_at n = parts_of_rule n (letters_of rules n) (decided_by decided n)

  letters_at : (i : ℕ) (d : RuleValue) → i < length rules → letters_of rules (i + 1) ≡ (get_or rules i d).perms
  letters_at i d lt =
      let e : i + 1 - 1 ≡ i = omega arith in
      ap (λ z. option_map_or (λ (rule : RuleValue). rule.perms) (slice_get rules z) no_perms) e
      ∙ ap (λ z. option_map_or (λ (rule : RuleValue). rule.perms) z no_perms) (slice_get-get_or rules i d lt)

  decided_at : (i : ℕ) (d : Perms) → i < length decided → decided_by decided (i + 1) ≡ get_or decided i d
  decided_at i d lt =
      let e : i + 1 - 1 ≡ i = omega arith in
      ap (λ z. get_or decided z no_perms) e ∙ get_or_default decided i no_perms d lt

  pub rule_more : (i number : ℕ) (letters given d : Perms) (rule : RuleValue) (old new : List Part) → i < length rules →
      i < length decided → number ≡ i + 1 → letters ≡ (get_or rules i rule).perms → given ≡ get_or decided i d →
      old ≡ flat_map parts_at (range_with_len 1 i) → new ≡ old ++ parts_of_rule number letters given →
      new ≡ flat_map parts_at (range_with_len 1 (i + 1))
  rule_more i number letters given d rule old new lt within is perms what so_far e =
      e ∙ ap (λ z. z ++ parts_of_rule number letters given) so_far
      ∙ ap (λ z. flat_map parts_at (range_with_len 1 i) ++ z)
      (ap (λ z. parts_of_rule z letters given) is
      ∙ ap (λ z. parts_of_rule (i + 1) z given) (perms ∙ sym (letters_at i rule lt))
      ∙ ap (λ z. parts_of_rule (i + 1) (letters_of rules (i + 1)) z) (what ∙ sym (decided_at i d within)))
      ∙ sym (each_more parts_at i)
