-- The text of one rule: it is written in the grammar, is read again, and is in the rule's line.
use Rattle.std.proofs.Common.{◌≡◌, ℕ, true, List, [], ◌∷◌, ◌++◌, map, Ok, ap, ◌∙◌, sym, append_assoc}
use Rattle.std.specs.Prelude.{codes}
use Rattle.std.specs.List.{flat_map}
use Rattle.names.specs.Permissions.{letters}
use Rattle.names.specs.declared.kind.RuleKind.TheVariants.{Allow, Deny}
use Rattle.rule_reader.specs.Grammar.{print_qualifier, print_rule}
use Rattle.rule_reader.specs.GrammarPaths.{print_items}
use Rattle.rule_profile.specs.Profile.{RuleValue}
use Rattle.rule_profile.specs.Readable.{is_rule}
use Rattle.rule_reader.specs.ReadText.{rule_at}
use Rattle.rule_reader.proofs.AgainRules.{rule_again}
use Rattle.rule_writer.specs.Canonical.{token_text, kind_text, qualifier_text, rule_line, rule_text}
use Rattle.rule_writer.proofs.CanonItems.{canonical_item, items_print}
use Rattle.rule_writer.proofs.CanonTexts.{canonical_kind, canonical_rule, canonical_rule_valid, canonical_rule_means}

-- a rule's parts, regrouped
parts : (items letters : List ℕ) → (34 ∷ (items ++ 34 ∷ []) ++ (32 ∷ letters)) ++ 44 ∷ []
    ≡ 34 ∷ (items ++ (34 ∷ 32 ∷ (letters ++ 44 ∷ [])))
parts items letters = simp append_assoc

text_prints : (r : RuleValue) → print_rule (canonical_rule r []) ≡ rule_text r
text_prints r =
    let items : print_items (map canonical_item r.items) ≡ flat_map token_text r.items = items_print r.items in
    let body : (34 ∷ (print_items (map canonical_item r.items) ++ 34 ∷ []) ++ (32 ∷ letters r.perms)) ++ 44 ∷ []
    ≡ 34 ∷ (flat_map token_text r.items ++ (34 ∷ 32 ∷ (letters r.perms ++ 44 ∷ []))) =
    parts (print_items (map canonical_item r.items)) (letters r.perms)
    ∙ ap (λ (x : List ℕ). 34 ∷ (x ++ (34 ∷ 32 ∷ (letters r.perms ++ 44 ∷ [])))) items in
    elim r.kind as (λ k. print_qualifier (canonical_kind k)
    ++ ((34 ∷ (print_items (map canonical_item r.items) ++ 34 ∷ []) ++ (32 ∷ letters r.perms)) ++ 44 ∷ [])
    ≡ qualifier_text k ++ (34 ∷ (flat_map token_text r.items ++ (34 ∷ 32 ∷ (letters r.perms ++ 44 ∷ []))))) [
      | Allow ↦ body
      | Deny ↦ ap (λ (x : List ℕ). codes "deny " ++ x) body
    ]

-- what a rule that can be read is written as is read as it, whatever follows
pub text_again : (r : RuleValue) (more : List ℕ) → is_rule r ≡ true → rule_at (rule_text r ++ more) ≡ Ok (r, more)
text_again r more h =
    ap (λ (x : List ℕ). rule_at (x ++ more)) (sym (text_prints r))
    ∙ rule_again (canonical_rule r []) [] more (canonical_rule_valid [] r [] h)
    ∙ ap (λ (x : RuleValue). Ok (x, more)) (canonical_rule_means r [] h)

line_parts : (items letters : List ℕ) → (34 ∷ (items ++ (34 ∷ 32 ∷ (letters ++ 44 ∷ [])))) ++ 10 ∷ []
    ≡ 34 ∷ (items ++ (34 ∷ 32 ∷ (letters ++ 44 ∷ 10 ∷ [])))
line_parts items letters = simp append_assoc

-- two spaces, a rule's text and LF are its line
pub line_of_text : (r : RuleValue) → rule_line r ≡ codes "  " ++ (rule_text r ++ codes "\n")
line_of_text r =
    let items : List ℕ = flat_map token_text r.items in
    let p = line_parts items (letters r.perms) in
    elim r.kind as (λ k. kind_text k ++ (34 ∷ (items ++ (34 ∷ 32 ∷ (letters r.perms ++ 44 ∷ 10 ∷ [])))) ≡ codes "  "
    ++ ((qualifier_text k ++ (34 ∷ (items ++ (34 ∷ 32 ∷ (letters r.perms ++ 44 ∷ []))))) ++ 10 ∷ [])) [
      | Allow ↦ ap (λ (x : List ℕ). 32 ∷ 32 ∷ x) (sym p)
      | Deny ↦ ap (λ (x : List ℕ). codes "  deny " ++ x) (sym p)
    ]
