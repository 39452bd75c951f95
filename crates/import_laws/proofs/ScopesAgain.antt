-- What a canonical text declares and names: one profile, and no fault.
use Rattle.std.proofs.Common.{◌≡◌, ◌≤◌, ℕ, ◌+◌, ◌*◌, Bool, true, false, List, [], ◌∷◌, length, Option, Some, None, refl, sym, ap}
use Rattle.std.proofs.Common.{◌∙◌, subst, if◌then◌else◌, arith}
use Rattle.rule_globs.specs.Each.{Each}
use Rattle.rule_globs.specs.Rules.{RuleValue, ProfileValue}
use Rattle.names.specs.declared.kind.RuleKind.{RuleKind}
use Rattle.names.specs.declared.kind.RuleKind.TheVariants.{Allow, Deny}
use Rattle.rule_profile.specs.Limits.{most_rules}
use Rattle.apparmor_variables.specs.Variables.{most_bytes}
use Rattle.apparmor_text.specs.Parts.{ItemValue, bytes_of_parts}
use Rattle.apparmor_text.specs.declared.part.ItemKind.TheVariants as items
use Rattle.import_laws.specs.CanonicalItems.{in_quotes, path_text, head_item, rule_item, inner_items, canonical_items}
use Rattle.apparmor_rules.specs.RuleWords.{content}
use Rattle.import_scope.specs.FirstFaults.{Question, Counted, question_of, variables_within, most_together, nothing_counted, is_last}
use Rattle.import_scope.specs.FirstFaults.{CountBefore, answered, IsPast, FirstFaultFrom, FirstFault, none_left, later}
use Rattle.import_scope.specs.Scopes.{Head, ScopeState, Fault, at_start, behind, behind_all, can_be_said, head_fault, head_within}
use Rattle.import_laws.proofs.Imported.{IsImported}
use Rattle.import_laws.proofs.RuleItems.{own_text, quoted_content}

-- the profile's head
abbrev pub head_of : List ℕ → Head
head_of name = record { name = name; is_hat = false; outermost = 0 }

-- within the profile, and after it
abbrev inside : Head → ℕ → ScopeState
inside head before = record { declared = []; profiles = head ∷ []; within = 0 ∷ []; before = before }

abbrev pub outside : Head → ℕ → ScopeState
outside head before = record { declared = []; profiles = head ∷ []; within = []; before = before }

-- ---- within the profile

-- no variables are declared, so none count
none_before : (name : List ℕ) (last : Bool) → CountBefore last (variables_within [] name) 0
none_before name true = refl
none_before name false = refl

-- a rule's path has a text of at most 16,384 bytes, which is counted
abbrev Past : Counted → Option Question → Type 0
Past c o = (next : Counted) × IsPast c o next × (next.bytes ≤ c.bytes + most_bytes)

answered_as : (head : Head) (before : ℕ) (c : Counted) (r : RuleValue) (kind : RuleKind) → IsImported r →
    c.bytes + most_bytes ≤ most_together →
    Past c (question_of items.Rule (inside head before) (rule_item (record r { kind = kind })).parts)
answered_as head before c r Allow h fits =
    let text = own_text (variables_within [] head.name) r h in
    let short = text.short in (
      record { bytes = c.bytes + 0 + length (path_text r.items); profile = Some 0 },
      answered 0 (path_text r.items) (none_before head.name (is_last c.profile 0)) text (omega (arith, short, fits)),
      omega (arith, short),
    )
answered_as head before c r Deny h fits =
    let text = own_text (variables_within [] head.name) r h in
    let short = text.short in (
      record { bytes = c.bytes + 0 + length (path_text r.items); profile = Some 0 },
      answered 0 (path_text r.items) (none_before head.name (is_last c.profile 0)) text (omega (arith, short, fits)),
      omega (arith, short),
    )

with_rule : (head : Head) (before : ℕ) (c : Counted) (r : RuleValue) → IsImported r → c.bytes + most_bytes ≤ most_together →
    (others : List ItemValue) → ((next : Counted) → next.bytes ≤ c.bytes + most_bytes →
    FirstFaultFrom (behind (inside head before) (rule_item r)) next others None) →
    FirstFaultFrom (inside head before) c (rule_item r ∷ others) None
with_rule head before c r h fits others rest =
    let a = answered_as head before c r r.kind h fits in
    later (inside head before) c a.0 (rule_item r) others None refl a.1 (rest a.0 a.2)

-- the texts of these rules are not too much together
abbrev Fit : Counted → List RuleValue → Type 0
Fit c rules = c.bytes + most_bytes * length rules ≤ most_together

inner_faultless : (head : Head) (rules : List RuleValue) (before : ℕ) (c : Counted) → Each IsImported rules → Fit c rules →
    FirstFaultFrom (inside head before) c (inner_items rules) None
inner_faultless head [] before c h fit =
    later _ c c _ _ None refl refl (later _ c c _ _ None refl refl (later _ c c _ _ None refl refl (none_left _ c)))
inner_faultless head (r ∷ rules) before c h fit =
    later _ c c _ _ None refl refl
    (with_rule head _ c r h.0 (omega (arith, fit)) _ (λ next less. inner_faultless head rules _ next h.1 (omega (arith, fit, less))))

inner_behind : (head : Head) (rules : List RuleValue) (before : ℕ) →
    (end : ℕ) × (behind_all (inside head before) (inner_items rules) ≡ outside head end)
inner_behind head [] before = (_, refl)
inner_behind head (r ∷ rules) before = inner_behind head rules _

-- ---- the whole text

head_behind : (name : List ℕ) → behind (at_start []) (head_item name) ≡ inside (head_of name)
    (0 + length (bytes_of_parts (head_item name).parts))
head_behind name = ap (λ (own : List ℕ). inside (head_within None 0 false own) (0 + length (bytes_of_parts (head_item name).parts)))
    (quoted_content name)

if_said : (b : Bool) (fault : Fault) → b ≡ true → (if b then None else Some fault) ≡ None
if_said true fault h = refl
if_said false fault h = absurd cc

named : (name : List ℕ) → can_be_said name ≡ true → head_fault items.Profile (at_start []) (head_item name).parts ≡ None
named name h = if_said (can_be_said (content (in_quotes name))) _ (ap can_be_said (quoted_content name) ∙ h)

-- its rules, of which there are at most 1,024, have texts of at most 16,384 bytes each
pub faultless : (p : ProfileValue) → can_be_said p.name ≡ true → Each IsImported p.rules → length p.rules ≤ most_rules →
    FirstFault (at_start []) (canonical_items p) None
faultless p said h few =
    later (at_start []) nothing_counted nothing_counted (head_item p.name) (inner_items p.rules) None (named p.name said) refl
    (subst (λ (s : ScopeState). FirstFaultFrom s nothing_counted (inner_items p.rules) None) (sym (head_behind p.name))
    (inner_faultless (head_of p.name) p.rules _ nothing_counted h (omega (arith, few))))

pub all_behind : (p : ProfileValue) → (end : ℕ) × (behind_all (at_start []) (canonical_items p) ≡ outside (head_of p.name) end)
all_behind p =
    let r = inner_behind (head_of p.name) p.rules (0 + length (bytes_of_parts (head_item p.name).parts)) in
    (r.0, ap (λ (s : ScopeState). behind_all s (inner_items p.rules)) (head_behind p.name) ∙ r.1)
