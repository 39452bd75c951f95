-- Bytes that reach a set with a member are a front part of a name, where each rule's path begins with a slash.
use Rattle.std.proofs.Common.{◌≡◌, ℕ, zero, suc, ◌+◌, ◌<◌, true, false, ◌&&◌, nat_le, List, [], ◌∷◌, ◌++◌, length, Some, slice_get, IsTrue}
use Rattle.std.proofs.Common.{not, sym, ap, ◌∙◌, arith}
use Rattle.std.specs.List.{Contains, list_all, list_any}
use Rattle.std.proofs.lemmas.Bool.{and_parts}
use Rattle.std.proofs.lemmas.List.Elements.{All-nil, All-push}
use Rattle.std.proofs.lemmas.Option.{none-some, same_Some}
use Rattle.names.specs.Permissions.{has, all_permissions, conflicts}
use Rattle.rule_globs.specs.Glob.{LiveOrEnd}
use Rattle.rule_profile.specs.Profile.{RuleValue, ProfileValue, pattern}
use Rattle.rule_profile.specs.Readable.{begins_with_slash, are_tokens, is_path, is_rule, is_name, is_profile}
use Rattle.rule_globs.specs.Tokens.{Token, pattern_of}
use Rattle.glob_automaton.specs.declared.chart.Chart.{Chart}
use Rattle.glob_automaton.specs.declared.chart.ChartRule.{ChartRule}
use Rattle.glob_automaton.specs.inner.ChartStates.{IsStepOf, IsReached, begins, goes_on}
use Rattle.glob_automaton.specs.inner.Drawings.{HasRule, IsChartOf}
use Rattle.glob_automaton.specs.Sets.{IsPrefixOfName}
use Rattle.glob_automaton.proofs.LiveNumbers.{LiveAtFirst, LiveAfterByte, IsNumber, stands_so, live_numbers}
use Rattle.glob_automaton.proofs.PatternPlaces.{takes_within, first_is_slash}

-- each rule's path begins with a slash
abbrev pub EachWithSlash : List RuleValue → Type 0
EachWithSlash rules = (i : ℕ) (rule : RuleValue) → slice_get rules i ≡ Some rule → IsTrue (begins_with_slash rule.items)

all_rules : (rules : List RuleValue) → list_all is_rule rules ≡ true →
    (i : ℕ) (rule : RuleValue) → slice_get rules i ≡ Some rule → is_rule rule ≡ true
all_rules [] h i rule e = absurd (none-some rule e)
all_rules (r ∷ rules) h zero rule e = ap is_rule (sym (same_Some r rule e)) ∙ (and_parts (is_rule r) (list_all is_rule rules) h).0
all_rules (r ∷ rules) h (suc i) rule e = all_rules rules (and_parts (is_rule r) (list_all is_rule rules) h).1 i rule e

-- a profile's rules are so
pub each_with_slash : (p : ProfileValue) → IsTrue (is_profile p) → EachWithSlash p.rules
each_with_slash p h i rule e =
    let rules = (and_parts (is_name p.name && nat_le (length p.rules) 1024) (list_all is_rule p.rules) h).1 in
    let path = (and_parts (list_any (has rule.perms) all_permissions && not (conflicts rule.perms)) (is_path rule.items)
    (all_rules p.rules rules i rule e)).1 in
    let front = (and_parts (begins_with_slash rule.items && nat_le (length rule.items) 1024) (are_tokens false 0 rule.items) path).0 in
    (and_parts (begins_with_slash rule.items) (nat_le (length rule.items) 1024) front).0

-- one more byte
longer : (front : List ℕ) (b : ℕ) (tokens : List Token) (p : ℕ) → IsPrefixOfName front → 0 < b → b < 256 →
    IsTrue (begins_with_slash tokens) →
    LiveOrEnd (pattern_of tokens) (front ++ b ∷ []) p → IsPrefixOfName (front ++ b ∷ [])
longer [] b tokens p h some small slash live = (first_is_slash tokens b [] p slash live, All-nil (λ c. (0 < c) × (c < 256)))
longer (c ∷ more) b tokens p h some small slash live = (h.0, All-push (λ c. (0 < c) × (c < 256)) more b h.1 (some, small))

-- a byte that leads on is not 0
leads_on : (rules : List RuleValue) (chart : Chart) (bytes set next : List ℕ) (b q : ℕ) → IsChartOf rules chart → b < 256 →
    IsStepOf chart set b next →
    ((p : ℕ) → Contains set p → IsNumber rules chart bytes p) → Contains next q → ((p : ℕ) × Contains set p) × (0 < b)
leads_on rules chart bytes set next b q is small step numbers h =
    let w = (step.live q).0 h in
    let n : IsNumber rules chart bytes w.0 = numbers w.0 w.2 in
    let d : ChartRule = n.drawn in
    let has : HasRule chart n.rule d = stands_so rules chart bytes w.0 is n in
    let taken = (has.taken w.0 b w.1 (omega (arith, n.number)) (omega (arith, n.number)) w.3 small).0 w.4 in
    ((w.0, w.2), (takes_within (pattern n.rule) (d.end + 1) w.0 b taken).1)

pub prefix_of_name : LiveAtFirst → LiveAfterByte → (rules : List RuleValue) (chart : Chart) (bytes set : List ℕ) →
    IsReached chart bytes set → IsChartOf rules chart → EachWithSlash rules →
    (q : ℕ) → Contains set q → IsPrefixOfName bytes
prefix_of_name first after rules chart bytes set (begins c s start) is slashes q h = tt
prefix_of_name first after rules chart bytes set (goes_on c front old s b reached small step) is slashes q h =
    let w = leads_on rules chart front old s b q is small step (λ p. (live_numbers first after rules chart front old reached is p).0) h in
    let n = (live_numbers first after rules chart (front ++ b ∷ []) s (goes_on chart front old s b reached small step) is q).0 h in
    longer front b n.rule.items n.place (prefix_of_name first after rules chart front old reached is slashes w.0.0 w.0.1) w.1 small
    (slashes n.index n.rule n.stands) n.live
