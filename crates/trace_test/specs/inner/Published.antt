-- The rules that a test has published, and how commands change them.
use Rattle.std.specs.Ordering.{nat_cmp}
use Rattle.std.specs.Cmp.Lexicographic.{slice_cmp}
use Rattle.std.specs.BTreeMap.{get_by}
use Rattle.std.specs.Prelude.{ℕ, Bool, List, Option, Some, None, option_map, Result, Ok, Err, Vec, bytes_eq, if◌then◌else◌}
use Rattle.std.specs.declared.alloc.Global.{Global}
use Rattle.glob_automaton.specs.Automata.{StateLimit}
use Rattle.rule_profile.specs.Profile.{ProfileValue, RuleValue, profile_value}
use Rattle.rule_profile.specs.declared.profile.Profile.{Profile}
use Rattle.rule_reader.specs.declared.fault.ReadFault.{ReadFault}
use Rattle.rule_reader.specs.ReadText.{outcome_of}
use Rattle.trace_script.specs.Script.{Command, publish, remove, alter, judge_open, judge_link}
use Rattle.trace_test.specs.Questions.{RulesByName}
use Rattle.trace_test.specs.declared.published.Published.{Published}

abbrev pub rules_in : Published → RulesByName
rules_in published name = option_map (λ (p : Profile). (profile_value p).rules)
    (get_by (λ (key : Vec ℕ Global). slice_cmp nat_cmp name key.items) published.by_name)

abbrev pub with_rules : RulesByName → List ℕ → List RuleValue → RulesByName
with_rules published own rules name = if bytes_eq own name then Some rules else published name

abbrev pub without_rules : RulesByName → List ℕ → RulesByName
without_rules published own name = if bytes_eq own name then None else published name

-- after a profile, if it isn't over the limit
abbrev pub with_profile : RulesByName → ProfileValue → Bool → RulesByName
with_profile published profile is_over = if is_over then published else with_rules published profile.name profile.rules

-- after a policy
abbrev pub with_outcome : StateLimit → Result ProfileValue ReadFault → RulesByName → RulesByName
with_outcome limit (Ok profile) published = with_profile published profile (limit.is_over profile.rules)
with_outcome limit (Err fault) published = published

-- after a command of `run`
abbrev pub published_by : StateLimit → Command → RulesByName → RulesByName
published_by limit (publish text) published = with_outcome limit (outcome_of text) published
published_by limit (remove name) published = without_rules published name
published_by limit (alter words) published = published
published_by limit (judge_open profile path asked) published = published
published_by limit (judge_link profile old new) published = published
