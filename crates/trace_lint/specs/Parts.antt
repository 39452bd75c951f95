-- The parts of rules that decide nothing.
use Rattle.std.specs.Prelude.{ℕ, ◌-◌, Bool, false, not, ◌&&◌, List, [], ◌∷◌, Option, Some, None, filter, flat_map, length, map, slice_get}
use Rattle.std.specs.Prelude.{slice_index_or, if◌then◌else◌}
use Rattle.std.specs.List.{list_all, list_any, range_with_len}
use Rattle.std.specs.Option.{option_map_or}
use Rattle.names.specs.Permissions.{all_permissions, has, held, only, set_of}
use Rattle.names.specs.declared.permissions.Permission.{Permission}
use Rattle.names.specs.declared.permissions.Perms.{Perms}
use Rattle.rule_globs.specs.Rules.{RuleValue}
use Rattle.rule_influence.specs.declared.substitutes.IdleCase.{IdleCase}
use Rattle.trace_lint.specs.declared.findings.Part.{Part}

abbrev pub no_perms : Perms
no_perms = set_of (λ p. false)

-- the letters of the rule with this number
abbrev pub letters_of : List RuleValue → ℕ → Perms
letters_of rules n = option_map_or (λ rule. rule.perms) (slice_get rules (n - 1)) no_perms

-- the permissions that it decides
abbrev pub decided_by : List Perms → ℕ → Perms
decided_by decided n = slice_index_or decided (n - 1) no_perms

-- nothing is decided
abbrev pub decides_nothing : Perms → Bool
decides_nothing decided = list_all (λ p. not (has decided p)) all_permissions

-- nothing of these permissions is decided
abbrev pub decides_none_of : Perms → Perms → Bool
decides_none_of perms decided = not (list_any (λ p. has perms p && has decided p) all_permissions)

-- what a rule holds by one letter
abbrev pub held_by : Permission → Perms
held_by letter = held (only letter)

-- the letters by which a rule decides nothing, in the order in which a set is printed
abbrev pub idle_letters : Perms → Perms → List Permission
idle_letters letters decided = filter (λ letter. has letters letter && decides_none_of (held_by letter) decided) all_permissions

-- all of a rule with these letters if it decides nothing, and otherwise each letter by which it decides nothing
abbrev pub parts_of_rule : ℕ → Perms → Perms → List Part
parts_of_rule n letters decided =
    if decides_nothing decided then record { rule = n; letter = None } ∷ []
    else map (λ letter. record { rule = n; letter = Some letter }) (idle_letters letters decided)

-- those of all rules, in their order
abbrev pub idle_parts : List RuleValue → List Perms → List Part
idle_parts rules decided =
    flat_map (λ n. parts_of_rule n (letters_of rules n) (decided_by decided n)) (range_with_len 1 (length rules))

-- what a rule holds by a part of it
abbrev pub held_by_part : Perms → Option Permission → Perms
held_by_part letters None = held letters
held_by_part letters (Some letter) = held_by letter

-- the rule of a part, and what it holds by that part
abbrev pub case_of : List RuleValue → Part → IdleCase
case_of rules part = record { rule = part.rule; perms = held_by_part (letters_of rules part.rule) part.letter }
