-- The code's groups as those of the definitions.
use Rattle.std.specs.Prelude.{ℕ, suc, List, [], ◌∷◌, Option, Some, None, option_map, if◌then◌else◌}
use Rattle.audit_log.specs.Denials.{DenialValue, denial_value}
use Rattle.trace_audit.specs.Groups as groups
use Rattle.trace_audit.specs.Groups.{is_same}
use Rattle.trace_audit.specs.declared.groups.Group.{Group}

abbrev pub group_value : Group → groups.Group
group_value g = record { denial = denial_value g.denial; line = g.line; again = g.again.items }

-- the place of the group of a denial, if it has one
abbrev pub place_of : List groups.Group → DenialValue → Option ℕ
place_of [] d = None
place_of (group ∷ groups) d = if is_same group.denial d then Some 0 else option_map (λ place. suc place) (place_of groups d)
