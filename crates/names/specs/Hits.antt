-- The least hits, one matching rule after another, in the order of their numbers.
use Rattle.std.specs.Prelude.{ℕ, ◌==◌, if◌then◌else◌}
use Rattle.names.specs.declared.permissions.Permission.{Permission}
use Rattle.names.specs.declared.permissions.Perms.{Perms}
use Rattle.names.specs.Permissions.{has}
use Rattle.names.specs.declared.kind.RuleKind.{RuleKind}
use Rattle.names.specs.declared.kind.RuleKind.TheVariants.{Allow, Deny}
use Rattle.names.specs.declared.record.Record.{Record}
use Rattle.names.specs.declared.record.LeastHits.{LeastHits}
use Rattle.names.specs.Least.{hits_of, no_hit, record_of}

-- the number that was there, or else the new one
abbrev pub first_number : ℕ → ℕ → ℕ
first_number old n = if old == 0 then n else old

-- one more hit of this kind
abbrev pub hits_with : LeastHits → RuleKind → ℕ → LeastHits
hits_with h Allow n = record { allow = first_number h.allow n; deny = h.deny }
hits_with h Deny n = record { allow = h.allow; deny = first_number h.deny n }

-- the hits of a permission after one more rule that matches and holds these permissions
abbrev pub hits_after : Record → RuleKind → Perms → ℕ → Permission → LeastHits
hits_after r kind perms n p = if has perms p then hits_with (hits_of r p) kind n else hits_of r p

-- the record after one more such rule
abbrev pub record_with : Record → RuleKind → Perms → ℕ → Record
record_with r kind perms n = record_of (hits_after r kind perms n)

-- no rule hits
abbrev pub no_hits : Record
no_hits = record_of (λ p. no_hit)
