-- Records of the least hits of each permission (apparmor.d(5), "Rule Qualifiers").
use Rattle.std.specs.Prelude.{◌≡◌, ◌⊎◌, ◌==◌, ◌≤◌, ℕ, List, map, refl, slice_index_or, if◌then◌else◌}
use Rattle.names.specs.declared.permissions.Permission.{Permission}
use Rattle.names.specs.Permissions.{all_permissions, index}
use Rattle.names.specs.declared.record.Record.{Record}
use Rattle.names.specs.declared.record.LeastHits.{LeastHits}

-- no rule hits
abbrev pub no_hit : LeastHits
no_hit = record { allow = 0; deny = 0 }

-- the hits of a permission: they are in the order of all permissions
abbrev pub hits_of : Record → Permission → LeastHits
hits_of r p = slice_index_or r.hits (index p) no_hit

-- the hits of all permissions, in their order
unfoldable pub hits_list : Record → List LeastHits
hits_list r = map (hits_of r) all_permissions

-- the record that has these hits for each permission
abbrev pub record_of : (Permission → LeastHits) → Record
record_of hits = record { hits = map hits all_permissions; each = refl }

-- the record with other hits of this permission
abbrev pub with_hits : Record → Permission → LeastHits → Record
with_hits r p hits = record_of (λ q. if index q == index p then hits else hits_of r q)

-- n is the least member of a set
abbrev pub IsLeast : (ℕ → Type 0) → ℕ → Type 0
IsLeast S n = S n × ((m : ℕ) → S m → n ≤ m)

-- the least member of a set of rules' numbers, 0 for the empty set
abbrev pub IsLeastOrNone : (ℕ → Type 0) → ℕ → Type 0
IsLeastOrNone S n = ((n ≡ 0) × ((m : ℕ) → ¬ (S m))) ⊎ IsLeast S n
