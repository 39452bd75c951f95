-- Which rule decides, by the least hits of the rules and of the reversed rules.
use Rattle.std.specs.Prelude.{◌≡◌, ◌==◌, ◌⊎◌, ◌↔◌, ℕ, ◌+◌, ◌<◌, false, true, List, length, slice_index_or, if◌then◌else◌}
use Rattle.names.specs.declared.permissions.Permission.{Permission}
use Rattle.names.specs.declared.permissions.Perms.{Perms}
use Rattle.names.specs.declared.record.LeastHits.{LeastHits}
use Rattle.names.specs.declared.record.Record.{Record}
use Rattle.names.specs.Least.{hits_of}
use Rattle.names.specs.Permissions.{has, set_of}

-- The one number of a set of numbers from 1 to `count`, 0 where it has none or several. It is given by its least number, and
-- by the least when they are counted from the other end.
abbrev pub lone_number : ℕ → ℕ → ℕ → ℕ
lone_number count least reversed = if least + reversed == count + 1 then least else 0

-- the number of the rule that decides, 0 where none does
abbrev pub decider : ℕ → LeastHits → LeastHits → ℕ
decider count hits reversed =
    if hits.deny == 0 then lone_number count hits.allow reversed.allow
    else if hits.allow == 0 then 0
    else lone_number count hits.deny reversed.deny

abbrev pub no_perms : Perms
no_perms = set_of (λ p. false)

-- the rule with number i + 1 is noted to decide the permission
abbrev pub IsNoted : List Perms → ℕ → Permission → Type 0
IsNoted decided i p = has (slice_index_or decided i no_perms) p ≡ true

-- each rule that was noted still is, and so is each that decides by these records
pub record AreNoted (hits reversed : Record) (old new : List Perms) : Type 0 where
  pub each : length new ≡ length old
  pub noted : (i : ℕ) (p : Permission) → i < length old →
      IsNoted new i p ↔ (IsNoted old i p ⊎ (decider (length old) (hits_of hits p) (hits_of reversed p) ≡ i + 1))

-- the rule with this number is noted to decide this permission, too
pub record IsAdded (number : ℕ) (added : Permission) (old new : List Perms) : Type 0 where
  pub each : length new ≡ length old
  pub noted : (i : ℕ) (p : Permission) → i < length old → IsNoted new i p ↔ (IsNoted old i p ⊎ ((number ≡ i + 1) × (p ≡ added)))
