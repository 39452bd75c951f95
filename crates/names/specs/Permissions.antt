-- The permissions of file rules, the letters that stand for them, and sets of them (apparmor.d(5), "Access Modes").
use Rattle.std.specs.Prelude.{ℕ, Bool, List, [], ◌∷◌, Option, Some, None, ◌==◌, ◌&&◌, ◌||◌, map, filter, find, IsTrue, length}
use Rattle.std.specs.Prelude.{if◌then◌else◌}
use Rattle.std.specs.List.{list_all, list_any}
use Rattle.names.specs.Ascii as ascii
use Rattle.names.specs.declared.permissions.Permission.{Permission}
use Rattle.names.specs.declared.permissions.Permission.TheVariants.{Read, Write, Link, Lock, Map, Append}
use Rattle.names.specs.declared.permissions.Perms.{Perms}

-- the letter that stands for a permission in a rule
abbrev pub letter : Permission → ℕ
letter Read = ascii.letter_r
letter Write = ascii.letter_w
letter Link = ascii.letter_l
letter Lock = ascii.letter_k
letter Map = ascii.letter_m
letter Append = ascii.letter_a

-- every permission, in the order in which a set is printed
abbrev pub all_permissions : List Permission
all_permissions = Read ∷ Write ∷ Link ∷ Lock ∷ Map ∷ Append ∷ []

-- how many there are
abbrev pub permission_count : ℕ
permission_count = length all_permissions

-- the place of a permission in that order
abbrev pub index : Permission → ℕ
index Read = 0
index Write = 1
index Link = 2
index Lock = 3
index Map = 4
index Append = 5

-- the permission with this letter
abbrev pub permission_of : ℕ → Option Permission
permission_of b = find (λ p. letter p == b) all_permissions

-- the set has the permission
abbrev pub has : Perms → Permission → Bool
has s Read = s.read
has s Write = s.write
has s Link = s.link
has s Lock = s.lock
has s Map = s.map
has s Append = s.append

-- the set of the permissions that pass the test
abbrev pub set_of : (Permission → Bool) → Perms
set_of test = record {
  read = test Read;
  write = test Write;
  link = test Link;
  lock = test Lock;
  map = test Map;
  append = test Append;
}

-- the set and this permission
abbrev pub with_permission : Perms → Permission → Perms
with_permission s p = set_of (λ q. has s q || (letter q == letter p))

-- the set with this permission alone
abbrev pub only : Permission → Perms
only p = set_of (λ q. letter q == letter p)

-- what a rule with these letters holds: their permissions, and append if write is among them. apparmor.d(5), "Access Modes
-- Details", calls append a limited write access; apparmor_parser gives w both bits
abbrev pub is_held : Perms → Permission → Bool
is_held s p = has s p || (has s Write && (letter p == letter Append))

abbrev pub held : Perms → Perms
held s = set_of (is_held s)

-- no rule may have these letters: append and write conflict (apparmor.d(5), "Access Modes"), in one rule, as the parser has it
abbrev pub conflicts : Perms → Bool
conflicts s = has s Write && has s Append

-- some permission is in both sets
abbrev pub Shares : Perms → Perms → Type 0
Shares s t = (p : Permission) × IsTrue (has s p) × IsTrue (has t p)

-- the letters of a set, as it is printed
abbrev pub letters : Perms → List ℕ
letters s = map letter (filter (has s) all_permissions)

-- a letter of some permission
abbrev pub is_letter : ℕ → Bool
is_letter b = list_any (λ p. letter p == b) all_permissions

-- the set that a word of letters stands for; a letter that is repeated counts once
abbrev pub perms_of : List ℕ → Option Perms
perms_of word = if list_all is_letter word then Some (set_of (λ p. list_any (λ b. letter p == b) word)) else None
