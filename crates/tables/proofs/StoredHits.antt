-- The hits of a record that are stored.
use Rattle.std.proofs.Common.{◌≡◌, ℕ, ◌<◌, ◌≤◌, List, ◌++◌, All, get_or, length, map, take, refl, rules, sym, ap, ◌∙◌, subst, arith}
use Rattle.std.proofs.Common.{take_all}
use Rattle.std.specs.List.{concat}
use Rattle.std.proofs.lemmas.List.{get_or-map, length-map}
use Rattle.std.proofs.lemmas.List.Elements.{All-map}
use Rattle.names.specs.declared.permissions.Permission.{Permission}
use Rattle.names.specs.declared.permissions.Permission.TheVariants.{Append, Write}
use Rattle.names.specs.Permissions.{index}
use Rattle.names.specs.Least.{hits_of, no_hit}
use Rattle.names.specs.declared.record.LeastHits.{LeastHits}
use Rattle.names.specs.declared.record.Record.{Record}
use Rattle.tables.specs.Images.{AreShort, IsShortRecord, hits_bytes, record_bytes, stored_permissions}
use Rattle.tables.specs.inner.ReadTables.{stored_for}
use Rattle.tables.specs.declared.header.Version.{Version}
use Rattle.tables.specs.declared.header.Version.TheVariants.{First, Second}

abbrev pub stored_hits : Version → Record → List LeastHits
stored_hits v r = map (hits_of r) (stored_permissions v)

pub stored_hits_long : (v : Version) (r : Record) → length (stored_hits v r) ≡ length (stored_permissions v)
stored_hits_long v r = length-map (stored_permissions v) (hits_of r)

-- those at a place of the list
pub hits_at_place : (v : Version) (r : Record) (list : List Permission) (i : ℕ) (d : Permission) → list ≡ stored_permissions v →
    i < length (stored_hits v r) → hits_of r (get_or list i d) ≡ get_or (stored_hits v r) i no_hit
hits_at_place v r list i d is lt =
    ap (λ l. hits_of r (get_or l i d)) is
    ∙ sym (get_or-map (hits_of r) (stored_permissions v) i d no_hit (omega (arith, lt, stored_hits_long v r)))

-- the permission that is read for another is stored, at its own index
pub stored_place : (v : Version) (p : Permission) → index (stored_for v p) < length (stored_permissions v)
stored_place = search (rules, arith)

stored_there : (v : Version) (p d : Permission) → get_or (stored_permissions v) (index (stored_for v p)) d ≡ stored_for v p
stored_there = search (rules, arith)

pub stored_hit : (v : Version) (r : Record) (p : Permission) → get_or (stored_hits v r) (index (stored_for v p)) no_hit
    ≡ hits_of r (stored_for v p)
stored_hit v r p = get_or-map (hits_of r) (stored_permissions v) (index (stored_for v p)) p no_hit (stored_place v p)
    ∙ ap (hits_of r) (stored_there v p p)

-- of a record that the version can hold, it has the same hits
pub held_hits : (v : Version) (r : Record) → (v ≡ First → hits_of r Append ≡ hits_of r Write) → (p : Permission) →
    hits_of r p ≡ hits_of r (stored_for v p)
held_hits First r held Append = held refl
held_hits First r held p = refl
held_hits Second r held p = refl

pub all_short : (v : Version) (r : Record) → IsShortRecord r → All AreShort (stored_hits v r)
all_short v r short = All-map AreShort (hits_of r) (stored_permissions v) (λ k d lt. short (get_or (stored_permissions v) k d))

-- if what is stored of such a record fits, all of it does
pub short_by_stored : (v : Version) (r : Record) → (v ≡ First → hits_of r Append ≡ hits_of r Write) → All AreShort (stored_hits v r) →
    IsShortRecord r
short_by_stored v r held short p = subst AreShort (sym (held_hits v r held p ∙ sym (stored_hit v r p)))
    (short (index (stored_for v p)) no_hit (omega (arith, stored_place v p, stored_hits_long v r)))

-- the hits of all permissions that are stored
pub bytes_all : (v : Version) (r : Record) (i : ℕ) (old now : List ℕ) → length (stored_permissions v) ≤ i →
    now ≡ old ++ concat (map hits_bytes (take i (stored_hits v r))) → now ≡ old ++ record_bytes v r
unfolding record_bytes
bytes_all v r i old now le e = e ∙ ap (λ hits. old ++ concat (map hits_bytes hits))
    (take_all i (stored_hits v r) (omega (arith, le, stored_hits_long v r)))
