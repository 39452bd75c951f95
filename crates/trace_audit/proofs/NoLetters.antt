-- A set with no permission.
use Rattle.std.proofs.Common.{◌≡◌, ◌↔◌, Bool, true, false, true≢false, List, [], ◌∷◌, IsTrue, ap, refl, sym}
use Rattle.std.specs.Prelude.{not}
use Rattle.std.specs.List.{list_any}
use Rattle.std.proofs.lemmas.Bool.{or_parts}
use Rattle.names.specs.declared.permissions.Permission.{Permission}
use Rattle.names.specs.declared.permissions.Permission.TheVariants.{Read, Write, Link, Lock, Map, Append}
use Rattle.names.specs.declared.permissions.Perms.{Perms}
use Rattle.names.specs.Permissions.{all_permissions, has}

has_none : (s : Perms) → ((p : Permission) → has s p ≡ false) → list_any (has s) all_permissions ≡ false
has_none s h = rw (h Read, h Write, h Link, h Lock, h Map, h Append) refl

none : (s : Perms) → list_any (has s) all_permissions ≡ false → (p : Permission) → has s p ≡ false
none s e =
    let r = or_parts s.read (list_any (has s) (Write ∷ Link ∷ Lock ∷ Map ∷ Append ∷ [])) e in
    let w = or_parts s.write (list_any (has s) (Link ∷ Lock ∷ Map ∷ Append ∷ [])) r.1 in
    let l = or_parts s.link (list_any (has s) (Lock ∷ Map ∷ Append ∷ [])) w.1 in
    let k = or_parts s.lock (list_any (has s) (Map ∷ Append ∷ [])) l.1 in
    let m = or_parts s.map (list_any (has s) (Append ∷ [])) k.1 in
    let a = or_parts s.append (list_any (has s) []) m.1 in
    by_cases s r.0 w.0 l.0 k.0 m.0 a.0
  where
    by_cases : (s : Perms) → s.read ≡ false → s.write ≡ false → s.link ≡ false → s.lock ≡ false → s.map ≡ false → s.append ≡ false
        → (p : Permission) → has s p ≡ false
    by_cases s r w l k m a Read = r
    by_cases s r w l k m a Write = w
    by_cases s r w l k m a Link = l
    by_cases s r w l k m a Lock = k
    by_cases s r w l k m a Map = m
    by_cases s r w l k m a Append = a

by_test : (s : Perms) (c : Bool) → list_any (has s) all_permissions ≡ c → (((p : Permission) → has s p ≡ false) → false ≡ true)
    → false ≡ not (list_any (has s) all_permissions)
by_test s true e h = sym (ap not e)
by_test s false e h = absurd (true≢false (sym (h (none s e))))

pub empty : (s : Perms) (b : Bool) → IsTrue b ↔ ((p : Permission) → has s p ≡ false) → b ≡ not (list_any (has s) all_permissions)
empty s true h = sym (ap not (has_none s (h.0 refl)))
empty s false h = by_test s (list_any (has s) all_permissions) refl h.1
