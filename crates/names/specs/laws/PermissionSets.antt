-- Sets of permissions, member by member.
use Rattle.std.proofs.Common.{◌≡◌, Bool, true, false, ◌&&◌, ◌==◌, ◌↔◌, ⊎_elim, IsTrue, Some, refl, sym, ap, ◌∙◌}
use Rattle.std.proofs.Common.{arith, eq-eqb, rules, true≢false}
use Rattle.std.specs.List.{list_all, list_any}
use Rattle.std.proofs.lemmas.Bool.{cases_Bool, eqb-true, and_parts, and_from}
use Rattle.std.proofs.lemmas.List.Folds.{Any-from_list_any, list_all_at, list_any_at}
use Rattle.names.specs.declared.permissions.Permission.{Permission}
use Rattle.names.specs.declared.permissions.Perms.{Perms}
use Rattle.names.specs.Permissions.{letter, has, set_of, permission_of, all_permissions, index, Shares, only}
use Rattle.names.specs.laws.Positions.{place_below, stands_there}

pub has-set_of : (test : Permission → Bool) (p : Permission) → has (set_of test) p ≡ test p
has-set_of = search (rules, arith)

-- sets with the same members are the same
pub same_perms : (s t : Perms) → ((p : Permission) → has s p ≡ has t p) → s ≡ t
same_perms s t h = λ i. set_of (λ p. h p i)

-- what passes the test is found among all permissions
pub found : (test : Permission → Bool) (p : Permission) → test p ≡ true → list_any test all_permissions ≡ true
found test p h = list_any_at test all_permissions (index p) p (place_below p) (ap test (stands_there p p) ∙ h)

-- what is found passes the test
pub one_found : (test : Permission → Bool) → list_any test all_permissions ≡ true → (p : Permission) × (test p ≡ true)
one_found test h = let some = Any-from_list_any test all_permissions h in (some.1, some.4)

-- where none is found, this one doesn't pass
pub none_found : (test : Permission → Bool) → list_any test all_permissions ≡ false → (p : Permission) → test p ≡ false
none_found test h p = ⊎_elim (λ is. let never : true ≡ false = sym (found test p is) ∙ h in let e : ⊥ = cc (never) in absurd e) (λ f. f)
    (cases_Bool (test p))

-- the computed form of `Shares`
pub shares_by_any : (s t : Perms) → IsTrue (list_any (λ p. has s p && has t p) all_permissions) ↔ Shares s t
shares_by_any s t = (
  λ h. let some = one_found (λ p. has s p && has t p) h in
      let both = and_parts (has s some.0) (has t some.0) some.1 in (some.0, both.0, both.1),
  λ h. found (λ p. has s p && has t p) h.0 (and_from (has s h.0) (has t h.0) h.1 h.2),
)

-- a set that isn't empty has a member
pub some_member : (s : Perms) → (((p : Permission) → has s p ≡ false) → ⊥) → (p : Permission) × IsTrue (has s p)
some_member s not_empty = ⊎_elim
    (λ h. one_found (has s) h)
    (λ h. absurd (not_empty (λ p. ⊎_elim
    (λ t. let never : true ≡ false = sym (found (has s) p t) ∙ h in let e : ⊥ = cc (never) in absurd e)
    (λ f. f) (cases_Bool (has s p)))))
    (cases_Bool (list_any (has s) all_permissions))

letter_again : (p : Permission) → permission_of (letter p) ≡ Some p
letter_again = search (rules, arith)

pub same_letter : (p q : Permission) → letter p ≡ letter q → p ≡ q
same_letter p q h =
    let e : Some p ≡ Some q = sym (letter_again p) ∙ ap permission_of h ∙ letter_again q in
    cc (e)

pub has-only : (p : Permission) → IsTrue (has (only p) p)
has-only p = has-set_of (λ q. letter q == letter p) p ∙ eq-eqb (letter p) (letter p) refl

pub only_one : (p q : Permission) → IsTrue (has (only p) q) → q ≡ p
only_one p q h = same_letter q p (eqb-true (letter q) (letter p) (sym (has-set_of (λ r. letter r == letter p) q) ∙ h))

-- each permission passes a test just where all of them do
pub all_pass : (test : Permission → Bool) → ((p : Permission) → test p ≡ true) → list_all test all_permissions ≡ true
all_pass test h = search (rules, h)

pub each_passes : (test : Permission → Bool) → list_all test all_permissions ≡ true → (p : Permission) → test p ≡ true
each_passes test h p = ⊎_elim
    (λ t. t)
    (λ f. absurd (true≢false (sym h ∙ list_all_at test all_permissions (index p) p (place_below p) (ap test (stands_there p p) ∙ f))))
    (cases_Bool (test p))
