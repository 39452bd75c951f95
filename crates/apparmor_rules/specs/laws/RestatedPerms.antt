-- Permissions that are restated: all that the rule holds, except link that is bound to a target.
use Rattle.std.proofs.Common.{◌≡◌, Bool, true, false, not, ◌&&◌, ◌||◌, ◌==◌, ⊎_elim, List, ℕ, Option, Some, None, IsTrue, is_some, cond}
use Rattle.std.proofs.Common.{refl, sym, ap, ◌∙◌, subst, true≢false, rules, arith}
use Rattle.std.proofs.lemmas.Bool.{and_parts, and_from, cases_Bool, not_from_false}
use Rattle.names.specs.declared.permissions.Permission.{Permission}
use Rattle.names.specs.declared.permissions.Permission.TheVariants.{Append, Link, Write}
use Rattle.names.specs.declared.permissions.Perms.{Perms}
use Rattle.names.specs.Permissions.{conflicts, has, held, is_held, letter, only}
use Rattle.names.specs.laws.PermissionSets.{found, has-set_of, none_found, one_found, only_one}
use Rattle.apparmor_rules.specs.SecondJudge.{IsTargetMet}
use Rattle.apparmor_rules.specs.Restatement.{fitting_letters, has_some, restated_perms, without}
use Rattle.apparmor_rules.specs.SubjectRules.{Unknown}

-- ---- letters

pub some_held : (perms : Perms) (p : Permission) → IsTrue (has perms p) → has_some perms ≡ true
some_held perms p h = found (has perms) p h

-- what is restated is among the rule's letters
pub held_before : (perms : Perms) (has_target : Bool) (p : Permission) → IsTrue (has (restated_perms perms has_target) p) →
    IsTrue (has perms p)
held_before perms true p h =
    (and_parts (has perms p) (not (has (only Link) p)) (sym (has-set_of (λ q. has perms q && not (has (only Link) q)) p) ∙ h)).0
held_before perms false p h = h

-- link that is bound to a target isn't restated
pub link_stays_out : (perms : Perms) → IsTrue (has (without Link perms) Link) → ⊥
link_stays_out perms h = true≢false (sym (and_parts (has perms Link) false h).1)

-- what is restated needs no target
pub met : (unknown : Unknown) (target : Option (List ℕ)) (perms : Perms) (p : Permission) →
    IsTrue (has (restated_perms perms (is_some target)) p) → p ≡ Link → IsTargetMet unknown target
met unknown None perms p h is = tt
met unknown (Some text) perms p h is = absurd (link_stays_out perms (subst (λ q. IsTrue (has (without Link perms) q)) is h))

pub held_after : (perms : Perms) (has_target : Bool) (p : Permission) → (has_target && has perms Link) ≡ false →
    IsTrue (has perms p) → IsTrue (has (restated_perms perms has_target) p)
held_after perms true p no_link h =
    has-set_of (λ q. has perms q && not (has (only Link) q)) p
    ∙ and_from (has perms p) (not (has (only Link) p)) h (⊎_elim
    (λ is. absurd (true≢false (sym (subst (λ q. IsTrue (has perms q)) (only_one Link p is) h) ∙ no_link)))
    (λ isnt. not_from_false (has (only Link) p) isnt)
    (cases_Bool (has (only Link) p)))
held_after perms false p no_link h = h

-- ---- what letters hold

-- a rule holds its letters
pub letter_held : (perms : Perms) (p : Permission) → IsTrue (has perms p) → IsTrue (has (held perms) p)
letter_held perms p h =
    has-set_of (is_held perms) p ∙ ap (λ b. b || (has perms Write && (letter p == letter Append))) h

-- what a rule holds, it holds by some letter
pub some_letter : (perms : Perms) (p : Permission) → IsTrue (has (held perms) p) → has_some perms ≡ true
some_letter perms p h = ⊎_elim
    (λ is. some_held perms p is)
    (λ isnt. some_held perms Write (and_parts (has perms Write) (letter p == letter Append)
    (ap (λ b. b || (has perms Write && (letter p == letter Append))) (sym isnt) ∙ sym (has-set_of (is_held perms) p) ∙ h)).0)
    (cases_Bool (has perms p))

pub held_link : (perms : Perms) → has (held perms) Link ≡ has perms Link
held_link = search (rules, arith)

-- what is held without the letter of link is what is held, without link
held_without_link : (perms : Perms) → held (without Link perms) ≡ without Link (held perms)
held_without_link = search (rules, arith)

held_restated : (perms : Perms) (has_target : Bool) → held (restated_perms perms has_target) ≡ restated_perms (held perms) has_target
held_restated perms true = held_without_link perms
held_restated perms false = refl

-- letters that are restated are of what is restated of what the rule holds
pub letter_restated : (perms : Perms) (has_target : Bool) (p : Permission) → IsTrue (has (restated_perms perms has_target) p) →
    IsTrue (has (restated_perms (held perms) has_target) p)
letter_restated perms has_target p h =
    subst (λ s. IsTrue (has s p)) (held_restated perms has_target) (letter_held (restated_perms perms has_target) p h)

-- ---- letters that a rule may have

-- where write is a letter, that of append adds nothing
held_fitting : (perms : Perms) → held (fitting_letters perms) ≡ held perms
held_fitting = search (rules, arith)

-- the letters of a restated rule hold what is restated of what the rule holds
pub held_by_letters : (perms : Perms) (has_target : Bool) →
    held (fitting_letters (restated_perms perms has_target)) ≡ restated_perms (held perms) has_target
held_by_letters perms has_target = held_fitting (restated_perms perms has_target) ∙ held_restated perms has_target

pub fitting : (perms : Perms) → conflicts (fitting_letters perms) ≡ false
fitting = search (rules, arith)

pub some_fitting : (perms : Perms) → has_some perms ≡ true → has_some (fitting_letters perms) ≡ true
some_fitting perms h =
    let some = one_found (has perms) h in
    some_letter (fitting_letters perms) some.0
    (subst (λ s. IsTrue (has s some.0)) (sym (held_fitting perms)) (letter_held perms some.0 some.1))

-- letters that don't conflict stay as they are
pub already_fitting : (perms : Perms) → conflicts perms ≡ false → fitting_letters perms ≡ perms
already_fitting perms fit = ap (λ b. cond b (without Append perms) perms) fit

-- by the test of an empty set
pub not_empty : (perms : Perms) (empty : Bool) → (empty ≡ true → (p : Permission) → has perms p ≡ false) →
    (((p : Permission) → has perms p ≡ false) → empty ≡ true) → not empty ≡ has_some perms
not_empty perms true is_empty is = ⊎_elim
    (λ h. let some = one_found (has perms) h in absurd (true≢false (sym some.1 ∙ is_empty refl some.0)))
    (λ h. sym h)
    (cases_Bool (has_some perms))
not_empty perms false is_empty is = ⊎_elim
    (λ h. sym h)
    (λ h. absurd (true≢false (sym (is (none_found (has perms) h)))))
    (cases_Bool (has_some perms))
