-- Links, by what their names are allowed.
use Rattle.std.proofs.Common.{subst, ◌≡◌, ◌≢◌, Bool, true, false, ◌&&◌, ◌||◌, ◌==◌, ◌↔◌, ℕ, List, IsTrue, refl, sym, ap, ◌∙◌}
use Rattle.std.proofs.Common.{eq-eqb, true≢false}
use Rattle.std.specs.Prelude.{not, if◌then◌else◌}
use Rattle.std.specs.List.{list_any}
use Rattle.std.proofs.lemmas.Bool.{cases_Bool, eqb-true}
use mathlib.Core.Logic.{⊎_elim}
use Rattle.names.specs.declared.permissions.Permission.{Permission}
use Rattle.names.specs.declared.permissions.Permission.TheVariants.{Link}
use Rattle.names.specs.declared.permissions.Perms.{Perms}
use Rattle.names.specs.Permissions.{has, only, letter, with_permission, all_permissions}
use Rattle.rule_judge.specs.Links.{is_allowed, allowed, extra, widening, link_verdict, IsSubset}
use Rattle.rule_judge.specs.declared.links.LinkVerdict.TheVariants.{Refused, Wider, Fine}
use Rattle.names.specs.declared.verdict.Verdict.{Verdict}
use Rattle.names.specs.declared.verdict.Verdict.TheVariants.{Denied, NoRule, Allowed}
use Rattle.rule_profile.specs.Profile.{RuleValue}
use Rattle.rule_globs.specs.PlainVerdict.{verdict}
use Rattle.rule_globs.specs.Verdict.{IsVerdict, IsAllowed}
use Rattle.names.specs.laws.PermissionSets.{has-set_of, found, one_found, same_letter}

-- a set without members widens nothing
pub widening_nothing : (s : Perms) → ((p : Permission) → has s p ≡ false) → Fine ≡ widening s
widening_nothing s nothing = ⊎_elim
    (λ h. let some = one_found (has s) h in absurd (true≢false (sym some.1 ∙ nothing some.0)))
    (λ h. sym (ap (λ (b : Bool). if b then Wider s else Fine) h))
    (cases_Bool (list_any (has s) all_permissions))

-- and one with members does
pub widening_something : (s : Perms) → (((p : Permission) → has s p ≡ false) → ⊥) → Wider s ≡ widening s
widening_something s something = ⊎_elim
    (λ h. sym (ap (λ (b : Bool). if b then Wider s else Fine) h))
    (λ h. absurd (something (λ p. ⊎_elim
    (λ t. absurd (true≢false (sym (found (has s) p t) ∙ h)))
    (λ f. f) (cases_Bool (has s p)))))
    (cases_Bool (list_any (has s) all_permissions))

-- what is extra is held by the new set, isn't link, and isn't held by the old one
extra_of : (old new : Perms) (p : Permission) → has (extra old new) p ≡ (has new p && not (has old p || (letter p == letter Link)))
extra_of old new p =
    has-set_of (λ q. has new q && not (has (with_permission old Link) q)) p
    ∙ ap (λ (b : Bool). has new p && not b) (has-set_of (λ q. has old q || (letter q == letter Link)) p)

link_letter : (p : Permission) → p ≢ Link → (letter p == letter Link) ≡ false
link_letter p other = ⊎_elim (λ is. absurd (other (same_letter p Link (eqb-true (letter p) (letter Link) is)))) (λ f. f)
    (cases_Bool (letter p == letter Link))

held : (a b : Bool) → a ≡ true → (a && not (b || false)) ≡ false → b ≡ true
held true true is none = refl
held true false is none = absurd (true≢false none)
held false b is none = absurd (true≢false (sym is))

none_extra : (a b : Bool) → (a ≡ true → b ≡ true) → (a && not (b || false)) ≡ false
none_extra true true given = refl
none_extra true false given = absurd (true≢false (sym (given refl)))
none_extra false b given = refl

linked : (a b : Bool) → (a && not (b || true)) ≡ false
linked true true = refl
linked true false = refl
linked false b = refl

-- nothing extra, member by member
pub subset_of : (old new : Perms) → ((p : Permission) → has (extra old new) p ≡ false) → IsSubset old new
subset_of old new nothing p other is =
    held (has new p) (has old p) is
    (ap (λ (b : Bool). has new p && not (has old p || b)) (sym (link_letter p other)) ∙ sym (extra_of old new p) ∙ nothing p)

not_link : (old new : Perms) (p : Permission) → IsSubset old new → p ≢ Link → has (extra old new) p ≡ false
not_link old new p subset other =
    extra_of old new p
    ∙ ap (λ (b : Bool). has new p && not (has old p || b)) (link_letter p other)
    ∙ none_extra (has new p) (has old p) (subset p other)

-- link itself is never extra
link_is_none : (old new : Perms) (p : Permission) → (letter p == letter Link) ≡ true → has (extra old new) p ≡ false
link_is_none old new p is =
    extra_of old new p ∙ ap (λ (b : Bool). has new p && not (has old p || b)) is ∙ linked (has new p) (has old p)

pub nothing_extra : (old new : Perms) → IsSubset old new → (p : Permission) → has (extra old new) p ≡ false
nothing_extra old new subset p = ⊎_elim
    (λ is. link_is_none old new p is)
    (λ f. not_link old new p subset (λ is. true≢false (sym (eq-eqb (letter p) (letter Link) (ap letter is)) ∙ f)))
    (cases_Bool (letter p == letter Link))

wider_is_fine : (s : Perms) → Wider s ≡ Fine → ⊥
wider_is_fine s e = absurd (cc e)

refused_is_fine : (v : Verdict) → Refused v ≡ Fine → ⊥
refused_is_fine v e = absurd (cc e)

-- fine links are those whose new name is one to link to and widens nothing
pub fine : (old new : Perms) (v : Verdict) → (link_verdict old new v ≡ Fine) ↔ ((v ≡ Allowed) × IsSubset old new)
fine old new (Denied rule) = (λ e. absurd (refused_is_fine (Denied rule) e), λ h. absurd (cc (h.0)))
fine old new (NoRule missing) = (λ e. absurd (refused_is_fine (NoRule missing) e), λ h. absurd (cc (h.0)))
fine old new Allowed = (
  λ e. (
    refl,
    subset_of old new (λ p. ⊎_elim
        (λ is. absurd (wider_is_fine (extra old new) (widening_something (extra old new) (λ nothing. true≢false (sym is ∙ nothing p))
        ∙ e)))
        (λ f. f) (cases_Bool (has (extra old new) p))),
  ),
  λ h. sym (widening_nothing (extra old new) (nothing_extra old new h.1)),
)

allowed_is : (v : Verdict) → is_allowed v ≡ true → v ≡ Allowed
allowed_is Allowed h = refl
allowed_is (Denied rule) h = absurd (true≢false (sym h))
allowed_is (NoRule missing) h = absurd (true≢false (sym h))

-- the set of the permissions that are allowed has just these
pub allowed_set : ((rules : List RuleValue) (name : List ℕ) (ask : Perms) → IsVerdict rules name ask (verdict rules name ask)) →
    ((rules : List RuleValue) (name : List ℕ) (ask : Perms) (v w : Verdict) → IsVerdict rules name ask v →
    IsVerdict rules name ask w → v ≡ w) →
    (rules : List RuleValue) (name : List ℕ) (p : Permission) → IsTrue (has (allowed rules name) p) ↔ IsAllowed rules name p
allowed_set verdict_is_right one_verdict rules name p =
    let of : has (allowed rules name) p ≡ is_allowed (verdict rules name (only p)) =
    has-set_of (λ q. is_allowed (verdict rules name (only q))) p in
    let right = verdict_is_right rules name (only p) in (
      λ h. subst (IsVerdict rules name (only p)) (allowed_is (verdict rules name (only p)) (sym of ∙ h)) right,
      λ h. of ∙ ap is_allowed (one_verdict rules name (only p) (verdict rules name (only p)) Allowed right h),
    )

-- p is allowed, asked by itself
abbrev pub is_allowed_by : List RuleValue → List ℕ → Permission → Bool
is_allowed_by rules name p = is_allowed (verdict rules name (only p))
