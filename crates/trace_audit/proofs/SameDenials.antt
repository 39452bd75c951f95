-- Denials that `==` and the order find equal are the same.
use Rattle.std.specs.Option.{option_eq}
use Rattle.std.proofs.Common.{◌≡◌, ◌∙◌, Bool, true, false, List, ℕ, Option, Some, None, Vec, refl, sym}
use Rattle.std.specs.Prelude.{◌&&◌, bytes_eq, not, option_map, if◌then◌else◌}
use Rattle.std.specs.Cmp.{IsEquivalence, eq_by_cmp_equiv}
use Rattle.std.specs.Ordering.{eq_by_cmp, is_eq}
use Rattle.std.specs.declared.alloc.Global.{Global}
use Rattle.std.proofs.Math.Bool.{beq}
use Rattle.std.proofs.lemmas.Cmp.{nat_list_eq_equiv}
use Rattle.audit_log.specs.Denials.{denial_value}
use Rattle.audit_log.specs.declared.denial.Denial.{Denial}
use Rattle.audit_log.specs.contracts.denial.DenialOrd.TheImpl as denial_order
use Rattle.audit_log.specs.contracts.denial.DenialOrd.TheImpl.Laws as order_laws
use Rattle.audit_log.specs.contracts.denial.DenialPartialEq.TheImpl as denial_impl
use Rattle.trace_audit.specs.Groups.{is_same}

owners : (x y : Bool) → beq x y ≡ (if y then x else not x)
owners true true = refl
owners true false = refl
owners false true = refl
owners false false = refl

-- the same texts, or none
infos : (x y : Option (Vec ℕ Global)) → option_eq (λ a b. bytes_eq a.items b.items) x y
    ≡ option_eq bytes_eq (option_map (λ text. text.items) y) (option_map (λ text. text.items) x)
infos None None = refl
infos None (Some b) = refl
infos (Some a) None = refl
infos (Some a) (Some b) = nat_list_eq_equiv.symm a.items b.items

parts : (p n m o i p2 n2 m2 o2 i2 : Bool) → p ≡ p2 → n ≡ n2 → m ≡ m2 → o ≡ o2 → i ≡ i2
    → p && (n && (m && (o && i))) ≡ p2 && n2 && m2 && o2 && i2
parts true true true true i p2 n2 m2 o2 i2 e1 e2 e3 e4 e5 = rw (sym e1, sym e2, sym e3, sym e4) e5
parts true true true false i p2 n2 m2 o2 i2 e1 e2 e3 e4 e5 = rw (sym e1, sym e2, sym e3, sym e4) refl
parts true true false o i p2 n2 m2 o2 i2 e1 e2 e3 e4 e5 = rw (sym e1, sym e2, sym e3) refl
parts true false m o i p2 n2 m2 o2 i2 e1 e2 e3 e4 e5 = rw (sym e1, sym e2) refl
parts false n m o i p2 n2 m2 o2 i2 e1 e2 e3 e4 e5 = rw (sym e1) refl

pub alike : (a b : Denial) → denial_impl.eq-value.it a b ≡ is_same (denial_value b) (denial_value a)
alike a b =
    parts (bytes_eq a.profile.items b.profile.items) (bytes_eq a.name.items b.name.items) (bytes_eq a.mask.items b.mask.items)
    (beq a.by_owner b.by_owner) (option_eq (λ x y. bytes_eq x.items y.items) a.info b.info)
    (bytes_eq b.profile.items a.profile.items) (bytes_eq b.name.items a.name.items) (bytes_eq b.mask.items a.mask.items)
    (if b.by_owner then a.by_owner else not a.by_owner)
    (option_eq bytes_eq (option_map (λ text. text.items) b.info) (option_map (λ text. text.items) a.info))
    (nat_list_eq_equiv.symm a.profile.items b.profile.items) (nat_list_eq_equiv.symm a.name.items b.name.items)
    (nat_list_eq_equiv.symm a.mask.items b.mask.items) (owners a.by_owner b.by_owner) (infos a.info b.info)

-- denials that `cmp` finds equal
pub in_order : (a b : Denial) → is_eq (denial_order.cmp-value.it a b) ≡ is_same (denial_value b) (denial_value a)
in_order a b = sym (order_laws.matches_eq-law a b) ∙ alike a b

equivalence : IsEquivalence (eq_by_cmp denial_order.cmp-value.it)
equivalence = eq_by_cmp_equiv order_laws.total-law

pub back : (a b : Denial) → is_same (denial_value b) (denial_value a) ≡ is_same (denial_value a) (denial_value b)
back a b = sym (in_order a b) ∙ equivalence.symm a b ∙ in_order b a

-- one that is the same as a is the same as b, if they are the same
pub through : (a b c : Denial) → is_same (denial_value b) (denial_value a) ≡ true
    → is_same (denial_value c) (denial_value a) ≡ is_same (denial_value c) (denial_value b)
through a b c h = sym (in_order a c) ∙ equivalence.congr a b c (in_order a b ∙ h) ∙ in_order b c
