-- What is known, with one more key.
use Rattle.std.proofs.Common.{◌≡◌, ◌∙◌, Bool, true, false, cond, List, ℕ, Option, Some, IfSome, refl, subst, sym}
use Rattle.std.proofs.Math.Bool.{beq}
use Rattle.std.proofs.lemmas.Bool.{and_parts}
use Rattle.std.specs.BTreeMap.{BTreeMap, get}
use Rattle.std.specs.Cmp.Lexicographic.{bytes_decides}
use Rattle.std.specs.Ordering.{is_eq}
use Rattle.std.specs.Prelude.{bytes_eq}
use Rattle.trace_audit.specs.Lookups.{IsFound, TextValue}
use Rattle.trace_audit.specs.contracts.known.ProfileKeyOrd.TheImpl as key_order
use Rattle.trace_audit.specs.contracts.known.ProfileKeyOrd.TheImpl.Laws as order_laws
use Rattle.trace_audit.specs.declared.known.ProfileKey.{ProfileKey}
use Rattle.trace_audit.specs.declared.lookup.Found.{Found}
use Rattle.trace_audit.specs.inner.FoundValues.{found_value}
use Rattle.trace_audit.specs.inner.KnownProfiles.{AreFound}

same_owner : (x y : Bool) → beq x y ≡ true → x ≡ y
same_owner true true h = refl
same_owner true false h = absurd cc
same_owner false true h = absurd cc
same_owner false false h = refl

-- keys that the order finds equal are the same
same_key : (a b : ProfileKey) → is_eq (key_order.cmp-value.it a b) ≡ true → (a.profile.items ≡ b.profile.items) × (a.by_owner ≡ b.by_owner)
same_key a b h =
    let parts = and_parts (bytes_eq a.profile.items b.profile.items) (beq a.by_owner b.by_owner) (order_laws.matches_eq-law a b ∙ h) in
    ((bytes_decides a.profile.items b.profile.items).0 parts.0, same_owner a.by_owner b.by_owner parts.1)

pub known_more : (texts : List TextValue) (old new : BTreeMap ProfileKey Found) (key : ProfileKey) (found : Found)
    → AreFound texts old → IsFound texts key.profile.items key.by_owner (found_value found)
    → ((q : ProfileKey) → get key_order.cmp-value.it new q
    ≡ cond (is_eq (key_order.cmp-value.it key q)) (Some found) (get key_order.cmp-value.it old q)) → AreFound texts new
known_more texts old new key found all is updates q =
    subst Leads (sym (updates q)) (by (is_eq (key_order.cmp-value.it key q)) refl)
  where
    Leads : Option Found → Type 0
    Leads o = IfSome o (λ f. IsFound texts q.profile.items q.by_owner (found_value f))

    by : (b : Bool) → is_eq (key_order.cmp-value.it key q) ≡ b → Leads (cond b (Some found) (get key_order.cmp-value.it old q))
    by true h =
        let same = same_key key q h in
        subst (λ (n : List ℕ). IsFound texts n q.by_owner (found_value found)) same.0
        (subst (λ (o : Bool). IsFound texts key.profile.items o (found_value found)) same.1 is)
    by false h = all q
