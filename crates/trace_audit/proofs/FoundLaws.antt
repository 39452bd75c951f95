-- What one text has decides, or what the others lead to.
use Rattle.std.proofs.Common.{◌≡◌, ◌≢◌, ◌⊎◌, ◌∙◌, ◌<◌, ◌≤◌, ◌+◌, ℕ, Bool, List, ◌∷◌, Option, Ok, Err, length, drop, get_or, map}
use Rattle.std.proofs.Common.{⊎_elim, ap, refl, subst, sym}
use Rattle.std.proofs.lemmas.List.{drop_all, drop_more}
use Rattle.rule_profile.specs.Profile.{ProfileValue, RuleValue}
use Rattle.rule_reader.specs.ReadText.{outcome_of}
use Rattle.rule_reader.specs.declared.fault.ReadFault.{ReadFault}
use Rattle.rule_reader.specs.declared.fault.ReadFault.TheVariants.{NoMemory}
use Rattle.trace_audit.specs.Lookups.{Decides, Found, Held, IsFoundAmong, IsHeld, IsHeldBy, RefusalValue, faulty, first_after}
use Rattle.trace_audit.specs.Lookups.{held_by_profile, leads_to, not_found, nothing, rules}
use Rattle.trace_audit.specs.inner.FoundValues.{HasNoRules, IsImported, text_value}
use Rattle.trace_audit.specs.declared.lookup.ProfileText.{ProfileText}

module _ (text name : List ℕ) (by_owner : Bool) (held : Held) where
  pub held_if_read : (profile : ProfileValue) → outcome_of text ≡ Ok profile → held ≡ held_by_profile name profile
      → IsHeld text name by_owner held
  held_if_read profile e h = subst (λ o. IsHeldBy text name by_owner o held) (sym e) h

  pub held_if_unread : (fault : ReadFault) → fault ≢ NoMemory → (fault ≡ NoMemory) ⊎ (outcome_of text ≡ Err fault)
      → IsImported text name by_owner held → IsHeld text name by_owner held
  held_if_unread fault ne outcome h = ⊎_elim
      (λ e. absurd (ne e))
      (λ e. subst (λ o. IsHeldBy text name by_owner o held) (sym e) h) outcome

passes : (held : Held) (Others : Type 0) (to : Found) → HasNoRules held → Others → Decides held Others to
passes (rules r) Others to h others = absurd h
passes (faulty number) Others to h others = others
passes nothing Others to h others = others

decides : (held : Held) (r : List RuleValue) (Others : Type 0) → held ≡ rules r → Decides held Others (leads_to r)
decides held r Others e = rw e refl

module _ (name : List ℕ) (by_owner : Bool) (first : Option RefusalValue) (texts : List ProfileText) (i : ℕ) where
  pub found_last : (to : Found) → length texts ≤ i → to ≡ not_found first
      → IsFoundAmong name by_owner first (map text_value (drop i texts)) to
  found_last to le e =
      subst (λ (l : List ProfileText). IsFoundAmong name by_owner first (map text_value l) to) (sym (drop_all i texts le)) e

  found_on : (t : ProfileText) (held : Held) (to : Found) → i < length texts → t ≡ get_or texts i t
      → IsHeld t.text.items name by_owner held
      → Decides held (IsFoundAmong name by_owner (first_after t.name.now first held) (map text_value (drop (i + 1) texts)) to) to
      → IsFoundAmong name by_owner first (map text_value (drop i texts)) to
  found_on t held to lt is h decision =
      subst (λ (l : List ProfileText). IsFoundAmong name by_owner first (map text_value l) to)
      (sym (drop_more texts i t lt ∙ ap (λ (x : ProfileText). x ∷ drop (i + 1) texts) (sym is))) (held, h, decision)

  pub found_here : (t : ProfileText) (held : Held) (r : List RuleValue) → i < length texts → t ≡ get_or texts i t
      → IsHeld t.text.items name by_owner held → held ≡ rules r
      → IsFoundAmong name by_owner first (map text_value (drop i texts)) (leads_to r)
  found_here t held r lt is h e = found_on t held (leads_to r) lt is h (decides held r _ e)

  pub found_further : (t : ProfileText) (held : Held) (to : Found) (other : Option RefusalValue) → i < length texts → t ≡ get_or texts i t
      → IsHeld t.text.items name by_owner held → HasNoRules held → other ≡ first_after t.name.now first held
      → IsFoundAmong name by_owner other (map text_value (drop (i + 1) texts)) to
      → IsFoundAmong name by_owner first (map text_value (drop i texts)) to
  found_further t held to other lt is h none e others =
      found_on t held to lt is h (passes held _ to none
      (subst (λ (o : Option RefusalValue). IsFoundAmong name by_owner o (map text_value (drop (i + 1) texts)) to) e others))
