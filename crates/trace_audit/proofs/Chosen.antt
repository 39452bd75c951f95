-- Where tests decide whether there is a rule.
use Rattle.std.proofs.Common.{◌≡◌, ◌∙◌, Bool, true, false, true≢false, Option, Some, None, List, ℕ, map, sym, ap, refl}
use Rattle.std.specs.Prelude.{◌&&◌, not, if◌then◌else◌}
use Rattle.std.specs.List.{list_any}
use Rattle.std.proofs.lemmas.Option.{none-some, same_Some}
use Rattle.names.specs.declared.kind.RuleKind.TheVariants.{Allow}
use Rattle.names.specs.declared.permissions.Perms.{Perms}
use Rattle.names.specs.Permissions.{all_permissions, conflicts, has}
use Rattle.rule_globs.specs.Tokens.{Token, byte}
use Rattle.rule_profile.specs.Profile.{RuleValue}
use Rattle.rule_profile.specs.Readable.{is_path, is_rule}
use Rattle.rule_writer.specs.Canonical.{rule_text}
use Rattle.trace_audit.specs.Answers.{addable, rule_of}

-- a rule may have these letters
abbrev pub are_letters : Perms → Bool
are_letters s = list_any (has s) all_permissions && not (conflicts s)

neither : (a b c : Bool) → a && b ≡ false → a && b && c ≡ false
neither true true c e = absurd (true≢false e)
neither true false c e = refl
neither false b c e = refl

both : (a b c : Bool) → a && b ≡ true → c ≡ a && b && c
both true true c e = refl
both true false c e = absurd (true≢false (sym e))
both false b c e = absurd (true≢false (sym e))

some_path : (p : Bool) (tokens path : List Token) → Some path ≡ (if p then Some tokens else None) → (p ≡ true) × (path ≡ tokens)
some_path true tokens path e = (refl, cc)
some_path false tokens path e = absurd (cc)

no_path : (p : Bool) (tokens : List Token) → None ≡ (if p then Some tokens else None) → p ≡ false
no_path true tokens e = absurd (cc)
no_path false tokens e = refl

-- the rule of this name, if it is one
abbrev pub readable : List ℕ → Perms → Option RuleValue
readable name perms = if is_rule (rule_of name perms) then Some (rule_of name perms) else None

chosen : (b : Bool) (r : RuleValue) (o : Option RuleValue) (c : Bool) → c ≡ b → o ≡ (if b then Some r else None)
    → o ≡ (if c then Some r else None)
chosen b r o c e h = rw e h

module _ (name : List ℕ) (perms : Perms) where
  pub without_letters : are_letters (addable perms) ≡ false → None ≡ readable name perms
  without_letters e =
      chosen false (rule_of name perms) None (is_rule (rule_of name perms))
      (neither (list_any (has (addable perms)) all_permissions) (not (conflicts (addable perms))) (is_path (map byte name)) e) refl

  path_decides : are_letters (addable perms) ≡ true → is_rule (rule_of name perms) ≡ is_path (map byte name)
  path_decides e =
      sym (both (list_any (has (addable perms)) all_permissions) (not (conflicts (addable perms))) (is_path (map byte name)) e)

  pub without_path : (tokens : List Token) → tokens ≡ map byte name → are_letters (addable perms) ≡ true
      → None ≡ (if is_path tokens then Some tokens else None) → None ≡ readable name perms
  without_path tokens is e h =
      chosen false (rule_of name perms) None (is_rule (rule_of name perms))
      (path_decides e ∙ ap is_path (sym is) ∙ no_path (is_path tokens) tokens h) refl

  pub with_path : (tokens path : List Token) → tokens ≡ map byte name → are_letters (addable perms) ≡ true
      → Some path ≡ (if is_path tokens then Some tokens else None) → (r : RuleValue)
      → r ≡ record { kind = Allow; perms = addable perms; items = path } → Some r ≡ readable name perms
  with_path tokens path is e h r made =
      let both_of = some_path (is_path tokens) tokens path h in
      chosen true (rule_of name perms) (Some r) (is_rule (rule_of name perms))
      (path_decides e ∙ ap is_path (sym is) ∙ both_of.0)
      (ap Some (made ∙ ap (λ (items : List Token). record { kind = Allow; perms = addable perms; items = items }) (both_of.1 ∙ is)))

-- a rule that was written, where the name has no control byte
pub written : (r : RuleValue) (is control : Bool) (o : Option RuleValue) (v : RuleValue) (text : List ℕ) → control ≡ false
    → o ≡ Some v → o ≡ (if is then Some r else None) → text ≡ rule_text v
    → Some text ≡ (if is && not control then Some (rule_text r) else None)
written r true control o v text hc hs ho ht =
    ap Some (ht ∙ ap rule_text (same_Some v r (sym hs ∙ ho)))
    ∙ sym (ap (λ (c : Bool). if true && not c then Some (rule_text r) else None) hc)
written r false control o v text hc hs ho ht = absurd (none-some v (sym ho ∙ hs))

-- where a name has a control byte
pub left_out : {A : Type 0} (r c : Bool) (t : A) → c ≡ true → None ≡ (if r && not c then Some t else None)
left_out true c t e = rw e refl
left_out false c t e = refl
