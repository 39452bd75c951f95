-- The parts of a rule's letters, as one letter after another is looked at.
use Rattle.std.proofs.Common.{◌≡◌, ℕ, ◌+◌, ◌<◌, ◌≤◌, ◌&&◌, Bool, true, false, List, [], ◌∷◌, ◌++◌, Some, cond, filter, map}
use Rattle.std.proofs.Common.{take, get_or, length}
use Rattle.std.proofs.Common.{append_assoc, append-nil, refl, sym, ap, ◌∙◌}
use Rattle.std.proofs.lemmas.Bool.{and_from}
use Rattle.std.proofs.lemmas.List.{map-append, take_all}
use Rattle.std.proofs.lemmas.List.Elements.{filter_more}
use Rattle.names.specs.Permissions.{all_permissions, has}
use Rattle.names.specs.declared.permissions.Permission.{Permission}
use Rattle.names.specs.declared.permissions.Perms.{Perms}
use Rattle.trace_lint.specs.Parts.{decides_none_of, held_by, idle_letters}
use Rattle.trace_lint.specs.declared.findings.Part.{Part}

module _ (rule : ℕ) (letters decided : Perms) where
  abbrev part_of : Permission → Part
  part_of letter = record { rule = rule; letter = Some letter }

  abbrev is_idle : Permission → Bool
  is_idle letter = has letters letter && decides_none_of (held_by letter) decided

  abbrev pub parts_among : List Permission → List Part
  parts_among all = map part_of (filter is_idle all)

  mapped : (b : Bool) (p : Permission) → map part_of (cond b (p ∷ []) []) ≡ cond b (part_of p ∷ []) []
  mapped true p = refl
  mapped false p = refl

  one_more : (i : ℕ) (d : Permission) → i < length all_permissions → parts_among (take (i + 1) all_permissions)
      ≡ parts_among (take i all_permissions) ++ cond (is_idle (get_or all_permissions i d)) (part_of (get_or all_permissions i d) ∷ []) []
  one_more i d lt =
      ap (map part_of) (filter_more is_idle all_permissions i d lt)
      ∙ map-append part_of (filter is_idle (take i all_permissions)) _
      ∙ ap (λ z. parts_among (take i all_permissions) ++ z) (mapped (is_idle (get_or all_permissions i d)) (get_or all_permissions i d))

  module _ (i : ℕ) (d : Permission) (lt : i < length all_permissions) (base old : List Part)
      (so_far : old ≡ base ++ parts_among (take i all_permissions)) where
    abbrev p : Permission
    p = get_or all_permissions i d

    step : (b : Bool) → is_idle p ≡ b → old ++ cond b (part_of p ∷ []) [] ≡ base ++ parts_among (take (i + 1) all_permissions)
    step b is =
        ap (λ z. z ++ cond b (part_of p ∷ []) []) so_far
        ∙ append_assoc base (parts_among (take i all_permissions)) (cond b (part_of p ∷ []) [])
        ∙ ap (λ z. base ++ (parts_among (take i all_permissions) ++ cond z (part_of p ∷ []) [])) (sym is)
        ∙ ap (λ z. base ++ z) (sym (one_more i d lt))

    pub letter_added : (new : List Part) (h : Perms) → has letters p ≡ true → h ≡ held_by p → decides_none_of h decided ≡ true →
        new ≡ old ++ part_of p ∷ [] → new ≡ base ++ parts_among (take (i + 1) all_permissions)
    letter_added new h is same none e =
        e ∙ step true (and_from (has letters p) (decides_none_of (held_by p) decided) is
        (ap (λ z. decides_none_of z decided) (sym same) ∙ none))

    kept : is_idle p ≡ false → old ≡ base ++ parts_among (take (i + 1) all_permissions)
    kept is = sym (append-nil old) ∙ step false is

    pub letter_absent : has letters p ≡ false → old ≡ base ++ parts_among (take (i + 1) all_permissions)
    letter_absent is = kept (ap (λ b. b && decides_none_of (held_by p) decided) is)

    pub letter_decides : (h : Perms) → has letters p ≡ true → h ≡ held_by p → decides_none_of h decided ≡ false →
        old ≡ base ++ parts_among (take (i + 1) all_permissions)
    letter_decides h is same some = kept
        (ap (λ b. b && decides_none_of (held_by p) decided) is ∙ ap (λ z. decides_none_of z decided) (sym same) ∙ some)

  pub all_letters : (i : ℕ) (base old : List Part) → length all_permissions ≤ i →
      old ≡ base ++ parts_among (take i all_permissions) → old ≡ base ++ map part_of (idle_letters letters decided)
  all_letters i base old past e = e ∙ ap (λ z. base ++ parts_among z) (take_all i all_permissions past)
