-- The parts that are reported are those that decide nothing.
use Rattle.std.proofs.Common.{◌≡◌, ◌⊎◌, inl, inr, ⊎_elim, ℕ, zero, suc, ◌+◌, ◌-◌, ◌<◌, ◌≤◌, ◌&&◌, Bool, true, false, not, List, [], ◌∷◌}
use Rattle.std.proofs.Common.{Some, None, Contains, cond, filter, map, length, slice_get, if◌then◌else◌}
use Rattle.std.proofs.Common.{refl, sym, ap, ◌∙◌, subst, arith, true≢false}
use Rattle.std.specs.List.{All, flat_map, list_any, range_with_len}
use Rattle.std.specs.Option.{option_map_or}
use Rattle.std.proofs.lemmas.Bool.{and_from, and_parts, cases_Bool, cases_eq, not-true}
use Rattle.std.proofs.lemmas.List.Elements.{All-append, All-cons, All-nil, Contains-append_left, Contains-append_right}
use Rattle.std.proofs.lemmas.Option.{slice_get-get_or}
use Rattle.names.specs.laws.PermissionSets.{all_pass, each_passes, none_found, one_found}
use Rattle.names.specs.laws.Positions.{place_below, stands_there}
use Rattle.names.specs.Permissions.{all_permissions, has, held, index}
use Rattle.names.specs.declared.kind.RuleKind.{RuleKind}
use Rattle.names.specs.declared.permissions.Permission.{Permission}
use Rattle.names.specs.declared.permissions.Perms.{Perms}
use Rattle.rule_globs.specs.Rules.{RuleValue}
use Rattle.rule_globs.specs.Verdict.{Hits}
use Rattle.rule_influence.specs.Influence.{AreDecided, Decides, IsIdle}
use Rattle.rule_influence.specs.laws.HitLaws.{lone_decides}
use Rattle.trace_lint.specs.Parts.{case_of, decided_by, decides_none_of, decides_nothing, held_by, idle_letters}
use Rattle.trace_lint.specs.Parts.{idle_parts, letters_of, no_perms, parts_of_rule}
use Rattle.trace_lint.specs.declared.findings.Part.{Part}

-- ---- elements

module _ {X : Type 0} where
  pub contains_first : (x : X) (xs : List X) → Contains (x ∷ xs) x
  contains_first x xs = (0, omega arith, refl)

  pub contains_after : (x y : X) (xs : List X) → Contains xs x → Contains (y ∷ xs) x
  contains_after x y xs h = (suc h.0, omega (arith, h.1), h.2)

  contains_kept : (test : X → Bool) (x : X) (xs : List X) → test x ≡ true → Contains xs x → Contains (filter test xs) x
  contains_kept test x [] passes h = absurd (omega (arith, h.1))
  contains_kept test x (y ∷ xs) passes (zero, lt, is) = subst (λ z. Contains (cond z (y ∷ filter test xs) (filter test xs)) x)
      (sym (ap test is ∙ passes)) (subst (λ z. Contains (y ∷ filter test xs) z) is (contains_first y (filter test xs)))
  contains_kept test x (y ∷ xs) passes (suc k, lt, is) =
      by_test (test y) (contains_kept test x xs passes (k, omega (arith, lt), is))
    where
      by_test : (b : Bool) → Contains (filter test xs) x → Contains (cond b (y ∷ filter test xs) (filter test xs)) x
      by_test true h = contains_after x y (filter test xs) h
      by_test false h = h

module _ {X Y : Type 0} (f : X → Y) where
  contains_mapped : (x : X) (xs : List X) → Contains xs x → Contains (map f xs) (f x)
  contains_mapped x [] h = absurd (omega (arith, h.1))
  contains_mapped x (y ∷ xs) (zero, lt, is) = subst (λ z. Contains (f y ∷ map f xs) (f z)) is (contains_first (f y) (map f xs))
  contains_mapped x (y ∷ xs) (suc k, lt, is) =
      contains_after (f x) (f y) (map f xs) (contains_mapped x xs (k, omega (arith, lt), is))

-- what is said of a number in a range is among what is said of all of them
contains_said : {X : Type 0} (f : ℕ → List X) (a count n : ℕ) (x : X) → a ≤ n → n < a + count → Contains (f n) x →
    Contains (flat_map f (range_with_len a count)) x
contains_said f a zero n x low high h = absurd (omega (arith, low, high))
contains_said f a (suc count) n x low high h = ⊎_elim
    (λ e. Contains-append_left (f a) (flat_map f (range_with_len (a + 1) count)) x (subst (λ z. Contains (f z) x) e h))
    (λ ne. Contains-append_right (f a) (flat_map f (range_with_len (a + 1) count)) x
    (contains_said f (a + 1) count n x (omega (arith, low, ne)) (omega (arith, high)) h))
    (cases_eq n a)

-- ---- what rules decide

module _ (rules : List RuleValue) where
  -- a rule that decides a permission isn't idle for it
  pub not_both : (n : ℕ) (p : Permission) → Decides rules n p → IsIdle rules n p → ⊥
  not_both n p (name, is, d) idle = ⊎_elim (λ h. h.1 ((idle name is).0 h.0)) (λ h. h.1 ((idle name is).1 h.0)) d

  hit_held : (kind : RuleKind) (n : ℕ) (p : Permission) (name : List ℕ) → Hits rules kind p name n →
      has (held (letters_of rules n)) p ≡ true
  hit_held kind n p name (rule, at, is, holds, takes) =
      ap (λ (z : Perms). has (held z) p)
      (ap (λ z. option_map_or (λ (r : RuleValue). r.perms) z no_perms)
      (slice_get-get_or rules (n - 1) rule (omega (arith, at.0, at.1)) ∙ ap Some (sym at.2)))
      ∙ holds

  -- it holds what it decides
  decided_held : (n : ℕ) (p : Permission) → Decides rules n p → has (held (letters_of rules n)) p ≡ true
  decided_held n p (name, is, d) = ⊎_elim (λ h. hit_held _ n p name h.0.0) (λ h. hit_held _ n p name h.0.0)
      ((lone_decides rules p name n).0 d)

module _ (rules : List RuleValue) (decided : List Perms) (are : AreDecided rules decided) where
  abbrev IsIdlePart : Part → Type 0
  IsIdlePart part = (p : Permission) → has (case_of rules part).perms p ≡ true → IsIdle rules part.rule p

  module _ (n : ℕ) (low : 1 ≤ n) (high : n ≤ length rules) where
    there : slice_get decided (n - 1) ≡ Some (decided_by decided n)
    there = slice_get-get_or decided (n - 1) no_perms (omega (arith, low, high, are.each))

    again : n - 1 + 1 ≡ n
    again = omega (arith, low)

    pub idle_there : (p : Permission) → has (decided_by decided n) p ≡ false → IsIdle rules n p
    idle_there p is = subst (λ m. IsIdle rules m p) again (are.idle (n - 1) (decided_by decided n) p there is)

    pub decides_there : (p : Permission) → has (decided_by decided n) p ≡ true → Decides rules n p
    decides_there p is = subst (λ m. Decides rules m p) again (are.decides (n - 1) (decided_by decided n) p there is)

    pub not_decided : (p : Permission) → IsIdle rules n p → has (decided_by decided n) p ≡ false
    not_decided p idle = ⊎_elim (λ is. absurd (not_both rules n p (decides_there p is) idle)) (λ is. is)
        (cases_Bool (has (decided_by decided n) p))

    -- ---- what is decided of some permissions

    pub none_idle : (perms : Perms) → decides_none_of perms (decided_by decided n) ≡ true → (p : Permission) → has perms p ≡ true →
        IsIdle rules n p
    none_idle perms is p h =
        let neither = none_found (λ q. has perms q && has (decided_by decided n) q) (not-true _ is) p in
        idle_there p (ap (λ z. z && has (decided_by decided n) p) (sym h) ∙ neither)

    pub idle_none : (perms : Perms) → ((p : Permission) → has perms p ≡ true → IsIdle rules n p) →
        decides_none_of perms (decided_by decided n) ≡ true
    idle_none perms idle = ap not (⊎_elim
        (λ some. let one = one_found (λ q. has perms q && has (decided_by decided n) q) some in
        let both = and_parts (has perms one.0) (has (decided_by decided n) one.0) one.1 in
        absurd (true≢false (sym both.1 ∙ not_decided one.0 (idle one.0 both.0))))
        (λ none. none)
        (cases_Bool (list_any (λ q. has perms q && has (decided_by decided n) q) all_permissions)))

    pub nothing_idle : decides_nothing (decided_by decided n) ≡ true → (p : Permission) → IsIdle rules n p
    nothing_idle nothing p =
        idle_there p (not-true (has (decided_by decided n) p) (each_passes (λ q. not (has (decided_by decided n) q)) nothing p))

    pub idle_nothing : ((p : Permission) → IsIdle rules n p) → decides_nothing (decided_by decided n) ≡ true
    idle_nothing idle = all_pass (λ p. not (has (decided_by decided n) p)) (λ p. ap not (not_decided p (idle p)))

    -- ---- what is reported is idle

    abbrev letter_part : Permission → Part
    letter_part letter = record { rule = n; letter = Some letter }

    abbrev whole : Part
    whole = record { rule = n; letter = None }

    abbrev passes : Permission → Bool
    passes letter = has (letters_of rules n) letter && decides_none_of (held_by letter) (decided_by decided n)

    whole_idle : decides_nothing (decided_by decided n) ≡ true → IsIdlePart whole
    whole_idle nothing p h = nothing_idle nothing p

    letter_idle : (letter : Permission) → passes letter ≡ true → IsIdlePart (letter_part letter)
    letter_idle letter is = none_idle (held_by letter) (and_parts (has (letters_of rules n) letter) _ is).1

    letters_idle : (all : List Permission) → All IsIdlePart (map letter_part (filter passes all))
    letters_idle [] = All-nil IsIdlePart
    letters_idle (letter ∷ all) = by_test (passes letter) refl (letters_idle all)
      where
        by_test : (b : Bool) → passes letter ≡ b → All IsIdlePart (map letter_part (filter passes all)) →
            All IsIdlePart (map letter_part (cond b (letter ∷ filter passes all) (filter passes all)))
        by_test true is rest =
            All-cons IsIdlePart (letter_part letter) (map letter_part (filter passes all)) (letter_idle letter is) rest
        by_test false is rest = rest

    abbrev parts_there : Bool → List Part
    parts_there nothing = if nothing then whole ∷ [] else map letter_part (idle_letters (letters_of rules n) (decided_by decided n))

    rule_idle : All IsIdlePart (parts_there (decides_nothing (decided_by decided n)))
    rule_idle = by_test (decides_nothing (decided_by decided n)) refl
      where
        by_test : (b : Bool) → decides_nothing (decided_by decided n) ≡ b → All IsIdlePart (parts_there b)
        by_test true is = All-cons IsIdlePart whole [] (whole_idle is) (All-nil IsIdlePart)
        by_test false is = letters_idle all_permissions

    -- ---- what is idle is reported

    reported : (part : Part) → Contains (parts_there (decides_nothing (decided_by decided n))) part →
        Contains (idle_parts rules decided) part
    reported part h = contains_said (λ m. parts_of_rule m (letters_of rules m) (decided_by decided m)) 1 (length rules) n part low
        (omega (arith, high)) h

    whole_there : decides_nothing (decided_by decided n) ≡ true → Contains (idle_parts rules decided) whole
    whole_there is = reported whole (subst (λ z. Contains (parts_there z) whole) (sym is) (contains_first whole []))

    pub whole_reported : ((p : Permission) → has (held (letters_of rules n)) p ≡ true → IsIdle rules n p) →
        Contains (idle_parts rules decided) whole
    whole_reported idle = whole_there (idle_nothing (λ p. ⊎_elim
        (λ is. let d = decides_there p is in idle p (decided_held rules n p d))
        (λ is. idle_there p is)
        (cases_Bool (has (decided_by decided n) p))))

    letter_passes : (letter : Permission) → has (letters_of rules n) letter ≡ true →
        ((p : Permission) → has (held_by letter) p ≡ true → IsIdle rules n p) → passes letter ≡ true
    letter_passes letter has_it idle = and_from (has (letters_of rules n) letter) _ has_it (idle_none (held_by letter) idle)

    pub letter_reported : (letter : Permission) → has (letters_of rules n) letter ≡ true →
        ((p : Permission) → has (held_by letter) p ≡ true → IsIdle rules n p) →
        Contains (idle_parts rules decided) whole ⊎ Contains (idle_parts rules decided) (letter_part letter)
    letter_reported letter has_it idle = ⊎_elim
        (λ is. inl (whole_there is))
        (λ is. inr (reported (letter_part letter) (subst (λ z. Contains (parts_there z) (letter_part letter)) (sym is)
        (contains_mapped letter_part letter (filter passes all_permissions)
        (contains_kept passes letter all_permissions (letter_passes letter has_it idle)
        (index letter, place_below letter, stands_there letter letter))))))
        (cases_Bool (decides_nothing (decided_by decided n)))

  ranges_idle : (a count : ℕ) → 1 ≤ a → a + count ≤ length rules + 1 →
      All IsIdlePart (flat_map (λ n. parts_of_rule n (letters_of rules n) (decided_by decided n)) (range_with_len a count))
  ranges_idle a zero low high = All-nil IsIdlePart
  ranges_idle a (suc count) low high = All-append IsIdlePart (parts_of_rule a (letters_of rules a) (decided_by decided a)) _
      (rule_idle a low (omega (arith, high))) (ranges_idle (a + 1) count (omega (arith, low)) (omega (arith, high)))

  pub parts_idle : All IsIdlePart (idle_parts rules decided)
  parts_idle = ranges_idle 1 (length rules) (omega arith) (omega arith)
