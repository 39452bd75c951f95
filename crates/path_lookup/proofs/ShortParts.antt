-- The parts of a path are as short as the path.
use Rattle.std.proofs.Common.{◌≡◌, ℕ, ◌≤◌, ◌==◌, Bool, true, false, List, length, Some, None, refl, ap, ◌∙◌, arith, sym}
use Rattle.std.specs.Prelude.{if◌then◌else◌, nat_lt, ◌||◌, not, [], ◌∷◌, ◌++◌}
use Rattle.names.specs.declared.errors.Errno.TheVariants.{ENOENT, EINVAL, ENAMETOOLONG}
use Rattle.std.specs.List.{list_any}
use Rattle.std.proofs.lemmas.List.Folds.{list_any-append}
use Rattle.std.proofs.lemmas.Bool.Decides.{nat_tests}
use Rattle.names.specs.Paths.{filled_parts, has_long_component, closing_component, ends_with_slash, path_fault, is_empty}
use Rattle.names.specs.Paths.{begins_with_slash}
use Rattle.path_lookup.specs.declared.target.EndSlash.{EndSlash}
use Rattle.path_lookup.specs.declared.target.SplitPath.{SplitPath}
use Rattle.path_lookup.specs.Target.{IsSplit, AreShort}
use Rattle.std.proofs.lemmas.Option.{none-some}
use Rattle.std.proofs.lemmas.Bool.{or_parts}

-- a short path has short components
pub no_long : (text : List ℕ) → has_long_component text ≡ list_any (λ c. nat_lt 255 (length c)) (filled_parts text)
no_long text =
    let dot : List ℕ = 46 ∷ [] in
    list_any-append (λ c. nat_lt 255 (length c)) (filled_parts text) (closing_component text) ∙ elim (ends_with_slash text) as
    (λ (b : Bool). (list_any (λ c. nat_lt 255 (length c)) (filled_parts text) || list_any (λ c. nat_lt 255 (length c))
    (if b then dot ∷ [] else [])) ≡ list_any (λ c. nat_lt 255 (length c)) (filled_parts text)) [
      | true ↦ or_false (list_any (λ c. nat_lt 255 (length c)) (filled_parts text))
      | false ↦ or_false (list_any (λ c. nat_lt 255 (length c)) (filled_parts text))
    ]
  where
    or_false : (b : Bool) → (b || false) ≡ b
    or_false true = refl
    or_false false = refl

pub last_fits : (path before last : List ℕ) → has_long_component path ≡ false → filled_parts path ≡ filled_parts before ++ last ∷ [] →
    length last ≤ 255
last_fits path before last h is =
    let none : list_any (λ c. nat_lt 255 (length c)) (filled_parts before ++ last ∷ []) ≡ false =
    sym (no_long path ∙ ap (list_any (λ (c : List ℕ). nat_lt 255 (length c))) is) ∙ h in
    let both = or_parts (list_any (λ c. nat_lt 255 (length c)) (filled_parts before)) (list_any (λ c. nat_lt 255 (length c)) (last ∷ []))
    (sym (list_any-append (λ c. nat_lt 255 (length c)) (filled_parts before) (last ∷ [])) ∙ none) in
    let short : nat_lt 255 (length last) ≡ false = (or_parts (nat_lt 255 (length last)) false both.1).0 in
    grind (arith, nat_tests)

-- what passes the tests of a path is short
last_tests : (a b c d e : Bool) → (if a then Some ENOENT else if b then Some EINVAL else if c then Some EINVAL else if d then
    Some ENAMETOOLONG else if e then Some ENAMETOOLONG else None) ≡ None → (d ≡ false) × (e ≡ false)
last_tests true b c d e h = absurd (none-some ENOENT (sym h))
last_tests false true c d e h = absurd (none-some EINVAL (sym h))
last_tests false false true d e h = absurd (none-some EINVAL (sym h))
last_tests false false false true e h = absurd (none-some ENAMETOOLONG (sym h))
last_tests false false false false true h = absurd (none-some ENAMETOOLONG (sym h))
last_tests false false false false false h = (refl, refl)

pub path_short : (path : List ℕ) → path_fault path ≡ None → (nat_lt 4095 (length path) ≡ false) × (has_long_component path ≡ false)
path_short path h = last_tests (is_empty path) (not (begins_with_slash path)) (list_any (λ b. b == 0) path) (nat_lt 4095 (length path))
    (has_long_component path) h

pub parts_short : (slash : EndSlash) (path : List ℕ) (parts : SplitPath) → path_fault path ≡ None → IsSplit slash path parts →
    AreShort parts
parts_short slash path parts h split =
    let k = path_short path h in
    let whole : length path ≤ 4095 = not_over path k.0 in
    record { before_fits = omega (arith, split.short); last_fits = last_fits path parts.before.now parts.last.now k.1 split.names }
  where
    not_over : (text : List ℕ) → nat_lt 4095 (length text) ≡ false → length text ≤ 4095
    not_over text short = grind (arith, nat_tests)
