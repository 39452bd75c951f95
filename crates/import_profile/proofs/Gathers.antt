-- What is gathered item by item, and rules as restated.
use Rattle.std.proofs.Common.{◌≡◌, ℕ, Bool, true, false, List, [], ◌∷◌, ◌++◌, map, Result, Ok, Err, IfOk, refl, sym, ap, ◌∙◌, cond, codes}
use Rattle.std.proofs.lemmas.List.{map-append, append-nil, append_assoc}
use Rattle.std.proofs.lemmas.Grind.{flat_map-append}
use Rattle.rule_globs.specs.Tokens.{Token}
use Rattle.apparmor_rules.specs.declared.subject.Subject.{Subject}
use Rattle.apparmor_rules.specs.SubjectRules.{SubjectRule}
use Rattle.apparmor_rules.specs.Restatement.{is_restated, shape_of, restated_paths, with_path}
use Rattle.names.specs.declared.permissions.Permission.TheVariants.{Read}
use Rattle.names.specs.declared.permissions.Perms.{Perms}
use Rattle.names.specs.Permissions.{only}
use Rattle.import_profile.specs.AddedRules.{added_at, queries}
use Rattle.import_profile.specs.FileRules.{PlacedRule}
use Rattle.import_profile.specs.Restated.{PlacedValue, restated_at, restated_rules}
use Rattle.import_profile.specs.inner.GatheredRules.{placed_value, restated_values}

-- one more that was pushed
pub pushed_more : {A B : Type 0} (f : A → B) (old : List B) (yielded : List A) (x : A) (now next : List B) → now ≡ old ++ map f yielded →
    next ≡ now ++ (f x ∷ []) → next ≡ old ++ map f (yielded ++ (x ∷ []))
pushed_more f old yielded x now next e h =
    h ∙ ap (λ l. l ++ (f x ∷ [])) e ∙ append_assoc old (map f yielded) (f x ∷ []) ∙ ap (λ l. old ++ l)
    (sym (map-append f yielded (x ∷ [])))

-- ---- restated rules

valued : (place : ℕ) (rule : SubjectRule) (paths : List (List Token)) → map (λ value. record { place = place; value = value })
    (map (with_path rule) paths) ≡ map (placed_value place (shape_of rule)) paths
valued place rule [] = refl
valued place rule (path ∷ paths) = ap (λ l. placed_value place (shape_of rule) path ∷ l) (valued place rule paths)

by_test : (b : Bool) (place : ℕ) (rule : SubjectRule) (paths : List (List Token))
    → map (λ value. record { place = place; value = value }) (cond b (map (with_path rule) paths) [])
    ≡ cond b (map (placed_value place (shape_of rule)) paths) []
by_test true place rule paths = valued place rule paths
by_test false place rule paths = refl

-- a rule that is restated, by its shape and its paths
pub restated_by_shape : (chosen : Subject) (r : PlacedRule) → restated_at chosen r ≡ restated_values r.place chosen (shape_of r.rule)
    (restated_paths r.rule.path)
restated_by_shape chosen r = by_test (is_restated chosen (shape_of r.rule)) r.place r.rule (restated_paths r.rule.path)

pub restated_one : (chosen : Subject) (r : PlacedRule) → restated_rules chosen (r ∷ []) ≡ restated_at chosen r
restated_one chosen r = append-nil (restated_at chosen r)

pub restated_two : (chosen : Subject) (r s : PlacedRule) → restated_rules chosen (r ∷ s ∷ []) ≡ restated_at chosen r
    ++ restated_at chosen s
restated_two chosen r s = ap (λ l. restated_at chosen r ++ l) (restated_one chosen s)

pub restated_both : (chosen : Subject) (rules others : List PlacedRule) → restated_rules chosen (rules ++ others)
    ≡ restated_rules chosen rules ++ restated_rules chosen others
restated_both chosen rules others = flat_map-append (restated_at chosen) rules others

-- ---- rules that are pushed

pub then_so : {A E : Type 0} {P Q : Type 0} (r : Result A E) → (P → Q) → IfOk r (λ _. P) → IfOk r (λ _. Q)
then_so (Ok x) f h = f h
then_so (Err e) f h = tt

pub then_each : {A E : Type 0} {P Q : A → Type 0} (r : Result A E) → ((x : A) → P x → Q x) → IfOk r P → IfOk r Q
then_each (Ok x) f h = f x h
then_each (Err e) f h = tt

pub always : {A E : Type 0} {Q : Type 0} (r : Result A E) → Q → IfOk r (λ _. Q)
always (Ok x) h = h
always (Err e) h = tt

pub one_behind : (chosen : Subject) (rules : List PlacedRule) (r : PlacedRule) (old mid new : List PlacedValue)
    → mid ≡ old ++ restated_rules chosen rules → new ≡ mid ++ restated_at chosen r → new ≡ old ++ restated_rules chosen (rules ++ (r ∷ []))
one_behind chosen rules r old mid new e h =
    h ∙ ap (λ l. l ++ restated_at chosen r) e ∙ append_assoc old (restated_rules chosen rules) (restated_at chosen r)
    ∙ ap (λ l. old ++ l) (ap (λ l. restated_rules chosen rules ++ l) (sym (restated_one chosen r))
    ∙ sym (restated_both chosen rules (r ∷ [])))

pub two_behind : (chosen : Subject) (rules : List PlacedRule) (r s : PlacedRule) (old mid next new : List PlacedValue)
    → mid ≡ old ++ restated_rules chosen rules → next ≡ mid ++ restated_at chosen r → new ≡ next ++ restated_at chosen s
    → new ≡ old ++ restated_rules chosen (rules ++ (r ∷ s ∷ []))
two_behind chosen rules r s old mid next new e h k =
    one_behind chosen (rules ++ (r ∷ [])) s old next new (one_behind chosen rules r old mid next e h) k
    ∙ ap (λ l. old ++ restated_rules chosen l) (append_assoc rules (r ∷ []) (s ∷ []))

-- the files in which the state of AppArmor is queried
pub queried : (chosen : Subject) (place : ℕ) (one other : Perms) (old mid new : List PlacedValue) → one ≡ only Read → other ≡ only Read
    → mid ≡ old ++ restated_at chosen (added_at place one (codes "/proc/*/attr/apparmor/"))
    → new ≡ mid ++ restated_at chosen (added_at place other (codes "/sys/module/apparmor/parameters/enabled"))
    → new ≡ old ++ restated_rules chosen (queries place)
queried chosen place one other old mid new is is_too e h =
    let first = added_at place (only Read) (codes "/proc/*/attr/apparmor/") in
    let second = added_at place (only Read) (codes "/sys/module/apparmor/parameters/enabled") in
    one_behind chosen (first ∷ []) second old mid new
    (e ∙ ap (λ (perms : Perms). old ++ restated_at chosen (added_at place perms (codes "/proc/*/attr/apparmor/"))) is ∙ ap (λ l. old ++ l)
    (sym (restated_one chosen first)))
    (h ∙ ap (λ (perms : Perms). mid ++ restated_at chosen (added_at place perms (codes "/sys/module/apparmor/parameters/enabled"))) is_too)

-- ---- all items

-- what is left to be restated, once the first rules were
pub rules_step : (chosen : Subject) (first others : List PlacedRule) (now next : List PlacedValue) →
    next ≡ now ++ restated_rules chosen first
    → next ++ restated_rules chosen others ≡ now ++ restated_rules chosen (first ++ others)
rules_step chosen first others now next e =
    ap (λ l. l ++ restated_rules chosen others) e ∙ append_assoc now (restated_rules chosen first) (restated_rules chosen others)
    ∙ ap (λ l. now ++ l) (sym (restated_both chosen first others))

-- all rules of the chosen profile
pub all_restated : (chosen : Subject) (rules added : List PlacedRule) (now new : List PlacedValue) → now ≡ restated_rules chosen rules
    → new ≡ now ++ restated_rules chosen added → new ≡ restated_rules chosen (rules ++ added)
all_restated chosen rules added now new e h = h ∙ ap (λ l. l ++ restated_rules chosen added) e ∙ sym (restated_both chosen rules added)
