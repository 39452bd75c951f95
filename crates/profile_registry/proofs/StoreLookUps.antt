-- What a look-up finds in a store, before and after a change.
use Rattle.std.proofs.Common.{◌≡◌, ℕ, Bool, true, false, List, [], ◌∷◌, Option, Some, None, cond, map, refl, sym, ap, ◌∙◌, Vec}
use Rattle.std.specs.Option.{option_map}
use Rattle.std.specs.Ordering.{is_eq, nat_cmp, eq_by_cmp, match_ordering}
use Rattle.std.specs.declared.cmp.Ordering.{Ordering}
use Rattle.std.specs.declared.cmp.Ordering.TheVariants.{Less, Equal, Greater}
use Rattle.std.specs.Cmp.{alike_right}
use Rattle.std.specs.Cmp.Lexicographic.{slice_cmp, nat_list_cmp_total}
use Rattle.std.specs.BTreeMap.{is_at, insert_entry}
use Rattle.std.specs.Map.{lookup, remove_entry}
use Rattle.std.specs.FinMap.{get, insert, remove, from_entries, get-insert, get-remove, get-from_entries, same_map}
use Rattle.std.specs.FinMap.{slice_cmp-IsAntisymmetric, nat_cmp-IsAntisymmetric}
use Rattle.std.specs.FinMap.Entries.{find, put, find-put, by_order}
use Rattle.std.specs.declared.alloc.Global.{Global}
use Rattle.std.specs.declared.sync.Arc.{Arc}
use Rattle.matcher.specs.declared.profiles.AnyProfile.{AnyProfile}
use Rattle.mediation.specs.PolicyChanges.{judge_shared}
use Rattle.profile_registry.specs.inner.Contents.{said}
use Rattle.profile_registry.specs.inner.Names.{Profiles}

abbrev Share : Type 0
Share = Arc AnyProfile Global

abbrev Entry : Type 0
Entry = Vec ℕ Global × Share

abbrev names : List ℕ → List ℕ → Ordering
names = slice_cmp nat_cmp

-- the maps are alike at each name
pub same_profiles : (one other : Profiles) → ((name : List ℕ) → get one name ≡ get other name) → one ≡ other
same_profiles = same_map nat_list_cmp_total (slice_cmp-IsAntisymmetric nat_cmp-IsAntisymmetric)

mapped_cond : (b : Bool) (x y : Option Share) → option_map judge_shared (cond b x y) ≡ cond b (option_map judge_shared x)
    (option_map judge_shared y)
mapped_cond true x y = refl
mapped_cond false x y = refl

-- what is found among the entries
pub found : (name : List ℕ) (es : List Entry) → find names name (map said es) ≡ option_map judge_shared
    (lookup (is_at (λ key. names name key.items)) es)
found name [] = refl
found name (e ∷ es) =
    ap (cond (is_eq (names name e.0.items)) (Some (judge_shared e.1))) (found name es)
    ∙ sym (mapped_cond (is_eq (names name e.0.items)) (Some e.1) (lookup (is_at (λ key. names name key.items)) es))

pub got : (name : List ℕ) (es : List Entry) → get (from_entries {R = names} (map said es)) name ≡ option_map judge_shared
    (lookup (is_at (λ key. names name key.items)) es)
got name es = get-from_entries nat_list_cmp_total (map said es) name ∙ found name es

mapped_cases : (o : Ordering) (less equal greater : List Entry) → map said (match_ordering o less equal greater)
    ≡ by_order o (map said less) (map said equal) (map said greater)
mapped_cases Less less equal greater = refl
mapped_cases Equal less equal greater = refl
mapped_cases Greater less equal greater = refl

put_entries : (k : Vec ℕ Global) (share : Share) (es : List Entry)
    → map said (insert_entry (λ x y. names x.items y.items) es k share) ≡ put names k.items (judge_shared share) (map said es)
put_entries k share [] = refl
put_entries k share (e ∷ es) =
    mapped_cases (names k.items e.0.items) ((k, share) ∷ e ∷ es) ((e.0, share) ∷ es)
    (e ∷ insert_entry (λ x y. names x.items y.items) es k share)
    ∙ ap (λ l. by_order (names k.items e.0.items) (said (k, share) ∷ map said (e ∷ es)) ((e.0.items, judge_shared share) ∷ map said es)
    (said e ∷ l)) (put_entries k share es)

-- with an entry put, the map has the profile under its name
pub after_put : (k : Vec ℕ Global) (share : Share) (es now : List Entry) → now ≡ insert_entry (λ x y. names x.items y.items) es k share
    → from_entries {R = names} (map said now) ≡ insert (from_entries {R = names} (map said es)) k.items (judge_shared share)
after_put k share es now is = same_profiles _ _ (λ name.
    get-from_entries nat_list_cmp_total (map said now) name
    ∙ ap (find names name) (ap (map said) is ∙ put_entries k share es)
    ∙ find-put names nat_list_cmp_total name k.items (judge_shared share) (map said es)
    ∙ ap (cond (eq_by_cmp names name k.items) (Some (judge_shared share))) (sym (get-from_entries nat_list_cmp_total (map said es) name))
    ∙ sym (get-insert nat_list_cmp_total (from_entries {R = names} (map said es)) k.items (judge_shared share) name))

-- whether a key is the name
abbrev is_name : List ℕ → Vec ℕ Global → Bool
is_name name = is_at (λ key. names name key.items)

ties : (o : Ordering) → is_eq o ≡ true → o ≡ Equal
ties Less e = cc
ties Equal e = refl
ties Greater e = cc

-- without an entry of another name, the same is found
pub others_stay : (gone name : List ℕ) (es : List Entry) → eq_by_cmp names name gone ≡ false
    → lookup (is_name name) (remove_entry (is_name gone) es) ≡ lookup (is_name name) es
others_stay gone name [] apart = refl
others_stay gone name (e ∷ es) apart =
    elim (is_name gone e.0) as (λ (b : Bool). is_name gone e.0 ≡ b → lookup (is_name name) (cond b es (e ∷ remove_entry (is_name gone) es))
    ≡ lookup (is_name name) (e ∷ es)) [
      | true ↦ λ here.
          let other : is_name name e.0 ≡ false = ap is_eq (sym (alike_right nat_list_cmp_total gone e.0.items name (ties _ here)))
          ∙ apart in
          sym (ap (λ (b : Bool). cond b (Some e.1) (lookup (is_name name) es)) other)
      | false ↦ λ there. ap (cond (is_name name e.0) (Some e.1)) (others_stay gone name es apart)
    ] refl

same_name : (one other : List ℕ) (es : List Entry) → names one other ≡ Equal → lookup (is_name one) es ≡ lookup (is_name other) es
same_name one other [] e = refl
same_name one other (x ∷ xs) e =
    let here : is_name one x.0 ≡ is_name other x.0 = ap is_eq (nat_list_cmp_total.congr one other x.0.items e) in
    λ i. cond (here i) (Some x.1) (same_name one other xs e i)

-- with an entry removed, the map has nothing under its name
pub after_removal : (gone : List ℕ) (es now : List Entry) → now ≡ remove_entry (is_name gone) es → lookup (is_name gone) now ≡ None
    → from_entries {R = names} (map said now) ≡ remove (from_entries {R = names} (map said es)) gone
after_removal gone es now is none = same_profiles _ _ (λ name.
    elim (eq_by_cmp names name gone) as (λ (b : Bool). eq_by_cmp names name gone ≡ b
    → get (from_entries {R = names} (map said now)) name ≡ cond b None (get (from_entries {R = names} (map said es)) name)) [
      | true ↦ λ same. got name now ∙ ap (option_map judge_shared) (same_name name gone now (ties _ same) ∙ none)
      | false ↦ λ apart. got name now ∙ ap (option_map judge_shared) (ap (lookup (is_name name)) is ∙ others_stay gone name es apart)
          ∙ sym (got name es)
    ] refl
    ∙ sym (get-remove nat_list_cmp_total (from_entries {R = names} (map said es)) gone name))
