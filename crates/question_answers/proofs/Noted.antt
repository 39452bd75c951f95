-- Causes that are noted, one after another.
use Rattle.std.proofs.Common.{◌≡◌, ◌⊎◌, ◌↔◌, inl, inr, ⊎_elim, ℕ, zero, suc, ◌||◌, Bool, true, false, true≢false, List, [], ◌∷◌, ◌++◌}
use Rattle.std.proofs.Common.{Some, slice_get, length, if◌then◌else◌, refl, sym, ap, ◌∙◌, subst}
use Rattle.std.proofs.Common.{◌+◌, ◌<◌, ◌≤◌, IsTrue, arith, slice_index_or}
use Rattle.std.specs.Prelude.{not}
use Rattle.std.specs.List.{list_any}
use Rattle.std.proofs.lemmas.Bool.{cases_Bool, cases_lt, or_cases, or_left, or_right}
use Rattle.std.proofs.lemmas.Option.{none-some, same_Some}
use Rattle.names.specs.Permissions.{all_permissions, has, index, permission_count}
use Rattle.names.specs.declared.permissions.Permission.{Permission}
use Rattle.names.specs.declared.permissions.Perms.{Perms}
use Rattle.profile_questions.specs.declared.comparison.Records.{Records}
use Rattle.automaton_search.specs.laws.Lists.{get_either, get_last, get_stays}
use Rattle.question_answers.specs.declared.cause.Causes.{Causes}
use Rattle.question_answers.specs.inner.Causes.{AreCauses, AreNoted, IsIn, causes_at}

-- ---- keys of a set

in_more : (keys : List Causes) (x k : Causes) → (IsIn keys k ⊎ (k ≡ x)) → IsIn (keys ++ x ∷ []) k
in_more keys x k (inl at) = (at.0, get_stays keys (x ∷ []) at.0 k at.1)
in_more keys x k (inr e) = (length keys, get_last keys x ∙ ap Some (sym e))

module _ (eq : Causes → Causes → Bool) (same : (a b : Causes) → eq a b ≡ true → a ≡ b) (itself : (a : Causes) → eq a a ≡ true) where
  there : (keys : List Causes) (k : Causes) → list_any (eq k) keys ≡ true → IsIn keys k
  there [] k h = absurd (true≢false (sym h))
  there (x ∷ xs) k h = ⊎_elim
      (λ e. (0, ap Some (sym (same k x e))))
      (λ more. let at = there xs k more in (suc at.0, at.1))
      (or_cases (eq k x) (list_any (eq k) xs) h)

  found : (keys : List Causes) (k : Causes) (i : ℕ) → slice_get keys i ≡ Some k → list_any (eq k) keys ≡ true
  found [] k i at = absurd (none-some k at)
  found (x ∷ xs) k zero at = or_left (eq k x) (list_any (eq k) xs) (ap (eq k) (same_Some x k at) ∙ itself k)
  found (x ∷ xs) k (suc i) at = or_right (eq k x) (list_any (eq k) xs) (found xs k i at)

  -- whether causes are noted can be decided
  pub in_or_not : (keys : List Causes) (k : Causes) → IsIn keys k ⊎ ¬ (IsIn keys k)
  in_or_not keys k = ⊎_elim
      (λ h. inl (there keys k h))
      (λ h. inr (λ at. true≢false (sym (found keys k at.0 at.1) ∙ h)))
      (cases_Bool (list_any (eq k) keys))

  pub inserted : (keys : List Causes) (k : Causes) (more : List Causes) (new : Bool) → new ≡ not (list_any (eq k) keys) →
      more ≡ (if list_any (eq k) keys then keys else keys ++ k ∷ []) → AreNoted keys more new (λ z. z ≡ k)
  inserted keys k more new is kept = ⊎_elim
      (λ h.
      let same_keys : more ≡ keys = kept ∙ ap (λ (b : Bool). if b then keys else keys ++ k ∷ []) h in
      let old : new ≡ false = is ∙ ap not h in record {
        noted = λ z. (
          λ at. inl (subst (λ ks. IsIn ks z) same_keys at),
          ⊎_elim
              (λ at. subst (λ ks. IsIn ks z) (sym same_keys) at)
              (λ e. subst (λ ks. IsIn ks z) (sym same_keys) (subst (IsIn keys) (sym e) (there keys k h))),
        );
        news = (
          λ t. absurd (true≢false (sym t ∙ old)),
          λ z. absurd (z.2 (subst (IsIn keys) (sym z.1) (there keys k h))),
        );
      })
      (λ h.
      let more_keys : more ≡ keys ++ k ∷ [] = kept ∙ ap (λ (b : Bool). if b then keys else keys ++ k ∷ []) h in
      let yes : new ≡ true = is ∙ ap not h in record {
        noted = λ z. (
          λ at. let here = subst (λ ks. IsIn ks z) more_keys at in
              ⊎_elim (λ e. inl (here.0, e)) (λ e. inr (sym e.1)) (get_either keys k z here.0 here.1),
          λ at. subst (λ ks. IsIn ks z) (sym more_keys) (in_more keys k z at),
        );
        news = (
          λ t. (k, refl, λ at. true≢false (sym (found keys k at.0 at.1) ∙ h)),
          λ z. yes,
        );
      })
      (cases_Bool (list_any (eq k) keys))

-- ---- several

pub none_noted : (keys : List Causes) (Are : Causes → Type 0) → ((k : Causes) → ¬ (Are k)) → AreNoted keys keys false Are
none_noted keys Are none = record {
  noted = λ k. (λ at. inl at, ⊎_elim (λ at. at) (λ is. absurd (none k is)));
  news = (λ t. absurd (true≢false (sym t)), λ z. absurd (none z.0 z.1));
}

pub noted_as : (old new : List Causes) (is_new : Bool) (Are Other : Causes → Type 0) → ((k : Causes) → Are k ↔ Other k) →
    AreNoted old new is_new Are → AreNoted old new is_new Other
noted_as old new is_new Are Other same are = record {
  noted = λ k. (
    λ at. ⊎_elim (λ was. inl was) (λ is. inr ((same k).0 is)) ((are.noted k).0 at),
    ⊎_elim (λ was. (are.noted k).1 (inl was)) (λ is. (are.noted k).1 (inr ((same k).1 is))),
  );
  news = (
    λ t. let one = are.news.0 t in (one.0, (same one.0).0 one.1, one.2),
    λ one. are.news.1 (one.0, (same one.0).1 one.1, one.2),
  );
}

module _ (old mid new : List Causes) (a b : Bool) (Are Also : Causes → Type 0) (one : AreNoted old mid a Are)
    (two : AreNoted mid new b Also) where
  -- what is new among the second is noted by the first, or it is new there as well
  second : (k : Causes) → Also k → ¬ (IsIn old k) → (a || b) ≡ true
  second k also not_old = ⊎_elim
      (λ t. or_left a b t)
      (λ f. or_right a b (two.news.1 (
        k,
        also,
        λ at. ⊎_elim
            (λ was. not_old was)
            (λ is. true≢false (sym (one.news.1 (k, is, not_old)) ∙ f))
            ((one.noted k).0 at),
      )))
      (cases_Bool a)

  pub both_noted : AreNoted old new (a || b) (λ k. Are k ⊎ Also k)
  both_noted = record {
    noted = λ k. (
      λ at. ⊎_elim
          (λ mid_at. ⊎_elim (λ was. inl was) (λ is. inr (inl is)) ((one.noted k).0 mid_at))
          (λ also. inr (inr also))
          ((two.noted k).0 at),
      ⊎_elim
          (λ was. (two.noted k).1 (inl ((one.noted k).1 (inl was))))
          (⊎_elim
          (λ is. (two.noted k).1 (inl ((one.noted k).1 (inr is))))
          (λ also. (two.noted k).1 (inr also))),
    );
    news = (
      λ t. ⊎_elim
          (λ first. let is = one.news.0 first in (is.0, inl is.1, is.2))
          (λ next. let is = two.news.0 next in (is.0, inr is.1, λ was. is.2 ((one.noted is.0).1 (inl was))))
          (or_cases a b t),
      λ z. ⊎_elim (λ is. or_left a b (one.news.1 (z.0, is, z.2))) (λ also. second z.0 also z.2) z.1,
    );
  }

-- one more permission
module _ (records : Records) (ask : Perms) where
  -- those of the first permissions that are asked
  abbrev pub AreFirst : ℕ → Causes → Type 0
  AreFirst count k = (p : Permission) × (index p < count) × IsTrue (has ask p) × (k ≡ causes_at records p)

  abbrev pub AreOf : Permission → Causes → Type 0
  AreOf p k = k ≡ causes_at records p

  module _ (i : ℕ) (here : Permission) (is : index here ≡ i) (only : (p : Permission) → index p ≡ i → p ≡ here) where
    next_or_before : (k : Causes) (p : Permission) → index p < i + 1 → IsTrue (has ask p) → k ≡ causes_at records p →
        AreFirst i k ⊎ (IsTrue (has ask here) × AreOf here k)
    next_or_before k p lt asked e = ⊎_elim
        (λ before. inl (p, before, asked, e))
        (λ from.
        let same : p ≡ here = only p (omega (arith, lt, from)) in
        inr (subst (λ q. IsTrue (has ask q)) same asked, subst (λ q. k ≡ causes_at records q) same e))
        (cases_lt (index p) i)

    pub asked_more : IsTrue (has ask here) → (k : Causes) → (AreFirst i k ⊎ AreOf here k) ↔ AreFirst (i + 1) k
    asked_more asked k = (
      ⊎_elim
          (λ first. (first.0, omega (arith, first.1), first.2, first.3))
          (λ e. (here, omega (arith, is), asked, e)),
      λ first. ⊎_elim (λ before. inl before) (λ next. inr next.1) (next_or_before k first.0 first.1 first.2 first.3),
    )

    pub not_asked : has ask here ≡ false → (k : Causes) → AreFirst i k ↔ AreFirst (i + 1) k
    not_asked lacks k = (
      λ first. (first.0, omega (arith, first.1), first.2, first.3),
      λ first. ⊎_elim
          (λ before. before)
          (λ next. absurd (true≢false (sym next.0 ∙ lacks)))
          (next_or_before k first.0 first.1 first.2 first.3),
    )

-- the permission with this index
module _ (there_is : (p other : Permission) → slice_index_or all_permissions (index p) other ≡ p)
    (only_at : (k : ℕ) (other : Permission) → k < permission_count → index (slice_index_or all_permissions k other) ≡ k)
    (records : Records) (ask : Perms) (i : ℕ) (lt : i < permission_count) (other : Permission) where
  abbrev pub at_index : Permission
  at_index = slice_index_or all_permissions i other

  one_there : (p : Permission) → index p ≡ i → p ≡ at_index
  one_there p e = sym (there_is p other) ∙ ap (λ k. slice_index_or all_permissions k other) e

  pub asked_noted : has ask at_index ≡ true → (old mid new : List Causes) (a b : Bool) → AreNoted old mid a (AreFirst records ask i) →
      AreNoted mid new b (λ k. k ≡ causes_at records at_index) → AreNoted old new (a || b) (AreFirst records ask (i + 1))
  asked_noted asked old mid new a b one two =
      noted_as old new (a || b) (λ k. AreFirst records ask i k ⊎ (k ≡ causes_at records at_index)) (AreFirst records ask (i + 1))
      (asked_more records ask i at_index (only_at i other lt) one_there asked)
      (both_noted old mid new a b (AreFirst records ask i) (λ k. k ≡ causes_at records at_index) one two)

  pub unasked_noted : has ask at_index ≡ false → (old mid : List Causes) (a : Bool) → AreNoted old mid a (AreFirst records ask i) →
      AreNoted old mid a (AreFirst records ask (i + 1))
  unasked_noted lacks old mid a one =
      noted_as old mid a (AreFirst records ask i) (AreFirst records ask (i + 1))
      (not_asked records ask i at_index (only_at i other lt) one_there lacks) one

pub all_noted : ((p : Permission) → index p < permission_count) → (records : Records) (ask : Perms) (count : ℕ) →
    permission_count ≤ count → (old new : List Causes) (a : Bool) → AreNoted old new a (AreFirst records ask count) →
    AreNoted old new a (AreCauses records ask)
all_noted below records ask count past old new a are =
    noted_as old new a (AreFirst records ask count) (AreCauses records ask)
    (λ k. (λ first. (first.0, first.2, first.3), λ is. (is.0, omega (arith, below is.0, past), is.1, is.2))) are
