-- A path that is split before its last component.
use Rattle.std.proofs.Common.{◌≡◌, ℕ, ◌+◌, ◌-◌, ◌<◌, ◌≤◌, ◌==◌, ◌&&◌, Bool, true, false, List, [], ◌∷◌, ◌++◌, length, take, get_or, sym}
use Rattle.std.proofs.Common.{refl, ap, ◌∙◌, arith, add-one, eq-eqb, length-append, true≢false}
use Rattle.std.specs.Prelude.{if◌then◌else◌, Ok, Err}
use mathlib.Core.Logic.{◌⊎◌, ◌≢◌, inl, inr, ⊎_elim}
use Rattle.std.specs.List.{list_any}
use Rattle.std.proofs.lemmas.List.{length-take-le, get_or_at}
use Rattle.std.proofs.Math.Seq.{take-suc, take-length}
use Rattle.std.proofs.lemmas.Bool.{cases_eq}
use Rattle.names.specs.declared.errors.Errno.TheVariants.{EBUSY, EINVAL}
use Rattle.path_lookup.specs.declared.target.EndSlash.{EndSlash}
use Rattle.names.specs.Paths.{is_slash, filled_parts, ends_with_slash}
use Rattle.directory_tree.specs.Components.{is_filled, slash}
use Rattle.directory_tree.specs.Apply.{Target, target_from, target_of, tested, is_dots}
use Rattle.path_lookup.specs.Target.{is_refused, target_for}
use Rattle.directory_tree.proofs.Texts.{names_more, names_closed, ends_closed}

pub ends_last : (xs : List ℕ) (b : ℕ) → ends_with_slash (xs ++ b ∷ []) ≡ (b == slash)
ends_last xs b = ap is_slash (get_or_at xs b [] 0 (length (xs ++ b ∷ []) - 1) (omega (arith, length-append xs (b ∷ []))))

pub one_more : (text : List ℕ) (k e : ℕ) → e ≡ k + 1 → k < length text → take e text ≡ take k text ++ get_or text k 0 ∷ []
one_more text k e is low = ap (λ (n : ℕ). take n text) (is ∙ add-one k) ∙ take-suc text k 0 low

-- one slash less at the end
pub names_cut : (text : List ℕ) (k e : ℕ) → e ≡ k + 1 → k < length text → get_or text k 0 ≡ slash → filled_parts (take k text)
    ≡ filled_parts (take e text)
names_cut text k e is low at = sym (ap filled_parts (one_more text k e is low ∙ ap (λ (b : ℕ). take k text ++ b ∷ []) at)
    ∙ names_closed (take k text))

pub ends_cut : (text : List ℕ) (k e : ℕ) → e ≡ k + 1 → k < length text → ends_with_slash (take e text) ≡ (get_or text k 0 == slash)
ends_cut text k e is low = ap ends_with_slash (one_more text k e is low) ∙ ends_last (take k text) (get_or text k 0)

last_filled : (front last : List ℕ) → ends_with_slash (front ++ slash ∷ last) ≡ false → is_filled last ≡ true
last_filled front [] h = absurd (true≢false (sym (ends_closed front) ∙ h))
last_filled front (b ∷ last) h = refl

pub split_names : (text front last : List ℕ) → is_filled text ≡ true → ends_with_slash text ≡ false →
    list_any (λ b. b == slash) last ≡ false
    → ((front ≡ []) × (text ≡ last)) ⊎ (text ≡ front ++ slash ∷ last) → filled_parts text ≡ filled_parts front ++ last ∷ []
split_names text front last filled unclosed none (inl (first, all)) =
    ap filled_parts all ∙ names_more [] last (ap is_filled (sym all) ∙ filled) none ∙ ap (λ (xs : List ℕ). filled_parts xs ++ last ∷ [])
    (sym first)
split_names text front last filled unclosed none (inr both) =
    ap filled_parts both ∙ names_more front last (last_filled front last (ap ends_with_slash (sym both) ∙ unclosed)) none

target_last : (x : List ℕ) (xs : List (List ℕ)) (c : List ℕ) → target_from x (xs ++ c ∷ []) ≡ record { before = x ∷ xs; last = c }
target_last x [] c = refl
target_last x (y ∷ xs) c = ap (λ (t : Target). let r : Target = record { before = x ∷ t.before; last = t.last } in r) (target_last y xs c)

pub target_one : (refuse : Bool) (xs : List (List ℕ)) (c : List ℕ) → target_of refuse (xs ++ c ∷ [])
    ≡ (if refuse then Err EINVAL else tested record { before = xs; last = c })
target_one refuse [] c = refl
target_one refuse (x ∷ xs) c = ap (λ (t : Target). if refuse then Err EINVAL else tested t) (target_last x xs c)

pub target_parts : (slash : EndSlash) (path before last : List ℕ) → filled_parts path ≡ filled_parts before ++ last ∷ []
    → target_for slash path ≡ (if is_refused slash && ends_with_slash path then Err EINVAL else tested record {
      before =
          filled_parts before;
      last = last;
    })
target_parts slash path before last h = ap (target_of (is_refused slash && ends_with_slash path)) h
    ∙ target_one (is_refused slash && ends_with_slash path) (filled_parts before) last

pub target_none : (slash : EndSlash) (path : List ℕ) → filled_parts path ≡ [] → target_for slash path ≡ Err EBUSY
target_none slash path h = ap (target_of (is_refused slash && ends_with_slash path)) h

pub target_slash : (slash : EndSlash) (path before last : List ℕ) → filled_parts path ≡ filled_parts before ++ last ∷ [] → is_refused slash
    ≡ true → ends_with_slash path ≡ true → target_for slash path ≡ Err EINVAL
target_slash slash path before last h refused ends =
    target_parts slash path before last h
    ∙ (λ i. if refused i && ends i then Err EINVAL else tested record { before = filled_parts before; last = last })

both_no : (a b : Bool) → (a ≡ false) ⊎ (b ≡ false) → (a && b) ≡ false
both_no true b (inl h) = absurd (true≢false h)
both_no true b (inr h) = h
both_no false b h = refl

pub target_open : (slash : EndSlash) (path before last : List ℕ) → filled_parts path ≡ filled_parts before ++ last ∷ [] →
    (is_refused slash ≡ false) ⊎ (ends_with_slash path ≡ false)
    → target_for slash path ≡ (if is_dots last then Err EINVAL else Ok record { before = filled_parts before; last = last })
target_open slash path before last h unclosed =
    target_parts slash path before last h
    ∙ ap (λ (b : Bool). if b then Err EINVAL else tested record { before = filled_parts before; last = last })
    (both_no (is_refused slash) (ends_with_slash path) unclosed)

pub ends_less : (text : List ℕ) (k e : ℕ) → e ≡ k + 1 → e ≤ length text → get_or text k 0 ≡ slash →
    (e < length text → ends_with_slash text ≡ true) → ends_with_slash text ≡ true
ends_less text k e is low at more = ⊎_elim
    (λ (same : e ≡ length text). sym (ap ends_with_slash (ap (λ (n : ℕ). take n text) same ∙ take-length text)) ∙ ends_cut text k e is
    (omega arith) ∙ eq-eqb (get_or text k 0) slash at)
    (λ (other : e ≢ length text). more (omega arith))
    (cases_eq e (length text))

pub whole_open : (text : List ℕ) (e : ℕ) → e ≤ length text → length (take e text) ≡ length text → ends_with_slash (take e text) ≡ false →
    ends_with_slash text ≡ false
whole_open text e low same unclosed =
    let e_is : e ≡ length text = sym (length-take-le e text low) ∙ same in
    sym (ap ends_with_slash (ap (λ (n : ℕ). take n text) e_is ∙ take-length text)) ∙ unclosed

pub filled_from : (text : List ℕ) → 0 < length text → is_filled text ≡ true
filled_from [] h = absurd (omega arith)
filled_from (b ∷ text) h = refl

pub shorter : (front last text : List ℕ) → ((front ≡ []) × (text ≡ last)) ⊎ (text ≡ front ++ slash ∷ last) → length front ≤ length text
shorter front last text (inl (first, all)) = omega (arith, ap length first)
shorter front last text (inr both) = omega (arith, ap length both, length-append front (slash ∷ last))
