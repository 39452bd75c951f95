-- Where each variable has a value, limits that apply to whole lists only make no difference.
use Rattle.std.proofs.Common.{◌≡◌, ℕ, zero, suc, ◌*◌, ◌≤◌, ◌<◌, Bool, true, false, cond, List, [], ◌∷◌, ◌++◌, length, Option, Some, None}
use Rattle.std.proofs.Common.{refl, sym, ap, ◌∙◌, subst, arith, length-append}
use Rattle.std.specs.Prelude.{option_and_then, slice_index_or, nat_le, ◌&&◌, All}
use Rattle.std.proofs.lemmas.Bool.{leb-true}
use Rattle.std.proofs.lemmas.List.Sums.{sum_by-append}
use Rattle.std.proofs.lemmas.Option.{unwrap_or-slice_get}
use Rattle.std.proofs.Math.Nat.{mul-le-mul_left}
use Rattle.apparmor_pieces.specs.Pieces.{Text, Piece, byte, escaped, use_of, pieces}
use Rattle.apparmor_variables.specs.Variables.{Variable, Known, values_of, byte_count, fitting, most_texts, most_bytes, each_with}
use Rattle.apparmor_variables.specs.Variables.{piece_texts, texts_from, value_texts, list_from, list_of_values, list_at}
use Rattle.apparmor_variables.specs.WholeLists.{all_texts_from, all_from, whole_list, whole_list_at}
use Rattle.apparmor_variables.specs.inner.Known.{place_of}
use Rattle.apparmor_variables.specs.inner.Way.{variable_at}
use Rattle.apparmor_variables.proofs.TextLists.{fitting_all, length-each_with, byte_count-each_with}
use Rattle.apparmor_variables.proofs.KnownLists.{both_steps, and_both, stands_at, stands_nowhere}

-- ---- what fits

record Fits (texts : List Text) : Type 0 where
  few : length texts ≤ most_texts
  short : byte_count texts ≤ most_bytes

both_true : (a b : Bool) → a && b ≡ true → (a ≡ true) × (b ≡ true)
both_true true b h = (refl, h)
both_true false b h = absurd cc

-- what is fitting is what it was, and fits
fits : (texts found : List Text) → fitting texts ≡ Some found → (texts ≡ found) × Fits texts
fits texts found e =
    let test = nat_le (length texts) most_texts && nat_le (byte_count texts) most_bytes in
    let P : (t : Bool) → test ≡ t → cond t (Some texts) None ≡ Some found → (texts ≡ found) × Fits texts =
    λ t. elim t as (λ t. test ≡ t → cond t (Some texts) None ≡ Some found → (texts ≡ found) × Fits texts) [
      | true ↦ λ h g. let b = both_true (nat_le (length texts) most_texts) (nat_le (byte_count texts) most_bytes) h in
          (cc, record { few = leb-true (length texts) most_texts b.0; short = leb-true (byte_count texts) most_bytes b.1 })
      | false ↦ λ h g. absurd cc
    ] in
    P test refl e

is_fitting : (texts : List Text) → Fits texts → fitting texts ≡ Some texts
is_fitting texts h = fitting_all texts h.few h.short

-- what was begun fits where what it became does
fits_begun : (begun choices : List Text) → 0 < length choices → Fits (each_with begun choices) → Fits begun
fits_begun begun choices some h =
    let n = length-each_with begun choices in
    let b = byte_count-each_with begun choices in
    let few : length begun * 1 ≤ length begun * length choices = mul-le-mul_left (length begun) some in
    let short : byte_count begun * 1 ≤ byte_count begun * length choices = mul-le-mul_left (byte_count begun) some in
    let f = h.few in
    let s = h.short in
    record { few = omega (arith, n, few, f); short = omega (arith, b, short, s) }

fits_first : (one other : List Text) → Fits (one ++ other) → Fits one
fits_first one other h =
    let n = length-append one other in let b = sum_by-append length one other in let f = h.few in let s = h.short in
    record { few = omega (arith, n, f); short = omega (arith, b, s) }

fits_second : (one other : List Text) → Fits (one ++ other) → Fits other
fits_second one other h =
    let n = length-append one other in let b = sum_by-append length one other in let f = h.few in let s = h.short in
    record { few = omega (arith, n, f); short = omega (arith, b, s) }

-- ---- lists of one variable

-- each known list has a text
abbrev AreFilled : Known → Type 0
AreFilled known = (name : Text) (list : List Text) → known name ≡ Some list → 0 < length list

module _ (known : Known) (filled : AreFilled known) where
  some_choice : (p : Piece) (choices : List Text) → piece_texts known p ≡ Some choices → 0 < length choices
  some_choice (byte b) choices e = let is : (b ∷ []) ∷ [] ≡ choices = cc in subst (λ (x : List Text). 0 < length x) is (omega arith)
  some_choice (escaped b) choices e = let is : (92 ∷ b ∷ []) ∷ [] ≡ choices = cc in
      subst (λ (x : List Text). 0 < length x) is (omega arith)
  some_choice (use_of name) choices e = filled name choices e

  -- without limits on the way the texts are the same
  all_texts : (begun : List Text) (ps : List Piece) (texts : List Text) → texts_from known begun ps ≡ Some texts →
      all_texts_from known begun ps ≡ Some texts
  all_texts begun [] texts e = e
  all_texts begun (p ∷ ps) texts e =
      let a = both_steps (λ choices. option_and_then (λ longer. texts_from known longer ps) (fitting (each_with begun choices)))
      (piece_texts known p) texts e in
      let b = both_steps (λ longer. texts_from known longer ps) (fitting (each_with begun a.0)) texts a.2 in
      let same = (fits (each_with begun a.0) b.0 b.1).0 in
      and_both (λ choices. all_texts_from known (each_with begun choices) ps) (piece_texts known p) a.0 texts a.1
      (ap (λ (x : List Text). all_texts_from known x ps) same ∙ all_texts b.0 ps texts b.2)

  -- what is begun fits where the whole does
  begun_fits : (begun : List Text) (ps : List Piece) (texts : List Text) → all_texts_from known begun ps ≡ Some texts →
      Fits texts → Fits begun
  begun_fits begun [] texts e h = let is : texts ≡ begun = cc in subst Fits is h
  begun_fits begun (p ∷ ps) texts e h =
      let a = both_steps (λ choices. all_texts_from known (each_with begun choices) ps) (piece_texts known p) texts e in
      fits_begun begun a.0 (some_choice p a.0 a.1) (begun_fits (each_with begun a.0) ps texts a.2 h)

  limited_texts : (begun : List Text) (ps : List Piece) (texts : List Text) → all_texts_from known begun ps ≡ Some texts → Fits texts →
      texts_from known begun ps ≡ Some texts
  limited_texts begun [] texts e h = e
  limited_texts begun (p ∷ ps) texts e h =
      let a = both_steps (λ choices. all_texts_from known (each_with begun choices) ps) (piece_texts known p) texts e in
      and_both (λ choices. option_and_then (λ longer. texts_from known longer ps) (fitting (each_with begun choices)))
      (piece_texts known p) a.0 texts a.1 (and_both (λ longer. texts_from known longer ps) (fitting (each_with begun a.0))
      (each_with begun a.0) texts (is_fitting (each_with begun a.0) (begun_fits (each_with begun a.0) ps texts a.2 h))
      (limited_texts (each_with begun a.0) ps texts a.2 h))

  all_values : (begun values list : List Text) → Fits begun → list_from known begun values ≡ Some list →
      (all_from known begun values ≡ Some list) × Fits list
  all_values begun [] list h e = let is : begun ≡ list = cc in (e, subst Fits is h)
  all_values begun (v ∷ vs) list h e =
      let a = both_steps (λ texts. option_and_then (λ longer. list_from known longer vs) (fitting (begun ++ texts)))
      (value_texts known v) list e in
      let b = both_steps (λ longer. list_from known longer vs) (fitting (begun ++ a.0)) list a.2 in
      let f = fits (begun ++ a.0) b.0 b.1 in
      let r = all_values b.0 vs list (subst Fits f.0 f.1) b.2 in (
        and_both (λ texts. all_from known (begun ++ texts) vs) (all_texts_from known ([] ∷ []) (pieces v)) a.0 list
            (all_texts ([] ∷ []) (pieces v) a.0 a.1) (ap (λ (x : List Text). all_from known x vs) f.0 ∙ r.0),
        r.1,
      )

  front_fits : (begun values list : List Text) → all_from known begun values ≡ Some list → Fits list → Fits begun
  front_fits begun [] list e h = let is : list ≡ begun = cc in subst Fits is h
  front_fits begun (v ∷ vs) list e h =
      let a = both_steps (λ texts. all_from known (begun ++ texts) vs) (all_texts_from known ([] ∷ []) (pieces v)) list e in
      fits_first begun a.0 (front_fits (begun ++ a.0) vs list a.2 h)

  limited_values : (begun values list : List Text) → all_from known begun values ≡ Some list → Fits list →
      list_from known begun values ≡ Some list
  limited_values begun [] list e h = e
  limited_values begun (v ∷ vs) list e h =
      let a = both_steps (λ texts. all_from known (begun ++ texts) vs) (all_texts_from known ([] ∷ []) (pieces v)) list e in
      let f = front_fits (begun ++ a.0) vs list a.2 h in
      and_both (λ texts. option_and_then (λ longer. list_from known longer vs) (fitting (begun ++ texts))) (value_texts known v) a.0 list
      (limited_texts ([] ∷ []) (pieces v) a.0 a.1 (fits_second begun a.0 f))
      (and_both (λ longer. list_from known longer vs) (fitting (begun ++ a.0)) (begun ++ a.0) list (is_fitting (begun ++ a.0) f)
      (limited_values (begun ++ a.0) vs list a.2 h))

  to_whole : (values list : List Text) → list_of_values known values ≡ Some list → whole_list known values ≡ Some list
  to_whole values list e =
      let r = all_values [] values list (record { few = omega arith; short = omega arith }) e in
      and_both fitting (all_from known [] values) list list r.0 (is_fitting list r.1)

  from_whole : (values list : List Text) → whole_list known values ≡ Some list → list_of_values known values ≡ Some list
  from_whole values list e =
      let a = both_steps fitting (all_from known [] values) list e in
      let f = fits a.0 list a.2 in
      limited_values [] values list (a.1 ∙ ap Some f.0) (subst Fits f.0 f.1)

  -- ---- a list has a text

  texts_filled : (begun : List Text) (ps : List Piece) (texts : List Text) → 0 < length begun → all_texts_from known begun ps
      ≡ Some texts → 0 < length texts
  texts_filled begun [] texts some e = let is : begun ≡ texts = cc in subst (λ (x : List Text). 0 < length x) is some
  texts_filled begun (p ∷ ps) texts some e =
      let a = both_steps (λ choices. all_texts_from known (each_with begun choices) ps) (piece_texts known p) texts e in
      let n = length-each_with begun a.0 in
      let c = some_choice p a.0 a.1 in
      let product : length begun * 1 ≤ length begun * length a.0 = mul-le-mul_left (length begun) c in
      texts_filled (each_with begun a.0) ps texts (omega (arith, n, product, some)) a.2

  values_filled : (begun values list : List Text) → 0 < length begun → all_from known begun values ≡ Some list → 0 < length list
  values_filled begun [] list some e = let is : begun ≡ list = cc in subst (λ (x : List Text). 0 < length x) is some
  values_filled begun (v ∷ vs) list some e =
      let a = both_steps (λ texts. all_from known (begun ++ texts) vs) (all_texts_from known ([] ∷ []) (pieces v)) list e in
      let n = length-append begun a.0 in
      values_filled (begun ++ a.0) vs list (omega (arith, n, some)) a.2

  list_filled : (values list : List Text) → 0 < length values → list_of_values known values ≡ Some list → 0 < length list
  list_filled [] list some e = absurd (omega arith)
  list_filled (v ∷ vs) list some e =
      let r = all_values [] (v ∷ vs) list (record { few = omega arith; short = omega arith }) e in
      let a = both_steps (λ texts. all_from known ([] ++ texts) vs) (all_texts_from known ([] ∷ []) (pieces v)) list r.0 in
      values_filled a.0 vs list (texts_filled ([] ∷ []) (pieces v) a.0 (omega arith) a.1) a.2

-- ---- lists at any level

both_or_none : {A : Type 0} (a b : Option A) → ((x : A) → a ≡ Some x → b ≡ Some x) → ((x : A) → b ≡ Some x → a ≡ Some x) → a ≡ b
both_or_none None None f g = refl
both_or_none None (Some x) f g = g x refl
both_or_none (Some x) b f g = sym (f x refl)

has_values : (variables : List Variable) → All (λ (v : Variable). 0 < length v.values) variables → (name : Text) (values : List Text)
    (o : Option ℕ) → place_of variables name ≡ o → values_of variables name ≡ Some values → 0 < length values
has_values variables filled name values None e valued = let no : None ≡ Some values = sym (stands_nowhere variables name e)
    ∙ valued in absurd cc
has_values variables filled name values (Some p) e valued =
    let at = stands_at variables name p e in
    let d : Variable = record { name = []; values = [] } in
    let both : Some (variable_at variables p).values ≡ Some values = sym at.valued ∙ valued in
    let same : (variable_at variables p).values ≡ values = cc in
    let is : slice_index_or variables p d ≡ variable_at variables p = sym (unwrap_or-slice_get variables p d) in
    subst (λ (x : List Text). 0 < length x) (ap (λ (v : Variable). v.values) is ∙ same) (filled p d at.within)

filled_at : (variables : List Variable) → All (λ (v : Variable). 0 < length v.values) variables → (n : ℕ) → AreFilled (list_at n variables)
unfolding list_at
filled_at variables filled zero name list e = absurd cc
filled_at variables filled (suc n) name list e =
    let a = both_steps (list_of_values (list_at n variables)) (values_of variables name) list e in
    list_filled (list_at n variables) (filled_at variables filled n) a.0 list
    (has_values variables filled name a.0 (place_of variables name) refl a.1) a.2

pub same_lists : (variables : List Variable) → All (λ (v : Variable). 0 < length v.values) variables → (n : ℕ) (name : Text) →
    list_at n variables name ≡ whole_list_at n variables name
unfolding list_at whole_list_at
same_lists variables filled zero name = refl
same_lists variables filled (suc n) name =
    (λ i. option_and_then (λ (values : List Text). both_or_none (list_of_values (list_at n variables) values)
    (whole_list (list_at n variables) values) (to_whole (list_at n variables) (filled_at variables filled n) values)
    (from_whole (list_at n variables) (filled_at variables filled n) values) i) (values_of variables name))
    ∙ ap (λ (known : Known). option_and_then (whole_list known) (values_of variables name)) (λ i x. same_lists variables filled n x i)
