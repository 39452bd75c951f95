-- Which argument is the next one, by what is given.
use Rattle.std.proofs.Common.{◌≡◌, ◌∙◌, ℕ, Bool, true, false, not, ◌||◌, zero, suc, List, [], ◌∷◌, ◌++◌, map, Option, Some, None, refl}
use Rattle.std.proofs.Common.{ap, subst, sym}
use Rattle.std.specs.Prelude.{⊤, find, is_some, option_map, slice_get}
use Rattle.std.specs.Str.{bytes_eq}
use Rattle.std.proofs.lemmas.Option.{slice_get-map}
use Rattle.std.proofs.lemmas.Slice.Eq.{bytes_eq-Decides}
use Rattle.clap.specs.Walk.{Text}
use Rattle.trace_arguments.specs.Given.{Given, has, is_next, option_named, text_given}
use Rattle.trace_forms.specs.Forms.{ArgumentForm, OptionForm}
use Rattle.trace_arguments.specs.inner.Parser.{text_form}
use Rattle.trace_arguments.proofs.CommandRules.{found_at, rest_sound}
use Rattle.trace_arguments.proofs.Named.{not_same}
use Rattle.trace_arguments.proofs.OptionRules.{are_sound, text_new, text_other}

-- of the arguments the first n are given, and the others may be given once more
abbrev pub AreFirst : Given → ℕ → List ArgumentForm → Type 0
AreFirst given n [] = ⊤
AreFirst given zero (a ∷ arguments) = (is_next given a ≡ true) × AreFirst given zero arguments
AreFirst given (suc n) (a ∷ arguments) = (is_next given a ≡ false) × AreFirst given n arguments

none_next : (a : ArgumentForm) → is_next [] a ≡ true
none_next a = go a.is_repeated
  where
    go : (again : Bool) → (again || true) ≡ true
    go true = refl
    go false = refl

pub none_first : (arguments : List ArgumentForm) → AreFirst [] 0 arguments
none_first [] = tt
none_first (a ∷ arguments) = (none_next a, none_first arguments)

-- the next one is the first that may be given once more
pub next_is : (given : Given) (n : ℕ) (arguments : List ArgumentForm) → AreFirst given n arguments
    → find (is_next given) arguments ≡ slice_get arguments n
next_is given n [] first = refl
next_is given zero (a ∷ arguments) first = rw first.0 refl
next_is given (suc n) (a ∷ arguments) first = rw first.0 (next_is given n arguments first.1)

pub next_open : (given : Given) (n : ℕ) (arguments : List ArgumentForm) (a : ArgumentForm) → AreFirst given n arguments →
    slice_get arguments n ≡ Some a
    → is_next given a ≡ true
next_open given n [] a first at = absurd (cc at)
next_open given zero (b ∷ arguments) a first at =
    let it : b ≡ a = cc at in
    ap (is_next given) (sym it) ∙ first.0
next_open given (suc n) (b ∷ arguments) a first at = next_open given n arguments a first.1 at

-- none of the arguments has this name
abbrev pub IsOther : Text → List ArgumentForm → Type 0
IsOther name arguments = (k : ℕ) (a : ArgumentForm) → slice_get arguments k ≡ Some a → bytes_eq name a.name ≡ false

has_other : (given : Given) (name text other : Text) → bytes_eq name other ≡ false → has (given ++ (name, text) ∷ []) other
    ≡ has given other
has_other given name text other is = ap is_some (text_other given name text other is)

next_other : (given : Given) (name text : Text) (a : ArgumentForm) → bytes_eq name a.name ≡ false → is_next (given ++ (name, text) ∷ []) a
    ≡ is_next given a
next_other given name text a is = ap (λ (there : Bool). a.is_repeated || not there) (has_other given name text a.name is)

-- more of another name
pub first_kept : (given : Given) (name text : Text) (n : ℕ) (arguments : List ArgumentForm) → IsOther name arguments →
    AreFirst given n arguments
    → AreFirst (given ++ (name, text) ∷ []) n arguments
first_kept given name text n [] other first = tt
first_kept given name text zero (a ∷ arguments) other first = (
  next_other given name text a (other 0 a refl) ∙ first.0,
  first_kept given name text zero arguments (λ k b at. other (suc k) b at) first.1,
)
first_kept given name text (suc n) (a ∷ arguments) other first = (
  next_other given name text a (other 0 a refl) ∙ first.0,
  first_kept given name text n arguments (λ k b at. other (suc k) b at) first.1,
)

abbrev forms : List ArgumentForm → List OptionForm
forms = map text_form

-- the names after the first one are others
rest_other : (a : ArgumentForm) (arguments : List ArgumentForm) → are_sound (forms (a ∷ arguments)) ≡ true → IsOther a.name arguments
rest_other a arguments sound = λ k b at.
    let rest = rest_sound a (forms arguments) sound in
    let there : option_named (forms arguments) b.name ≡ Some (text_form b) =
    found_at (forms arguments) k (text_form b) rest.1 (slice_get-map text_form arguments k ∙ ap (option_map text_form) at) in
    not_same a.name b.name (λ same.
    let alone : not true ≡ true = sym (ap (λ (o : Option OptionForm). not (is_some o)) (ap (option_named (forms arguments)) same ∙ there))
    ∙ rest.0 in
    cc alone)

-- the place of the next argument, after one that may be given again or may not
abbrev pub place_after : Bool → ℕ → ℕ
place_after true n = n
place_after false n = suc n

-- one more of an argument that is given once
once_more : (given : Given) (text : Text) (a : ArgumentForm) → a.is_repeated ≡ false → is_next given a ≡ true →
    is_next (given ++ (a.name, text) ∷ []) a ≡ false
once_more given text a once first =
    let missing : not (has given a.name) ≡ true = sym (ap (λ (again : Bool). again || not (has given a.name)) once) ∙ first in
    rw (once, ap is_some (text_new given a.name text (none_said (text_given given a.name) missing))) refl
  where
    none_said : (o : Option Text) → not (is_some o) ≡ true → o ≡ None
    none_said None e = refl
    none_said (Some x) e = absurd (cc e)

-- one more of an argument that may be given again
again_more : (given : Given) (text : Text) (a : ArgumentForm) → a.is_repeated ≡ true → is_next (given ++ (a.name, text) ∷ []) a ≡ true
again_more given text a again = rw again refl

-- one more argument
pub first_more : (given : Given) (text : Text) (n : ℕ) (arguments : List ArgumentForm) (a : ArgumentForm) (again : Bool)
    → a.is_repeated ≡ again
    → are_sound (forms arguments) ≡ true → slice_get arguments n ≡ Some a → AreFirst given n arguments
    → AreFirst (given ++ (a.name, text) ∷ []) (place_after again n) arguments
first_more given text n [] a again is sound at first = absurd (cc at)
first_more given text zero (b ∷ arguments) a true is sound at first =
    let it : b ≡ a = cc at in
    subst (λ (x : ArgumentForm). AreFirst (given ++ (x.name, text) ∷ []) zero (b ∷ arguments)) it (
      again_more given text b (ap (λ (x : ArgumentForm). x.is_repeated) it ∙ is),
      first_kept given b.name text zero arguments (rest_other b arguments sound) first.1,
    )
first_more given text zero (b ∷ arguments) a false is sound at first =
    let it : b ≡ a = cc at in
    subst (λ (x : ArgumentForm). AreFirst (given ++ (x.name, text) ∷ []) (suc zero) (b ∷ arguments)) it (
      once_more given text b (ap (λ (x : ArgumentForm). x.is_repeated) it ∙ is) first.0,
      first_kept given b.name text zero arguments (rest_other b arguments sound) first.1,
    )
first_more given text (suc n) (b ∷ arguments) a again is sound at first =
    let rest = rest_sound b (forms arguments) sound in
    let other : bytes_eq a.name b.name ≡ false =
    not_same a.name b.name (λ same.
    let bad : true ≡ false = sym ((bytes_eq-Decides b.name a.name).1 (sym same)) ∙ rest_other b arguments sound n a at in
    cc bad) in
    let first_too : is_next (given ++ (a.name, text) ∷ []) b ≡ false = next_other given a.name text b other ∙ first.0 in
    go again (first_more given text n arguments a again is rest.1 at first.1) first_too
  where
    go : (again : Bool) → AreFirst (given ++ (a.name, text) ∷ []) (place_after again n) arguments
        → is_next (given ++ (a.name, text) ∷ []) b ≡ false
        → AreFirst (given ++ (a.name, text) ∷ []) (place_after again (suc n)) (b ∷ arguments)
    go true more here = (here, more)
    go false more here = (here, more)
