-- What the profiles that are left say of all profiles of a text.
use Rattle.std.proofs.Common.{◌≡◌, ℕ, zero, suc, ◌+◌, ◌<◌, ◌≤◌, List, [], ◌∷◌, drop, length, Option, Some, None, Result, Ok, Err}
use Rattle.std.proofs.Common.{refl, sym, ap, ◌∙◌, subst, arith, add-one}
use Rattle.std.specs.Prelude.{slice_get}
use Rattle.std.specs.Result.{IsErrAnd}
use Rattle.std.proofs.lemmas.List.{drop_all}
use Rattle.import_profile.specs.declared.options.ImportOptions.{ImportOptions}
use Rattle.apparmor_text.specs.Parts.{ItemValue}
use Rattle.apparmor_text.specs.Texts.{ReadsItems}
use Rattle.apparmor_words.specs.Steps.{Stop}
use Rattle.import_profile.specs.AllImports.{AllOutcome, ImportsAll, IsFaultless, IsTextFault, TextValue, all_outcome, each_imported}
use Rattle.import_profile.specs.AllImports.{text_refused, with_first}
use Rattle.import_profile.specs.Faults.{ImportFault}
use Rattle.import_profile.specs.Imports.{ImportValue, Outcome, declared_by, head_outcome}
use Rattle.import_profile.specs.Told.{Fails, import_fault_value}
use Rattle.import_profile.specs.declared.fault.ImportFailure.{ImportFailure}
use Rattle.import_profile.specs.declared.fault.ImportFailure.TheVariants as failures
use Rattle.fault_notes.specs.inner.AllImports.{IsFirstOfAll}

-- the outcome of the profiles from n on
abbrev pub left : ImportOptions → TextValue → ℕ → AllOutcome
left options value n = all_outcome options (declared_by options value.items) value.items n (drop n value.profiles)

-- their fault is that of all, and if they have none, there is none
pub record Leaves (options : ImportOptions) (value : TextValue) (n : ℕ) : Type 0 where
  pub refused : (f : ImportFault) → left options value n ≡ Err f → left options value 0 ≡ Err f
  pub done : (vs : List ImportValue) → left options value n ≡ Ok vs → (ws : List ImportValue) × (left options value 0 ≡ Ok ws)

cut_at : {A : Type 0} (xs : List A) (n : ℕ) → n < length xs → (x : A) × (slice_get xs n ≡ Some x) × (drop n xs ≡ x ∷ drop (suc n) xs)
cut_at [] n lt = absurd (omega (arith, lt))
cut_at (x ∷ xs) zero lt = (x, refl, refl)
cut_at (x ∷ xs) (suc n) lt = cut_at xs n (omega (arith, lt))

-- the outcome of one of them, and then of the others
one_first : (options : ImportOptions) (value : TextValue) (n : ℕ) (o : Outcome) → n < length value.profiles
    → o ≡ head_outcome options (declared_by options value.items) value.items n (slice_get value.profiles n)
    → left options value n ≡ with_first o (left options value (suc n))
one_first options value n o lt is =
    let c = cut_at value.profiles n lt in
    ap (all_outcome options (declared_by options value.items) value.items n) c.2
    ∙ ap (λ (x : Outcome). with_first x (left options value (suc n)))
    (sym (is ∙ ap (head_outcome options (declared_by options value.items) value.items n) c.1))

-- what a text without a fault makes of the profile with this number
abbrev pub outcome_at : ImportOptions → TextValue → ℕ → Outcome
outcome_at options value n =
    head_outcome options (declared_by options value.items) value.items n (slice_get (declared_by options value.items).profiles n)

same_profile : (options : ImportOptions) (text : List ℕ) (value : TextValue) (n : ℕ) (o : Outcome) → IsFaultless options text value
    → o ≡ outcome_at options value n
    → o ≡ head_outcome options (declared_by options value.items) value.items n (slice_get value.profiles n)
same_profile options text value n o read is =
    is ∙ ap (λ hs. head_outcome options (declared_by options value.items) value.items n (slice_get hs n)) (sym read.profiles)

pub one_more : (options : ImportOptions) (text : List ℕ) (value : TextValue) (n : ℕ) (v : ImportValue) → IsFaultless options text value
    → n < length value.profiles → Ok v ≡ outcome_at options value n → Leaves options value n → Leaves options value (n + 1)
one_more options text value n v read lt is h =
    let first : left options value n ≡ with_first (Ok v) (left options value (suc n)) =
    one_first options value n (Ok v) lt (same_profile options text value n (Ok v) read is) in
    subst (Leaves options value) (sym (add-one n)) (record {
      refused = λ f e. h.refused f (first ∙ ap (with_first (Ok v)) e);
      done = λ vs e. h.done (v ∷ vs) (first ∙ ap (with_first (Ok v)) e);
    })

one_refused : (options : ImportOptions) (text : List ℕ) (value : TextValue) (n : ℕ) (f : ImportFault) → IsFaultless options text value
    → n < length value.profiles → Err f ≡ outcome_at options value n → Leaves options value n → ImportsAll options text (Err f)
one_refused options text value n f read lt is h =
    subst (ImportsAll options text)
    (h.refused f (one_first options value n (Err f) lt (same_profile options text value n (Err f) read is))) (each_imported value read)

-- a failure of one of them is that of all
failed_so : (options : ImportOptions) (text : List ℕ) (value : TextValue) (n : ℕ) (failure : ImportFailure)
    → IsFaultless options text value → n < length value.profiles → Leaves options value n
    → Fails (λ fault. Err fault ≡ outcome_at options value n) failure → IsFirstOfAll {T = Unit {0}} options text (Err failure)
failed_so options text value n failures.NoMemory read lt left h = tt
failed_so options text value n (failures.At fault) read lt left h =
    one_refused options text value n (import_fault_value fault) read lt h left

pub one_failed : (options : ImportOptions) (text : List ℕ) (value : TextValue) (n : ℕ) (result : Result (Unit {0}) ImportFailure)
    (failure : ImportFailure) → IsErrAnd result (λ told. told ≡ failure) → IsFaultless options text value → n < length value.profiles
    → Leaves options value n → Fails (λ fault. Err fault ≡ outcome_at options value n) failure
    → IsFirstOfAll {T = Unit {0}} options text result
one_failed options text value n (Ok done) failure is read lt left h = absurd is
one_failed options text value n (Err told) failure is read lt left h =
    subst (λ (f : ImportFailure). IsFirstOfAll {T = Unit {0}} options text (Err f)) (sym is)
    (failed_so options text value n failure read lt left h)

pub all_done : (options : ImportOptions) (text : List ℕ) (value : TextValue) (n : ℕ) → IsFaultless options text value
    → length value.profiles ≤ n → Leaves options value n → (values : List ImportValue) × ImportsAll options text (Ok values)
all_done options text value n read none h =
    let e : left options value n ≡ Ok [] =
    ap (all_outcome options (declared_by options value.items) value.items n) (drop_all n value.profiles none) in
    let done : (ws : List ImportValue) × (left options value 0 ≡ Ok ws) = h.done [] e in
    (done.0, subst (ImportsAll options text) done.1 (each_imported value read))

-- a text that wasn't read without a fault
refused_so : (options : ImportOptions) (text : List ℕ) (failure : ImportFailure) → Fails (IsTextFault options text) failure
    → IsFirstOfAll {T = Unit {0}} options text (Err failure)
refused_so options text failures.NoMemory h = tt
refused_so options text (failures.At fault) h = text_refused (import_fault_value fault) h

pub read_failed : (options : ImportOptions) (text : List ℕ) (result : Result (Unit {0}) ImportFailure) (failure : ImportFailure)
    → IsErrAnd result (λ told. told ≡ failure) → Fails (IsTextFault options text) failure → IsFirstOfAll {T = Unit {0}} options text result
read_failed options text (Ok done) failure is h = absurd is
read_failed options text (Err told) failure is h =
    subst (λ (f : ImportFailure). IsFirstOfAll {T = Unit {0}} options text (Err f)) (sym is) (refused_so options text failure h)

-- the text of an outcome was read
pub read_of : {options : ImportOptions} {text : List ℕ} {outcome : AllOutcome} → ImportsAll options text outcome
    → (items : List ItemValue) × (end : Option Stop) × ReadsItems text items end
read_of (text_refused f h) = (h.items, h.end, h.read)
read_of (each_imported value h) = (value.items, None, h.read)
