-- What the profiles of a text are imported as, one after another.
use Rattle.std.proofs.Common.{◌≡◌, ℕ, zero, suc, ◌<◌, List, [], ◌∷◌, ◌++◌, drop, length, Some, Result, Ok, Err, refl, sym, ap}
use Rattle.std.proofs.Common.{◌+◌, ◌≤◌, ◌∙◌, subst, arith, add-one}
use Rattle.std.specs.Prelude.{slice_get}
use Rattle.std.proofs.lemmas.List.Concat.{flat_map-append}
use Rattle.std.proofs.lemmas.List.{append-nil, drop_all}
use Rattle.std.specs.Result.{IsErrAnd}
use Rattle.std.specs.List.{flat_map}
use Rattle.apparmor_text.specs.Parts.{ItemValue}
use Rattle.import_scope.specs.Scopes.{Head, ScopeState}
use Rattle.import_profile.specs.declared.options.ImportOptions.{ImportOptions}
use Rattle.import_profile.specs.AllImports.{AllOutcome, ImportsAll, IsFaultless, IsTextFault, TextValue, all_outcome, each_imported}
use Rattle.import_profile.specs.AllImports.{text_refused, with_first}
use Rattle.import_profile.specs.Faults.{ImportFault}
use Rattle.import_profile.specs.Imports.{ImportValue, Outcome, declared_by, head_outcome}
use Rattle.import_profile.specs.Told.{Fails, import_fault_value}
use Rattle.import_profile.specs.declared.fault.ImportFailure.{ImportFailure}
use Rattle.import_profile.specs.declared.fault.ImportFailure.TheVariants as failures
use Rattle.trace_import.specs.declared.account.AccountChoice.{AccountChoice}
use Rattle.trace_import.specs.declared.all.AllTexts.{AllTexts}
use Rattle.trace_import.specs.ImportAll.{headed_account, policy_text}
use Rattle.trace_import.specs.inner.AllTexts.{AreTextsOf, TellsAll}

-- these, before others or a fault
abbrev pub with_all : List ImportValue → AllOutcome → AllOutcome
with_all [] others = others
with_all (v ∷ vs) others = with_first (Ok v) (with_all vs others)

with_one_more : (vs : List ImportValue) (v : ImportValue) (others : AllOutcome) → with_all (vs ++ v ∷ []) others
    ≡ with_all vs (with_first (Ok v) others)
with_one_more [] v others = refl
with_one_more (x ∷ vs) v others = ap (with_first (Ok x)) (with_one_more vs v others)

with_fault : (vs : List ImportValue) (f : ImportFault) → with_all vs (Err f) ≡ Err f
with_fault [] f = refl
with_fault (v ∷ vs) f = ap (with_first (Ok v)) (with_fault vs f)

with_none : (vs : List ImportValue) → with_all vs (Ok []) ≡ Ok vs
with_none [] = refl
with_none (v ∷ vs) = ap (with_first (Ok v)) (with_none vs)

cut_at : {A : Type 0} (xs : List A) (n : ℕ) → n < length xs → (x : A) × (slice_get xs n ≡ Some x) × (drop n xs ≡ x ∷ drop (suc n) xs)
cut_at [] n lt = absurd (omega (arith, lt))
cut_at (x ∷ xs) zero lt = (x, refl, refl)
cut_at (x ∷ xs) (suc n) lt = cut_at xs n (omega (arith, lt))

module _ (options : ImportOptions) (s : ScopeState) (items : List ItemValue) (heads : List Head) where
  abbrev pub from : ℕ → AllOutcome
  from n = all_outcome options s items n (drop n heads)

  next_of : (n : ℕ) → n < length heads → from n ≡ with_first (head_outcome options s items n (slice_get heads n)) (from (suc n))
  next_of n lt =
      let c = cut_at heads n lt in
      ap (all_outcome options s items n) c.2
      ∙ ap (λ o. with_first (head_outcome options s items n o) (from (suc n))) (sym c.1)

  pub one_more : (vs : List ImportValue) (n : ℕ) (v : ImportValue) → n < length heads → from 0 ≡ with_all vs (from n)
      → Ok v ≡ head_outcome options s items n (slice_get heads n) → from 0 ≡ with_all (vs ++ v ∷ []) (from (suc n))
  one_more vs n v lt so_far is =
      so_far ∙ ap (with_all vs) (next_of n lt ∙ ap (λ (o : Outcome). with_first o (from (suc n))) (sym is))
      ∙ sym (with_one_more vs v (from (suc n)))

  pub one_refused : (vs : List ImportValue) (n : ℕ) (f : ImportFault) → n < length heads → from 0 ≡ with_all vs (from n)
      → Err f ≡ head_outcome options s items n (slice_get heads n) → from 0 ≡ Err f
  one_refused vs n f lt so_far is =
      so_far ∙ ap (with_all vs) (next_of n lt ∙ ap (λ (o : Outcome). with_first o (from (suc n))) (sym is)) ∙ with_fault vs f

  pub all_done : (vs : List ImportValue) (n : ℕ) → drop n heads ≡ [] → from 0 ≡ with_all vs (from n) → from 0 ≡ Ok vs
  all_done vs n none so_far = so_far ∙ ap (λ hs. with_all vs (all_outcome options s items n hs)) none ∙ with_none vs

-- what is written so far
pub record AreSoFar (account : AccountChoice) (options : ImportOptions) (text : List ℕ) (value : TextValue) (n : ℕ)
    (texts : AllTexts) : Type 0 where
  pub values : List ImportValue
  pub texts_of : AreTextsOf account options text values texts
  pub so_far : from options (declared_by options value.items) value.items value.profiles 0
      ≡ with_all values (from options (declared_by options value.items) value.items value.profiles n)

pub text_added : (account : AccountChoice) (options : ImportOptions) (text : List ℕ) (values : List ImportValue) (v : ImportValue)
    (old new : AllTexts) → AreTextsOf account options text values old
    → new.policies.items ≡ old.policies.items ++ policy_text v
    → new.accounts.items ≡ old.accounts.items ++ headed_account account options.subject text v
    → AreTextsOf account options text (values ++ v ∷ []) new
text_added account options text values v old new h policies accounts = record {
  policies = policies ∙ ap (λ l. l ++ policy_text v) h.policies
      ∙ ap (λ l. flat_map policy_text values ++ l) (sym (append-nil (policy_text v)))
      ∙ sym (flat_map-append policy_text values (v ∷ []));
  accounts = accounts ∙ ap (λ l. l ++ headed_account account options.subject text v) h.accounts
      ∙ ap (λ l. flat_map (headed_account account options.subject text) values ++ l)
      (sym (append-nil (headed_account account options.subject text v)))
      ∙ sym (flat_map-append (headed_account account options.subject text) values (v ∷ []));
}

-- the outcome of the whole text
imports_all : (options : ImportOptions) (text : List ℕ) (value : TextValue) (outcome : AllOutcome) → IsFaultless options text value →
    from options (declared_by options value.items) value.items value.profiles 0 ≡ outcome → ImportsAll options text outcome
imports_all options text value outcome h e = subst (ImportsAll options text) e (each_imported value h)

-- what a text without a fault makes of the profile with this number
abbrev pub outcome_at : ImportOptions → TextValue → ℕ → Outcome
outcome_at options value n =
    head_outcome options (declared_by options value.items) value.items n (slice_get (declared_by options value.items).profiles n)

same_profile : (options : ImportOptions) (text : List ℕ) (value : TextValue) (n : ℕ) (o : Outcome) → IsFaultless options text value
    → o ≡ outcome_at options value n
    → o ≡ head_outcome options (declared_by options value.items) value.items n (slice_get value.profiles n)
same_profile options text value n o read is =
    is ∙ ap (λ hs. head_outcome options (declared_by options value.items) value.items n (slice_get hs n)) (sym read.profiles)

-- one more profile was imported, and its texts were added
pub one_added : (account : AccountChoice) (options : ImportOptions) (text : List ℕ) (value : TextValue) (n : ℕ) (v : ImportValue)
    (old new : AllTexts) → IsFaultless options text value → n < length value.profiles → Ok v ≡ outcome_at options value n
    → new.policies.items ≡ old.policies.items ++ policy_text v
    → new.accounts.items ≡ old.accounts.items ++ headed_account account options.subject text v
    → AreSoFar account options text value n old → AreSoFar account options text value (n + 1) new
one_added account options text value n v old new read lt is policies accounts h =
    subst (λ (k : ℕ). AreSoFar account options text value k new) (sym (add-one n)) (record {
      values = h.values ++ v ∷ [];
      texts_of = text_added account options text h.values v old new h.texts_of policies accounts;
      so_far = one_more options (declared_by options value.items) value.items value.profiles h.values n v lt h.so_far
          (same_profile options text value n (Ok v) read is);
    })

-- one of them was refused
failed_so : (account : AccountChoice) (options : ImportOptions) (text : List ℕ) (value : TextValue) (n : ℕ) (texts : AllTexts)
    (failure : ImportFailure) → IsFaultless options text value → n < length value.profiles
    → AreSoFar account options text value n texts → Fails (λ fault. Err fault ≡ outcome_at options value n) failure
    → TellsAll account options text (Err failure)
failed_so account options text value n texts failures.NoMemory read lt so_far h = tt
failed_so account options text value n texts (failures.At fault) read lt so_far h =
    let f : ImportFault = import_fault_value fault in
    imports_all options text value (Err f) read
    (one_refused options (declared_by options value.items) value.items value.profiles so_far.values n f lt so_far.so_far
    (same_profile options text value n (Err f) read h))

pub one_failed : (account : AccountChoice) (options : ImportOptions) (text : List ℕ) (value : TextValue) (n : ℕ) (texts : AllTexts)
    (result : Result AllTexts ImportFailure) (failure : ImportFailure) → IsErrAnd result (λ told. told ≡ failure)
    → IsFaultless options text value → n < length value.profiles → AreSoFar account options text value n texts
    → Fails (λ fault. Err fault ≡ outcome_at options value n) failure → TellsAll account options text result
one_failed account options text value n texts (Ok done) failure is read lt so_far h = absurd is
one_failed account options text value n texts (Err told) failure is read lt so_far h =
    subst (λ (f : ImportFailure). TellsAll account options text (Err f)) (sym is)
    (failed_so account options text value n texts failure read lt so_far h)

-- all were imported
pub all_told : (account : AccountChoice) (options : ImportOptions) (text : List ℕ) (value : TextValue) (n : ℕ) (texts : AllTexts)
    → IsFaultless options text value → length value.profiles ≤ n → AreSoFar account options text value n texts
    → TellsAll account options text (Ok texts)
all_told account options text value n texts read none h = (
  h.values,
  imports_all options text value (Ok h.values) read
      (all_done options (declared_by options value.items) value.items value.profiles h.values n (drop_all n value.profiles none) h.so_far),
  h.texts_of,
)

-- a text that wasn't read without a fault
refused_so : (account : AccountChoice) (options : ImportOptions) (text : List ℕ) (failure : ImportFailure)
    → Fails (IsTextFault options text) failure → TellsAll account options text (Err failure)
refused_so account options text failures.NoMemory h = tt
refused_so account options text (failures.At fault) h = text_refused (import_fault_value fault) h

pub read_failed : (account : AccountChoice) (options : ImportOptions) (text : List ℕ) (result : Result AllTexts ImportFailure)
    (failure : ImportFailure) → IsErrAnd result (λ told. told ≡ failure) → Fails (IsTextFault options text) failure
    → TellsAll account options text result
read_failed account options text (Ok done) failure is h = absurd is
read_failed account options text (Err told) failure is h =
    subst (λ (f : ImportFailure). TellsAll account options text (Err f)) (sym is) (refused_so account options text failure h)
