-- Each text has one profile or one fault.
use Rattle.std.proofs.Common.{◌≡◌, ℕ, ◌-◌, ◌↔◌, List, length, Result, Ok, Err, refl, sym, ◌∙◌, ap, subst, inl, inr}
use Rattle.rule_reader.specs.declared.fault.ReadFault.{ReadFault}
use Rattle.rule_reader.specs.declared.fault.ReadFault.TheVariants as faults
use Rattle.rule_reader.specs.declared.reader.local_fault.LocalFault.{LocalFault}
use Rattle.rule_reader.specs.declared.reader.local_fault.FaultKind.{FaultKind}
use Rattle.rule_reader.specs.declared.reader.local_fault.FaultKind.TheVariants as kinds
use Rattle.rule_profile.specs.Profile.{ProfileValue}
use Rattle.rule_reader.specs.declared.reader.local_fault.Failure.{Failure}
use Rattle.rule_reader.specs.declared.reader.local_fault.Failure.TheVariants as failures
use Rattle.rule_reader.specs.ReadSteps.{fault_at, fault_of}
use Rattle.rule_reader.specs.inner.Gives.{Fails}
use Rattle.rule_reader.specs.ReadText.{text_at, outcome_of}
use Rattle.rule_reader.specs.Grammar.{ReadsAs}
use Rattle.rule_reader.specs.ReadFaults.{FaultsAs, HasOutcome}
use Rattle.rule_reader.proofs.AgainTexts.{read_again}
use Rattle.rule_reader.proofs.TakeTexts.{text_takes}

abbrev Outcome : Type 0
Outcome = Result ProfileValue ReadFault

abbrev profile : ProfileValue → Outcome
profile p = Ok p

abbrev refused : ReadFault → Outcome
refused f = Err f

same_profile : (p q : ProfileValue) → profile p ≡ profile q → p ≡ q
same_profile p q e = cc

same_fault : (f g : ReadFault) → refused f ≡ refused g → f ≡ g
same_fault f g e = cc

clash : (p : ProfileValue) (f : ReadFault) → profile p ≡ refused f → ⊥
clash p f e = cc

-- ---- the outcome of what was read

pub outcome_ok : (text : List ℕ) (p : ProfileValue) → text_at text ≡ Ok p → outcome_of text ≡ Ok p
unfolding outcome_of
outcome_ok text p e = rw (e, outcome_of) refl

pub outcome_err : (text : List ℕ) (s : LocalFault) → text_at text ≡ Err s → outcome_of text ≡ Err (fault_of (length text) s)
unfolding outcome_of
outcome_err text s e = rw (e, outcome_of) refl

-- ---- reading and the grammar say the same

pub read_outcome : (text : List ℕ) (p : ProfileValue) → ReadsAs text p → outcome_of text ≡ Ok p
read_outcome text p h = outcome_ok text p (read_again text p h)

outcome_takes : (text : List ℕ) (p : ProfileValue) → outcome_of text ≡ Ok p → ReadsAs text p
unfolding outcome_of
outcome_takes text p e =
    let go : Result ProfileValue LocalFault → Outcome = λ r. elim r [ Ok q ↦ Ok q | Err s ↦ Err (fault_of (length text) s) ] in
    let P : (r : Result ProfileValue LocalFault) → text_at text ≡ r → go r ≡ Ok p → ReadsAs text p =
    λ r. elim r as (λ r. text_at text ≡ r → go r ≡ Ok p → ReadsAs text p) [
      | Ok q ↦ λ a h. subst (ReadsAs text) (same_profile q p h) (text_takes text q a)
      | Err s ↦ λ a h. absurd (clash p (fault_of (length text) s) (sym h))
    ] in
    P (text_at text) refl e

pub read_as_outcome : (text : List ℕ) (p : ProfileValue) → ReadsAs text p ↔ (outcome_of text ≡ Ok p)
read_as_outcome text p = (read_outcome text p, outcome_takes text p)

-- ---- one outcome

pub some_outcome : (text : List ℕ) → HasOutcome text
some_outcome text =
    let P : (r : Outcome) → outcome_of text ≡ r → HasOutcome text =
    λ r. elim r as (λ r. outcome_of text ≡ r → HasOutcome text) [
      | Ok p ↦ λ e. inl (p, outcome_takes text p e)
      | Err f ↦ λ e. inr (f, e)
    ] in
    P (outcome_of text) refl

pub never_both : (text : List ℕ) (p : ProfileValue) (f : ReadFault) → ReadsAs text p → FaultsAs text f → ⊥
never_both text p f h k = clash p f (sym (read_outcome text p h) ∙ k)

pub one_profile : (text : List ℕ) (p q : ProfileValue) → ReadsAs text p → ReadsAs text q → p ≡ q
one_profile text p q h k = same_profile p q (sym (read_outcome text p h) ∙ read_outcome text q k)

pub one_fault : (text : List ℕ) (f g : ReadFault) → FaultsAs text f → FaultsAs text g → f ≡ g
one_fault text f g h k = same_fault f g (sym h ∙ k)

told_not_memory : (kind : FaultKind) (offset : ℕ) → fault_at kind offset ≡ faults.NoMemory → ⊥
told_not_memory kinds.Syntax offset e = cc
told_not_memory (kinds.LeftOut len) offset e = cc
told_not_memory kinds.Permission offset e = cc
told_not_memory kinds.EmptyPermissions offset e = cc
told_not_memory kinds.NotAbsolute offset e = cc
told_not_memory kinds.Class offset e = cc
told_not_memory kinds.Group offset e = cc
told_not_memory kinds.Depth offset e = cc
told_not_memory kinds.TooManyRules offset e = cc
told_not_memory kinds.TooManyItems offset e = cc
told_not_memory kinds.Conflict offset e = cc

pub never_memory : (text : List ℕ) → FaultsAs text faults.NoMemory → ⊥
unfolding outcome_of
never_memory text e =
    let go : Result ProfileValue LocalFault → Outcome = λ r. elim r [ Ok q ↦ Ok q | Err s ↦ Err (fault_of (length text) s) ] in
    let P : (r : Result ProfileValue LocalFault) → go r ≡ Err faults.NoMemory → ⊥ =
    λ r. elim r as (λ r. go r ≡ Err faults.NoMemory → ⊥) [
      | Ok q ↦ λ h. clash q faults.NoMemory h
      | Err s ↦ λ h. told_not_memory s.kind (length text - s.left) (same_fault (fault_of (length text) s) faults.NoMemory h)
    ] in
    P (text_at text) e

-- ---- what the function read

pub is_the_one : (text : List ℕ) (p q : ProfileValue) → text_at text ≡ Ok q → ReadsAs text p → q ≡ p
is_the_one text p q e h = same_profile q p (sym (outcome_ok text q e) ∙ read_outcome text p h)

stopped : (text : List ℕ) (e : Failure) (s : LocalFault) → e ≡ failures.At s → Fails e (text_at text) → text_at text ≡ Err s
stopped text e s is k = subst (λ (x : Failure). Fails x (text_at text)) is k

pub failed_so : (text : List ℕ) (e : Failure) (s : LocalFault) (f : ReadFault) → e ≡ failures.At s → f ≡ fault_of (length text) s →
    Fails e (text_at text) → outcome_of text ≡ Err f
failed_so text e s f is told_so k = outcome_err text s (stopped text e s is k) ∙ ap (λ (x : ReadFault). Err x) (sym told_so)

pub not_failed : (text : List ℕ) (p : ProfileValue) (e : Failure) (s : LocalFault) → e ≡ failures.At s → ReadsAs text p →
    Fails e (text_at text) → ⊥
not_failed text p e s is h k = clash p (fault_of (length text) s) (sym (read_outcome text p h) ∙ outcome_err text s
    (stopped text e s is k))
