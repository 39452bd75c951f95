-- The outcomes of changes of the tree, in terms of script lines.
use Rattle.std.proofs.Common.{◌≡◌, ℕ, [], ◌∷◌, ◌++◌, true, false, Option, Some, None, Result, Ok, Err, is_some, length, codes, decimal}
use Rattle.std.proofs.Common.{refl, ap, subst, inl, inr}
use Rattle.directory_tree.specs.declared.change.Change.{Change}
use Rattle.names.specs.declared.errors.Errno.{Errno}
use Rattle.names.specs.Errors.{errno_text}
use Rattle.justification.specs.declared.answer.Answer.{Answer}
use Rattle.event_machine.specs.Machine.{Machine}
use Rattle.event_machine.specs.Machine.Event.{open_change, set_cell, close_change}
use Rattle.event_machine.specs.Takes.{Takes}
use Rattle.event_machine.specs.Lawful.{IsLawful, IsTested}
use Rattle.row_rule.specs.declared.view.Pending.{Pending}
use Rattle.trace_script.specs.RunOutput.{change_of}
use Rattle.trace_script.specs.Script.{ChangeWords}
use Rattle.trace_steps.specs.StepLines.{Lines, Closes, ClosesOpen, Tries, TriesNow, not_now}
use Rattle.trace_steps.specs.inner.Actions.{AreSet, IsTriedOut}
use Rattle.trace_steps.proofs.Cells.{closed_after, may_close, may_open, still_open}

pub none_open : (pending : Option Pending) → is_some pending ≡ false → pending ≡ None
none_open None none = refl
none_open (Some pending) none = cc

-- ---- changes that are opened

-- what a test found legal is
pub tested_so : (old mid : Machine) (change : Change) (result : Result ℕ Errno) (count : ℕ) → mid ≡ old → result ≡ Ok count →
    IsTested old change result → IsLawful mid (open_change change)
tested_so old mid change result count same is tested =
    rw same (may_open old change count (subst (λ (r : Result ℕ Errno). IsTested old change r) is tested))

-- the outcome of opening it
module _ {T : Type 0} (old new : Machine) (change : Change) (result : Result T Errno) where
  pub was_opened : (done : T) → result ≡ Ok done → IsTriedOut old change new result → Takes old (open_change change) None new
  was_opened done is tried = subst (λ (r : Result T Errno). IsTriedOut old change new r) is tried

  pub was_refused : (Happens : Change → Lines → Machine → Type 0) (errno : Errno) → result ≡ Err errno → IsTriedOut old change new result
      → Tries old (Ok change) Happens (errno_text errno ∷ []) new
  was_refused Happens errno is tried =
      let (tested, same) = subst (λ (r : Result T Errno). IsTriedOut old change new r) is tried in
      inl (errno, tested, (refl, same))

-- ---- changes by their words

module _ (old new : Machine) (words : ChangeWords) (Happens : Change → Lines → Machine → Type 0) where
  -- another one is open
  pub other_open : is_some old.keeper.pending ≡ true → new ≡ old → TriesNow old words Happens (not_now ∷ []) new
  other_open opened same = inl (opened, (refl, same))

  -- the words say this
  pub tried : (told : Result Change Errno) (lines : Lines) → is_some old.keeper.pending ≡ false → told ≡ change_of words →
      Tries old told Happens lines new → TriesNow old words Happens lines new
  tried told lines none is tries =
      inr (none_open old.keeper.pending none, subst (λ (r : Result Change Errno). Tries old r Happens lines new) is tries)

  -- a path is at fault
  pub at_fault : (errno : Errno) → is_some old.keeper.pending ≡ false → Err errno ≡ change_of words → new ≡ old →
      TriesNow old words Happens (errno_text errno ∷ []) new
  at_fault errno none is same = tried (Err errno) (errno_text errno ∷ []) none is (refl, same)

-- ---- changes that are closed

pub closes_open : (old mid new : Machine) (told : Option Answer) (version : ℕ) → AreSet old mid → Takes mid close_change told new →
    version ≡ length new.keeper.history
    → ClosesOpen old ((codes "ok " ++ decimal version) ∷ []) new
closes_open old mid new told version set takes is =
    let (count, runs) = closed_after old mid new told set takes in
    (count, runs, ap (λ (n : ℕ). (codes "ok " ++ decimal n) ∷ []) is)

-- what is left of an open change may be closed
pub closes_now : (old mid : Machine) → is_some old.keeper.pending ≡ true → AreSet old mid → ¬ (IsLawful mid set_cell) →
    IsLawful mid close_change
closes_now old mid opened (count, runs) none = may_close mid (still_open old mid count [] opened runs) none

pub closes_none : (old new : Machine) → is_some old.keeper.pending ≡ false → new ≡ old → Closes old (not_now ∷ []) new
closes_none old new none same = inr (none_open old.keeper.pending none, (refl, same))
