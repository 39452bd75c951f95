-- Kept verdicts stay right while more is seen, and one more that is right is kept among them.
use Rattle.std.proofs.Common.{◌≡◌, ℕ, false, List, [], Contains, Option, Some, None, length, take}
use Rattle.std.proofs.Common.{refl, ap, sym, ◌∙◌, subst, inl, inr, arith}
use Rattle.std.proofs.Math.Seq.{take-length}
use Rattle.std.specs.Prelude.{Result, Ok, Err, IfOk, is_some}
use mathlib.Core.Logic.{◌⊎◌}
use mathlib.Core.List.{IsPrefix}
use Rattle.directory_tree.specs.declared.change.Change.{Change}
use Rattle.directory_tree.specs.Tree.{Tree}
use Rattle.mediation.specs.Deeds.{Deed, policy_after}
use Rattle.mediation.specs.Judge.{Judge, verdict_by}
use Rattle.mediation.specs.Opens.{Reached, reached}
use Rattle.justification.specs.declared.answer.Answer.TheVariants.{Judged}
use Rattle.justification.specs.laws.Later.{justified_stays, tree_stays}
use Rattle.justification.specs.Versions.{IsTreeAt}
use Rattle.profile_registry.specs.laws.Prefixes.{prefix_self}
use Rattle.profile_registry.specs.Views.{Reading}
use Rattle.names.specs.declared.permissions.Perms.{Perms}
use Rattle.names.specs.declared.verdict.Verdict.{Verdict}
use Rattle.verdict_cache.specs.Questions.{Asked, Kept}
use Rattle.row_rule.specs.declared.count.Busy.{Busy}
use Rattle.row_rule.specs.declared.view.WalkerView.{WalkerView}
use Rattle.path_session.specs.declared.quick.Tried.{Tried}
use Rattle.path_session.specs.declared.quick.Tried.TheVariants.{Found, Walked}
use Rattle.path_session.specs.inner.Attempts.{HasTried}
use Rattle.kept_verdicts.specs.KeptFiles.{kept_of}
use Rattle.path_session.specs.inner.Right.{IsRightFor, AreRight}
use Rattle.path_session.specs.inner.Shares.{IsInStep}

no_entry : (e : Asked × Kept) → Contains [] e → ⊥
no_entry e there = let within = there.1 in omega arith

-- a verdict by what the current policy publishes, on a file that was reached, is right
pub judged_right : (changes : List Change) (deeds : List Deed) (profile path : List ℕ) (ask : Perms) (tree policy : ℕ) (t : Tree)
    (file : Reached) (judge : Judge) (verdict : Verdict) → IsTreeAt changes tree t → reached t path ask ≡ Ok file
    → policy_after deeds profile ≡ Some judge → policy ≡ length deeds → verdict ≡ verdict_by judge file.name ask
    → IsRightFor changes deeds (record { path = path; profile = profile; ask = ask; tree = tree; policy = policy })
    (record { verdict = verdict; node = file.node; name = file.name })
judged_right changes deeds profile path ask tree policy t file judge verdict at is published whole says =
    let all = ap (λ (n : ℕ). take n deeds) whole ∙ take-length deeds in
    let now = ap (λ (first : List Deed). policy_after first profile) all ∙ published in
    record {
      justified = (t, file, judge, at, is, (omega arith, now), (refl, sym says));
      named = (t, file, at, is, refl);
    }

pub right_later : (changes later : List Change) (deeds more : List Deed) (asked : Asked) (kept : Kept) → IsPrefix changes later →
    IsPrefix deeds more → IsRightFor changes deeds asked kept → IsRightFor later more asked kept
right_later changes later deeds more asked kept longer grown right =
    let (t, file, at, reached, named) = right.named in
    record {
      justified = justified_stays asked.profile asked.path asked.ask changes later deeds more
          (Judged kept.verdict kept.node asked.tree asked.policy) longer grown right.justified;
      named = (t, file, tree_stays changes later asked.tree t longer at, reached, named);
    }

-- each of them was kept before
pub all_later : (changes later : List Change) (deeds more : List Deed) (entries after : List (Asked × Kept)) → IsPrefix changes later →
    IsPrefix deeds more → ((e : Asked × Kept) → Contains after e → Contains entries e) → AreRight changes deeds entries
    → AreRight later more after
all_later changes later deeds more entries after longer grown stay right e there =
    right_later changes later deeds more e.0 e.1 longer grown (right e (stay e there))

-- each of them was kept before, or is this one
pub one_more : (changes : List Change) (deeds : List Deed) (entries after : List (Asked × Kept)) (asked : Asked) (kept : Kept) →
    ((e : Asked × Kept) → Contains after e → Contains entries e ⊎ (e ≡ (asked, kept))) → AreRight changes deeds entries
    → IsRightFor changes deeds asked kept → AreRight changes deeds after
one_more changes deeds entries after asked kept stay right new e there = elim (stay e there) [
  | inl before ↦ right e before
  | inr is ↦ subst (λ (x : Asked × Kept). IsRightFor changes deeds x.0 x.1) (sym is) new
]

pub none_right : (changes : List Change) (deeds : List Deed) → AreRight changes deeds []
none_right changes deeds e there = absurd (no_entry e there)

-- a reader learned what is published: they stay right if it was in step, and otherwise none is kept
pub right_published : (changes : List Change) (reading : Reading) (deeds published : List Deed) (known : Option ℕ)
    (entries after : List (Asked × Kept)) → IsInStep reading known → IsPrefix reading.learned published
    → (IsPrefix reading.seen published → IsPrefix reading.seen deeds) → (is_some known ≡ false → after ≡ [])
    → ((e : Asked × Kept) → Contains after e → Contains entries e) → AreRight changes reading.seen entries → AreRight changes deeds after
right_published changes reading deeds published None entries after step begins longer none stay right =
    subst (AreRight changes deeds) (sym (none refl)) (none_right changes deeds)
right_published changes reading deeds published (Some version) entries after (all, counted) begins longer none stay right =
    let grown = longer (subst (λ (seen : List Deed). IsPrefix seen published) (sym all) begins) in
    all_later changes changes reading.seen deeds entries after (prefix_self changes) grown stay right

-- what is kept under a question is right for it, also later
pub found_right : (changes later : List Change) (deeds more : List Deed) (entries : List (Asked × Kept)) (path profile own : List ℕ)
    (ask : Perms) (tree policy : ℕ) (kept : Kept) → IsPrefix changes later → deeds ≡ more → profile ≡ own → AreRight changes deeds entries
    → Contains entries (record { path = path; profile = profile; ask = ask; tree = tree; policy = policy }, kept)
    → IsRightFor later more (record { path = path; profile = own; ask = ask; tree = tree; policy = policy }) kept
found_right changes later deeds more entries path profile own ask tree policy kept longer same mine right there =
    let then = right_later changes later deeds deeds _ kept longer (prefix_self deeds) (right _ there) in
    let asked = subst (λ (name : List ℕ). IsRightFor later deeds (record {
      path = path;
      profile = name;
      ask = ask;
      tree = tree;
      policy = policy;
    }) kept) mine then in
    subst (λ (all : List Deed). IsRightFor later all (record { path = path; profile = own; ask = ask; tree = tree; policy = policy }) kept)
    same asked

-- what holds of a verdict that an attempt found
pub tried_on : (before now : WalkerView) (Holds Known : ℕ → Kept → Type 0) (path : List ℕ) (ask : Perms) (room : List ℕ)
    (r : Result Tried Busy) → ((version : ℕ) (kept : Kept) → Holds version kept → Known version kept)
    → IfOk r (HasTried before now Holds path ask room) → IfOk r (HasTried before now Known path ask room)
tried_on before now Holds Known path ask room (Ok (Found version file)) known (once, holds, fits) =
    (once, known version (kept_of room file) holds, fits)
tried_on before now Holds Known path ask room (Ok (Walked walked)) known tried = tried
tried_on before now Holds Known path ask room (Err busy) known tried = tt
