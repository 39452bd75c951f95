-- The answer to a walk that has read the count again.
use Rattle.std.proofs.Common.{◌≡◌, ◌⊎◌, inl, inr, ℕ, ◌%◌, List, take, None, sym, subst, ap, arith}
use Rattle.directory_tree.specs.declared.change.Change.{Change}
use Rattle.row_rule.specs.declared.view.WalkerView.{WalkerView}
use Rattle.row_rule.specs.Steps.{ending}
use Rattle.event_machine.specs.Machine as machine
use Rattle.event_machine.specs.WalkSteps.{MayAnswer}
use Rattle.open_session.specs.declared.stage.Stage.{Stage}
use Rattle.open_session.specs.declared.stage.Stage.TheVariants as at
use Rattle.open_session.specs.declared.answers.Told.{Told}
use Rattle.open_session.specs.declared.walk.Checked.{Checked}
use Rattle.open_session.specs.declared.walk.Next.{Next}
use Rattle.open_session.specs.declared.walk.Next.TheVariants as next
use Rattle.open_session.specs.Seen.{SawTree}
use Rattle.open_session.specs.inner.StageData.{IsRightNext, IsEnded, IsStanding, IsTold, stage_of, next_of}

-- a walk that wasn't disturbed reached a file or an error
pub still_decides : (capacity : ℕ) (room : List ℕ) (call : machine.Call) (w : WalkerView) (last : ℕ) (seen : List Change) (n : Next)
    → IsRightNext capacity room call w n → next_of n ≡ None → SawTree capacity (ending w last seen) → w.noted % 2 ≡ 0 → last ≡ w.noted
    → ((place : ℕ) × (n ≡ next.Read place)) ⊎ ((n ≡ next.Disturbed) ⊎ (n ≡ next.Torn)) → ⊥
still_decides capacity room call w last seen n right none saw even same (inl (place, is)) = let some = ap next_of is in cc
still_decides capacity room call w last seen n right none saw even same (inr (inl is)) =
    let odd : w.noted % 2 ≡ 1 = subst (λ (m : Next). IsRightNext capacity room call w m) is right in omega arith
still_decides capacity room call w last seen n right none saw even same (inr (inr is)) =
    let torn = subst (λ (m : Next). IsRightNext capacity room call w m) is right in
    let tree = saw (even, same) in
    torn.1 tree.0 tree.1 tree.2 tree.3 tree.4

-- the fields of the walk know its capacity
pub own_capacity : (capacity : ℕ) (room : List ℕ) (c : Checked) → IsEnded capacity room c → IsEnded c.walk.words.0 room c
own_capacity capacity room c e = subst (λ (n : ℕ). IsEnded n room c) (sym e.walks.of_row) e

pub told_answers : (capacity : ℕ) (room : List ℕ) (c : Checked) (s : Stage) (told : Told) → at.Checked c ≡ s → IsStanding capacity room s →
    IsTold c.walk.words.0 room c told
    → MayAnswer capacity (stage_of s) told.answer (take told.name_length room)
told_answers capacity room c s told is stands tells =
    let ended : IsEnded capacity room c = subst (λ (t : Stage). IsStanding capacity room t) (sym is) stands in
    subst (λ (t : Stage). MayAnswer capacity (stage_of t) told.answer (take told.name_length room)) is
    (subst (λ (n : ℕ). IsTold n room c told) ended.walks.of_row tells).1
