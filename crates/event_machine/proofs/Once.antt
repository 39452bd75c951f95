-- An answer is the only one.
use Rattle.std.proofs.Common.{◌≡◌, ℕ, ◌/◌, ◌%◌, List, [], sym, ap, ◌∙◌, arith, inl, inr, ⊎_elim}
use Rattle.std.specs.Prelude.{Result, Ok, Err, ◌⊎◌}
use Rattle.names.specs.declared.errors.Errno.{Errno}
use Rattle.tree_row.specs.laws.WorldsAfter.{sound_after}
use Rattle.mediation.specs.Judge.{verdict_by}
use Rattle.mediation.specs.Opens.{Reached, reached}
use Rattle.justification.specs.declared.answer.Answer.{Answer}
use Rattle.justification.specs.declared.answer.Answer.TheVariants.{Judged, Failed, NoProfile, Busy, NoEntry}
use Rattle.row_rule.specs.declared.view.WalkerView.{WalkerView}
use Rattle.event_machine.specs.Machine.{Event, Policed, Stage, Machine, answered}
use Rattle.event_machine.specs.Machine.Stage.{resting, begun, unpublished, policed, walking, checked}
use Rattle.event_machine.specs.WalkSteps.{Decides, IsStill, IsDisturbed, Tells, MayAnswer}
use Rattle.event_machine.specs.Takes.{Answers}
use Rattle.event_machine.specs.Runs.{Legal}
use Rattle.event_machine.proofs.Calls.{IsCall, SawTree}
use Rattle.event_machine.proofs.Rightly.{calls_kept}

abbrev with_name : Answer → List ℕ → Answer × List ℕ
with_name a x = (a, x)

-- the answer of a still walk that reached this
told_still : Policed → WalkerView → Result Reached Errno → Answer × List ℕ
told_still p w (Ok file) = (Judged (verdict_by p.judge file.name p.call.ask) file.node (w.last / 2) p.policy_version, file.name)
told_still p w (Err errno) = (Failed errno (w.last / 2), [])

not_both : (w : WalkerView) → IsStill w → IsDisturbed w → ⊥
not_both w (even, same) disturbed = ⊎_elim (λ odd. let e : w.noted % 2 ≡ 0 = even in absurd (omega arith)) (λ apart. apart same) disturbed

still_tells : (room : ℕ) (p : Policed) (w : WalkerView) (told : Answer) (name : List ℕ) (end : Result Reached Errno) → IsStill w →
    ((e : Result Reached Errno) → Decides room p.call w.reads e → end ≡ e) → Tells room p w told name →
    with_name told name ≡ told_still p w end
unfolding told_still
still_tells room p w (Busy began ended) name end still one (disturbed, first_is, last_is, none) = absurd (not_both w still disturbed)
still_tells room p w (Failed errno tree) name end still one (_, half, decides, none) =
    (λ i. (Failed errno (half i), none i)) ∙ sym (ap (told_still p w) (one (Err errno) decides))
still_tells room p w (Judged verdict node tree policy) name end still one (_, half, policy_is, decides, verdict_is) =
    (λ i. (Judged (verdict_is i) node (half i) (policy_is i), name))
    ∙ sym (ap (told_still p w) (one (Ok record { name = name; node = node }) decides))
still_tells room p w (NoProfile policy) name end still one none = absurd none
still_tells room p w NoEntry name end still one none = absurd none

busy_tells : (room : ℕ) (p : Policed) (w : WalkerView) (told : Answer) (name : List ℕ) → IsDisturbed w → Tells room p w told name →
    with_name told name ≡ with_name (Busy w.noted w.last) []
busy_tells room p w (Busy began ended) name d (disturbed, first_is, last_is, none) = λ i. (Busy (first_is i) (last_is i), none i)
busy_tells room p w (Failed errno tree) name d (still, half, decides, none) = absurd (not_both w still d)
busy_tells room p w (Judged verdict node tree policy) name d (still, half, policy_is, decides, verdict_is) = absurd (not_both w still d)
busy_tells room p w (NoProfile policy) name d none = absurd none
busy_tells room p w NoEntry name d none = absurd none

-- still or disturbed, by the answer
which : (room : ℕ) (p : Policed) (w : WalkerView) (told : Answer) (name : List ℕ) → Tells room p w told name → IsStill w ⊎ IsDisturbed w
which room p w (Busy began ended) name (disturbed, first_is, last_is, none) = inr disturbed
which room p w (Failed errno tree) name (still, half, decides, none) = inl still
which room p w (Judged verdict node tree policy) name (still, half, policy_is, decides, verdict_is) = inl still
which room p w (NoProfile policy) name none = absurd none
which room p w NoEntry name none = absurd none

saw_once : (room : ℕ) (p : Policed) (w : WalkerView) → SawTree room w → IsStill w → (end : Result Reached Errno)
    × ((e : Result Reached Errno) → Decides room p.call w.reads e → end ≡ e)
saw_once room p w saw still =
    let (row, agrees, encoded) = saw still in
    let (t, made, encodes) = encoded in
    (reached t p.call.path p.call.ask, λ e decides. decides row t agrees (sound_after room w.seen t made) encodes)

one_told : (room : ℕ) (p : Policed) (w : WalkerView) (a b : Answer) (x y : List ℕ) → SawTree room w → Tells room p w a x →
    Tells room p w b y → with_name a x ≡ with_name b y
one_told room p w a b x y saw f g =
    ⊎_elim (λ (still : IsStill w). let (end, one) = saw_once room p w saw still in still_tells room p w a x end still one f
    ∙ sym (still_tells room p w b y end still one g))
    (λ (disturbed : IsDisturbed w). busy_tells room p w a x disturbed f ∙ sym (busy_tells room p w b y disturbed g))
    (which room p w a x f)

may_once : (capacity : ℕ) (events : List Event) (m : Machine) (s : ℕ) (stage : Stage) (a b : Answer) (x y : List ℕ) →
    IsCall capacity events m.deeds m.capacity s stage → MayAnswer m.capacity stage a x → MayAnswer m.capacity stage b y →
    with_name a x ≡ with_name b y
may_once capacity events m s resting a b x y k f g = absurd f
may_once capacity events m s (begun call) a b x y k f g = absurd f
may_once capacity events m s (unpublished call version) a b x y k f g = (λ i. (f.0 i, f.1 i)) ∙ sym (λ i. (g.0 i, g.1 i))
may_once capacity events m s (policed p) a b x y k f g = absurd f
may_once capacity events m s (walking p w next) a b x y k f g = absurd f
may_once capacity events m s (checked p w) a b x y k f g = one_told m.capacity p w a b x y k.saw f g

pub answered_once : (capacity : ℕ) (events : List Event) (answers : List (ℕ × Answer)) (m : Machine) (s : ℕ) (a b : Answer)
    (new other : Machine) → Legal capacity events answers m → Answers m s a new → Answers m s b other → (a ≡ b) × (new ≡ other)
answered_once capacity events answers m s a b new other legal (x, f, is) (y, g, are) =
    let same : with_name a x ≡ with_name b y = may_once capacity events m s (m.sessions s).stage a b x y
    ((calls_kept capacity events answers m legal).1 s) f g in
    (ap (λ (z : Answer × List ℕ). z.0) same, is ∙ ap (λ (z : Answer × List ℕ). answered m s z.1) same ∙ sym are)
