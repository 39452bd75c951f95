-- Calls of sessions, led on event by event.
use Rattle.std.proofs.Common.{◌≡◌, ℕ, zero, suc, ◌≤◌, cond, List, [], ◌∷◌, ◌++◌, length, Option, Some, None, Ok, refl, sym, ap, ◌∙◌, subst}
use Rattle.std.proofs.Common.{inl, inr, arith, eq-eqb}
use Rattle.std.specs.List.{All}
use Rattle.std.proofs.lemmas.List.Elements.{All-append, All-cons, All-nil, All-head, All-tail}
use Rattle.justification.specs.declared.answer.Answer.{Answer}
use Rattle.row_rule.specs.declared.view.WalkerView.{WalkerView}
use Rattle.mediation.specs.Deeds.{policy_after}
use Rattle.row_rule.specs.Row.{count_of}
use Rattle.row_rule.specs.Steps.{newcomer, beginning, reading, ending}
use Rattle.event_machine.specs.Machine.{Call, Event, Policed, Stage, Machine, moved_on}
use Rattle.event_machine.specs.Machine.Event.{begin, read_policy, read_count, read_cell, check_count, answer, open_change, set_cell}
use Rattle.event_machine.specs.Machine.Event.{close_change, publish}
use Rattle.event_machine.specs.Machine.Stage.{resting, begun, unpublished, policed, walking, checked}
use Rattle.event_machine.specs.WalkSteps.{MayAnswer}
use Rattle.event_machine.specs.Takes.{Takes, after_policy}
use Rattle.event_machine.specs.Runs.{Runs, told_by}
use Rattle.event_machine.specs.Lawful.{HasTurn, cell_reads}
use Rattle.event_machine.specs.laws.Runs.{run_snoc, runs_on}
use Rattle.trace_steps.specs.StepLines.{LeadsOn}
use Rattle.trace_steps.specs.inner.Actions.{IsLedOn, HasCome, IsTurnTaken, IsAnswered, rank}

abbrev pub stage_of : ℕ → Machine → Stage
stage_of s m = (m.sessions s).stage

pub stage_moved : (m : Machine) (s : ℕ) (stage : Stage) → stage_of s (moved_on m s stage) ≡ stage
stage_moved m s stage = ap (λ (same : _). (cond same (record { name = (m.sessions s).name; stage = stage }) (m.sessions s)).stage)
    (eq-eqb s s refl)

-- ---- events that lead on

one_leads : (s : ℕ) (event : Event) → LeadsOn s event → All (LeadsOn s) (event ∷ [])
one_leads s event leads = All-cons (LeadsOn s) event [] leads (All-nil (LeadsOn s))

tells_nothing : (s : ℕ) (event : Event) (told : Option Answer) → LeadsOn s event → told_by event told ≡ []
tells_nothing s (read_policy own) told leads = refl
tells_nothing s (read_count own) told leads = refl
tells_nothing s (read_cell own) told leads = refl
tells_nothing s (check_count own) told leads = refl
tells_nothing s (begin own call) told leads = absurd leads
tells_nothing s (answer own) told leads = absurd leads
tells_nothing s (open_change change) told leads = absurd leads
tells_nothing s set_cell told leads = absurd leads
tells_nothing s close_change told leads = absurd leads
tells_nothing s (publish deeds) told leads = absurd leads

pub led_nothing : (s : ℕ) (m : Machine) → IsLedOn s m m
led_nothing s m = ([], All-nil (LeadsOn s), (refl, refl))

pub led_more : (s : ℕ) (old mid new : Machine) (event : Event) (told : Option Answer) → LeadsOn s event → IsLedOn s old mid →
    Takes mid event told new → IsLedOn s old new
led_more s old mid new event told leads (events, all, runs) takes = (
  events ++ event ∷ [],
  All-append (LeadsOn s) events (event ∷ []) all (one_leads s event leads),
  subst (λ (answers : List (ℕ × Answer)). Runs old (events ++ event ∷ []) answers new) (tells_nothing s event told leads)
      (run_snoc old events [] mid event told new runs takes),
)

pub led_on : (s : ℕ) (old mid new : Machine) → IsLedOn s old mid → IsLedOn s mid new → IsLedOn s old new
led_on s old mid new (events, all, runs) (later, more, on) =
    (events ++ later, All-append (LeadsOn s) events later all more, runs_on old events later [] [] mid new runs on)

reads_lead : (s count : ℕ) → All (LeadsOn s) (cell_reads s count)
reads_lead s zero = All-nil (LeadsOn s)
reads_lead s (suc count) = All-cons (LeadsOn s) (read_cell s) (cell_reads s count) refl (reads_lead s count)

pub led_by_reads : (s count : ℕ) (old new : Machine) → Runs old (cell_reads s count) [] new → IsLedOn s old new
led_by_reads s count old new runs = (cell_reads s count, reads_lead s count, runs)

-- ---- how far a call has come

pub come_start : (s : ℕ) (m : Machine) → HasCome s 1 m m
come_start s m = by (stage_of s m) refl
  where
    on : (stage : Stage) → stage_of s m ≡ stage → 1 ≤ rank stage → HasCome s 1 m m
    on stage e high = inr (led_nothing s m, rw e high)

    by : (stage : Stage) → stage_of s m ≡ stage → HasCome s 1 m m
    by resting e = inl (e, refl)
    by (begun call) e = on (begun call) e (omega arith)
    by (policed p) e = on (policed p) e (omega arith)
    by (walking p w (Some place)) e = on (walking p w (Some place)) e (omega arith)
    by (walking p w None) e = on (walking p w None) e (omega arith)
    by (unpublished call version) e = on (unpublished call version) e (omega arith)
    by (checked p w) e = on (checked p w) e (omega arith)

past_begun : (stage : Stage) → ¬ ((call : Call) × (stage ≡ begun call)) → 1 ≤ rank stage → 2 ≤ rank stage
past_begun resting other low = absurd (omega arith)
past_begun (begun call) other low = absurd (other (call, refl))
past_begun (policed p) other low = omega arith
past_begun (walking p w (Some place)) other low = omega arith
past_begun (walking p w None) other low = omega arith
past_begun (unpublished call version) other low = omega arith
past_begun (checked p w) other low = omega arith

past_policed : (stage : Stage) → ¬ ((p : Policed) × (stage ≡ policed p)) → 2 ≤ rank stage → 3 ≤ rank stage
past_policed resting other low = absurd (omega arith)
past_policed (begun call) other low = absurd (omega arith)
past_policed (policed p) other low = absurd (other (p, refl))
past_policed (walking p w (Some place)) other low = omega arith
past_policed (walking p w None) other low = omega arith
past_policed (unpublished call version) other low = omega arith
past_policed (checked p w) other low = omega arith

past_reading : (stage : Stage) → ¬ ((p : Policed) × (w : WalkerView) × (place : ℕ) × (stage ≡ walking p w (Some place))) →
    3 ≤ rank stage → 4 ≤ rank stage
past_reading resting other low = absurd (omega arith)
past_reading (begun call) other low = absurd (omega arith)
past_reading (policed p) other low = absurd (omega arith)
past_reading (walking p w (Some place)) other low = absurd (other (p, w, place, refl))
past_reading (walking p w None) other low = omega arith
past_reading (unpublished call version) other low = omega arith
past_reading (checked p w) other low = omega arith

past_checking : (stage : Stage) → ¬ ((p : Policed) × (w : WalkerView) × (stage ≡ walking p w None)) → 4 ≤ rank stage → 5 ≤ rank stage
past_checking resting other low = absurd (omega arith)
past_checking (begun call) other low = absurd (omega arith)
past_checking (policed p) other low = absurd (omega arith)
past_checking (walking p w (Some place)) other low = absurd (omega arith)
past_checking (walking p w None) other low = absurd (other (p, w, refl))
past_checking (unpublished call version) other low = omega arith
past_checking (checked p w) other low = omega arith

polled_rank : (call : Call) (version : ℕ) (judge : Option _) → 2 ≤ rank (after_policy call version judge)
polled_rank call version None = omega arith
polled_rank call version (Some judge) = omega arith

walking_rank : (p : Policed) (w : WalkerView) (next : Option ℕ) → 3 ≤ rank (walking p w next)
walking_rank p w None = omega arith
walking_rank p w (Some place) = omega arith

module _ (s : ℕ) (old mid new : Machine) where
  -- the session is where it was
  same_stage : (least next : ℕ) → new ≡ mid → (least ≤ rank (stage_of s mid) → next ≤ rank (stage_of s mid)) → HasCome s least old mid →
      HasCome s next old new
  same_stage least next same higher (inl (rests, nothing)) = inl (rests, same ∙ nothing)
  same_stage least next same higher (inr (led, low)) = rw same (inr (led, higher low))

  -- an event was taken that no session takes without having begun a call
  moved : (event : Event) (told : Option Answer) (least next : ℕ) → LeadsOn s event → (stage_of s mid ≡ resting → ⊥) →
      next ≤ rank (stage_of s new)
      → HasCome s least old mid → Takes mid event told new → HasCome s next old new
  moved event told least next leads busy high (inl (rests, nothing)) takes = absurd (busy (ap (stage_of s) nothing ∙ rests))
  moved event told least next leads busy high (inr (led, low)) takes = inr (led_more s old mid new event told leads led takes, high)

  pub policy_read_on : HasCome s 1 old mid → IsTurnTaken mid (read_policy s) new → HasCome s 2 old new
  policy_read_on come (inr (same, other)) = same_stage 1 2 same (past_begun (stage_of s mid) other) come
  policy_read_on come (inl (Some told, (own, is, answers))) = cc
  policy_read_on come (inl (None, takes)) =
      let (call, begins, is) = takes in
      let high : 2 ≤ rank (stage_of s new) =
      rw (is, stage_moved) (polled_rank call (length mid.deeds) (policy_after mid.deeds call.profile)) in
      moved (read_policy s) None 1 2 refl (λ rests. cc (rests, begins)) high come takes

  pub count_read_on : HasCome s 2 old mid → IsTurnTaken mid (read_count s) new → HasCome s 3 old new
  count_read_on come (inr (same, other)) = same_stage 2 3 same (past_policed (stage_of s mid) other) come
  count_read_on come (inl (Some told, (own, is, answers))) = cc
  count_read_on come (inl (None, takes)) =
      let (p, next, begins, may, is) = takes in
      let w = beginning newcomer (count_of mid.keeper) mid.keeper.history in
      let high : 3 ≤ rank (stage_of s new) = rw (is, stage_moved) (walking_rank p w next) in
      moved (read_count s) None 2 3 refl (λ rests. cc (rests, begins)) high come takes

  pub count_checked_on : HasCome s 4 old mid → IsTurnTaken mid (check_count s) new → HasCome s 5 old new
  count_checked_on come (inr (same, other)) = same_stage 4 5 same (past_checking (stage_of s mid) other) come
  count_checked_on come (inl (Some told, (own, is, answers))) = cc
  count_checked_on come (inl (None, takes)) =
      let (p, w, begins, is) = takes in
      let high : 5 ≤ rank (stage_of s new) = rw (is, stage_moved) (omega arith) in
      moved (check_count s) None 4 5 refl (λ rests. cc (rests, begins)) high come takes

  -- ---- the answer

  pub is_told : (told : Answer) → HasCome s 5 old mid → Takes mid (answer s) (Some told) new → IsAnswered s old new (Ok (Some told))
  is_told told (inl (rests, nothing)) (own, is, (name, may, after)) =
      let same : own ≡ s = cc in
      let here : stage_of own mid ≡ resting = rw same (ap (stage_of s) nothing ∙ rests) in
      absurd (subst (λ (stage : Stage). MayAnswer mid.capacity stage told name) here may)
  is_told told (inr ((events, all, runs), high)) takes = (events, all, run_snoc old events [] mid (answer s) (Some told) new runs takes)

  pub is_not_told : HasCome s 5 old mid → new ≡ mid → ¬ (HasTurn mid (answer s)) → IsAnswered s old new (Ok None)
  is_not_told (inl (rests, nothing)) same other = (rests, same ∙ nothing)
  is_not_told (inr (led, high)) same other = absurd (by (stage_of s mid) refl)
    where
      by : (stage : Stage) → stage_of s mid ≡ stage → ⊥
      by resting e = omega (arith, subst (λ (stage : Stage). 5 ≤ rank stage) e high)
      by (begun call) e = omega (arith, subst (λ (stage : Stage). 5 ≤ rank stage) e high)
      by (policed p) e = omega (arith, subst (λ (stage : Stage). 5 ≤ rank stage) e high)
      by (walking p w (Some place)) e = omega (arith, subst (λ (stage : Stage). 5 ≤ rank stage) e high)
      by (walking p w None) e = omega (arith, subst (λ (stage : Stage). 5 ≤ rank stage) e high)
      by (unpublished call version) e = other (inl (call, version, e))
      by (checked p w) e = other (inr (p, w, e))

-- ---- whatever leads on

-- a session that has begun no call isn't led on, and no call goes back
abbrev GoesUp : Machine → Machine → ℕ → Type 0
GoesUp m n s = (stage_of s m ≡ resting → ⊥) × (rank (stage_of s m) ≤ rank (stage_of s n))

up : (m n : Machine) (s : ℕ) (from to : Stage) → stage_of s m ≡ from → stage_of s n ≡ to → (from ≡ resting → ⊥) →
    rank from ≤ rank to → GoesUp m n s
up m n s from to starts ends busy high = ((λ rests. busy (sym starts ∙ rests)), rw (starts, ends) high)

leads_up : (m n : Machine) (s : ℕ) (event : Event) (told : Option Answer) → LeadsOn s event → Takes m event told n → GoesUp m n s
leads_up m n s (read_policy own) (Some told) leads (other, is, answers) = cc
leads_up m n s (read_policy own) None leads (call, begins, is) =
    let to = after_policy call (length m.deeds) (policy_after m.deeds call.profile) in
    subst (GoesUp m n) leads (up m n own (begun call) to begins (ap (stage_of own) is ∙ stage_moved m own to) (λ e. cc)
    (omega (arith, polled_rank call (length m.deeds) (policy_after m.deeds call.profile))))
leads_up m n s (read_count own) (Some told) leads (other, is, answers) = cc
leads_up m n s (read_count own) None leads (p, next, begins, may, is) =
    let w = beginning newcomer (count_of m.keeper) m.keeper.history in
    let to = walking p w next in
    subst (GoesUp m n) leads (up m n own (policed p) to begins (ap (stage_of own) is ∙ stage_moved m own to) (λ e. cc)
    (omega (arith, walking_rank p w next)))
leads_up m n s (read_cell own) (Some told) leads (other, is, answers) = cc
leads_up m n s (read_cell own) None leads (p, w, place, word, next, begins, stands, may, is) =
    let w' = reading w (record { place = place; word = word }) in
    let to = walking p w' next in
    subst (GoesUp m n) leads (up m n own (walking p w (Some place)) to begins (ap (stage_of own) is ∙ stage_moved m own to) (λ e. cc)
    (omega (arith, walking_rank p w' next)))
leads_up m n s (check_count own) (Some told) leads (other, is, answers) = cc
leads_up m n s (check_count own) None leads (p, w, begins, is) =
    let to = checked p (ending w (count_of m.keeper) m.keeper.history) in
    subst (GoesUp m n) leads (up m n own (walking p w None) to begins (ap (stage_of own) is ∙ stage_moved m own to)
    (λ e. cc) (omega arith))
leads_up m n s (begin own call) told leads takes = absurd leads
leads_up m n s (answer own) told leads takes = absurd leads
leads_up m n s (open_change change) told leads takes = absurd leads
leads_up m n s set_cell told leads takes = absurd leads
leads_up m n s close_change told leads takes = absurd leads
leads_up m n s (publish deeds) told leads takes = absurd leads

runs_up : (s : ℕ) (m n : Machine) (events : List Event) (answers : List (ℕ × Answer)) → All (LeadsOn s) events → Runs m events answers n
    → (stage_of s m ≡ resting → n ≡ m) × (rank (stage_of s m) ≤ rank (stage_of s n))
runs_up s m n [] answers all (none, same) = ((λ rests. same), rw same (omega arith))
runs_up s m n (event ∷ events) answers all (told, between, later, takes, runs, is) =
    let here = leads_up m between s event told (All-head (LeadsOn s) event events all) takes in
    let rest = runs_up s between n events later (All-tail (LeadsOn s) event events all) runs in
    ((λ rests. absurd (here.0 rests)), omega (arith, here.1, rest.1))

-- all cells are read
pub cells_read_on : (s : ℕ) (old mid new : Machine) → HasCome s 3 old mid → IsLedOn s mid new → ¬ (HasTurn new (read_cell s)) →
    HasCome s 4 old new
cells_read_on s old mid new (inl (rests, nothing)) (events, all, runs) other =
    inl (rests, (runs_up s mid new events [] all runs).0 (ap (stage_of s) nothing ∙ rests) ∙ nothing)
cells_read_on s old mid new (inr (led, low)) (events, all, runs) other =
    let high = (runs_up s mid new events [] all runs).1 in
    inr (led_on s old mid new led (events, all, runs), past_reading (stage_of s new) other (omega (arith, low, high)))
