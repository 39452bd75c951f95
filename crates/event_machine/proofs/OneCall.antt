-- A session that is in a call stays so until it answers, and only one at rest begins a call.
use Rattle.std.proofs.Common.{◌≡◌, ◌≢◌, ℕ, suc, ◌==◌, Bool, true, false, List, [], ◌∷◌, ◌++◌, Some, None, Option, sym, refl, ap, ◌∙◌}
use Rattle.std.proofs.Common.{subst, arith, eqb-true, eq-eqb, inl, inr, ⊎_elim}
use Rattle.std.specs.Prelude.{◌⊎◌, if◌then◌else◌}
use Rattle.std.specs.List.{Contains}
use Rattle.mediation.specs.Judge.{Judge}
use Rattle.justification.specs.declared.answer.Answer.{Answer}
use Rattle.event_machine.specs.Machine.{Call, Event, Session, Machine, with_session}
use Rattle.event_machine.specs.Machine.Event.{begin, read_policy, read_count, read_cell, check_count, answer, open_change, set_cell}
use Rattle.event_machine.specs.Machine.Event.{close_change, publish}
use Rattle.event_machine.specs.Machine.Stage.{resting, begun}
use Rattle.event_machine.specs.Takes.{Moves, Takes, after_policy}
use Rattle.event_machine.specs.Runs.{Runs}

abbrev IsCalling : ℕ → Machine → Type 0
IsCalling s m = (m.sessions s).stage ≢ resting

-- a session moves on in its call, which is this one or another
moves_on : (old new : Machine) (r s : ℕ) (session : Session) → session.stage ≢ resting →
    new ≡ record old { sessions = with_session old.sessions r session } → IsCalling s old → IsCalling s new
moves_on old new r s session calls is calling =
    subst (IsCalling s) (sym is) (elim (r == s) as (λ (b : Bool). (if b then session else old.sessions s).stage ≢ resting)
    [ true ↦ calls | false ↦ calling ])

after_policy_calls : (call : Call) (version : ℕ) (o : Option Judge) → after_policy call version o ≢ resting
after_policy_calls call version None e = absurd (cc e)
after_policy_calls call version (Some judge) e = absurd (cc e)

moves_calling : (s : ℕ) (old new : Machine) (event : Event) → Moves old event new → IsCalling s old → IsCalling s new
moves_calling s old new (begin r call) (at, is) = moves_on old new r s _ (λ e. cc e) is
moves_calling s old new (read_policy r) (call, at, is) = moves_on old new r s _ (after_policy_calls _ _ _) is
moves_calling s old new (read_count r) (p, next, at, may, is) = moves_on old new r s _ (λ e. cc e) is
moves_calling s old new (read_cell r) (p, w, place, word, next, at, stands, may, is) = moves_on old new r s _ (λ e. cc e) is
moves_calling s old new (check_count r) (p, w, at, is) = moves_on old new r s _ (λ e. cc e) is
moves_calling s old new (answer r) none = absurd none
moves_calling s old new (open_change change) (plan, shut, lean, plans, is) = subst (IsCalling s) (sym is)
moves_calling s old new set_cell (change, cell, left, pending, is) = subst (IsCalling s) (sym is)
moves_calling s old new close_change (change, pending, is) = subst (IsCalling s) (sym is)
moves_calling s old new (publish deeds) (some_deeds, few, is) = subst (IsCalling s) (sym is)

takes_calling : (s : ℕ) (old new : Machine) (event : Event) (told : Option Answer) → Takes old event told new → IsCalling s old →
    (event ≡ answer s) ⊎ IsCalling s new
takes_calling s old new event None moves calling = inr (moves_calling s old new event moves calling)
takes_calling s old new event (Some told) (r, which, (name, may, is)) calling =
    subst (λ (m : Machine). (event ≡ answer s) ⊎ IsCalling s m) (sym is)
    (elim (r == s) as (λ (b : Bool). (r == s) ≡ b → (event ≡ answer s)
    ⊎ ((if b then record { name = name; stage = resting } else old.sessions s).stage ≢ resting)) [
      | true ↦ λ own. inl (which ∙ ap answer (eqb-true r s own))
      | false ↦ λ other. inr calling
    ] refl)

-- a session in a call begins none
begins_not : (s : ℕ) (next : Call) (old new : Machine) (told : Option Answer) → IsCalling s old → Takes old (begin s next) told new → ⊥
begins_not s next old new None calling (at, is) = calling at
begins_not s next old new (Some told) calling (r, which, rest) = cc which

there : (event first : Event) (events : List Event) → Contains events event → Contains (first ∷ events) event
there event first events (k, within, at) = (suc k, omega arith, at)

answered_before : (s : ℕ) (next : Call) (middle after : List Event) (from : Machine) (answers : List (ℕ × Answer)) (to : Machine) →
    IsCalling s from → Runs from (middle ++ begin s next ∷ after) answers to → Contains middle (answer s)
answered_before s next [] after from answers to calling (told, between, later, takes, runs, is) =
    absurd (begins_not s next from between told calling takes)
answered_before s next (e ∷ es) after from answers to calling (told, between, later, takes, runs, is) =
    ⊎_elim (λ same. (0, omega arith, same)) (λ still. there (answer s) e es (answered_before s next es after between later to still runs))
    (takes_calling s from between e told takes calling)

-- a call has begun
begins : (s : ℕ) (call : Call) (old new : Machine) (told : Option Answer) → Takes old (begin s call) told new → IsCalling s new
begins s call old new None (at, is) =
    subst (IsCalling s) (sym is)
    (subst (λ (b : Bool). (if b then record { name = (old.sessions s).name; stage = begun call } else old.sessions s).stage ≢ resting)
    (sym (eq-eqb s s refl)) (λ e. cc e))
begins s call old new (Some told) (r, which, rest) = absurd (cc which)

pub one_call : (s : ℕ) (call next : Call) (before middle after : List Event) (from : Machine) (answers : List (ℕ × Answer))
    (to : Machine) → Runs from (before ++ begin s call ∷ middle ++ begin s next ∷ after) answers to → Contains middle (answer s)
one_call s call next [] middle after from answers to (told, between, later, takes, runs, is) = answered_before s next middle after between
    later to (begins s call from between told takes) runs
one_call s call next (e ∷ es) middle after from answers to (told, between, later, takes, runs, is) =
    one_call s call next es middle after between later to runs
