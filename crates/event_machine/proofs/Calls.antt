-- What each call has read, after any legal run: what the policy said of its profile, and the counts, by events of its own span.
use Rattle.std.proofs.Common.{◌≡◌, ◌≢◌, ℕ, ◌%◌, ◌==◌, Bool, true, false, List, [], ◌∷◌, ◌++◌, length, Some, None, Option, sym, refl, ap}
use Rattle.std.proofs.Common.{◌∙◌, subst, arith, append_assoc, append-nil, eqb-true}
use Rattle.std.proofs.lemmas.List.Elements.{All-append, All-cons, All-nil}
use Rattle.std.proofs.lemmas.Bool.{eqb-false}
use Rattle.std.proofs.Math.Seq.{take-length}
use Rattle.std.specs.Prelude.{if◌then◌else◌}
use Rattle.std.specs.List.{All}
use Rattle.mediation.specs.Deeds.{Deed, policy_after}
use Rattle.mediation.specs.Judge.{Judge}
use Rattle.justification.specs.laws.Later.{published_stays}
use Rattle.justification.specs.declared.answer.Answer.{Answer}
use Rattle.justification.specs.Versions.{IsPublishedAt}
use Rattle.row_rule.specs.declared.view.KeeperView.{KeeperView}
use Rattle.row_rule.specs.declared.view.WalkerView.{WalkerView}
use Rattle.row_rule.specs.declared.view.View.TheVariants.{Keeps, Walks}
use Rattle.row_rule.specs.Row.{count_of, FitsWalker, Agrees}
use Rattle.row_rule.specs.Steps.{newcomer, beginning, reading, ending, opening, setting, closing}
use Rattle.row_rule.specs.laws.Rule.{even_encodes}
use Rattle.tree_row.specs.Rows.{row_length}
use Rattle.row_plan.specs.Changes.{EncodesChanges}
use Rattle.event_machine.specs.Machine.{Call, Event, Policed, Stage, Session, Machine, with_session}
use Rattle.event_machine.specs.Machine.Event.{begin, read_policy, read_count, read_cell, check_count, answer, open_change, set_cell}
use Rattle.event_machine.specs.Machine.Event.{close_change, publish}
use Rattle.event_machine.specs.Machine.Stage.{resting, begun, unpublished, policed, walking, checked}
use Rattle.event_machine.specs.WalkSteps.{IsStill}
use Rattle.event_machine.specs.Takes.{Moves, Takes, after_policy}
use Rattle.event_machine.specs.Runs.{Legal}
use Rattle.event_machine.specs.Rule.{view_of, KeepsRule}
use Rattle.event_machine.specs.Right.{BeginsCall, Span, Happened, IsPolicyVersion, IsCount}
use Rattle.event_machine.specs.laws.Ruled.{fits_at}

-- what a call that found its profile published has read
pub record Polled (capacity : ℕ) (events : List Event) (deeds : List Deed) (s : ℕ) (p : Policed) : Type 0 where
  pub span : Span events s p.call
  pub read : Happened capacity span (read_policy s) (IsPolicyVersion p.policy_version)
  pub published : IsPublishedAt deeds p.policy_version p.call.profile (Some p.judge)

pub record Unpolled (capacity : ℕ) (events : List Event) (deeds : List Deed) (s : ℕ) (call : Call) (version : ℕ) : Type 0 where
  pub span : Span events s call
  pub read : Happened capacity span (read_policy s) (IsPolicyVersion version)
  pub published : IsPublishedAt deeds version call.profile None

pub record Counted (capacity : ℕ) (events : List Event) (deeds : List Deed) (s : ℕ) (p : Policed) (w : WalkerView) : Type 0 where
  pub polled : Polled capacity events deeds s p
  pub count : Happened capacity polled.span (read_count s) (IsCount w.noted)

-- if the counts were the same even number, a row that agrees with what was read encodes the tree of what was seen
abbrev pub SawTree : ℕ → WalkerView → Type 0
SawTree room w = IsStill w → (row : List ℕ) × Agrees w.reads row × EncodesChanges room row w.seen

pub record Rechecked (capacity : ℕ) (events : List Event) (deeds : List Deed) (room s : ℕ) (p : Policed) (w : WalkerView) : Type 0 where
  pub counted : Counted capacity events deeds s p w
  pub count : Happened capacity counted.polled.span (check_count s) (IsCount w.last)
  pub saw : SawTree room w

abbrev pub IsCall : ℕ → List Event → List Deed → ℕ → ℕ → Stage → Type 0
IsCall capacity events deeds room s resting = Unit {0}
IsCall capacity events deeds room s (begun call) = Span events s call
IsCall capacity events deeds room s (unpublished call version) = Unpolled capacity events deeds s call version
IsCall capacity events deeds room s (policed p) = Polled capacity events deeds s p
IsCall capacity events deeds room s (walking p w next) = Counted capacity events deeds s p w
IsCall capacity events deeds room s (checked p w) = Rechecked capacity events deeds room s p w

abbrev pub AreCalls : ℕ → List Event → Machine → Type 0
AreCalls capacity events m = (s : ℕ) → IsCall capacity events m.deeds m.capacity s (m.sessions s).stage

-- one more event, with which no call of the session begins
one_all : (P : Event → Type 0) (e : Event) → P e → All P (e ∷ [])
one_all P e p = All-cons P e [] p (All-nil P)

abbrev longer : (events : List Event) (s : ℕ) (call : Call) (event : Event) → ¬ (BeginsCall s event) → Span events s call →
    Span (events ++ event ∷ []) s call
longer events s call event other span = record {
  before = span.before;
  within = span.within ++ event ∷ [];
  parts = ap (λ (es : List Event). es ++ event ∷ []) span.parts ∙ append_assoc span.before (begin s call ∷ span.within) (event ∷ []);
  last = All-append (λ (e : Event). ¬ (BeginsCall s e)) span.within (event ∷ []) span.last
      (one_all (λ (e : Event). ¬ (BeginsCall s e)) event other);
}

longer_happened : (capacity : ℕ) (events : List Event) (s : ℕ) (call : Call) (event : Event) (other : ¬ (BeginsCall s event))
    (span : Span events s call) (what : Event) (Stood : Machine → Type 0)
    → Happened capacity span what Stood → Happened capacity (longer events s call event other span) what Stood
longer_happened capacity events s call event other span what Stood (front, rest, answers, m, parts, legal, stood) = (
  front,
  rest ++ event ∷ [],
  answers,
  m,
  ap (λ (es : List Event). es ++ event ∷ []) parts ∙ append_assoc front (what ∷ rest)
      (event ∷ []),
  legal,
  stood,
)

-- the event that happens now
happens_now : (capacity : ℕ) (events : List Event) (answers : List (ℕ × Answer)) (m : Machine) (s : ℕ) (call : Call) (event : Event)
    (other : ¬ (BeginsCall s event)) (span : Span events s call) (Stood : Machine → Type 0)
    → Legal capacity events answers m → Stood m → Happened capacity (longer events s call event other span) event Stood
happens_now capacity events answers m s call event other span Stood legal stood =
    (span.within, [], answers, m, refl, subst (λ (es : List Event). Legal capacity es answers m) span.parts legal, stood)

abbrev polled_later : (capacity : ℕ) (events : List Event) (deeds more : List Deed) (s : ℕ) (p : Policed) (event : Event)
    (other : ¬ (BeginsCall s event)) → Polled capacity events deeds s p → Polled capacity (events ++ event ∷ []) (deeds ++ more) s p
polled_later capacity events deeds more s p event other k = record {
  span = longer events s p.call event other k.span;
  read = longer_happened capacity events s p.call event other k.span (read_policy s) (IsPolicyVersion p.policy_version) k.read;
  published = published_stays deeds (deeds ++ more) p.policy_version p.call.profile (Some p.judge) (more, refl) k.published;
}

abbrev counted_later : (capacity : ℕ) (events : List Event) (deeds more : List Deed) (s : ℕ) (p : Policed) (w new : WalkerView) →
    new.noted ≡ w.noted → (event : Event) (other : ¬ (BeginsCall s event)) → Counted capacity events deeds s p w →
    Counted capacity (events ++ event ∷ []) (deeds ++ more) s p new
counted_later capacity events deeds more s p w new same event other k = record {
  polled = polled_later capacity events deeds more s p event other k.polled;
  count = longer_happened capacity events s p.call event other k.polled.span (read_count s) (IsCount new.noted)
      (subst (λ (n : ℕ). Happened capacity k.polled.span (read_count s) (IsCount n)) (sym same) k.count);
}

later : (capacity : ℕ) (events : List Event) (deeds more : List Deed) (room s : ℕ) (event : Event) → ¬ (BeginsCall s event) →
    (stage : Stage) → IsCall capacity events deeds room s stage → IsCall capacity (events ++ event ∷ []) (deeds ++ more) room s stage
later capacity events deeds more room s event other resting k = tt
later capacity events deeds more room s event other (begun call) k = longer events s call event other k
later capacity events deeds more room s event other (unpublished call version) k = record {
  span = longer events s call event other k.span;
  read = longer_happened capacity events s call event other k.span (read_policy s) (IsPolicyVersion version) k.read;
  published = published_stays deeds (deeds ++ more) version call.profile None (more, refl) k.published;
}
later capacity events deeds more room s event other (policed p) k = polled_later capacity events deeds more s p event other k
later capacity events deeds more room s event other (walking p w next) k = counted_later capacity events deeds more s
    p w w refl event other k
later capacity events deeds more room s event other (checked p w) k = record {
  counted = counted_later capacity events deeds more s p w w refl event other k.counted;
  count = longer_happened capacity events s p.call event other k.counted.polled.span (check_count s) (IsCount w.last) k.count;
  saw = k.saw;
}

same_later : (capacity : ℕ) (events : List Event) (deeds : List Deed) (room s : ℕ) (event : Event) → ¬ (BeginsCall s event) →
    (stage : Stage) → IsCall capacity events deeds room s stage → IsCall capacity (events ++ event ∷ []) deeds room s stage
same_later capacity events deeds room s event other stage k =
    subst (λ (ds : List Deed). IsCall capacity (events ++ event ∷ []) ds room s stage) (append-nil deeds)
    (later capacity events deeds [] room s event other stage k)

-- one session moves on, and no other's call begins
session_step : (capacity : ℕ) (events : List Event) (m : Machine) (s : ℕ) (session : Session) (event : Event) →
    ((r : ℕ) → r ≢ s → ¬ (BeginsCall r event)) → AreCalls capacity events m
    → IsCall capacity (events ++ event ∷ []) m.deeds m.capacity s session.stage → AreCalls capacity (events ++ event ∷ [])
    (record m { sessions = with_session m.sessions s session })
session_step capacity events m s session event others calls own = λ r.
    elim (s == r) as (λ (b : Bool). (s == r) ≡ b → IsCall capacity (events ++ event ∷ []) m.deeds m.capacity r
    (if b then session else m.sessions r).stage) [
      | true ↦ λ is. subst (λ (z : ℕ). IsCall capacity (events ++ event ∷ []) m.deeds m.capacity z session.stage) (eqb-true s r is) own
      | false ↦ λ is. same_later capacity events m.deeds m.capacity r event (others r (λ e. not_false r e is))
          (m.sessions r).stage (calls r)
    ] refl where
      not_false : (r : ℕ) → r ≡ s → (s == r) ≡ false → ⊥
      not_false r e is = eqb-false s r is (sym e)

-- the keeper's steps leave all calls as they are
keeper_step : (capacity : ℕ) (events : List Event) (m : Machine) (k : KeeperView) (event : Event) → ((r : ℕ) → ¬ (BeginsCall r event)) →
    AreCalls capacity events m → AreCalls capacity (events ++ event ∷ []) (record m { keeper = k })
keeper_step capacity events m k event others calls = λ r. same_later capacity events m.deeds m.capacity r event (others r)
    (m.sessions r).stage (calls r)

at_stage : (capacity : ℕ) (events : List Event) (m : Machine) (s : ℕ) (stage : Stage) → AreCalls capacity events m → (m.sessions s).stage
    ≡ stage → IsCall capacity events m.deeds m.capacity s stage
at_stage capacity events m s stage calls is = subst (IsCall capacity events m.deeds m.capacity s) is (calls s)

-- what the policy says now
policy_now : (deeds : List Deed) (profile : List ℕ) → IsPublishedAt deeds (length deeds) profile (policy_after deeds profile)
policy_now deeds profile = (omega arith, ap (λ (ds : List Deed). policy_after ds profile) (take-length deeds))

polls : (capacity : ℕ) (events : List Event) (answers : List (ℕ × Answer)) (m : Machine) (s : ℕ) (call : Call) →
    Legal capacity events answers m → Span events s call → (o : Option Judge) → IsPublishedAt m.deeds (length m.deeds) call.profile o
    → IsCall capacity (events ++ read_policy s ∷ []) m.deeds m.capacity s (after_policy call (length m.deeds) o)
polls capacity events answers m s call legal span None is = record {
  span = longer events s call (read_policy s) (λ none. none) span;
  read = happens_now capacity events answers m s call (read_policy s) (λ none. none) span (IsPolicyVersion (length m.deeds)) legal refl;
  published = is;
}
polls capacity events answers m s call legal span (Some judge) is = record {
  span = longer events s call (read_policy s) (λ none. none) span;
  read = happens_now capacity events answers m s call (read_policy s) (λ none. none) span (IsPolicyVersion (length m.deeds)) legal refl;
  published = is;
}

counts : (capacity : ℕ) (events : List Event) (answers : List (ℕ × Answer)) (m : Machine) (s : ℕ) (p : Policed) →
    Legal capacity events answers m → Polled capacity events m.deeds s p
    → Counted capacity (events ++ read_count s ∷ []) m.deeds s p (beginning newcomer (count_of m.keeper) m.keeper.history)
counts capacity events answers m s p legal k =
    record {
      polled = record {
        span = longer events s p.call (read_count s) (λ none. none) k.span;
        read = longer_happened capacity events s p.call (read_count s) (λ none. none) k.span (read_policy s)
            (IsPolicyVersion p.policy_version) k.read;
        published = k.published;
      };
      count = happens_now capacity events answers m s p.call (read_count s) (λ none. none) k.span (IsCount (count_of m.keeper)) legal refl;
    }

saw_tree : (capacity : ℕ) (k : KeeperView) (w : WalkerView) → FitsWalker k w →
    (count_of k % 2 ≡ 0 → EncodesChanges capacity k.cells k.history) → SawTree capacity (ending w (count_of k) k.history)
saw_tree capacity k w f encodes (even, same) =
    (k.cells, (f.still even (sym same)).1, encodes (ap (λ (n : ℕ). n % 2) same ∙ even))

checks : (capacity : ℕ) (events : List Event) (answers : List (ℕ × Answer)) (m : Machine) (s : ℕ) (p : Policed) (w : WalkerView) →
    Legal capacity events answers m → SawTree m.capacity (ending w (count_of m.keeper) m.keeper.history) →
    Counted capacity events m.deeds s p w
    → Rechecked capacity (events ++ check_count s ∷ []) m.deeds m.capacity s p (ending w (count_of m.keeper) m.keeper.history)
checks capacity events answers m s p w legal saw k = record {
  counted = record {
    polled = record {
      span = longer events s p.call (check_count s) (λ none. none) k.polled.span;
      read = longer_happened capacity events s p.call (check_count s) (λ none. none) k.polled.span (read_policy s)
          (IsPolicyVersion p.policy_version) k.polled.read;
      published = k.polled.published;
    };
    count = longer_happened capacity events s p.call (check_count s) (λ none. none) k.polled.span (read_count s) (IsCount w.noted) k.count;
  };
  count = happens_now capacity events answers m s p.call (check_count s) (λ none. none) k.polled.span
      (IsCount (count_of m.keeper)) legal refl;
  saw = saw;
}

begins : (events : List Event) (s : ℕ) (call : Call) → Span (events ++ begin s call ∷ []) s call
begins events s call = record { before = events; within = []; parts = refl; last = All-nil (λ (event : Event). ¬ (BeginsCall s event)) }

even_row : (m : Machine) → KeepsRule m → (s : ℕ) → count_of m.keeper % 2 ≡ 0 → EncodesChanges m.capacity m.keeper.cells m.keeper.history
even_row m rule s even =
    even_encodes (EncodesChanges m.capacity) (row_length m.capacity) m.keeper (count_of m.keeper ∷ m.keeper.cells)
    (Keeps m.keeper ∷ Walks (view_of (m.sessions s).stage) ∷ []) (rule s) even

moves_calls : (capacity : ℕ) (events : List Event) (answers : List (ℕ × Answer)) (m : Machine) (event : Event) (new : Machine) →
    Legal capacity events answers m → KeepsRule m → AreCalls capacity events m → Moves m event new →
    AreCalls capacity (events ++ event ∷ []) new
moves_calls capacity events answers m (begin s call) new legal rule calls (at, is) =
    subst (AreCalls capacity (events ++ begin s call ∷ [])) (sym is)
    (session_step capacity events m s (record { name = (m.sessions s).name; stage = begun call }) (begin s call)
    (λ r other own. other (sym own)) calls (begins events s call))
moves_calls capacity events answers m (read_policy s) new legal rule calls (call, at, is) =
    subst (AreCalls capacity (events ++ read_policy s ∷ [])) (sym is)
    (session_step capacity events m s
    (record { name = (m.sessions s).name; stage = after_policy call (length m.deeds) (policy_after m.deeds call.profile) })
    (read_policy s) (λ r other none. none) calls
    (polls capacity events answers m s call legal (at_stage capacity events m s (begun call) calls at)
    (policy_after m.deeds call.profile) (policy_now m.deeds call.profile)))
moves_calls capacity events answers m (read_count s) new legal rule calls (p, next, at, may, is) =
    subst (AreCalls capacity (events ++ read_count s ∷ [])) (sym is)
    (session_step capacity events m s
    (record { name = (m.sessions s).name; stage = walking p (beginning newcomer (count_of m.keeper) m.keeper.history) next })
    (read_count s) (λ r other none. none) calls
    (counts capacity events answers m s p legal (at_stage capacity events m s (policed p) calls at)))
moves_calls capacity events answers m (read_cell s) new legal rule calls (p, w, place, word, next, at, stands, may, is) =
    subst (AreCalls capacity (events ++ read_cell s ∷ [])) (sym is)
    (session_step capacity events m s
    (record { name = (m.sessions s).name; stage = walking p (reading w record { place = place; word = word }) next }) (read_cell s)
    (λ r other none. none) calls (same_later capacity events m.deeds m.capacity s (read_cell s) (λ none. none)
    (walking p (reading w record { place = place; word = word }) next)
    (retold (at_stage capacity events m s (walking p w (Some place)) calls at)))) where
      retold : Counted capacity events m.deeds s p w → Counted capacity events m.deeds s p
          (reading w record { place = place; word = word })
      retold k = record { polled = k.polled; count = k.count }
moves_calls capacity events answers m (check_count s) new legal rule calls (p, w, at, is) =
    subst (AreCalls capacity (events ++ check_count s ∷ [])) (sym is)
    (session_step capacity events m s
    (record { name = (m.sessions s).name; stage = checked p (ending w (count_of m.keeper) m.keeper.history) }) (check_count s)
    (λ r other none. none) calls (checks capacity events answers m s p w legal
    (saw_tree m.capacity m.keeper w (subst (λ (z : Stage). FitsWalker m.keeper (view_of z)) at
    (fits_at m.capacity m.keeper (view_of (m.sessions s).stage) (rule s))) (even_row m rule s))
    (at_stage capacity events m s (walking p w None) calls at)))
moves_calls capacity events answers m (answer s) new legal rule calls none = absurd none
moves_calls capacity events answers m (open_change change) new legal rule calls (plan, shut, lean, plans, is) =
    subst (AreCalls capacity (events ++ open_change change ∷ [])) (sym is) (keeper_step capacity events m (opening m.keeper change plan)
    (open_change change) (λ r none. none) calls)
moves_calls capacity events answers m set_cell new legal rule calls (change, cell, left, pending, is) =
    subst (AreCalls capacity (events ++ set_cell ∷ [])) (sym is) (keeper_step capacity events m (setting m.keeper cell) set_cell
    (λ r none. none) calls)
moves_calls capacity events answers m close_change new legal rule calls (change, pending, is) =
    subst (AreCalls capacity (events ++ close_change ∷ [])) (sym is) (keeper_step capacity events m (closing m.keeper) close_change
    (λ r none. none) calls)
moves_calls capacity events answers m (publish deeds) new legal rule calls (some_deeds, few, is) =
    subst (AreCalls capacity (events ++ publish deeds ∷ [])) (sym is)
    (λ r. later capacity events m.deeds deeds m.capacity r (publish deeds) (λ none. none) (m.sessions r).stage (calls r))

pub takes_calls : (capacity : ℕ) (events : List Event) (answers : List (ℕ × Answer)) (m : Machine) (event : Event) (told : Option Answer)
    (new : Machine) → Legal capacity events answers m → KeepsRule m → AreCalls capacity events m → Takes m event told new →
    AreCalls capacity (events ++ event ∷ []) new
takes_calls capacity events answers m event None new legal rule calls moves = moves_calls capacity events answers m event
    new legal rule calls moves
takes_calls capacity events answers m event (Some told) new legal rule calls (s, which, (name, may, is)) =
    subst (λ (e : Event). AreCalls capacity (events ++ e ∷ []) new) (sym which)
    (subst (AreCalls capacity (events ++ answer s ∷ [])) (sym is)
    (session_step capacity events m s (record { name = name; stage = resting }) (answer s) (λ r other none. none) calls tt))
