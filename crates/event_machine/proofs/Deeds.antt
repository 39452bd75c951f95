-- What each legal step does to the tree's changes and the policy's.
use Rattle.std.proofs.Common.{◌≡◌, ℕ, ◌+◌, List, [], ◌∷◌, ◌++◌, length, Some, None, Option, sym, refl, ap, ◌∙◌, subst, arith, append_assoc}
use Rattle.std.proofs.Common.{append-nil, length-append}
use mathlib.Core.List.{IsPrefix}
use Rattle.directory_tree.specs.declared.change.Change.{Change}
use Rattle.mediation.specs.Deeds.{Deed}
use Rattle.justification.specs.declared.answer.Answer.{Answer}
use Rattle.row_rule.specs.declared.view.Pending.{Pending}
use Rattle.row_rule.specs.declared.view.KeeperView.{KeeperView}
use Rattle.row_rule.specs.Row.{target_of}
use Rattle.row_rule.specs.Steps.{one_fewer}
use Rattle.event_machine.specs.Machine.{Event, Machine}
use Rattle.event_machine.specs.Machine.Event.{begin, read_policy, read_count, read_cell, check_count, answer, open_change, set_cell}
use Rattle.event_machine.specs.Machine.Event.{close_change, publish}
use Rattle.event_machine.specs.Takes.{Moves, Takes}
use Rattle.event_machine.specs.Runs.{Runs}
use Rattle.event_machine.specs.Deeds.{opens, closes, publishes, opened_by, closed_by, published_by}

-- what a run has done: the changes closed and the one open, how many were closed, and the policy's
pub record Did (old new : Machine) (opened : List Change) (closed : ℕ) (deeds : List Deed) : Type 0 where
  pub opened_are : target_of new.keeper.history new.keeper.pending ≡ target_of old.keeper.history old.keeper.pending ++ opened
  pub closed_are : length new.keeper.history ≡ length old.keeper.history + closed
  pub begins : IsPrefix old.keeper.history new.keeper.history
  pub deeds_are : new.deeds ≡ old.deeds ++ deeds
  pub capacity : new.capacity ≡ old.capacity

nothing : (m : Machine) → Did m m [] 0 []
nothing m = record {
  opened_are = sym (append-nil (target_of m.keeper.history m.keeper.pending));
  closed_are = omega arith;
  begins = ([], append-nil m.keeper.history);
  deeds_are = sym (append-nil m.deeds);
  capacity = refl;
}

-- a session's step does nothing to them
session_did : (old new : Machine) → new.keeper ≡ old.keeper → new.deeds ≡ old.deeds → new.capacity ≡ old.capacity → Did old new [] 0 []
session_did old new k d c = let n : Did old old [] 0 [] = nothing old in record {
  opened_are = ap (λ (z : KeeperView). target_of z.history z.pending) k ∙ n.opened_are;
  closed_are = ap (λ (z : KeeperView). length z.history) k ∙ n.closed_are;
  begins = subst (λ (z : KeeperView). IsPrefix old.keeper.history z.history) (sym k) n.begins;
  deeds_are = d ∙ n.deeds_are;
  capacity = c;
}

moved : (old new made : Machine) → new ≡ made → made.keeper ≡ old.keeper → made.deeds ≡ old.deeds → made.capacity ≡ old.capacity →
    Did old new [] 0 []
moved old new made is k d c = subst (λ (z : Machine). Did old z [] 0 []) (sym is) (session_did old made k d c)

open_did : (old new : Machine) (k : KeeperView) (opened : List Change) (closed : ℕ) → new ≡ record old { keeper = k } →
    target_of k.history k.pending ≡ target_of old.keeper.history old.keeper.pending ++ opened
    → length k.history ≡ length old.keeper.history + closed → IsPrefix old.keeper.history k.history → Did old new opened closed []
open_did old new k opened closed is target long begins = subst (λ (z : Machine). Did old z opened closed []) (sym is) record {
  opened_are = target;
  closed_are = long;
  begins = begins;
  deeds_are = sym (append-nil old.deeds);
  capacity = refl;
}

step_did : (old new : Machine) (event : Event) → Moves old event new → Did old new (opens event) (closes event) (publishes event)
step_did old new (begin s call) (at, is) = moved old new _ is refl refl refl
step_did old new (read_policy s) (call, at, is) = moved old new _ is refl refl refl
step_did old new (read_count s) (p, next, at, may, is) = moved old new _ is refl refl refl
step_did old new (read_cell s) (p, w, place, word, next, at, stands, may, is) = moved old new _ is refl refl refl
step_did old new (check_count s) (p, w, at, is) = moved old new _ is refl refl refl
step_did old new (answer s) none = absurd none
step_did old new (open_change change) (plan, shut, lean, plans, is) =
    open_did old new _ (change ∷ []) 0 is (ap (λ (p : Option Pending). target_of old.keeper.history p ++ change ∷ []) (sym shut))
    (omega arith) ([], append-nil old.keeper.history)
step_did old new set_cell (change, cell, left, pending, is) =
    open_did old new _ [] 0 is
    (ap (λ (p : Option Pending). target_of old.keeper.history (one_fewer p)) pending
    ∙ ap (λ (p : Option Pending). target_of old.keeper.history p) (sym pending)
    ∙ sym (append-nil (target_of old.keeper.history old.keeper.pending)))
    (omega arith) ([], append-nil old.keeper.history)
step_did old new close_change (change, pending, is) =
    let made : target_of old.keeper.history old.keeper.pending ≡ old.keeper.history ++ change ∷ [] =
    ap (target_of old.keeper.history) pending in
    open_did old new _ [] 1 is (sym (append-nil (target_of old.keeper.history old.keeper.pending)))
    (ap length made ∙ length-append old.keeper.history (change ∷ [])) (change ∷ [], sym made)
step_did old new (publish deeds) (some_deeds, few, is) = subst (λ (z : Machine). Did old z [] 0 deeds) (sym is) record {
  opened_are = sym (append-nil (target_of old.keeper.history old.keeper.pending));
  closed_are = omega arith;
  begins = ([], append-nil old.keeper.history);
  deeds_are = refl;
  capacity = refl;
}

takes_did : (old new : Machine) (event : Event) (told : Option Answer) → Takes old event told new →
    Did old new (opens event) (closes event) (publishes event)
takes_did old new event None moves = step_did old new event moves
takes_did old new event (Some told) (s, which, (name, may, is)) = subst (λ (e : Event). Did old new (opens e) (closes e) (publishes e))
    (sym which) (moved old new _ is refl refl refl)

then_did : (a b c : Machine) (opened opened' : List Change) (closed closed' : ℕ) (deeds deeds' : List Deed) → Did a b opened closed deeds →
    Did b c opened' closed' deeds' → Did a c (opened ++ opened') (closed + closed') (deeds ++ deeds')
then_did a b c opened opened' closed closed' deeds deeds' x y = record {
  opened_are = y.opened_are ∙ ap (λ (cs : List Change). cs ++ opened') x.opened_are
      ∙ append_assoc (target_of a.keeper.history a.keeper.pending) opened opened';
  closed_are = let one = x.closed_are in let other = y.closed_are in omega arith;
  begins = (
    x.begins.0 ++ y.begins.0,
    sym (append_assoc a.keeper.history x.begins.0 y.begins.0)
        ∙ ap (λ (cs : List Change). cs ++ y.begins.0) x.begins.1 ∙ y.begins.1,
  );
  deeds_are = y.deeds_are ∙ ap (λ (ds : List Deed). ds ++ deeds') x.deeds_are ∙ append_assoc a.deeds deeds deeds';
  capacity = y.capacity ∙ x.capacity;
}

pub run_did : (from : Machine) (events : List Event) (answers : List (ℕ × Answer)) (to : Machine) → Runs from events answers to →
    Did from to (opened_by events) (closed_by events) (published_by events)
run_did from [] answers to (none, same) = subst (λ (z : Machine). Did from z [] 0 []) (sym same) (nothing from)
run_did from (e ∷ es) answers to (told, between, later, takes, runs, is) =
    then_did from between to (opens e) (opened_by es) (closes e) (closed_by es) (publishes e) (published_by es)
    (takes_did from between e told takes) (run_did between es later to runs)
