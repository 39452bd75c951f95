-- What a session's data represent, as its steps need it.
use Rattle.std.proofs.Common.{◌≡◌, ℕ, List, IfOk, IfErr, sym, subst, ap}
use Rattle.std.specs.Prelude.{Result, Ok, Err}
use Rattle.row_rule.specs.declared.view.KeeperView.{KeeperView}
use Rattle.row_rule.specs.declared.view.WalkerView.{WalkerView}
use Rattle.row_rule.specs.Row.{count_of}
use Rattle.row_rule.specs.Steps.{newcomer, beginning}
use Rattle.event_machine.specs.Machine as machine
use Rattle.event_machine.specs.Machine.Stage.{walking}
use Rattle.event_machine.specs.WalkSteps.{MayDo}
use Rattle.open_session.specs.declared.call.Policed.{Policed}
use Rattle.open_session.specs.declared.walk.Walk.{Walk}
use Rattle.open_session.specs.declared.stage.Stage.{Stage}
use Rattle.open_session.specs.declared.stage.Stage.TheVariants as at
use Rattle.open_session.specs.Steps.{ReadsCount, CellReads}
use Rattle.open_session.specs.inner.StageData.{IsWalk, IsStanding, call_of, policed_of, walker_of, walking_of, stage_of, next_of}
use Rattle.open_session.proofs.Choices.{may_do}

pub if_ok_map : {A E : Type 0} {P Q : A → Type 0} (r : Result A E) → IfOk r P → ((x : A) → P x → Q x) → IfOk r Q
if_ok_map (Ok x) p f = f x p
if_ok_map (Err e) p f = tt

pub if_err_map : {A E : Type 0} {P Q : E → Type 0} (r : Result A E) → IfErr r P → ((e : E) → P e → Q e) → IfErr r Q
if_err_map (Ok x) p f = tt
if_err_map (Err e) p f = f e p

pub walk_stands : (capacity : ℕ) (room : List ℕ) (s : Stage) (w : Walk) → at.Walking w ≡ s → IsStanding capacity room s →
    IsWalk capacity room w
walk_stands capacity room s w is stands = subst (λ (t : Stage). IsStanding capacity room t) (sym is) stands

-- a walk that was begun is the step of reading the count
pub begun_count : (capacity : ℕ) (room name : List ℕ) (own : Policed) (s : Stage) (k : KeeperView) (w : Walk) → at.Policed own ≡ s →
    IsWalk capacity room w → w.policed ≡ own
    → walker_of w ≡ beginning newcomer (count_of k) k.history → ReadsCount capacity k record { name = name; stage = stage_of s }
    record { name = name; stage = walking_of w }
begun_count capacity room name own s k w is stands policed begun =
    let may : MayDo capacity (call_of own.call) (beginning newcomer (count_of k) k.history) (next_of w.next) =
    subst (λ (v : WalkerView). MayDo capacity (call_of own.call) v (next_of w.next)) begun
    (subst (λ (p : Policed). MayDo capacity (call_of p.call) (walker_of w) (next_of w.next)) policed
    (may_do capacity room (call_of w.policed.call) (walker_of w) w.next stands.right)) in (
      policed_of own,
      next_of w.next,
      ap stage_of (sym is),
      may,
      λ i. record {
        name = name;
        stage = walking (policed_of (policed i))
            (begun i) (next_of w.next);
      },
    )

-- readings from a session that has another name
pub carried : (row : ℕ × List ℕ) (capacity : ℕ) (cells : List ℕ) (count : ℕ) (a b c : machine.Session) → row ≡ (capacity, cells) → a ≡ b
    → CellReads row.0 row.1 count a c → CellReads capacity cells count b c
carried row capacity cells count a b c row_is same reads =
    subst (λ (x : machine.Session). CellReads capacity cells count x c) same
    (subst (λ (r : ℕ × List ℕ). CellReads r.0 r.1 count a c) row_is reads)
