-- The worked runs in which the keeper opens a change are legal, and get these answers.
use Rattle.std.proofs.Common.{ℕ, ◌≤◌, List, [], ◌∷◌, Some, None, refl, arith, inl, inr}
use Rattle.std.specs.Prelude.{Ok}
use Rattle.mediation.specs.Deeds.{Deed, published}
use Rattle.mediation.specs.Judge.{by_rules}
use Rattle.justification.specs.declared.answer.Answer.{Answer}
use Rattle.justification.specs.declared.answer.Answer.TheVariants.{Busy}
use Rattle.row_rule.specs.declared.view.WalkerView.{WalkerView}
use Rattle.row_rule.specs.Steps.{newcomer, beginning, ending, opening}
use Rattle.event_machine.specs.Machine.{Event, Policed, Machine, first, moved_on, answered, with_deeds, with_keeper}
use Rattle.event_machine.specs.Machine.Event.{begin, read_policy, read_count, check_count, answer, open_change, publish}
use Rattle.event_machine.specs.Machine.Stage.{begun, policed, walking, checked}
use Rattle.event_machine.specs.Runs.{Runs, Legal}
use Rattle.event_machine.specs.Examples.{to_read, root_for, mkdir_b, busy_call, overtaken_call}
use Rattle.event_machine.proofs.Examples.{asked, no_nil, reads_root}
use Rattle.event_machine.proofs.NewDirectory.{five_cells, is_plan, encodes_change}

abbrev rules : List Deed
rules = published (112 ∷ []) (by_rules []) ∷ []

abbrev p : Policed
p = asked to_read

-- `p` is published, and session 1 has read the policy
abbrev begun_by : ℕ → Machine
begun_by capacity = moved_on (with_deeds (first capacity) rules) 1 (begun (root_for to_read))

abbrev polled_by : ℕ → Machine
polled_by capacity = moved_on (begun_by capacity) 1 (policed p)

from_policy : (capacity : ℕ) (later : List Event) (answers : List (ℕ × Answer)) (m : Machine) → Runs (polled_by capacity) later answers m
    → Legal capacity (publish rules ∷ begin 1 (root_for to_read) ∷ read_policy 1 ∷ later) answers m
from_policy capacity later answers m runs = (
  None,
  with_deeds (first capacity) rules,
  answers,
  (no_nil (published (112 ∷ []) (by_rules [])), omega arith, refl),
  (None, begun_by capacity, answers, (refl, refl), (None, polled_by capacity, answers, (root_for to_read, refl, refl), runs, refl), refl),
  refl,
)

abbrev in_change : List Event
in_change = open_change mkdir_b ∷ read_count 1 ∷ check_count 1 ∷ answer 1 ∷ []

pub busy_root : (capacity : ℕ) → 1 ≤ capacity → (m : Machine) × Legal capacity busy_call ((1, Busy 1 1) ∷ []) m
busy_root capacity room =
    let c : Machine = polled_by capacity in
    let d : Machine = with_keeper c (opening c.keeper mkdir_b (five_cells capacity)) in
    let w : WalkerView = beginning newcomer 1 [] in
    let e : Machine = moved_on d 1 (walking p w None) in
    let f : Machine = moved_on e 1 (checked p (ending w 1 [])) in
    let g : Machine = answered f 1 [] in
    let all : List (ℕ × Answer) = (1, Busy 1 1) ∷ [] in (
      g,
      from_policy capacity in_change all g (
        None,
        d,
        all,
        (five_cells capacity, refl, is_plan capacity room, encodes_change capacity room, refl),
        (
          None,
          e,
          all,
          (p, None, refl, inl refl, refl),
          (
            None,
            f,
            all,
            (p, w, refl, refl),
            (
              Some
                  (Busy 1 1),
              g,
              [],
              (1, refl, ([], (inl refl, refl, refl, refl), refl)),
              (refl, refl),
              refl,
            ),
            refl,
          ),
          refl,
        ),
        refl,
      ),
    )

abbrev into_change : List Event
into_change = read_count 1 ∷ open_change mkdir_b ∷ check_count 1 ∷ answer 1 ∷ []

pub overtaken_root : (capacity : ℕ) → 1 ≤ capacity → (m : Machine) × Legal capacity overtaken_call ((1, Busy 0 1) ∷ []) m
overtaken_root capacity room =
    let c : Machine = polled_by capacity in
    let w : WalkerView = beginning newcomer 0 [] in
    let d : Machine = moved_on c 1 (walking p w None) in
    let e : Machine = with_keeper d (opening d.keeper mkdir_b (five_cells capacity)) in
    let f : Machine = moved_on e 1 (checked p (ending w 1 [])) in
    let g : Machine = answered f 1 [] in
    let all : List (ℕ × Answer) = (1, Busy 0 1) ∷ [] in (
      g,
      from_policy capacity into_change all g (
        None,
        d,
        all,
        (p, None, refl, inr (Ok record { name = 47 ∷ []; node = 1 }, λ row t agrees well encodes. reads_root t), refl),
        (
          None,
          e,
          all,
          (five_cells capacity, refl, is_plan capacity room, encodes_change capacity room, refl),
          (
            None,
            f,
            all,
            (p, w, refl, refl),
            (
              Some
                  (Busy 0 1),
              g,
              [],
              (1, refl, ([], (inr (λ z. absurd (omega arith)), refl, refl, refl), refl)),
              (refl, refl),
              refl,
            ),
            refl,
          ),
          refl,
        ),
        refl,
      ),
    )
