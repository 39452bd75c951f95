-- The worked runs are legal, and get these answers.
use Rattle.std.proofs.Common.{◌≡◌, ◌≢◌, ℕ, List, [], ◌∷◌, Some, None, refl, subst, arith, inr}
use Rattle.std.specs.Prelude.{Result, Ok, Err}
use Rattle.names.specs.declared.errors.Errno.{Errno}
use Rattle.names.specs.declared.errors.Errno.TheVariants.{EINVAL}
use Rattle.names.specs.declared.permissions.Perms.{Perms}
use Rattle.directory_tree.specs.Tree.{Tree}
use Rattle.mediation.specs.Deeds.{Deed, published}
use Rattle.mediation.specs.Judge.{by_rules}
use Rattle.mediation.specs.Opens.{Reached, reached}
use Rattle.names.specs.declared.verdict.Verdict.TheVariants.{NoRule}
use Rattle.rule_globs.specs.PlainVerdict.{verdict}
use Rattle.justification.specs.declared.answer.Answer.{Answer}
use Rattle.justification.specs.declared.answer.Answer.TheVariants.{Judged, Failed, NoProfile}
use Rattle.row_rule.specs.declared.view.WalkerView.{WalkerView}
use Rattle.row_rule.specs.Steps.{newcomer, beginning, ending}
use Rattle.event_machine.specs.Machine.{Policed, Machine, first, moved_on, answered, with_deeds}
use Rattle.event_machine.specs.Machine.Stage.{begun, unpublished, policed, walking, checked}
use Rattle.event_machine.specs.WalkSteps.{Tells}
use Rattle.event_machine.specs.Runs.{Legal}
use Rattle.event_machine.specs.Examples.{to_read, nothing, root_for, unpublished_call, whole_call}

pub no_profile : (capacity : ℕ) → (m : Machine) × Legal capacity unpublished_call ((1, NoProfile 0) ∷ []) m
no_profile capacity =
    let a : Machine = moved_on (first capacity) 1 (begun (root_for to_read)) in
    let b : Machine = moved_on a 1 (unpublished (root_for to_read) 0) in
    let c : Machine = answered b 1 [] in (
      c,
      (
        None,
        a,
        (1, NoProfile 0) ∷ [],
        (refl, refl),
        (
          None,
          b,
          (1, NoProfile 0) ∷ [],
          (root_for to_read, refl, refl),
          (
            Some
                (NoProfile 0),
            c,
            [],
            (1, refl, ([], (refl, refl), refl)),
            (refl, refl),
            refl,
          ),
          refl,
        ),
        refl,
      ),
    )

abbrev pub asked : Perms → Policed
asked ask = record { call = root_for ask; policy_version = 1; judge = by_rules [] }

abbrev walked : WalkerView
walked = beginning newcomer 0 []

abbrev rewalked : WalkerView
rewalked = ending walked 0 []

pub no_nil : (d : Deed) → d ∷ [] ≢ []
no_nil d e = subst (λ (l : List Deed). elim l as (λ _. Type 0) [ [] ↦ ⊥ | y ∷ ys ↦ Unit {0} ]) e tt

-- for any answer that may be given to the whole call, which reads no cell
whole : (capacity : ℕ) (ask : Perms) (end : Result Reached Errno) (told : Answer) (name : List ℕ) →
    ((t : Tree) → reached t (47 ∷ []) ask ≡ end)
    → Tells capacity (asked ask) rewalked told name → (m : Machine) × Legal capacity (whole_call ask) ((1, told) ∷ []) m
whole capacity ask end told name ends tells =
    let ds : List Deed = published (112 ∷ []) (by_rules []) ∷ [] in
    let p : Policed = asked ask in
    let a : Machine = with_deeds (first capacity) ds in
    let b : Machine = moved_on a 1 (begun (root_for ask)) in
    let c : Machine = moved_on b 1 (policed p) in
    let d : Machine = moved_on c 1 (walking p walked None) in
    let e : Machine = moved_on d 1 (checked p rewalked) in
    let f : Machine = answered e 1 name in
    let all : List (ℕ × Answer) = (1, told) ∷ [] in (
      f,
      (
        None,
        a,
        all,
        (no_nil (published (112 ∷ []) (by_rules [])), omega arith, refl),
        (
          None,
          b,
          all,
          (refl, refl),
          (
            None,
            c,
            all,
            (root_for ask, refl, refl),
            (
              None,
              d,
              all,
              (p, None, refl, inr (end, λ row t agrees well encodes. ends t), refl),
              (
                None,
                e,
                all,
                (p, walked, refl, refl),
                (Some told, f, [], (1, refl, (name, tells, refl)), (refl, refl), refl),
                refl,
              ),
              refl,
            ),
            refl,
          ),
          refl,
        ),
        refl,
      ),
    )

pub reads_root : (t : Tree) → reached t (47 ∷ []) to_read ≡ Ok record { name = 47 ∷ []; node = 1 }
reads_root t = refl

asks_nothing : (t : Tree) → reached t (47 ∷ []) nothing ≡ Err EINVAL
asks_nothing t = refl

pub judged_root : (capacity : ℕ) → (m : Machine) × Legal capacity (whole_call to_read) ((1, Judged (NoRule to_read) 1 0 1) ∷ []) m
unfolding verdict
judged_root capacity =
    whole capacity to_read (Ok record { name = 47 ∷ []; node = 1 }) (Judged (NoRule to_read) 1 0 1) (47 ∷ []) reads_root
    ((refl, refl), refl, refl, (λ row t agrees well encodes. reads_root t), refl)

pub failed_root : (capacity : ℕ) → (m : Machine) × Legal capacity (whole_call nothing) ((1, Failed EINVAL 0) ∷ []) m
failed_root capacity = whole capacity nothing (Err EINVAL) (Failed EINVAL 0) [] asks_nothing
    ((refl, refl), refl, (λ row t agrees well encodes. asks_nothing t), refl)
