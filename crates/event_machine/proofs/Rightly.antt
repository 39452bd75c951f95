-- Each answer of a legal run is right.
use Rattle.std.proofs.Common.{◌≡◌, ℕ, ◌/◌, ◌%◌, List, [], length, take, Some, sym, refl, ap, ◌∙◌, subst, arith}
use Rattle.std.proofs.Math.Seq.{take-length}
use Rattle.std.specs.Prelude.{Result, Ok, Err}
use mathlib.Core.List.{IsPrefix}
use Rattle.names.specs.declared.errors.Errno.{Errno}
use Rattle.directory_tree.specs.declared.change.Change.{Change}
use Rattle.directory_tree.specs.Tree.{Tree}
use Rattle.directory_tree.specs.Apply.{tree_after}
use Rattle.tree_row.specs.laws.WorldsAfter.{sound_after}
use Rattle.mediation.specs.Opens.{Reached, reached}
use Rattle.justification.specs.laws.Later.{tree_stays}
use Rattle.justification.specs.declared.answer.Answer.{Answer}
use Rattle.justification.specs.declared.answer.Answer.TheVariants.{Judged, Failed, NoProfile, Busy, NoEntry}
use Rattle.justification.specs.Justified.{Justified}
use Rattle.justification.specs.Versions.{IsTreeAt, IsPublishedAt}
use Rattle.row_rule.specs.declared.view.WalkerView.{WalkerView}
use Rattle.row_rule.specs.Row.{FitsWalker}
use Rattle.row_rule.specs.laws.Rule.{at_rest_where_even, half_count}
use Rattle.event_machine.specs.Machine.{Call, Event, Policed, Stage, Machine, first}
use Rattle.event_machine.specs.Machine.Event.{begin, read_policy, read_count, read_cell, check_count, answer, open_change, set_cell}
use Rattle.event_machine.specs.Machine.Event.{close_change, publish}
use Rattle.event_machine.specs.Machine.Stage.{resting, begun, unpublished, policed, walking, checked}
use Rattle.event_machine.specs.WalkSteps.{Decides, IsStill, Tells, MayAnswer}
use Rattle.event_machine.specs.Takes.{Takes}
use Rattle.event_machine.specs.Runs.{Legal}
use Rattle.event_machine.specs.Rule.{view_of, KeepsRule}
use Rattle.event_machine.specs.Right.{Span, Happened, IsTreeVersion, IsPolicyVersion, IsCount, IsRight}
use Rattle.directory_tree.specs.laws.Rooms.{roomy_after}
use Rattle.event_machine.specs.laws.Ruled.{first_kept, fits_at}
use Rattle.event_machine.specs.laws.Runs.{by_steps}
use Rattle.event_machine.proofs.Calls.{IsCall, AreCalls, Rechecked, Unpolled, takes_calls}

pub calls_kept : (capacity : ℕ) (events : List Event) (answers : List (ℕ × Answer)) (m : Machine) → Legal capacity events answers m →
    KeepsRule m × AreCalls capacity events m
calls_kept capacity events answers m legal =
    by_steps capacity (AreCalls capacity) (takes_calls capacity) [] [] (first capacity) events answers m (refl, refl) (first_kept capacity)
    (λ s. tt) legal

-- the machine also had each property that follows from the one that it had when the event happened
stood_so : (capacity : ℕ) (events : List Event) (s : ℕ) (call : Call) (span : Span events s call) (what : Event) (P Q : Machine → Type 0) →
    ((m : Machine) → P m → Q m) → Happened capacity span what P → Happened capacity span what Q
stood_so capacity events s call span what P Q f (front, rest, answers, m, parts, legal, stood) =
    (front, rest, answers, m, parts, legal, f m stood)

-- an even count is that of its half as a version
even_version : (count version : ℕ) → count % 2 ≡ 0 → version ≡ count / 2 → (m : Machine) → IsCount count m → IsTreeVersion version m
even_version count version even half m is =
    (at_rest_where_even m.keeper (ap (λ (n : ℕ). n % 2) is ∙ even), half_count m.keeper ∙ ap (λ (n : ℕ). n / 2) is ∙ sym half)

-- the tree of what a walker has seen is that of its version
seen_tree : (capacity : ℕ) (history seen : List Change) (version : ℕ) (t : Tree) → IsPrefix seen history → length seen ≡ version →
    tree_after capacity seen ≡ Ok t → IsTreeAt history version t
seen_tree capacity history seen version t begins long made =
    let whole : take version seen ≡ seen = ap (λ (n : ℕ). take n seen) (sym long) ∙ take-length seen in
    tree_stays seen history version t begins
    (omega arith, ap (tree_after (length seen)) whole ∙ roomy_after (length seen) capacity seen t (omega arith) made)

-- what the words that were read decide holds in the tree that was seen
decided_tree : (m : Machine) (p : Policed) (w : WalkerView) (version : ℕ) (end : Result Reached Errno) (events : List Event)
    (capacity s : ℕ) → FitsWalker m.keeper w → Rechecked capacity events m.deeds m.capacity s p w → IsStill w → version ≡ w.last / 2
    → Decides m.capacity p.call w.reads end → (t : Tree) × IsTreeAt m.keeper.history version t × (reached t p.call.path p.call.ask ≡ end)
decided_tree m p w version end events capacity s f k still half decides =
    let (row, agrees, saw) = k.saw still in
    let (t, made, encodes) = saw in (
      t,
      seen_tree m.capacity m.keeper.history w.seen version t f.begins (f.half ∙ sym half) made,
      decides row t agrees
          (sound_after m.capacity w.seen t made) encodes,
    )

tells_right : (capacity : ℕ) (events : List Event) (m : Machine) (s : ℕ) (p : Policed) (w : WalkerView) (told : Answer) (name : List ℕ) →
    FitsWalker m.keeper w → Rechecked capacity events m.deeds m.capacity s p w → Tells m.capacity p w told name →
    IsRight capacity events m s told
tells_right capacity events m s p w (Busy began ended) name f k (disturbed, first_is, last_is, none) = record {
  call = p.call;
  span = k.counted.polled.span;
  justified = subst (λ (n : ℕ). Justified p.call.profile p.call.path p.call.ask m.keeper.history m.deeds (Busy n ended)) (sym first_is)
      (subst (λ (n : ℕ). Justified p.call.profile p.call.path p.call.ask m.keeper.history m.deeds (Busy w.noted n))
      (sym last_is) disturbed);
  of_span = (
    subst (λ (n : ℕ). Happened capacity k.counted.polled.span (read_count s) (IsCount n)) (sym first_is) k.counted.count,
    subst (λ (n : ℕ). Happened capacity k.counted.polled.span (check_count s) (IsCount n)) (sym last_is) k.count,
  );
}
tells_right capacity events m s p w (Failed errno tree) name f k (still, half, decides, none) = record {
  call = p.call;
  span = k.counted.polled.span;
  justified = decided_tree m p w tree (Err errno) events capacity s f k still half decides;
  of_span = stood_so capacity events s p.call k.counted.polled.span (read_count s) (IsCount w.noted) (IsTreeVersion tree)
      (even_version w.noted tree still.0 (half ∙ ap (λ (n : ℕ). n / 2) still.1)) k.counted.count;
}
tells_right capacity events m s p w (Judged verdict node tree policy) name f k (still, half, policy_is, decides, verdict_is) =
    let file : Reached = record { name = name; node = node } in
    let (t, at, found) = decided_tree m p w tree (Ok file) events capacity s f k still half decides in record {
      call = p.call;
      span = k.counted.polled.span;
      justified = (
        t,
        file,
        p.judge,
        at,
        found,
        subst (λ (n : ℕ). IsPublishedAt m.deeds n p.call.profile (Some p.judge)) (sym policy_is) k.counted.polled.published,
        (refl, sym verdict_is),
      );
      of_span = (
        stood_so capacity events s p.call k.counted.polled.span (read_count s) (IsCount w.noted) (IsTreeVersion tree)
            (even_version w.noted tree still.0 (half ∙ ap (λ (n : ℕ). n / 2) still.1)) k.counted.count,
        subst (λ (n : ℕ). Happened capacity k.counted.polled.span (read_policy s) (IsPolicyVersion n)) (sym policy_is)
            k.counted.polled.read,
      );
    }
tells_right capacity events m s p w (NoProfile policy) name f k none = absurd none
tells_right capacity events m s p w NoEntry name f k none = absurd none

unpolled_right : (capacity : ℕ) (events : List Event) (m : Machine) (s : ℕ) (call : Call) (version : ℕ) →
    Unpolled capacity events m.deeds s call version → IsRight capacity events m s (NoProfile version)
unpolled_right capacity events m s call version k = record { call = call; span = k.span; justified = k.published; of_span = k.read }

answers_right : (capacity : ℕ) (events : List Event) (m : Machine) (s : ℕ) (stage : Stage) (told : Answer) (name : List ℕ) →
    FitsWalker m.keeper (view_of stage) → IsCall capacity events m.deeds m.capacity s stage → MayAnswer m.capacity stage told name →
    IsRight capacity events m s told
answers_right capacity events m s resting told name f k none = absurd none
answers_right capacity events m s (begun call) told name f k none = absurd none
answers_right capacity events m s (unpublished call version) told name f k (is, none) = subst (IsRight capacity events m s) (sym is)
    (unpolled_right capacity events m s call version k)
answers_right capacity events m s (policed p) told name f k none = absurd none
answers_right capacity events m s (walking p w next) told name f k none = absurd none
answers_right capacity events m s (checked p w) told name f k tells = tells_right capacity events m s p w told name f k tells

number_of : Event → ℕ
number_of (answer s) = s
number_of (begin s call) = 0
number_of (read_policy s) = 0
number_of (read_count s) = 0
number_of (read_cell s) = 0
number_of (check_count s) = 0
number_of (open_change change) = 0
number_of set_cell = 0
number_of close_change = 0
number_of (publish deeds) = 0

pub all_right : (capacity : ℕ) (events : List Event) (answers : List (ℕ × Answer)) (m : Machine) (s : ℕ) (told : Answer) (new : Machine) →
    Legal capacity events answers m → Takes m (answer s) (Some told) new → IsRight capacity events m s told
unfolding number_of
all_right capacity events answers m s told new legal (r, which, (name, may, is)) =
    let t = calls_kept capacity events answers m legal in
    let same : r ≡ s = sym (ap number_of which) in
    subst (λ (z : ℕ). IsRight capacity events m z told) same
    (answers_right capacity events m r (m.sessions r).stage told name (fits_at m.capacity m.keeper (view_of (m.sessions r).stage) (t.0 r))
    (t.1 r) may)
