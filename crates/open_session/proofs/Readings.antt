-- Readings of cells by one walk, from what the words decide.
use Rattle.std.proofs.Common.{◌≡◌, ℕ, suc, ◌+◌, ◌-◌, ◌%◌, ◌<◌, ◌≤◌, true, List, ◌∷◌, ◌++◌, length, get_or, Some, None, IfOk, IfErr, OnErr}
use Rattle.std.proofs.Common.{refl, sym, ◌∙◌, subst, ap, arith, length-append}
use Rattle.std.specs.Prelude.{Result, Err, IsSome, slice_get}
use Rattle.std.proofs.lemmas.Option.{slice_get-get_or}
use Rattle.names.specs.Paths.{path_fault}
use Rattle.mediation.specs.Opens.{reached, can_be_asked}
use Rattle.row_rule.specs.declared.cell.Cell.{Cell}
use Rattle.row_rule.specs.declared.view.WalkerView.{WalkerView}
use Rattle.tree_row.specs.Rows.{row_length}
use Rattle.event_machine.specs.Machine as machine
use Rattle.event_machine.specs.WalkSteps.{MayDo}
use Rattle.event_machine.specs.declared.event.StepFault.{StepFault}
use Rattle.event_machine.specs.declared.event.StepFault.TheVariants.{NoMemory}
use Rattle.open_session.specs.declared.outcome.Outcome.{Outcome}
use Rattle.open_session.specs.declared.outcome.Lack.{Lack}
use Rattle.open_session.specs.Words.{ReadsOn}
use Rattle.open_session.specs.Outcomes.{Decides, IsLack}
use Rattle.open_session.specs.declared.call.Policed.{Policed}
use Rattle.open_session.specs.declared.walk.Next.{Next}
use Rattle.open_session.specs.declared.walk.Next.TheVariants as next
use Rattle.open_session.specs.declared.walk.Walk.{Walk}
use Rattle.open_session.specs.Steps.{CellReads}
use Rattle.open_session.specs.inner.StageData.{IsRightNext, IsWalk, ReadsSome, WalkReads, call_of, policed_of, walker_of, next_of}
use Rattle.open_session.specs.inner.Ends.{next_after, counted_by}
use Rattle.open_session.proofs.Chains.{reads_on, with_reads, standing}
use Rattle.open_session.proofs.Choices.{may_do}
use Rattle.open_session.proofs.WordCounts.{right_next, counts_ok, counts_all, counts_err, counts_memory}

-- What the words that a walk has read decide, beginning with the old ones.
pub record Comes (capacity : ℕ) (cells room : List ℕ) (w : Walk) (old : List Cell) (most : ℕ) (end : Result Outcome Lack) : Type 0 where
  pub of_row : w.words.0 ≡ capacity
  pub next_is : w.next ≡ next_after end
  pub decided : IfOk end (Decides capacity w.words.1 room (λ t. reached t w.policed.call.path.items w.policed.call.ask))
  pub lacks : IfErr end (IsLack capacity old w.words.1 most)
  pub sound : OnErr end ((can_be_asked w.policed.call.ask ≡ true) × (path_fault w.policed.call.path.items ≡ None))

-- the same, where the capacity and the path have other names
pub comes : (capacity : ℕ) (cells room : List ℕ) (w : Walk) (words : ℕ × List Cell) (path : List ℕ) (most : ℕ) (end : Result Outcome Lack)
    → words.0 ≡ capacity → path ≡ w.policed.call.path.items → w.words.0 ≡ words.0 → w.next ≡ next_after end
    → IfOk end (Decides words.0 w.words.1 room (λ t. reached t path w.policed.call.ask)) →
    IfErr end (IsLack words.0 words.1 w.words.1 most) → OnErr end ((can_be_asked w.policed.call.ask ≡ true) × (path_fault path ≡ None)) →
    Comes capacity cells room w words.1 most end
comes capacity cells room w words path most end own path_is of_row next_is decided lacks sound = record {
  of_row = of_row ∙ own;
  next_is = next_is;
  decided = subst (λ (n : ℕ). IfOk end (Decides n w.words.1 room (λ t. reached t w.policed.call.path.items w.policed.call.ask))) own
      (subst (λ (p : List ℕ). IfOk end (Decides words.0 w.words.1 room (λ t. reached t p w.policed.call.ask))) path_is decided);
  lacks = subst (λ (n : ℕ). IfErr end (IsLack n words.1 w.words.1 most)) own lacks;
  sound = subst (λ (p : List ℕ). OnErr end ((can_be_asked w.policed.call.ask ≡ true) × (path_fault p ≡ None))) path_is sound;
}

pub is_walk : (capacity : ℕ) (cells room : List ℕ) (w : Walk) (old : List Cell) (most : ℕ) (end : Result Outcome Lack) → w.noted % 2 ≡ 0 →
    Comes capacity cells room w old most end → IsWalk capacity room w
is_walk capacity cells room w old most end even comes = record {
  of_row = comes.of_row;
  right = subst (λ (n : Next). IsRightNext capacity room (call_of w.policed.call) (walker_of w) n) (sym comes.next_is)
      (right_next capacity room (call_of w.policed.call) (walker_of w) old most end even comes.decided comes.lacks comes.sound);
}

-- one walk reads the word at the chosen place, and then the words of `more`
pub chained : (capacity : ℕ) (cells room : List ℕ) (old new : Walk) (place word : ℕ) (more : List Cell)
    → IsWalk capacity room old → old.next ≡ next.Read place → length cells ≡ row_length capacity → slice_get cells place ≡ Some word
    → ReadsOn cells more (record { place = place; word = word } ∷ old.words.1)
    → new.words.1 ≡ more ++ record { place = place; word = word } ∷ old.words.1
    → new.policed ≡ old.policed → new.noted ≡ old.noted → new.seen ≡ old.seen
    → (room' : List ℕ) → IsWalk capacity room' new → WalkReads capacity cells (suc (length more)) old new
chained capacity cells room old new place word more stands chosen long here on reads policed noted seen room' stood name =
    let right : IsRightNext capacity room (call_of old.policed.call) (walker_of old) (next.Read place) =
    subst (λ (n : Next). IsRightNext capacity room (call_of old.policed.call) (walker_of old) n) chosen stands.right in
    let new_is : walker_of new ≡ with_reads (walker_of old) (more ++ record { place = place; word = word } ∷ old.words.1) =
    (λ i. record { seen = (seen i).events; count_reads = 1; noted = noted i; last = noted i; reads = reads i }) in
    let may : MayDo capacity (call_of old.policed.call)
    (with_reads (walker_of old) (more ++ record { place = place; word = word } ∷ old.words.1)) (next_of new.next) =
    subst (λ (v : WalkerView). MayDo capacity (call_of old.policed.call) v (next_of new.next)) new_is
    (subst (λ (p : Policed). MayDo capacity (call_of p.call) (walker_of new) (next_of new.next)) policed
    (may_do capacity room' (call_of new.policed.call) (walker_of new) new.next stood.right)) in
    let ends : standing name (policed_of new.policed) (walker_of new) (next_of new.next)
    ≡ standing name (policed_of old.policed) (with_reads (walker_of old) (more ++ record { place = place; word = word } ∷ old.words.1))
    (next_of new.next) =
    (λ i. standing name (policed_of (policed i)) (new_is i) (next_of new.next)) in
    let begins : standing name (policed_of old.policed) (walker_of old) (next_of old.next) ≡ standing name (policed_of old.policed)
    (walker_of old) (Some place) =
    ap (λ (n : Next). standing name (policed_of old.policed) (walker_of old) (next_of n)) chosen in
    subst (λ (a : machine.Session). CellReads capacity cells (suc (length more)) a (standing name (policed_of new.policed) (walker_of new)
    (next_of new.next))) (sym begins)
    (subst (λ (b : machine.Session). CellReads capacity cells (suc (length more)) (standing name (policed_of old.policed) (walker_of old)
    (Some place)) b) (sym ends)
    (reads_on capacity cells name (policed_of old.policed) (walker_of old) place word more (next_of new.next) long right.0
    right.1 here on may))

-- so there are as many readings as there are new words
pub reads_some : (capacity : ℕ) (cells room room' : List ℕ) (old new : Walk) (place word further n : ℕ) (more : List Cell)
    (end : Result Outcome Lack) (count : Result ℕ StepFault)
    → IsWalk capacity room old → old.next ≡ next.Read place → length cells ≡ row_length capacity → slice_get cells place ≡ Some word
    → ReadsOn cells more (record { place = place; word = word } ∷ old.words.1)
    → new.words.1 ≡ more ++ record { place = place; word = word } ∷ old.words.1 → length more ≤ further
    → new.policed ≡ old.policed → new.noted ≡ old.noted → new.seen ≡ old.seen
    → Comes capacity cells room' new (record { place = place; word = word } ∷ old.words.1) further end
    → n ≡ length new.words.1 - length (record { place = place; word = word } ∷ old.words.1) + 1 → count ≡ counted_by n end
    → ReadsSome capacity cells (further + 1) room' old record { walk = new; count = count }
reads_some capacity cells room room' old new place word further n more end count stands chosen long here on reads few policed noted
    seen comes n_is count_is =
    let known : List Cell = record { place = place; word = word } ∷ old.words.1 in
    let even : old.noted % 2 ≡ 0 =
    (subst (λ (m : Next). IsRightNext capacity room (call_of old.policed.call) (walker_of old) m) chosen stands.right).0 in
    let stood : IsWalk capacity room' new = is_walk capacity cells room' new known further end (ap (λ m. m % 2) noted ∙ even) comes in
    let long_is : length new.words.1 ≡ length more + length known = ap length reads ∙ length-append more known in
    let n_more : n ≡ suc (length more) = omega arith in
    let here_n : WalkReads capacity cells n old new =
    subst (λ (m : ℕ). WalkReads capacity cells m old new) (sym n_more)
    (chained capacity cells room old new place word more stands chosen long here on reads policed noted seen room' stood) in
    let same : length new.words.1 + 1 ≡ length known + n = omega arith in
    record {
      stands = stood;
      ok = subst (λ (r : Result ℕ StepFault). IfOk r (λ m. (m ≤ further + 1) × WalkReads capacity cells m old new)) (sym count_is)
          (counts_ok n further end (λ m. WalkReads capacity cells m old new) (omega arith) here_n);
      all = subst (λ (r : Result ℕ StepFault). IfOk r (λ m. m < further + 1 → next_of new.next ≡ None)) (sym count_is)
          (subst (λ (m : Next). IfOk (counted_by n end) (λ k. k < further + 1 → next_of m ≡ None)) (sym comes.next_is)
          (counts_all capacity n further known new.words.1 end same comes.lacks));
      err = subst (λ (r : Result ℕ StepFault). IfErr r
          (λ fault. (fault ≡ NoMemory) × ((m : ℕ) × (m < further + 1) × WalkReads capacity cells m old new))) (sym count_is)
          (counts_err capacity n further known new.words.1 end (λ m. WalkReads capacity cells m old new) same here_n comes.lacks);
      memory = subst (λ (r : Result ℕ StepFault). OnErr r (IsSome (next_of new.next))) (sym count_is)
          (subst (λ (m : Next). OnErr (counted_by n end) (IsSome (next_of m))) (sym comes.next_is) (counts_memory n end));
    }

-- the readings of a walk that read the word that it needed, and then more
pub reads_after : (capacity : ℕ) (cells room room' : List ℕ) (old : Walk) (place word further n : ℕ) (words words' : ℕ × List Cell)
    (path : List ℕ) (end : Result Outcome Lack) (chosen_next : Next)
    (count : Result ℕ StepFault)
    → IsWalk capacity room old → old.next ≡ next.Read place → length cells ≡ row_length capacity → word ≡ get_or cells place 0
    → words ≡ (old.words.0, record { place = place; word = word } ∷ old.words.1) → path ≡ old.policed.call.path.items → words'.0 ≡ words.0
    → (more : List Cell) × (words'.1 ≡ more ++ words.1) × ReadsOn cells more words.1 × (length more ≤ further)
    → IfOk end (Decides words.0 words'.1 room' (λ t. reached t path old.policed.call.ask)) →
    IfErr end (IsLack words.0 words.1 words'.1 further) → OnErr end ((can_be_asked old.policed.call.ask ≡ true) × (path_fault path ≡ None))
    → chosen_next ≡ next_after end → n ≡ length words'.1 - length words.1 + 1 → count ≡ counted_by n end
    → ReadsSome capacity cells (further + 1) room' old
    record {
      walk = record { policed = old.policed; noted = old.noted; seen = old.seen; words = words'; next = chosen_next };
      count = count;
    }
reads_after capacity cells room room' old place word further n words words' path end chosen_next count stands chosen long word_is words_is
    path_is of_row reads decided lacks sound next_is n_is count_is =
    let known : List Cell = record { place = place; word = word } ∷ old.words.1 in
    let new : Walk = record { policed = old.policed; noted = old.noted; seen = old.seen; words = words'; next = chosen_next } in
    let known_is : words.1 ≡ known = ap (λ (p : ℕ × List Cell). p.1) words_is in
    let own : words.0 ≡ capacity = ap (λ (p : ℕ × List Cell). p.0) words_is ∙ stands.of_row in
    let right : IsRightNext capacity room (call_of old.policed.call) (walker_of old) (next.Read place) =
    subst (λ (m : Next). IsRightNext capacity room (call_of old.policed.call) (walker_of old) m) chosen stands.right in
    let within : place < length cells = subst (λ (k : ℕ). place < k) (sym long) right.2 in
    let here : slice_get cells place ≡ Some word = slice_get-get_or cells place 0 within ∙ ap Some (sym word_is) in
    let more : List Cell = reads.0 in
    let came : Comes capacity cells room' new words.1 further end = comes capacity cells room' new words path further end own path_is
    of_row next_is decided lacks sound in
    reads_some capacity cells room room' old new place word further n more end count stands chosen long here
    (subst (λ (k : List Cell). ReadsOn cells more k) known_is reads.2)
    (subst (λ (k : List Cell). words'.1 ≡ more ++ k) known_is reads.1) reads.3 refl refl refl
    (subst (λ (k : List Cell). Comes capacity cells room' new k further end) known_is came)
    (subst (λ (k : List Cell). n ≡ length words'.1 - length k + 1) known_is n_is) count_is

-- where memory is refused for the first word, nothing was read
pub reads_none : (capacity : ℕ) (cells room : List ℕ) (further : ℕ) (old : Walk) (words : ℕ × List Cell) → IsWalk capacity room old →
    words ≡ old.words → (place : ℕ) → old.next ≡ next.Read place
    → ReadsSome capacity cells (further + 1) room old
    record {
      walk = record { policed = old.policed; noted = old.noted; seen = old.seen; words = words; next = old.next };
      count = Err NoMemory;
    }
reads_none capacity cells room further old words stands same place chosen =
    subst (λ (k : ℕ × List Cell). ReadsSome capacity cells (further + 1) room old
    record {
      walk = record { policed = old.policed; noted = old.noted; seen = old.seen; words = k; next = old.next };
      count =
          Err NoMemory;
    }) (sym same)
    record {
      stands = stands;
      ok = tt;
      all = tt;
      err = (refl, (0, omega arith, λ name. refl));
      memory = subst (λ (n : Next). IsSome (next_of n)) (sym chosen) refl;
    }
