-- What a walk says about the worlds that are seen, restated for rows and trees.
use Rattle.std.proofs.Common.{◌≡◌, ℕ, ◌+◌, ◌-◌, ◌≤◌, Bool, true, List, length, drop, Some, None, Option, refl, sym, ap, ◌∙◌, subst, arith}
use Rattle.std.specs.Prelude.{Result, Ok, Err, IsSome, IfOk, IfErr, if◌then◌else◌}
use Rattle.std.proofs.lemmas.List.{length-drop}
use mathlib.Core.Logic.{inl, inr}
use Rattle.names.specs.declared.errors.Errno.{Errno}
use Rattle.names.specs.declared.errors.Errno.TheVariants.{EINVAL}
use Rattle.names.specs.declared.permissions.Perms.{Perms}
use Rattle.names.specs.Paths.{path_fault}
use Rattle.directory_tree.specs.Apply.{and_then}
use Rattle.directory_tree.specs.Tree.{Tree}
use Rattle.mediation.specs.Opens.{Reached, can_be_asked, path_of, reached, reached_by_path}
use Rattle.mediation.specs.Judgments.{reached_of}
use Rattle.mediation.specs.declared.opens.Reached as reached_code
use Rattle.path_lookup.specs.declared.fault.WalkFault.{WalkFault}
use Rattle.path_lookup.specs.declared.fault.WalkFault.TheVariants as fault
use Rattle.path_lookup.specs.World.{World}
use Rattle.path_lookup.specs.WalkFaults.{IsFault}
use Rattle.row_rule.specs.declared.cell.Cell.{Cell}
use Rattle.row_rule.specs.Row.{Agrees}
use Rattle.tree_row.specs.laws.Decisions.{world_of, seen_of, torn_by}
use Rattle.tree_row.specs.Worlds.{SeesBy}
use Rattle.open_session.specs.declared.outcome.Outcome.{Outcome}
use Rattle.open_session.specs.declared.outcome.Lack.{Lack}
use Rattle.open_session.specs.declared.outcome.Lack.TheVariants as lack
use Rattle.open_session.specs.Outcomes.{Decides, IsLack}
use Rattle.open_session.specs.inner.ReadCells.{IsHonest, end_by}
use Rattle.open_session.proofs.ReadingOn.{Seen}

abbrev pub Sees : ℕ → List Cell → World → Type 0
Sees capacity reads = SeesBy capacity (Agrees reads)

pub decided : (capacity : ℕ) (reads : List Cell) (room : List ℕ) (answer : Tree → Result Reached Errno)
    (end : Result reached_code.Reached WalkFault) (lacks : Option Lack)
    → IfOk end (λ file. file.name_length ≤ 4095) → IfOk end (λ file. (w : World) → Sees capacity reads w → answer w.tree
    ≡ Ok (reached_of room file))
    → IfErr end (IsFault (IsSome lacks) (Sees capacity reads) (λ w. answer w.tree)) →
    IfOk (end_by end lacks) (Decides capacity reads room answer)
decided capacity reads room answer (Ok file) lacks fits told h =
    (fits, λ row t agrees well enc. told (world_of row t well) (seen_of capacity (Agrees reads) row t agrees well enc))
decided capacity reads room answer (Err (fault.Refused errno)) lacks fits told h = λ row t agrees well enc. h (world_of row t well)
    (seen_of capacity (Agrees reads) row t agrees well enc)
decided capacity reads room answer (Err fault.Torn) (Some lacks) fits told h = tt
decided capacity reads room answer (Err fault.Torn) None fits told h =
    elim h [ inl none ↦ absurd (cc none) | inr none ↦ torn_by capacity (Agrees reads) none ]

pub lacking : (capacity : ℕ) (old reads : List Cell) (most read : ℕ) (end : Result reached_code.Reached WalkFault) (lacks : Option Lack)
    → length reads ≡ length old + read → IsHonest capacity reads most read lacks →
    IfErr (end_by end lacks) (IsLack capacity old reads most)
lacking capacity old reads most read (Ok file) lacks counted honest = tt
lacking capacity old reads most read (Err (fault.Refused errno)) lacks counted honest = tt
lacking capacity old reads most read (Err fault.Torn) (Some (lack.Wants place)) counted honest = let h = honest.wants place refl in
    (h.0, counted ∙ ap (λ (n : ℕ). length old + n) h.1)
lacking capacity old reads most read (Err fault.Torn) (Some (lack.NoMemory place)) counted honest = let h = honest.refused place refl in
    (h.0, let few = h.1 in omega (arith, counted))
lacking capacity old reads most read (Err fault.Torn) None counted honest = tt

-- after the walk's cells were returned with its outcome
pub decided_after : (capacity : ℕ) (words result : Seen) (room : List ℕ) (answer : Tree → Result Reached Errno)
    (end : Result reached_code.Reached WalkFault) (lacks : Option Lack) (came : Result Outcome Lack)
    → words.0 ≡ capacity → result ≡ words → came ≡ end_by end lacks → IfOk end (λ file. file.name_length ≤ 4095) →
    IfOk end (λ file. (w : World) → Sees words.0 words.1 w → answer w.tree ≡ Ok (reached_of room file))
    → IfErr end (IsFault (IsSome lacks) (Sees words.0 words.1) (λ w. answer w.tree)) → IfOk came (Decides capacity result.1 room answer)
decided_after capacity words result room answer end lacks came one same came_is fits told h =
    subst (λ (z : Result Outcome Lack). IfOk z (Decides capacity result.1 room answer)) (sym came_is)
    (subst (λ (s : Seen). IfOk (end_by end lacks) (Decides capacity s.1 room answer)) (sym same)
    (subst (λ (n : ℕ). IfOk (end_by end lacks) (Decides n words.1 room answer)) one
    (decided words.0 words.1 room answer end lacks fits told h)))

pub lacking_after : (capacity : ℕ) (old : List Cell) (words result : Seen) (most given read : ℕ)
    (end : Result reached_code.Reached WalkFault) (lacks : Option Lack) (came : Result Outcome Lack)
    → words.0 ≡ capacity → result ≡ words → came ≡ end_by end lacks → given ≡ most → drop read words.1 ≡ old → read ≤ length words.1 →
    IsHonest words.0 words.1 given read lacks → IfErr came (IsLack capacity old result.1 most)
lacking_after capacity old words result most given read end lacks came one same came_is is old_is counted honest =
    let rest : length old ≡ length words.1 - read = ap length (sym old_is) ∙ length-drop read words.1 in
    subst (λ (z : Result Outcome Lack). IfErr z (IsLack capacity old result.1 most)) (sym came_is)
    (subst (λ (s : Seen). IfErr (end_by end lacks) (IsLack capacity old s.1 most)) (sym same)
    (subst (λ (n : ℕ). IfErr (end_by end lacks) (IsLack n old words.1 most)) one
    (subst (λ (n : ℕ). IfErr (end_by end lacks) (IsLack words.0 old words.1 n)) is
    (lacking words.0 old words.1 given read end lacks (omega (arith, rest, counted)) honest))))

path_is : (text : List ℕ) → path_fault text ≡ None → path_of text ≡ Ok text
path_is text none = ap (λ (o : Option Errno). let r : Result (List ℕ) Errno = elim o [ None ↦ Ok text | Some errno ↦ Err errno ] in r) none

-- an open whose arguments are valid reaches what its path leads to
pub reached_is : (text path : List ℕ) (ask : Perms) → can_be_asked ask ≡ true → path ≡ text → path_fault path ≡ None → (t : Tree) →
    reached_by_path t path ≡ reached t text ask
reached_is text path ask asked is none t =
    sym (ap (λ (b : Bool). if b then and_then (path_of text) (reached_by_path t) else Err EINVAL) asked
    ∙ ap (λ (r : Result (List ℕ) Errno). and_then r (reached_by_path t)) (path_is text (ap path_fault (sym is) ∙ none))
    ∙ ap (reached_by_path t) (sym is))

pub decided_whole : (capacity : ℕ) (reads : List Cell) (room : List ℕ) (one other : Tree → Result Reached Errno)
    (came : Result Outcome Lack) → ((t : Tree) → one t ≡ other t) → IfOk came (Decides capacity reads room one) →
    IfOk came (Decides capacity reads room other)
decided_whole capacity reads room one other came same h =
    subst (λ (answer : Tree → Result Reached Errno). IfOk came (Decides capacity reads room answer)) (λ i t. same t i) h
