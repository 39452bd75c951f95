-- What is known about the worlds that are seen, restated for rows and trees.
use Rattle.std.proofs.Common.{◌≡◌, ℕ, List, Some, None, Option, refl, sym, subst}
use Rattle.std.specs.Prelude.{Result, Ok, Err, IsSome}
use mathlib.Core.Logic.{inl, inr}
use Rattle.names.specs.declared.errors.Errno.{Errno}
use Rattle.directory_tree.specs.Tree.{Tree, WellFormed}
use Rattle.directory_tree.specs.Walk.{Spot}
use Rattle.path_lookup.specs.declared.fault.WalkFault.{WalkFault}
use Rattle.path_lookup.specs.declared.fault.WalkFault.TheVariants as fault
use Rattle.path_lookup.specs.World.{World}
use Rattle.path_lookup.specs.WalkFaults.{IsFault}
use Rattle.tree_row.specs.Slots.{slot_at}
use Rattle.tree_row.specs.Rows.{Encodes}
use Rattle.tree_row.specs.Worlds.{spot_at, SeesBy}
use Rattle.tree_row.specs.declared.stop.Stop.{Stop}
use Rattle.tree_row.specs.declared.stop.Stop.TheVariants as stop
use Rattle.tree_row.specs.Known.{Agrees, IsUnknown, InEach, Stops, StopsKnown}
use Rattle.tree_row.specs.ReadWords.{AgreesBoth, IsNext, StopsReading}
use Rattle.tree_row.specs.inner.WantedWords.{IsHonest, stop_from}
use Rattle.tree_row.specs.declared.reader.Lack.{Lack}
use Rattle.tree_row.specs.declared.reader.Lack.TheVariants as lack
use Rattle.tree_row.specs.inner.Lacks.{IsHonestLack, stop_by}

-- the row's capacity, and what is known of the row
abbrev pub Part : Type 0
Part = ℕ × List (ℕ × ℕ)

abbrev pub Sees : Part → World → Type 0
Sees k = SeesBy k.0 (Agrees k.1)

abbrev pub world_of : (row : List ℕ) (t : Tree) → WellFormed t → World
world_of row t well = record { tree = t; named = spot_at (slot_at row); sound = well }

pub seen_of : (capacity : ℕ) (may : List ℕ → Type 0) (row : List ℕ) (t : Tree) → may row → (well : WellFormed t) → Encodes capacity row t →
    SeesBy capacity may (world_of row t well)
seen_of capacity may row t m well enc = (row, m, record { tree = enc; named = λ s. refl })

pub found_in : (k after : Part) (s : ℕ) (answer : Tree → Result Spot Errno) → k ≡ after →
    ((w : World) → Sees k w → answer w.tree ≡ Ok (w.named s)) → InEach after.0 (Agrees after.1)
    (λ row t. answer t ≡ Ok (spot_at (slot_at row) s))
found_in k after s answer is h =
    subst (λ (z : Part). InEach z.0 (Agrees z.1) (λ row t. answer t ≡ Ok (spot_at (slot_at row) s))) is
    (λ row t m well enc. h (world_of row t well) (seen_of k.0 (Agrees k.1) row t m well enc))

pub told_in : {X : Type 0} (k after : Part) (answer : Tree → Result X Errno) (r : Result X Errno) → k ≡ after →
    ((w : World) → Sees k w → answer w.tree ≡ r) → InEach after.0 (Agrees after.1) (λ row t. answer t ≡ r)
told_in k after answer r is h =
    subst (λ (z : Part). InEach z.0 (Agrees z.1) (λ row t. answer t ≡ r)) is
    (λ row t m well enc. h (world_of row t well) (seen_of k.0 (Agrees k.1) row t m well enc))

-- a fault of a look over any rows
pub stops_by : {X : Type 0} (capacity : ℕ) (may : List ℕ → Type 0) (wants : ℕ → Type 0) (refused : Type 0) (answer : Tree → Result X Errno)
    (errno : Errno)
    → ((w : World) → SeesBy capacity may w → answer w.tree ≡ Err errno) → Stops capacity may wants refused answer (stop.Refused errno)
stops_by capacity may wants refused answer errno h row t m well enc = h (world_of row t well) (seen_of capacity may row t m well enc)

pub torn_by : (capacity : ℕ) (may : List ℕ → Type 0) → ((w : World) → ¬ (SeesBy capacity may w)) → InEach capacity may (λ row t. ⊥)
torn_by capacity may none row t m well enc = none (world_of row t well) (seen_of capacity may row t m well enc)

stops : {X : Type 0} (k : Part) (answer : Tree → Result X Errno) (f : WalkFault) (wanted : Option ℕ) → IsHonest k.0 k.1 wanted →
    IsFault (IsSome wanted) (Sees k) (λ w. answer w.tree) f → StopsKnown k.0 k.1 answer (stop_from f wanted)
stops k answer (fault.Refused errno) wanted honest h = stops_by k.0 (Agrees k.1) (IsUnknown k.0 k.1) ⊥ answer errno h
stops k answer fault.Torn (Some place) honest h = honest place refl
stops k answer fault.Torn None honest h = elim h [ inl none ↦ absurd (cc none) | inr none ↦ torn_by k.0 (Agrees k.1) none ]

pub stops_in : {X : Type 0} (k after : Part) (answer : Tree → Result X Errno) (f : WalkFault) (wanted : Option ℕ) (stop : Stop) →
    k ≡ after → stop ≡ stop_from f wanted → IsHonest k.0 k.1 wanted → IsFault (IsSome wanted) (Sees k) (λ w. answer w.tree) f
    → StopsKnown after.0 after.1 answer stop
stops_in k after answer f wanted stop is told honest h =
    subst (λ (z : Part). StopsKnown z.0 z.1 answer stop) is
    (subst (StopsKnown k.0 k.1 answer) (sym told) (stops k answer f wanted honest h))

-- what is known, what was read, and how many words may be read
abbrev pub Taken : Type 0
Taken = Part × List (ℕ × ℕ) × ℕ

abbrev pub Both : Taken → List ℕ → Type 0
Both k = AgreesBoth k.0.1 k.1

abbrev pub SeesBoth : Taken → World → Type 0
SeesBoth k = SeesBy k.0.0 (Both k)

pub found_both : (k after : Taken) (s : ℕ) (answer : Tree → Result Spot Errno) → k ≡ after →
    ((w : World) → SeesBoth k w → answer w.tree ≡ Ok (w.named s)) → InEach after.0.0 (Both after)
    (λ row t. answer t ≡ Ok (spot_at (slot_at row) s))
found_both k after s answer is h =
    subst (λ (z : Taken). InEach z.0.0 (Both z) (λ row t. answer t ≡ Ok (spot_at (slot_at row) s))) is
    (λ row t m well enc. h (world_of row t well) (seen_of k.0.0 (Both k) row t m well enc))

pub told_both : {X : Type 0} (k after : Taken) (answer : Tree → Result X Errno) (r : Result X Errno) → k ≡ after →
    ((w : World) → SeesBoth k w → answer w.tree ≡ r) → InEach after.0.0 (Both after) (λ row t. answer t ≡ r)
told_both k after answer r is h =
    subst (λ (z : Taken). InEach z.0.0 (Both z) (λ row t. answer t ≡ r)) is
    (λ row t m well enc. h (world_of row t well) (seen_of k.0.0 (Both k) row t m well enc))

stops_lacking : {X : Type 0} (k : Taken) (answer : Tree → Result X Errno) (f : WalkFault) (lacks : Option Lack) →
    IsHonestLack k.0.0 k.0.1 k.1 k.2 lacks → IsFault (IsSome lacks) (SeesBoth k) (λ w. answer w.tree) f
    → StopsReading k.0.0 k.0.1 k.1 k.2 answer (stop_by f lacks)
stops_lacking k answer (fault.Refused errno) lacks honest h = stops_by k.0.0 (Both k) (IsNext k.0.0 k.0.1 k.1 k.2)
    (Unit {0}) answer errno h
stops_lacking k answer fault.Torn (Some (lack.Wants place)) honest h = honest place refl
stops_lacking k answer fault.Torn (Some lack.NoMemory) honest h = tt
stops_lacking k answer fault.Torn None honest h = elim h [ inl none ↦ absurd (cc none) | inr none ↦ torn_by k.0.0 (Both k) none ]

pub stops_both : {X : Type 0} (k after : Taken) (answer : Tree → Result X Errno) (f : WalkFault) (lacks now : Option Lack) → k ≡ after →
    now ≡ lacks → IsHonestLack k.0.0 k.0.1 k.1 k.2 lacks → IsFault (IsSome lacks) (SeesBoth k) (λ w. answer w.tree) f
    → StopsReading after.0.0 after.0.1 after.1 after.2 answer (stop_by f now)
stops_both k after answer f lacks now is same honest h =
    subst (λ (z : Taken). StopsReading z.0.0 z.0.1 z.1 z.2 answer (stop_by f now)) is
    (subst (λ (z : Option Lack). StopsReading k.0.0 k.0.1 k.1 k.2 answer (stop_by f z)) (sym same)
    (stops_lacking k answer f lacks honest h))

pub taken_is : {k l : Part} {xs ys : List (ℕ × ℕ)} {m n : ℕ} → k ≡ l → xs ≡ ys → m ≡ n → (let a : Taken = (k, xs, m) in a) ≡ (l, ys, n)
taken_is p q r = λ i. (p i, q i, r i)
