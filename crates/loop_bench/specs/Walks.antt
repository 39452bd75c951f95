-- Many names of one length, one after another, run through one table.
use Rattle.std.specs.Prelude.{◌≡◌, ◌⊎◌, ℕ, ◌*◌, ◌/◌, ◌^◌, ◌<◌, ◌≤◌, List, Some, drop, length, slice_get, take}
use Rattle.tables.specs.Bounds.{fault_number}
use Rattle.tables.specs.Tables.{Table, state_after}
use Rattle.tables.specs.declared.fault.ImageFault.{ImageFault}
use Rattle.table_verifier.specs.AcceptedImages.{IsLoaded, IsRefusedFor}
use Rattle.loop_bench.specs.declared.runs.Walk.{Walk}

-- how long each name is, where there are as many as states
abbrev pub name_length : List ℕ → List ℕ → ℕ
name_length names states = length names / length states

abbrev pub name_at : List ℕ → List ℕ → ℕ → List ℕ
name_at names states i = take (name_length names states) (drop (i * name_length names states) names)

-- how many steps a round takes: one for each byte of a name
abbrev pub steps_of_round : List ℕ → List ℕ → ℕ
steps_of_round names states = length states * name_length names states

-- each state is the one that its name leads to
abbrev pub AreAfter : Table → List ℕ → List ℕ → Type 0
AreAfter t names states = (i s : ℕ) → slice_get states i ≡ Some s → state_after t (name_at names states i) ≡ Some s

-- the same, where there was a round
pub record AreAfterRounds (t : Table) (names : List ℕ) (rounds : ℕ) (old new : List ℕ) : Type 0 where
  pub long : length new ≡ length old
  pub none : rounds ≡ 0 → new ≡ old
  pub some : 0 < rounds → AreAfter t names new

-- The outcome of a walk: how many steps were taken in all rounds, or the image's first fault, or that the count may have no
-- room for the steps.
abbrev pub IsWalkOf : List ℕ → List ℕ → ℕ → List ℕ → List ℕ → Walk → Type 0
IsWalkOf image names rounds old new walk =
    ((t : Table) × IsLoaded image t × AreAfterRounds t names rounds old new
    × (walk ≡ record { kind = 0; number = 0; steps = rounds * steps_of_round names old }))
    ⊎ ((new ≡ old) × (((f : ImageFault) × IsRefusedFor image f × (walk ≡ record { kind = 1; number = fault_number f; steps = 0 }))
    ⊎ ((2 ^ 64 ≤ rounds * length names) × (walk ≡ record { kind = 2; number = 0; steps = 0 }))))
