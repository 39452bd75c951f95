-- Answers in numbers.
use Rattle.std.specs.Prelude.{◌≡◌, ◌⊎◌, ℕ, List, Option, Some, None, length}
use Rattle.names.specs.declared.permissions.Perms.{Perms}
use Rattle.names.specs.Records.{IsTold}
use Rattle.names.specs.declared.record.Record.{Record}
use Rattle.names.specs.declared.verdict.Verdict.{Verdict}
use Rattle.names.specs.declared.verdict.Verdict.TheVariants.{Denied, NoRule, Allowed}
use Rattle.tables.specs.Bounds.{fault_number, fault_place}
use Rattle.tables.specs.Tables.{Table, cell_count, record_after, record_count, state_count}
use Rattle.tables.specs.declared.fault.ImageFault.{ImageFault}
use Rattle.table_verifier.specs.AcceptedImages.{IsLoaded, IsLoadFault}
use Rattle.image_judge.specs.Sets.{number_of}
use Rattle.image_judge.specs.declared.answer.Answer.{Answer}
use Rattle.image_judge.specs.declared.verification.Counts.{Counts}
use Rattle.image_judge.specs.declared.verification.Fault.{Fault}

-- an image is accepted exactly if its table is in bounds; otherwise its first fault is reported
abbrev pub IsVerified : List ℕ → Fault → Type 0
IsVerified image told = ((t : Table) × IsLoaded image t × (told ≡ record { number = 0; place = 0 }))
    ⊎ ((f : ImageFault) × IsLoadFault image f × (told ≡ record { number = fault_number f; place = fault_place f }))

-- no bytes, as in a holder that C has cleared, or an image that was accepted
abbrev pub IsNoneOrLoaded : List ℕ → Type 0
IsNoneOrLoaded image = (length image ≡ 0) ⊎ ((t : Table) × IsLoaded image t)

abbrev pub IsCountsOf : List ℕ → Counts → Type 0
IsCountsOf image counts = ((length image ≡ 0) × (counts ≡ record { states = 0; cells = 0; records = 0 }))
    ⊎ ((t : Table) × IsLoaded image t × (counts ≡ record { states = state_count t; cells = cell_count t; records = record_count t }))

-- nothing was judged
abbrev pub no_answer : Answer
no_answer = record { steps = 0; verdict = 0; rule = 0; missing = 0 }

abbrev pub answer_of : Verdict → ℕ → Answer
answer_of Allowed steps = record { steps = steps; verdict = 1; rule = 0; missing = 0 }
answer_of (Denied rule) steps = record { steps = steps; verdict = 2; rule = rule; missing = 0 }
answer_of (NoRule missing) steps = record { steps = steps; verdict = 3; rule = 0; missing = number_of missing }

-- the verdict by the record of the name's last state, and one step for each byte of the name
abbrev pub IsToldByTable : Table → Perms → List ℕ → Answer → Type 0
IsToldByTable t ask name a = (r : Record) × (record_after t name ≡ Some r)
    × (v : Verdict) × IsTold r ask v × (a ≡ answer_of v (length name))

-- What an image answers for a name: nothing if what is asked has no meaning, or there is no image; otherwise what its table says.
abbrev pub IsAnswerOf : List ℕ → Option Perms → List ℕ → Answer → Type 0
IsAnswerOf image None name a = a ≡ no_answer
IsAnswerOf image (Some ask) name a = ((length image ≡ 0) × (a ≡ no_answer)) ⊎ ((t : Table) × IsLoaded image t × IsToldByTable t ask name a)
