-- What is said about an image that is refused. The sentences are our own.
use Rattle.std.specs.Prelude.{◌≡◌, ◌⊎◌, ℕ, List, [], ◌++◌, codes, decimal}
use Rattle.fault_notes.specs.Sentences.{ended}
use Rattle.table_verifier.specs.AcceptedImages.{IsLoaded, IsLoadFault}
use Rattle.tables.specs.Tables.{Table}
use Rattle.tables.specs.declared.fault.ImageFault.{ImageFault}
use Rattle.tables.specs.declared.fault.ImageFault.TheVariants as fault

-- those of the header and of the length; verifying an image allocates nothing, so no fault is said to be out of memory
abbrev pub header_said : ImageFault → List ℕ
header_said fault.Short = codes "an image has a header of 20 bytes, and here are fewer"
header_said fault.Magic = codes "an image begins with the four bytes PTAB"
header_said fault.Version = codes "the version is 1 or 2: bytes 4 and 5, the lower first"
header_said fault.Reserved = codes "in version 1 the bytes 6 and 7 are 0"
header_said fault.Counts = codes "a count is out of its limits: 2 to 65,536 states, 256 to 16,777,216 cells, 1 to 65,536 records"
header_said fault.Length = codes "the image isn't as long as the counts of its header say"
header_said _ = []

abbrev pub image_said : ImageFault → List ℕ
image_said (fault.Default s) = codes "the default of state " ++ (decimal s ++ codes " is no state")
image_said (fault.Base s) = codes "the row of 256 cells of state " ++ (decimal s ++ codes " ends after the last cell")
image_said (fault.Accept s) = codes "the accept of state " ++ (decimal s ++ codes " is no record")
image_said (fault.Next c) = codes "the next of cell " ++ (decimal c ++ codes " is no state")
image_said (fault.Depth s) =
    codes "the depth of state " ++ (decimal s ++ codes " is over the bound, or is over 0 and not over that of its default")
image_said f = header_said f

-- a line about the first fault, if there is one
abbrev pub IsImageNotes : List ℕ → List ℕ → Type 0
IsImageNotes image notes =
    ((t : Table) × IsLoaded image t × (notes ≡ []))
    ⊎ ((f : ImageFault) × IsLoadFault image f × (notes ≡ ended (image_said f)))
