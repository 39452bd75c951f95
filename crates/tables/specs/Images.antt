-- The bytes of an image, versions 1 and 2. Numbers are little-endian.
use Rattle.std.specs.Prelude.{◌≡◌, ◌≢◌, ◌==◌, All, ℕ, ◌+◌, ◌*◌, ◌<◌, ◌≤◌, List, [], ◌++◌, codes, drop, filter, length, map, not, replicate}
use Rattle.std.specs.Prelude.{take}
use Rattle.std.specs.List.{concat}
use Rattle.byteorder.specs.Endian.{little_bytes, little_number}
use Rattle.names.specs.declared.permissions.Permission.{Permission}
use Rattle.names.specs.declared.permissions.Permission.TheVariants.{Append, Write}
use Rattle.names.specs.Permissions.{all_permissions, letter}
use Rattle.names.specs.Least.{hits_of}
use Rattle.names.specs.declared.record.LeastHits.{LeastHits}
use Rattle.names.specs.declared.record.Record.{Record}
use Rattle.tables.specs.Bounds.{InLimits, IsShaped, IsWithinLimits, fault_number}
use Rattle.tables.specs.Tables.{Table, state_count, cell_count, record_count}
use Rattle.tables.specs.declared.fault.ImageFault.{ImageFault}
use Rattle.tables.specs.declared.fault.ImageFault.TheVariants as fault
use Rattle.tables.specs.declared.header.Version.{Version}
use Rattle.tables.specs.declared.header.Version.TheVariants.{First, Second}

abbrev pub version_number : Version → ℕ
version_number First = 1
version_number Second = 2

-- the least allow rule, and then the least deny rule
abbrev pub hits_bytes : LeastHits → List ℕ
hits_bytes h = little_bytes 2 h.allow ++ little_bytes 2 h.deny

-- the permissions whose hits are stored, in the order of all permissions: in version 1, all but append
abbrev pub stored_permissions : Version → List Permission
stored_permissions First = filter (λ p. not (letter p == letter Append)) all_permissions
stored_permissions Second = all_permissions

-- the hits of each of them
unfoldable pub record_bytes : Version → Record → List ℕ
record_bytes v r = concat (map hits_bytes (map (hits_of r) (stored_permissions v)))

-- how many bytes a record has: four for each of them
abbrev pub record_length : Version → ℕ
record_length v = 4 * length (stored_permissions v)

abbrev pub words : List ℕ → List ℕ
words numbers = concat (map (little_bytes 4) numbers)

-- version 1 has 0 for the bound, and no depths
abbrev pub bound_by : Version → ℕ → ℕ
bound_by First bound = 0
bound_by Second bound = bound

abbrev pub bound_of : Version → Table → ℕ
bound_of v t = bound_by v t.depth_bound

abbrev pub depths_of : Version → Table → List ℕ
depths_of First t = []
depths_of Second t = t.depth

-- magic, version, the bound of depths, and the three counts
abbrev pub header_of : Version → Table → List ℕ
header_of v t = codes "PTAB" ++ little_bytes 2 (version_number v) ++ little_bytes 2 (bound_of v t)
    ++ little_bytes 4 (state_count t) ++ little_bytes 4 (cell_count t) ++ little_bytes 4 (record_count t)

abbrev pub image_of : Version → Table → List ℕ
image_of v t = header_of v t ++ words t.default ++ words t.base ++ words t.accept ++ words (depths_of v t)
    ++ words t.next ++ words t.check ++ concat (map (record_bytes v) t.records)

abbrev pub AreShort : LeastHits → Type 0
AreShort h = (h.allow < 65536) × (h.deny < 65536)

abbrev pub IsShortRecord : Record → Type 0
IsShortRecord r = (p : Permission) → AreShort (hits_of r p)

abbrev pub AreWords : List ℕ → Type 0
AreWords numbers = All (λ n. n < 4294967296) numbers

-- each number fits in its bytes: without that, two tables could have the same image
pub record HasRoom (t : Table) : Type 0 where
  pub defaults : AreWords t.default
  pub bases : AreWords t.base
  pub accepts : AreWords t.accept
  pub nexts : AreWords t.next
  pub checks : AreWords t.check
  pub records : All IsShortRecord t.records
  pub bound : t.depth_bound < 65536
  pub depths : AreWords t.depth

-- version 1 can hold the table: no state has a depth, and append has the hits of write
pub record FitsVersion1 (t : Table) : Type 0 where
  pub bound : t.depth_bound ≡ 0
  pub depths : t.depth ≡ replicate (state_count t) 0
  pub appends : All (λ r. hits_of r Append ≡ hits_of r Write) t.records

-- the bytes are the image of the table in this version
pub record IsVersionOf (v : Version) (bytes : List ℕ) (t : Table) : Type 0 where
  pub fits : v ≡ First → FitsVersion1 t
  pub room : HasRoom t
  pub shaped : IsShaped t
  pub limits : IsWithinLimits t
  pub is : bytes ≡ image_of v t

-- the bytes are an image of the table
abbrev pub IsImageOf : List ℕ → Table → Type 0
IsImageOf bytes t = (v : Version) × IsVersionOf v bytes t

-- the number at a place of the header
abbrev pub short_at : List ℕ → ℕ → ℕ
short_at bytes i = little_number 2 (drop i bytes)

abbrev pub word_at : List ℕ → ℕ → ℕ
word_at bytes i = little_number 4 (drop i bytes)

abbrev pub HasVersion : List ℕ → Version → Type 0
HasVersion bytes v = short_at bytes 4 ≡ version_number v

-- how many depths a version has for this number of states
abbrev pub depth_count : Version → ℕ → ℕ
depth_count First states = 0
depth_count Second states = states

-- the length of an image with these counts
abbrev pub length_of : Version → ℕ → ℕ → ℕ → ℕ
length_of v states cells records = 20 + 12 * states + 4 * depth_count v states + 8 * cells + record_length v * records

-- the length that the header says
abbrev pub told_length : Version → List ℕ → ℕ
told_length v bytes = length_of v (word_at bytes 8) (word_at bytes 12) (word_at bytes 16)

-- the bytes have this version, and no fault
pub record IsWholeOf (v : Version) (bytes : List ℕ) : Type 0 where
  pub header : 20 ≤ length bytes
  pub magic : take 4 bytes ≡ codes "PTAB"
  pub version : HasVersion bytes v
  pub reserved : v ≡ First → short_at bytes 6 ≡ 0
  pub limits : InLimits (word_at bytes 8) (word_at bytes 12) (word_at bytes 16)
  pub whole : length bytes ≡ told_length v bytes

-- the bytes have no fault
abbrev pub IsWhole : List ℕ → Type 0
IsWhole bytes = (v : Version) × IsWholeOf v bytes

-- the bytes have this fault; all but the first are of bytes that have a header
abbrev pub HasImageFault : List ℕ → ImageFault → Type 0
HasImageFault bytes fault.Short = length bytes < 20
HasImageFault bytes fault.Magic = take 4 bytes ≢ codes "PTAB"
HasImageFault bytes fault.Version = (v : Version) → ¬ (HasVersion bytes v)
HasImageFault bytes fault.Reserved = HasVersion bytes First × (short_at bytes 6 ≢ 0)
HasImageFault bytes fault.Counts = ¬ (InLimits (word_at bytes 8) (word_at bytes 12) (word_at bytes 16))
HasImageFault bytes fault.Length = (v : Version) × HasVersion bytes v × (length bytes ≢ told_length v bytes)
HasImageFault bytes _ = ⊥

-- the first of the bytes' faults
pub record IsFirstImageFault (bytes : List ℕ) (f : ImageFault) : Type 0 where
  pub has : HasImageFault bytes f
  pub first : (g : ImageFault) → HasImageFault bytes g → fault_number f ≤ fault_number g
