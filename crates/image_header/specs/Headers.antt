-- What the first bytes of an image settle, whatever follows them.
use Rattle.std.specs.Prelude.{◌≡◌, ◌≢◌, ℕ, ◌≤◌, List, ◌++◌, length}
use Rattle.tables.specs.Images.{HasVersion, IsFirstImageFault, IsWhole, told_length}
use Rattle.tables.specs.declared.fault.ImageFault.{ImageFault}
use Rattle.tables.specs.declared.fault.ImageFault.TheVariants as fault
use Rattle.tables.specs.declared.header.Version.{Version}

-- the length in bytes of an image of version 2 with as many states, cells and records as there may be
abbrev pub longest_image : ℕ
longest_image = 136839188

-- the first fault of every image that begins with these bytes
abbrev pub IsFaultOfAll : List ℕ → ImageFault → Type 0
IsFaultOfAll front f = (more : List ℕ) → IsFirstImageFault (front ++ more) f

-- The length of images that begin with these bytes: one of this length has none of the faults of bytes, and one of another length
-- has that as its first fault.
pub record IsLengthOfAll (front : List ℕ) (n : ℕ) : Type 0 where
  pub is : (v : Version) × HasVersion front v × (n ≡ told_length v front)
  pub most : n ≤ longest_image
  pub same : (more : List ℕ) → length (front ++ more) ≡ n → IsWhole (front ++ more)
  pub other : (more : List ℕ) → length (front ++ more) ≢ n → IsFirstImageFault (front ++ more) fault.Length
