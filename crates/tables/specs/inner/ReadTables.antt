-- The table that is read from bytes, whatever they are.
use Rattle.std.specs.Prelude.{ℕ, zero, suc, ◌+◌, ◌*◌, ◌==◌, List, [], ◌∷◌, ◌++◌, replicate, if◌then◌else◌}
use Rattle.names.specs.declared.permissions.Permission.{Permission}
use Rattle.names.specs.declared.permissions.Permission.TheVariants.{Append, Write}
use Rattle.names.specs.Permissions.{index, letter}
use Rattle.names.specs.Least.{record_of}
use Rattle.names.specs.declared.record.LeastHits.{LeastHits}
use Rattle.names.specs.declared.record.Record.{Record}
use Rattle.tables.specs.Images.{depth_count, record_length, short_at, word_at}
use Rattle.tables.specs.Tables.{Table}
use Rattle.tables.specs.declared.header.Version.{Version}
use Rattle.tables.specs.declared.header.Version.TheVariants.{First, Second}

-- the n numbers from a place on
abbrev pub words_at : List ℕ → ℕ → ℕ → List ℕ
words_at bytes i zero = []
words_at bytes i (suc n) = words_at bytes i n ++ word_at bytes (i + 4 * n) ∷ []

abbrev pub hits_at : List ℕ → ℕ → LeastHits
hits_at bytes i = record { allow = short_at bytes i; deny = short_at bytes (i + 2) }

-- the permission whose hits are read for this one: in version 1, write for append
abbrev pub stored_for : Version → Permission → Permission
stored_for First p = if letter p == letter Append then Write else p
stored_for Second p = p

-- four bytes for each permission that is stored
unfoldable pub record_at : Version → List ℕ → ℕ → Record
record_at v bytes i = record_of (λ p. hits_at bytes (i + 4 * index (stored_for v p)))

-- the n records from a place on
abbrev pub records_at : Version → List ℕ → ℕ → ℕ → List Record
records_at v bytes i zero = []
records_at v bytes i (suc n) = records_at v bytes i n ++ record_at v bytes (i + record_length v * n) ∷ []

abbrev pub bound_at : Version → List ℕ → ℕ
bound_at First bytes = 0
bound_at Second bytes = short_at bytes 6

-- the depths of n states, whose numbers begin at a place; version 1 has none, and each depth is 0
abbrev pub depths_at : Version → List ℕ → ℕ → ℕ → List ℕ
depths_at First bytes i n = replicate n 0
depths_at Second bytes i n = words_at bytes i n

-- the parts follow the header, each with as many entries as the counts say
abbrev pub table_at : Version → List ℕ → Table
table_at v bytes =
    let s = word_at bytes 8 in
    let c = word_at bytes 12 in
    let k = depth_count v s in
    record {
      default = words_at bytes 20 s;
      base = words_at bytes (20 + 4 * s) s;
      accept = words_at bytes (20 + 4 * s + 4 * s) s;
      depth = depths_at v bytes (20 + 4 * s + 4 * s + 4 * s) s;
      next = words_at bytes (20 + 4 * s + 4 * s + 4 * s + 4 * k) c;
      check = words_at bytes (20 + 4 * s + 4 * s + 4 * s + 4 * k + 4 * c) c;
      records = records_at v bytes (20 + 4 * s + 4 * s + 4 * s + 4 * k + 4 * c + 4 * c) (word_at bytes 16);
      depth_bound = bound_at v bytes;
    }
