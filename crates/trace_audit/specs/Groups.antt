-- The denials of a log, each once, with the numbers of its lines (our own).
use Rattle.std.specs.Option.{option_eq}
use Rattle.std.specs.Prelude.{◌≡◌, ℕ, suc, Bool, not, ◌==◌, ◌&&◌, List, [], ◌∷◌, ◌++◌, bytes_eq, Option, Some, None, if◌then◌else◌}
use Rattle.std.specs.List.{slice_split}
use Rattle.names.specs.Ascii as ascii
use Rattle.audit_log.specs.Denials.{DenialValue, denial}

-- a denial that lines report
pub record Group : Type 0 where
  pub denial : DenialValue
  -- the number of the first line
  pub line : ℕ
  -- the numbers of the others
  pub again : List ℕ

-- the same profile, name, mask, subject and reason of the kernel's
abbrev pub is_same : DenialValue → DenialValue → Bool
is_same a b = bytes_eq a.profile b.profile && bytes_eq a.name b.name && bytes_eq a.mask b.mask
    && (if a.by_owner then b.by_owner else not b.by_owner) && option_eq bytes_eq a.info b.info

abbrev pub first_time : ℕ → DenialValue → Group
first_time line d = record { denial = d; line = line; again = [] }

abbrev pub once_more : ℕ → Group → Group
once_more line group = record { denial = group.denial; line = group.line; again = group.again ++ (line ∷ []) }

-- a denial that a line reports is noted in its group, or in a new one
abbrev pub noted : ℕ → DenialValue → List Group → List Group
noted line d [] = first_time line d ∷ []
noted line d (group ∷ groups) =
    if is_same group.denial d then once_more line group ∷ groups else group ∷ noted line d groups

abbrev pub noted_line : ℕ → Option DenialValue → List Group → List Group
noted_line line None groups = groups
noted_line line (Some d) groups = noted line d groups

-- the groups after these lines, of which the first has this number
abbrev pub groups_after : ℕ → List (List ℕ) → List Group → List Group
groups_after number [] groups = groups
groups_after number (line ∷ lines) groups = groups_after (suc number) lines (noted_line number (denial line) groups)

-- the lines of a text: what is between its line feeds
abbrev pub lines_of : List ℕ → List (List ℕ)
lines_of text = slice_split (λ b. b == ascii.line_feed) text

-- the denials of a log in the order of their first lines, which are numbered from 1
abbrev pub groups_of : List ℕ → List Group
groups_of log = groups_after 1 (lines_of log) []
