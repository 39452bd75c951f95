-- What a line asks for: an open, or a change of the tree, which is written as in a script.
use Rattle.std.specs.Prelude.{ℕ, List, [], ◌∷◌, Option, Some, None, option_map, codes, bytes_eq, if◌then◌else◌}
use Rattle.names.specs.declared.permissions.Perms.{Perms}
use Rattle.names.specs.Permissions.{perms_of}
use Rattle.trace_script.specs.Script.{ChangeWords, LineKind, alter, command, line_kind}
use Rattle.trace_script.specs.LineValues.{change_words}
use Rattle.mediating_server.specs.declared.request.Request.{Request}
use Rattle.mediating_server.specs.declared.request.Request.TheVariants.{Open, Change}

pub data Asked : Type 0 where
  -- a path, and what is asked
  opening : List ℕ → Perms → Asked
  changing : ChangeWords → Asked

abbrev pub request_value : Request → Asked
request_value (Open path ask) = opening path.now ask
request_value (Change words) = changing (change_words words)

-- `open PATH PERMS`
abbrev pub open_of : List (List ℕ) → Option Asked
open_of (word ∷ path ∷ letters ∷ []) = if bytes_eq (codes "open") word then option_map (λ ask. opening path ask)
    (perms_of letters) else None
open_of _ = None

abbrev pub asked_by : LineKind → List (List ℕ) → Option Asked
asked_by (command (alter words)) line = Some (changing words)
asked_by _ line = open_of line

-- what the words of a line ask for
abbrev pub request_of : List (List ℕ) → Option Asked
request_of words = asked_by (line_kind words) words
