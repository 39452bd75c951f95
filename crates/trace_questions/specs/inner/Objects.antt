-- Objects of which a part is text already.
use Rattle.std.specs.Prelude.{ℕ, List, String, codes, string_bytes}
use Rattle.std.specs.declared.alloc.Global.{Global}
use Rattle.serde_json.specs.Data.{Data, member, no_members, object, string}

-- a difference, by the permission's letter
abbrev pub lettered_difference : List ℕ → Data → Data → Data → String Global → Data
lettered_difference side name new old letter = object
    (member (codes "allowed_by") (string side)
    (member (codes "name") name
    (member (codes "new") new
    (member (codes "old") old
    (member (codes "permission") (string (string_bytes letter)) no_members)))))
