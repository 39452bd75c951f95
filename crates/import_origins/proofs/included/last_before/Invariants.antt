-- The last file of the marks that are left, after the last one so far, is that of all.
use Rattle.std.proofs.Common.{◌≡◌, drop, map, None}
use Rattle.std.specs.Prelude.{option_map}
use Rattle.import_origins.specs.Included.{last_file}
use Rattle.import_origins.specs.inner.Marks.{mark_value}
use Rattle.import_origins.proofs.included.last_before.Given as goal

abbrev pub invariant-loop-mark : goal.invariant-loop-mark
invariant-loop-mark l =
    last_file l.offset (map mark_value (drop l.mark-index l.marks)) (option_map (λ file. file.now) l.last)
    ≡ last_file l.offset (map mark_value l.marks) None
