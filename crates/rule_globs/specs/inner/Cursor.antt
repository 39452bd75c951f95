-- Where the code's pass is, with the bits.
use Rattle.std.specs.Prelude.{Bool, List}
use Rattle.rule_globs.specs.inner.Sweep.{Pass}
use Rattle.rule_globs.specs.declared.live.Cursor.{Cursor}

abbrev pub pass_at : Cursor → List Bool → Pass
pass_at cursor live = record { place = cursor.place; reached = cursor.reached; live = live }
