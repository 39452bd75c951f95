-- Statements as parts.
use Rattle.std.specs.Prelude.{Result, Ok, drop}
use Rattle.apparmor_words.specs.Steps.{Stop, ◌>>=◌}
use Rattle.apparmor_words.specs.Statements.{statement_end, boolean_at}
use Rattle.apparmor_text.specs.declared.part.PartKind.TheVariants as parts
use Rattle.apparmor_text.specs.Readings.{Reading, taken_to}

-- a statement, whose keyword is here
abbrev pub statement_part : Reading → Result Reading Stop
statement_part s = statement_end s.rest >>= λ rest. Ok (taken_to parts.Statement rest s)

-- a boolean, whose $ is here
abbrev pub boolean_part : Reading → Result Reading Stop
boolean_part s = boolean_at (drop 1 s.rest) >>= λ rest. Ok (taken_to parts.Statement rest s)
