-- A text that as a whole is the inside of a quoted path, except that it need not begin with a slash.
use Rattle.std.specs.Prelude.{ℕ, List, [], ◌++◌, length, codes, Result, Ok, Err, Option, Some, None, true, false, ◌==◌, if◌then◌else◌}
use Rattle.rule_globs.specs.Tokens.{Token}
use Rattle.rule_reader.specs.declared.reader.local_fault.LocalFault.{LocalFault}
use Rattle.rule_profile.specs.Limits.{most_items}
use Rattle.rule_reader.specs.ReadPaths.{tokens_at}

-- what was read, if only the closing quote is left
abbrev pub whole_tokens : Result (List Token × List ℕ) LocalFault → Option (List Token)
whole_tokens (Ok x) = if length x.1 == 1 then Some x.0 else None
whole_tokens (Err fault) = None

-- the tokens of the whole text, or none
abbrev pub text_tokens : List ℕ → Option (List Token)
text_tokens text = whole_tokens (tokens_at true most_items [] false (text ++ codes "\""))
