-- The limits of counts.
use Rattle.std.specs.Prelude.{ℕ, ◌+◌, ◌≤◌}
use Rattle.apparmor_words.specs.declared.statement.Unclosed.{Unclosed}

-- the largest usize
abbrev pub max_count : ℕ
max_count = 18446744073709551615

-- at most one more parenthesis and one more brace is open
abbrev pub OpensAtMostOne : Unclosed → Unclosed → Type 0
OpensAtMostOne before next = (next.parentheses ≤ before.parentheses + 1) × (next.braces ≤ before.braces + 1)
