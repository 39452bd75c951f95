-- The size of a pattern, by which a pass decreases.
use Rattle.std.proofs.Common.{ℕ, ◌+◌}
use Rattle.rule_globs.specs.Glob.{Glob, empty, one, run, cat, none, alt}

abbrev pub weight : Glob → ℕ
weight empty = 0
weight (one set) = 0
weight (run set) = 0
weight (cat a b) = 1 + weight a + weight b
weight none = 0
weight (alt a b) = 1 + weight a + weight b
