-- What is written of an expectation, with the answer that it got, or `nothing`.
use Rattle.std.specs.Prelude.{ℕ, List, ◌++◌, codes, Option, Some, None}
use Rattle.trace_test.specs.TestOutput.{shown}

abbrev pub sentence_of : Option (List ℕ) → List ℕ → List ℕ
sentence_of (Some text) got = codes "expected " ++ (shown text ++ (codes ", got " ++ shown got))
sentence_of None got = shown got
