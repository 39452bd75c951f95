-- The text of a verdict by an image, by its numbers.
use Rattle.std.specs.Prelude.{ℕ, List, ◌++◌, Option, Some, None, codes, decimal}
use Rattle.names.specs.declared.verdict.Verdict.{Verdict}
use Rattle.names.specs.VerdictText.{verdict_text}

-- the verdict, the number of steps, and the number of look-ups where it is known
abbrev pub counted_text : Verdict → ℕ → Option ℕ → List ℕ
counted_text v steps None = verdict_text v ++ (codes "\nsteps " ++ (decimal steps ++ codes "\n"))
counted_text v steps (Some look_ups) = verdict_text v ++ (codes "\nsteps " ++ (decimal steps ++ (codes "\nlookups "
    ++ (decimal look_ups ++ codes "\n"))))
