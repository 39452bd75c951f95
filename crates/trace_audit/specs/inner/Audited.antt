-- The lines that are to be written, or a fault in their place.
use Rattle.std.specs.Prelude.{◌≡◌, ◌⊎◌, ℕ, List, Option, Result, Ok, Err, Vec}
use Rattle.std.specs.declared.alloc.Global.{Global}
use Rattle.trace_audit.specs.Audit.{AreLines, AreTexts}
use Rattle.trace_audit.specs.Groups.{groups_of}
use Rattle.trace_audit.specs.Lookups.{TextValue}
use Rattle.trace_report.specs.Streams.{IsTextOf}
use Rattle.trace_report.specs.declared.fault.Fault.{Fault}
use Rattle.trace_report.specs.declared.fault.Fault.TheVariants.{Input, Memory}
use Rattle.trace_report.specs.declared.format.Format.{Format}

-- the lines about texts and a log that may have been read
pub record AreWanted (format : Format) (known : List ℕ → Option (List ℕ)) (names : List (List ℕ)) (left : Option (List ℕ))
    (lines : List ℕ) : Type 0 where
  pub texts : List TextValue
  pub are_texts : AreTexts known names texts
  pub log : List ℕ
  pub is_log : IsTextOf left log
  pub are : AreLines format texts (groups_of log) lines

abbrev pub IsAudited : Format → (List ℕ → Option (List ℕ)) → List (List ℕ) → Option (List ℕ) → Result (Vec ℕ Global) Fault → Type 0
IsAudited format known names left (Ok lines) = AreWanted format known names left lines.items
IsAudited format known names left (Err f) = f ≡ Input ⊎ f ≡ Memory
