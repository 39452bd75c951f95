-- What `explain --flattened` writes, memory and failures of the streams aside.
use Rattle.std.specs.Prelude.{◌≡◌, ℕ, List, Option, Result, Ok, Err}
use Rattle.names.specs.declared.permissions.Perms.{Perms}
use Rattle.import_origins.specs.OriginObjects.{origin_explanation}
use Rattle.import_profile.specs.declared.options.ImportOptions.{ImportOptions}
use Rattle.import_profile.specs.Imports.{Imports, Outcome}
use Rattle.trace_import.specs.Import.{refusal_of}
use Rattle.trace_report.specs.Output.{Output, fault, whole_answer}
use Rattle.trace_report.specs.ReadStreams.{ask_of}
use Rattle.trace_report.specs.Streams.{Streams, EndsInOne, IsTextOf}
use Rattle.trace_report.specs.declared.format.Format.{Format}
use Rattle.trace_report.specs.declared.status.Status.{Status}
use Rattle.trace_report.specs.declared.status.Status.TheVariants.{BadArguments, Refused}

-- the explanation for the name by an imported profile, with the places of the flattened text, or why there is none
abbrev pub explained_import : Format → Perms → List ℕ → List ℕ → Outcome → Output
explained_import format ask name text (Ok value) = whole_answer (origin_explanation format text value.profile.rules value.origins name ask)
explained_import format ask name text (Err f) = fault (refusal_of text f) Refused

-- what may be written for the permissions that are asked, if they can be
abbrev pub IsAskedOutput : Format → ImportOptions → Result Perms (List ℕ) → List ℕ → List ℕ → Output → Type 0
IsAskedOutput format options (Err told) name text output = output ≡ fault told BadArguments
IsAskedOutput format options (Ok ask) name text output =
    (outcome : Outcome) × Imports options text outcome × (output ≡ explained_import format ask name text outcome)

-- what `explain --flattened PERMS NAME` may write on a text, in either format
abbrev pub IsExplainOutput : Format → ImportOptions → List ℕ → List ℕ → List ℕ → Output → Type 0
IsExplainOutput format options perms name text output = IsAskedOutput format options (ask_of perms name) name text output

-- How it ends over a reader that has these bytes left, where they are known.
pub record ExplainEndsOver (format : Format) (options : ImportOptions) (perms name : List ℕ) (left : Option (List ℕ)) (streams : Streams)
    (status : Status) : Type 0 where
  pub text : List ℕ
  pub is_text : IsTextOf left text
  pub ends : EndsInOne streams (IsExplainOutput format options perms name text) status
