-- Which names of a list are written, and how. Our own.
use Rattle.std.specs.Prelude.{ℕ, Bool, true, false, not, if◌then◌else◌}
use Rattle.names.specs.Ascii as ascii
use Rattle.names.specs.declared.verdict.Verdict.{Verdict}
use Rattle.names.specs.declared.verdict.Verdict.TheVariants as verdict
use Rattle.trace_names.specs.declared.choice.NameEnd.{NameEnd}
use Rattle.trace_names.specs.declared.choice.NameEnd.TheVariants.{LineFeed, Null}
use Rattle.trace_names.specs.declared.choice.NamesChoice.{NamesChoice}
use Rattle.trace_names.specs.declared.choice.Selection.{Selection}
use Rattle.trace_names.specs.declared.choice.Selection.TheVariants.{Allowed, NotAllowed, All}

abbrev pub end_byte : NameEnd → ℕ
end_byte LineFeed = ascii.line_feed
end_byte Null = 0

abbrev pub is_allowed : Verdict → Bool
is_allowed verdict.Allowed = true
is_allowed _ = false

-- whether a name with this verdict is written
abbrev pub is_selected : Selection → Verdict → Bool
is_selected Allowed v = is_allowed v
is_selected NotAllowed v = not (is_allowed v)
is_selected All v = true

-- names that are allowed, or with `--not-allowed` those that aren't; with `--verdict` alone all of them
abbrev pub selection_of : Bool → Bool → Selection
selection_of not_allowed verdicts = if not_allowed then NotAllowed else if verdicts then All else Allowed

-- what `--not-allowed`, `--verdict` and `--null` choose
abbrev pub choice_of : Bool → Bool → Bool → NamesChoice
choice_of not_allowed verdicts null = record {
  selection = selection_of not_allowed verdicts;
  verdicts = verdicts;
  end = if null then Null else LineFeed;
}
