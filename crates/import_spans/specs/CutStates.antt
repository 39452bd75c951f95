-- How far the items of a text are cut, and the single steps of cutting.
use Rattle.std.specs.Prelude.{ℕ, ◌+◌, ◌-◌, ◌==◌, List, [], ◌∷◌, ◌++◌, length, Option, Some, None, if◌then◌else◌}
use Rattle.std.specs.Option.{option_or}
use Rattle.apparmor_text.specs.Parts.{PartValue, ItemValue, bytes_of_parts}
use Rattle.import_spans.specs.declared.context.Choice.{Choice}
use Rattle.import_spans.specs.declared.cut.Phase.{Phase}
use Rattle.import_spans.specs.declared.cut.Phase.TheVariants.{Outer}
use Rattle.import_spans.specs.declared.span.Span.{Span}
use Rattle.import_spans.specs.declared.span.SpanKind.{SpanKind}
use Rattle.import_spans.specs.declared.reports.PartTelling.{PartTelling}
use Rattle.import_spans.specs.PartSpans.{part_kind}

pub record CutState : Type 0 where
  pub choice : Choice
  -- how many profiles are open, and how many began
  pub depth : ℕ
  pub heads : ℕ
  -- how many bytes there were, and how many of them are in spans: all except those of a run
  pub at : ℕ
  pub from : ℕ
  pub phase : Phase
  pub spans : List Span
  -- where the first statement change_profile of the chosen profile begins, and its first hat or child
  pub changes_profile : Option ℕ
  pub has_hat : Option ℕ

-- before the text
abbrev pub at_start : Choice → CutState
at_start choice = record {
  choice = choice;
  depth = 0;
  heads = 0;
  at = 0;
  from = 0;
  phase = Outer;
  spans = [];
  changes_profile = None;
  has_hat = None;
}

-- `count` more bytes
abbrev pub pass : ℕ → CutState → CutState
pass count s = record s { at = s.at + count }

-- with a span of the bytes that are in none yet, if there are any
abbrev pub put : SpanKind → CutState → CutState
put kind s =
    if s.from == s.at then s
    else record s { from = s.at; spans = s.spans ++ (record { start = s.from; end = s.at; kind = kind } ∷ []) }

-- another phase begins here
abbrev pub enter : Phase → CutState → CutState
enter phase s = record s { phase = phase }

-- a profile, a child or a hat begins, and ends
abbrev pub opened : CutState → CutState
opened s = record s { depth = s.depth + 1; heads = s.heads + 1 }

abbrev pub closed : CutState → CutState
closed s = record s { depth = s.depth - 1 }

-- a hat or a child begins here
abbrev pub with_hat : CutState → CutState
with_hat s = record s { has_hat = option_or s.has_hat (Some s.at) }

-- a statement change_profile begins here
abbrev pub with_change : CutState → CutState
with_change s = record s { changes_profile = option_or s.changes_profile (Some s.at) }

-- ---- items

-- all bytes of an item
abbrev pub passed : ItemValue → CutState → CutState
passed item s = pass (length (bytes_of_parts item.parts)) s

-- an item that is one span
abbrev pub put_item : SpanKind → ItemValue → CutState → CutState
put_item kind item s = put kind (passed item s)

-- parts that each are a span
abbrev pub put_parts : PartTelling → List PartValue → CutState → CutState
put_parts telling [] s = s
put_parts telling (p ∷ parts) s =
    put_parts telling parts (put (part_kind telling s.choice.subject p) (pass (length p.bytes) s))
