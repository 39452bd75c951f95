-- Spans of a text that an account doesn't report.
use Rattle.import_spans.specs.declared.span.SpanKind.{SpanKind}
use Rattle.import_spans.specs.declared.span.SpanKind.TheVariants.{Kept, Blank, Told}

-- it isn't reported
abbrev pub IsUntold : SpanKind → Type 0
IsUntold Kept = Unit {0}
IsUntold Blank = Unit {0}
IsUntold (Told told) = ⊥
