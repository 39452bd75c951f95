-- Spans of a text, one after another (our choice).
use Rattle.std.specs.Prelude.{◌≡◌, ℕ, ◌-◌, ◌<◌, List, [], ◌∷◌, take, drop, true, false}
use Rattle.apparmor_words.specs.Blanks.{is_blank}
use Rattle.import_spans.specs.declared.span.Span.{Span}
use Rattle.import_spans.specs.declared.span.SpanKind.TheVariants.{Blank}

-- From one place to another: each begins where the one before it ends, and none is empty.
pub data Covers : List Span → ℕ → ℕ → Type 0 where
  stops : (place : ℕ) → Covers [] place place
  goes_on : (span : Span) (spans : List Span) (end : ℕ) → span.start < span.end → Covers spans span.end end →
      Covers (span ∷ spans) span.start end

-- one of kind Blank is white space and comments alone
abbrev pub IsRight : List ℕ → Span → Type 0
IsRight bytes span = span.kind ≡ Blank → is_blank false (take (span.end - span.start) (drop span.start bytes)) ≡ true
