-- The account of an import (our own): what is reported of the spans of its text.
use Rattle.std.specs.Prelude.{ℕ, ◌-◌, Bool, true, false, not, ◌&&◌, List, [], ◌∷◌, ◌++◌, codes, count_by, decimal, drop, length, take}
use Rattle.std.specs.Prelude.{if◌then◌else◌}
use Rattle.std.specs.List.{before_first, flat_map, list_any}
use Rattle.apparmor_rules.specs.declared.effect.Extent.{Extent}
use Rattle.apparmor_rules.specs.declared.effect.Extent.TheVariants.{Exact, Wider, Narrower}
use Rattle.apparmor_rules.specs.declared.subject.Subject.{Subject}
use Rattle.apparmor_rules.specs.declared.subject.Subject.TheVariants.{Owner, Other}
use Rattle.import_profile.specs.Imports.{ImportValue, is_exact}
use Rattle.import_spans.specs.declared.span.Span.{Span}
use Rattle.import_spans.specs.declared.span.SpanKind.{SpanKind}
use Rattle.import_spans.specs.declared.span.SpanKind.TheVariants.{Kept, Blank, Told}
use Rattle.rule_explain.specs.Places.{is_line_feed, place_at}
use Rattle.trace_import.specs.AccountLines.{account_line}
use Rattle.trace_import.specs.declared.account.AccountChoice.{AccountChoice}
use Rattle.trace_import.specs.declared.account.AccountChoice.TheVariants.{Changes, All, Nothing}
use Rattle.trace_import.specs.declared.sums.Report.{Report}
use Rattle.trace_import.specs.declared.sums.Report.TheVariants as reports

-- ---- all that is reported

-- the bytes of a text from one place to another
abbrev pub between : ℕ → ℕ → List ℕ → List ℕ
between start end text = take (end - start) (drop start text)

-- the line that reports a span, if it is reported, with the span's text
abbrev pub kind_line : List ℕ → ℕ → ℕ → SpanKind → List ℕ
kind_line text start end Kept = []
kind_line text start end Blank = []
kind_line text start end (Told told) = account_line (place_at text start) told.whats told.effect (between start end text)

abbrev pub span_line : List ℕ → Span → List ℕ
span_line text span = kind_line text span.start span.end span.kind

-- a line for each span that is reported, in their order
abbrev pub all_lines : List ℕ → List Span → List ℕ
all_lines text spans = flat_map (span_line text) spans

-- ---- changes

-- the line of the text with a place in this column of it, at most 512 bytes of it
abbrev pub line_with : List ℕ → ℕ → ℕ → List ℕ
line_with text place column = before_first is_line_feed (take 512 (drop (place - (column - 1)) text))

-- the line that reports a span, if it changes something for one of the subjects, with the line of the text that it begins in
abbrev pub kind_change : List ℕ → ℕ → SpanKind → List ℕ
kind_change text start Kept = []
kind_change text start Blank = []
kind_change text start (Told told) =
    if is_exact told.effect.on_chosen && is_exact told.effect.on_other then []
    else account_line (place_at text start) told.whats told.effect (line_with text start (place_at text start).column)

abbrev pub change_line : List ℕ → Span → List ℕ
change_line text span = kind_change text span.start span.kind

-- ---- sums

-- how a change is reported, by what changes for the chosen subject and for the other, which is named only where nothing changes
-- for the chosen one
abbrev pub report_of : Extent → Extent → Report
report_of Wider on_other = reports.Wider
report_of Narrower on_other = reports.Narrower
report_of Exact Exact = reports.Exact
report_of Exact Wider = reports.WiderForOther
report_of Exact Narrower = reports.NarrowerForOther

abbrev pub is_report : Report → Report → Bool
is_report reports.Exact reports.Exact = true
is_report reports.Wider reports.Wider = true
is_report reports.Narrower reports.Narrower = true
is_report reports.WiderForOther reports.WiderForOther = true
is_report reports.NarrowerForOther reports.NarrowerForOther = true
is_report _ _ = false

abbrev pub is_reported_as : Report → SpanKind → Bool
is_reported_as report Kept = false
is_reported_as report Blank = false
is_reported_as report (Told told) = is_report (report_of told.effect.on_chosen told.effect.on_other) report

-- how many spans are reported so
abbrev pub count_of : Report → List Span → ℕ
count_of report spans = count_by (λ span. is_reported_as report span.kind) spans

abbrev pub is_told : SpanKind → Bool
is_told Kept = false
is_told Blank = false
is_told (Told told) = true

-- whom the chosen subject isn't
abbrev pub others_word : Subject → List ℕ
others_word Owner = codes "others"
others_word Other = codes "owners"

-- `rules 177; reported: 160 exact, 9 wider, 0 narrower, 8 wider for others, 1 narrower for others`, and the end of the line
abbrev pub sums_line : Subject → ℕ → List Span → List ℕ
sums_line chosen rules spans =
    codes "rules " ++ (decimal rules
    ++ (codes "; reported: " ++ (decimal (count_of reports.Exact spans)
    ++ (codes " exact, " ++ (decimal (count_of reports.Wider spans)
    ++ (codes " wider, " ++ (decimal (count_of reports.Narrower spans)
    ++ (codes " narrower, " ++ (decimal (count_of reports.WiderForOther spans)
    ++ (codes " wider for " ++ (others_word chosen
    ++ (codes ", " ++ (decimal (count_of reports.NarrowerForOther spans)
    ++ (codes " narrower for " ++ (others_word chosen ++ codes "\n")))))))))))))))

-- the sums, if a span is reported
abbrev pub sums : Subject → ImportValue → List ℕ
sums chosen value =
    if list_any (λ span. is_told span.kind) value.spans then sums_line chosen (length value.profile.rules) value.spans else []

-- ---- accounts

-- the account of a profile that was imported for the chosen subject
abbrev pub account_text : AccountChoice → Subject → List ℕ → ImportValue → List ℕ
account_text Changes chosen text value = flat_map (change_line text) value.spans ++ sums chosen value
account_text All chosen text value = all_lines text value.spans
account_text Nothing chosen text value = []
