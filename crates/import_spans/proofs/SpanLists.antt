-- Lists of spans that cover some bytes.
use Rattle.std.proofs.Common.{◌≡◌, ℕ, ◌-◌, ◌≤◌, ◌<◌, true, false, List, [], ◌∷◌, ◌++◌, length, take, drop, ap, ◌∙◌, arith}
use Rattle.std.proofs.lemmas.List.{take-append-le, drop-append-le, length-drop}
use Rattle.std.proofs.Math.Seq.{take-length}
use Rattle.rule_globs.specs.Each.{Each}
use Rattle.apparmor_words.specs.Blanks.{is_blank}
use Rattle.import_spans.specs.declared.span.Span.{Span}
use Rattle.import_spans.specs.declared.span.SpanKind.{SpanKind}
use Rattle.import_spans.specs.declared.span.SpanKind.TheVariants.{Blank}
use Rattle.import_spans.specs.Spans.{Covers, stops, goes_on, IsRight}

pub covers_forward : (spans : List Span) (a b : ℕ) → Covers spans a b → a ≤ b
covers_forward spans a b (stops place) = omega arith
covers_forward spans a b (goes_on span others end less more) = let h = covers_forward others span.end end more in omega (arith, h, less)

-- the spans with one more
abbrev pub one_more : ℕ → ℕ → SpanKind → List Span → List Span
one_more from at kind spans = spans ++ (record { start = from; end = at; kind = kind } ∷ [])

pub covers_more : (spans : List Span) (a b at : ℕ) (kind : SpanKind) → Covers spans a b → b < at → Covers (one_more b at kind spans) a at
covers_more spans a b at kind (stops place) less = goes_on (record { start = place; end = at; kind = kind }) [] at less (stops at)
covers_more spans a b at kind (goes_on span others end here more) less = goes_on span (one_more end at kind others) at here
    (covers_more others span.end end at kind more less)

pub each_more : {A : Type 0} (P : A → Type 0) (xs : List A) (x : A) → Each P xs → P x → Each P (xs ++ (x ∷ []))
each_more P [] x h g = (g, tt)
each_more P (y ∷ xs) x h g = (h.0, each_more P xs x h.1 g)

pub each_before : {A : Type 0} (P : A → Type 0) (xs : List A) (x : A) → Each P (xs ++ (x ∷ [])) → Each P xs × P x
each_before P [] x h = (tt, h.0)
each_before P (y ∷ xs) x h = let g = each_before P xs x h.1 in ((h.0, g.0), g.1)

-- bytes within the first ones stay the same
same_within : (before bytes : List ℕ) (start end : ℕ) → start < end → end ≤ length before →
    take (end - start) (drop start (before ++ bytes)) ≡ take (end - start) (drop start before)
same_within before bytes start end less within =
    let front : drop start (before ++ bytes) ≡ drop start before ++ bytes = drop-append-le start before bytes (omega arith) in
    let count = length-drop start before in
    ap (take (end - start)) front ∙ take-append-le (end - start) (drop start before) bytes (omega (arith, count))

-- blank spans stay blank once bytes follow
pub right_more : (spans : List Span) (a b : ℕ) (before bytes : List ℕ) → Covers spans a b → b ≤ length before →
    Each (IsRight before) spans → Each (IsRight (before ++ bytes)) spans
right_more spans a b before bytes (stops place) within h = tt
right_more spans a b before bytes (goes_on span others end less more) within h =
    let forward = covers_forward others span.end end more in (
      λ blank. ap (is_blank false) (same_within before bytes span.start span.end less (omega (arith, forward, within))) ∙ h.0 blank,
      right_more others span.end end before bytes more within h.1,
    )

-- the last bytes
pub right_last : (before : List ℕ) (from at : ℕ) (kind : SpanKind) → at ≡ length before →
    (kind ≡ Blank → is_blank false (drop from before) ≡ true) → IsRight before (record { start = from; end = at; kind = kind })
right_last before from at kind is blank e =
    let count = length-drop from before in
    let all : at - from ≡ length (drop from before) = omega (arith, count, is) in
    ap (λ n. is_blank false (take n (drop from before))) all ∙ ap (is_blank false) (take-length (drop from before)) ∙ blank e
