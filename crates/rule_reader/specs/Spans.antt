-- Where the rules of a text are in it.
use Rattle.std.specs.Prelude.{◌≡◌, ◌<◌, ◌≤◌, ℕ, zero, suc, ◌-◌, List, [], ◌∷◌, length, drop, Ok, Err, if◌then◌else◌}
use Rattle.rule_profile.specs.declared.profile.Span.{Span}
use Rattle.rule_profile.specs.Limits.{most_rules}
use Rattle.rule_profile.specs.Profile.{RuleValue}
use Rattle.rule_reader.specs.ReadHeader.{header_at}
use Rattle.rule_reader.specs.ReadSteps.{◌>>=◌}
use Rattle.rule_reader.specs.ReadWords.{blank}
use Rattle.rule_reader.specs.ReadText.{rule_at}
use Rattle.rule_reader.specs.TextBytes.{begins, is_close_brace}

-- in a text of n bytes, from where `from` is left to where `past` is left
abbrev pub span_between : ℕ → List ℕ → List ℕ → Span
span_between n from past = record { start = n - length from; end = n - length past }

-- The rules up to the closing brace, at most as many as there is room for, or up to the first fault: where each of them is in a
-- text of n bytes, of which these are left. A rule is read from its first byte to its comma, followed by the blank after it.
unfoldable pub spans_at : ℕ → ℕ → List ℕ → List Span
spans_at n zero bytes = []
spans_at n (suc room) bytes =
    if begins is_close_brace bytes then []
    else elim (rule_at bytes) [
      | Err s ↦ []
      | Ok first ↦ span_between n bytes first.1 ∷ elim (blank first.1) [ Err s ↦ [] | Ok from ↦ spans_at n room from ]
    ]

-- where the rules after the text's header are
unfoldable pub spans_of : List ℕ → List Span
spans_of text = elim (blank text >>= λ from. header_at from >>= λ name. blank name.1) [
  | Err s ↦ []
  | Ok inside ↦ spans_at (length text) most_rules inside
]

-- Read from the span's start on, the text is read as this rule, up to the span's end.
pub record IsReadAgain (text : List ℕ) (rule : RuleValue) (span : Span) : Type 0 where
  pub some : span.start < span.end
  pub within : span.end ≤ length text
  pub read : rule_at (drop span.start text) ≡ Ok (rule, drop span.end text)

-- The same for each of the rules, which follow one another from byte `past` on.
abbrev pub AreReadAgain : List ℕ → ℕ → List RuleValue → List Span → Type 0
AreReadAgain text past [] [] = Unit {0}
AreReadAgain text past (rule ∷ rules) (span ∷ spans) =
    (past ≤ span.start) × IsReadAgain text rule span × AreReadAgain text span.end rules spans
AreReadAgain text past [] (span ∷ spans) = ⊥
AreReadAgain text past (rule ∷ rules) [] = ⊥
