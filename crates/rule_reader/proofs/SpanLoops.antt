-- Where rules are, one after the other, as a loop reads them.
use Rattle.std.proofs.Common.{◌≡◌, ℕ, zero, suc, ◌-◌, ◌+◌, ◌<◌, List, [], ◌∷◌, ◌++◌, length, map, Ok, refl, sym, ◌∙◌, append_assoc}
use Rattle.std.proofs.Common.{append-nil, arith}
use Rattle.std.proofs.lemmas.List.{length-append, map_push}
use Rattle.rule_profile.specs.declared.profile.Rule.{Rule}
use Rattle.rule_profile.specs.declared.profile.Span.{Span}
use Rattle.rule_profile.specs.Profile.{rule_value}
use Rattle.rule_reader.specs.ReadHeader.{header_at}
use Rattle.rule_reader.specs.ReadWords.{blank}
use Rattle.rule_reader.specs.ReadText.{rule_at}
use Rattle.rule_profile.specs.RuleSpans.{rule_span}
use Rattle.rule_reader.specs.Spans.{span_between, spans_at, spans_of}
use Rattle.rule_reader.proofs.ReadLoops.{closing, nothing, just, is_closing, not_closing}

-- there is no rule before the closing brace
ended : (n room : ℕ) (bytes rest : List ℕ) → closing bytes ≡ just rest → spans_at n room bytes ≡ []
unfolding spans_at
ended n zero bytes rest h = refl
ended n (suc room) bytes rest h = let p = is_closing bytes rest h in rw (spans_at, p.0) refl

-- there is one more rule here
one_more : (n i : ℕ) (bytes : List ℕ) (r : Rule) (more rest : List ℕ) → i < 1024 → closing bytes ≡ nothing → rule_at bytes
    ≡ Ok (rule_value r, more) → blank more ≡ Ok rest
    → spans_at n (1024 - i) bytes ≡ span_between n bytes more ∷ spans_at n (1024 - (i + 1)) rest
unfolding spans_at
one_more n i bytes r more rest lt none h b =
    let k : 1024 - i ≡ suc (1024 - (i + 1)) = omega arith in
    let no = not_closing bytes none in
    rw (k, spans_at, no, h, b) refl

pub spans_end : (n : ℕ) (rules : List Rule) (room : ℕ) (bytes rest : List ℕ) (total : List Span) → closing bytes ≡ just rest →
    map rule_span rules ++ spans_at n room bytes ≡ total → map rule_span rules ≡ total
spans_end n rules room bytes rest total h so_far = sym (append-nil (map rule_span rules)) ∙ rw (ended n room bytes rest h) at so_far

pub spans_step : (n : ℕ) (old new : List Rule) (bytes : List ℕ) (r : Rule) (more rest : List ℕ) (total : List Span) → new ≡ old ++ r ∷ [] →
    length old < 1024 → closing bytes ≡ nothing → rule_at bytes ≡ Ok (rule_value r, more) → blank more ≡ Ok rest
    → rule_span r ≡ span_between n bytes more → map rule_span old ++ spans_at n (1024 - length old) bytes ≡ total → map rule_span new
    ++ spans_at n (1024 - length new) rest ≡ total
spans_step n old new bytes r more rest total e lt none h b here so_far =
    let k : length (old ++ r ∷ []) ≡ length old + 1 = length-append old (r ∷ []) in
    let m : map rule_span (old ++ r ∷ []) ≡ map rule_span old ++ rule_span r ∷ [] = map_push rule_span old r in
    let one = one_more n (length old) bytes r more rest lt none h b in
    let regrouped : (map rule_span old ++ rule_span r ∷ []) ++ spans_at n (1024 - (length old + 1)) rest ≡ map rule_span old
    ++ (rule_span r ∷ spans_at n (1024 - (length old + 1)) rest) =
    append_assoc (map rule_span old) (rule_span r ∷ []) (spans_at n (1024 - (length old + 1)) rest) in
    rw (e, k, m, regrouped, here) (rw one at so_far)

-- the rules of a text come after its header
pub spans_there : (text from name rest inside : List ℕ) → blank text ≡ Ok from → header_at from ≡ Ok (name, rest) →
    blank rest ≡ Ok inside → spans_of text ≡ spans_at (length text) 1024 inside
unfolding spans_of
spans_there text from name rest inside h1 h2 h3 = rw (spans_of, h1, h2, h3) refl
