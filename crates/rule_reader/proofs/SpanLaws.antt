-- The rules of a text are read again at their places.
use Rattle.std.proofs.Common.{◌≡◌, ℕ, zero, suc, ◌-◌, ◌+◌, ◌<◌, ◌≤◌, true, false, List, [], ◌∷◌, ◌++◌, length, drop, Result, Ok, refl, sym}
use Rattle.std.proofs.Common.{ap, subst, ◌∙◌, append_assoc, inl, inr, arith}
use Rattle.std.specs.Prelude.{codes}
use Rattle.std.proofs.lemmas.List.{length-append}
use Rattle.std.proofs.Math.Seq.{drop-append_seam}
use Rattle.rule_profile.specs.declared.profile.Span.{Span}
use Rattle.rule_reader.specs.declared.reader.local_fault.LocalFault.{LocalFault}
use Rattle.rule_reader.specs.declared.reader.local_fault.FaultKind.TheVariants as kinds
use Rattle.rule_reader.specs.Grammar.{print_header}
use Rattle.rule_reader.specs.GrammarWords.{print_blank}
use Rattle.rule_profile.specs.Profile.{RuleValue, ProfileValue}
use Rattle.rule_reader.specs.ReadHeader.{header_at}
use Rattle.rule_reader.specs.ReadSteps.{◌>>=◌, fault_here}
use Rattle.rule_reader.specs.ReadWords.{blank}
use Rattle.rule_reader.specs.ReadText.{rule_at, rule_begins, rules_at, end_at, text_at, outcome_of}
use Rattle.rule_reader.specs.Spans.{span_between, spans_at, spans_of, IsReadAgain, AreReadAgain}
use Rattle.rule_reader.specs.TextBytes.{begins, is_close_brace}
use Rattle.rule_reader.proofs.AgainTexts.{read_again}
use Rattle.rule_reader.proofs.ReadOutcomes.{read_as_outcome}
use Rattle.rule_reader.proofs.ReadSteps.{bind_ok, chosen, ok_is, not_ok}
use Rattle.rule_reader.proofs.SpanLoops.{spans_there}
use Rattle.rule_reader.proofs.TakeHeader.{header_takes, header_some}
use Rattle.rule_reader.proofs.TakeRules.{rule_ends, rules_some}
use Rattle.rule_reader.proofs.TakeWords.{middle_blank}

-- the bytes after a prefix of a text are found again by their number
found_again : (text front bytes : List ℕ) → text ≡ front ++ bytes → drop (length text - length bytes) text ≡ bytes
found_again text front bytes e =
    let long : length text ≡ length front + length bytes = ap length e ∙ length-append front bytes in
    let k : length text - length bytes ≡ length front = omega (arith, long) in
    ap (λ n. drop n text) k ∙ ap (drop (length front)) e ∙ drop-append_seam front bytes

-- a rule after a prefix of a text
rule_again : (text front bytes taken more : List ℕ) (r : RuleValue) → text ≡ front ++ bytes → bytes ≡ taken ++ more → 0 < length taken →
    rule_at bytes ≡ Ok (r, more) → IsReadAgain text r (span_between (length text) bytes more)
rule_again text front bytes taken more r e1 e2 some h =
    let long : length text ≡ length front + length bytes = ap length e1 ∙ length-append front bytes in
    let longer : length bytes ≡ length taken + length more = ap length e2 ∙ length-append taken more in
    let behind : text ≡ (front ++ taken) ++ more = e1 ∙ ap (λ (x : List ℕ). front ++ x) e2 ∙ sym (append_assoc front taken more) in
    record {
      some = omega (arith, long, longer, some);
      within = omega (arith, long, longer);
      read = rw (found_again text front bytes e1, found_again text (front ++ taken) more behind) h;
    }

abbrev done : List RuleValue × List ℕ → Result (List RuleValue × List ℕ) LocalFault
done x = Ok x

abbrev read_as : ProfileValue → Result ProfileValue LocalFault
read_as p = Ok p

-- no more rules are read
none_again : (text : List ℕ) (past : ℕ) (rest : List ℕ) (x : List RuleValue × List ℕ) (spans : List Span) → done ([], rest) ≡ Ok x →
    spans ≡ [] → AreReadAgain text past x.0 spans
none_again text past rest x spans e h =
    rw h (subst (λ (y : List RuleValue × List ℕ). AreReadAgain text past y.0 []) (ok_is ([], rest) x e) tt)

closed : (n room : ℕ) (bytes : List ℕ) → begins is_close_brace bytes ≡ true → spans_at n room bytes ≡ []
unfolding spans_at
closed n zero bytes h = refl
closed n (suc room) bytes h = rw (spans_at, h) refl

one_more : (n room : ℕ) (bytes : List ℕ) (r : RuleValue) (more from : List ℕ) → begins is_close_brace bytes ≡ false → rule_at bytes
    ≡ Ok (r, more) → blank more ≡ Ok from
    → spans_at n (suc room) bytes ≡ span_between n bytes more ∷ spans_at n room from
unfolding spans_at
one_more n room bytes r more from goes h b = rw (spans_at, goes, h, b) refl

-- one more rule is read, and a blank, if the others follow them
next_again : (text front bytes taken more blanks from : List ℕ) (past room : ℕ) (r : RuleValue) (rules : List RuleValue) →
    text ≡ front ++ bytes → bytes ≡ taken ++ more → more ≡ blanks ++ from → 0 < length taken → past ≤ length front
    → begins is_close_brace bytes ≡ false → rule_at bytes ≡ Ok (r, more) → blank more ≡ Ok from
    → ((ahead : List ℕ) → text ≡ ahead ++ from → length text - length more ≤ length ahead → AreReadAgain text (length text - length more)
    rules (spans_at (length text) room from))
    → AreReadAgain text past (r ∷ rules) (spans_at (length text) (suc room) bytes)
next_again text front bytes taken more blanks from past room r rules e1 e2 e3 some near goes h b others =
    let long : length text ≡ length front + length bytes = ap length e1 ∙ length-append front bytes in
    let longer : length bytes ≡ length taken + length more = ap length e2 ∙ length-append taken more in
    let behind : text ≡ ((front ++ taken) ++ blanks) ++ from = rw (e1, e2, e3) (simp append_assoc) in
    let nearer : length text - length more ≤ length ((front ++ taken) ++ blanks) =
    omega (arith, long, longer, length-append (front ++ taken) blanks, length-append front taken) in
    rw (one_more (length text) room bytes r more from goes h b)
    (omega (arith, long, near), rule_again text front bytes taken more r e1 e2 some h, others ((front ++ taken) ++ blanks) behind nearer)

those_again : (text : List ℕ) (past : ℕ) (spans : List Span) (x y : List RuleValue × List ℕ) → done x ≡ Ok y →
    AreReadAgain text past x.0 spans → AreReadAgain text past y.0 spans
those_again text past spans x y e h = subst (λ (z : List RuleValue × List ℕ). AreReadAgain text past z.0 spans) (ok_is x y e) h

-- rules after a prefix of a text
rules_again : (text : List ℕ) (room : ℕ) (front bytes : List ℕ) (past : ℕ) (x : List RuleValue × List ℕ) → rules_at room bytes ≡ Ok x →
    text ≡ front ++ bytes → past ≤ length front
    → AreReadAgain text past x.0 (spans_at (length text) room bytes)
unfolding rules_at
rules_again text zero front bytes past x e there near =
    elim (chosen (begins is_close_brace bytes) (Ok ([], drop 1 bytes)) (rule_begins bytes >>= λ _. fault_here kinds.TooManyRules bytes)
    (Ok x) e) [
      | inl h ↦ none_again text past (drop 1 bytes) x _ h.1 (closed (length text) zero bytes h.0)
      | inr h ↦ let k = bind_ok (rule_begins bytes) (λ _. fault_here kinds.TooManyRules bytes) x h.1 in absurd (not_ok _ x k.2)
    ]
rules_again text (suc room) front bytes past x e there near =
    let R : Type 0 = Result (List RuleValue × List ℕ) LocalFault in
    let cons : RuleValue → List RuleValue × List ℕ → R = λ r others. Ok (r ∷ others.0, others.1) in
    let put : RuleValue × List ℕ → R = λ first. blank first.1 >>= λ from. rules_at room from >>= cons first.0 in
    elim (chosen (begins is_close_brace bytes) (Ok ([], drop 1 bytes)) (rule_at bytes >>= put) (Ok x) e) [
      | inl h ↦ none_again text past (drop 1 bytes) x _ h.1 (closed (length text) (suc room) bytes h.0)
      | inr h ↦
          let f = bind_ok (rule_at bytes) put x h.1 in
          let g = bind_ok (blank f.0.1) (λ from. rules_at room from >>= cons f.0.0) x f.2 in
          let m = bind_ok (rules_at room g.0) (cons f.0.0) x g.2 in
          let t = rule_ends bytes f.0 f.1 in
          let b = middle_blank f.0.1 g.0 g.1 (rules_some room g.0 m.0 m.1) in
          those_again text past _ (f.0.0 ∷ m.0.0, m.0.1) x m.2
          (next_again text front bytes t.0 f.0.1 (print_blank b.0) g.0 past room f.0.0 m.0.0 there t.2 b.2 t.1 near h.0 f.1 g.1
          (λ ahead e k. rules_again text room ahead g.0 (length text - length f.0.1) m.0 m.1 e k))
    ]

-- the rules after a text's header
inside_again : (text from header name inside : List ℕ) (start within : List ℕ) (x : List RuleValue × List ℕ) → text ≡ start ++ from →
    from ≡ header ++ (codes "{" ++ name) → name ≡ within ++ inside → rules_at 1024 inside ≡ Ok x
    → AreReadAgain text 0 x.0 (spans_at (length text) 1024 inside)
inside_again text from header name inside start within x e1 e2 e3 h =
    let there : text ≡ ((start ++ header) ++ (codes "{" ++ within)) ++ inside = rw (e1, e2, e3) (simp append_assoc) in
    rules_again text 1024 ((start ++ header) ++ (codes "{" ++ within)) inside 0 x h there (omega arith)

that_text : (text : List ℕ) (spans : List Span) (p q : ProfileValue) → read_as p ≡ Ok q → AreReadAgain text 0 p.rules spans →
    AreReadAgain text 0 q.rules spans
that_text text spans p q e h = subst (λ (z : ProfileValue). AreReadAgain text 0 z.rules spans) (ok_is p q e) h

text_again : (text : List ℕ) (p : ProfileValue) → text_at text ≡ Ok p → AreReadAgain text 0 p.rules (spans_of text)
unfolding text_at
text_again text p e =
    let R : Type 0 = Result ProfileValue LocalFault in
    let s5 : List ℕ → List RuleValue → Unit {0} → R = λ name rules all. Ok (record { name = name; rules = rules }) in
    let s4 : List ℕ → List RuleValue → List ℕ → R = λ name rules past. end_at past >>= s5 name rules in
    let s3 : List ℕ → List RuleValue × List ℕ → R = λ name rules. blank rules.1 >>= s4 name rules.0 in
    let s2 : List ℕ → List ℕ → R = λ name inside. rules_at 1024 inside >>= s3 name in
    let s1 : List ℕ × List ℕ → R = λ name. blank name.1 >>= s2 name.0 in
    let s0 : List ℕ → R = λ from. header_at from >>= s1 in
    let a = bind_ok (blank text) s0 p e in
    let b = bind_ok (header_at a.0) s1 p a.2 in
    let c = bind_ok (blank b.0.1) (s2 b.0.0) p b.2 in
    let d = bind_ok (rules_at 1024 c.0) (s3 b.0.0) p c.2 in
    let f = bind_ok (blank d.0.1) (s4 b.0.0 d.0.0) p d.2 in
    let g = bind_ok (end_at f.0) (s5 b.0.0 d.0.0) p f.2 in
    let start = middle_blank text a.0 a.1 (header_some a.0 b.0 b.1) in
    let header = header_takes a.0 b.0 b.1 in
    let within = middle_blank b.0.1 c.0 c.1 (rules_some 1024 c.0 d.0 d.1) in
    that_text text (spans_of text) (record { name = b.0.0; rules = d.0.0 }) p g.2
    (rw (spans_there text a.0 b.0.0 b.0.1 c.0 a.1 b.1 c.1)
    (inside_again text a.0 (print_header header.written) b.0.1 c.0 (print_blank start.0) (print_blank within.0) d.0 start.2
    header.parts within.2 d.1))

pub spans_again : (text : List ℕ) (p : ProfileValue) → outcome_of text ≡ Ok p → AreReadAgain text 0 p.rules (spans_of text)
spans_again text p e = text_again text p (read_again text p ((read_as_outcome text p).1 e))
