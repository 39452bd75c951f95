-- Statements, headers, assignments and rules read on.
use Rattle.std.proofs.Common.{◌≡◌, ℕ, zero, suc, ◌<◌, ◌-◌, Bool, true, false, cond, List, length, take, drop}
use Rattle.std.proofs.Common.{Option, Some, None, Result, Ok, refl, sym, ap, subst, ◌∙◌, inl, inr, ◌==◌, arith}
use Rattle.std.specs.Prelude.{nat_eq, codes}
use Rattle.std.specs.List.{starts_with}
use Rattle.std.proofs.lemmas.List.{length-drop}
use Rattle.rule_reader.specs.TextBytes.{begins, is_white}
use Rattle.rule_reader.specs.ReadWords.{after, leading, is_word}
use Rattle.rule_reader.specs.laws.ReadRuns.{leading_parts}
use Rattle.apparmor_text.specs.declared.part.PartKind.TheVariants as parts
use Rattle.apparmor_words.specs.Blanks.{is_blank}
use Rattle.apparmor_words.specs.Steps.{Stop, left_out, fault_here, syntax_here}
use Rattle.apparmor_text.specs.Readings.{Reading, taken, taken_to}
use Rattle.apparmor_words.specs.Words.{is_path, is_colon}
use Rattle.apparmor_text.specs.WordParts.{blank_part, word_part, name_part, within_quotes}
use Rattle.apparmor_words.specs.Statements.{statement_end, past_word, boolean_at}
use Rattle.apparmor_text.specs.Statements.{statement_part, boolean_part}
use Rattle.apparmor_words.specs.Conditions.{past_condition, past_parentheses, unknown_flag}
use Rattle.apparmor_text.specs.Headers.{flags_to, condition_part, attachment_part, head_rest, named_head, profile_head}
use Rattle.apparmor_text.specs.Headers.{hat_head, caret_head}
use Rattle.apparmor_words.specs.Assignments.{past_use, past_separators, line_ends}
use Rattle.apparmor_text.specs.Assignments.{separators_part, values_at, values_part, white_part, operator_part, assignment_part}
use Rattle.apparmor_words.specs.laws.Shorter.{statement_end_shorter, boolean_shorter, leading_white, use_shorter}
use Rattle.apparmor_words.specs.laws.Steps.{bind_ok, chosen, ok_is, not_ok}
use Rattle.apparmor_text.specs.laws.Progress.{Goes, going_stays, going_on, going_taken}
use Rattle.apparmor_text.specs.laws.GoingWords.{Shortens, shorter_on, on_shorter, shortens_to, front_taken, blank_goes}
use Rattle.apparmor_text.specs.laws.GoingWords.{word_shortens, name_shortens, literal_goes}

-- ---- statements

pub statement_shortens : (s t : Reading) → statement_part s ≡ Ok t → Shortens s t
statement_shortens s t e =
    let p = bind_ok (statement_end s.rest) (λ rest. Ok (taken_to parts.Statement rest s)) t e in
    subst (λ u. Shortens s u) (ok_is (taken_to parts.Statement p.0 s) t p.2) (shortens_to parts.Statement p.0 s (λ b. absurd cc)
    (statement_end_shorter s.rest p.0 p.1))

pub boolean_shortens : (s t : Reading) → 0 < length s.rest → boolean_part s ≡ Ok t → Shortens s t
boolean_shortens s t there e =
    let p = bind_ok (boolean_at (drop 1 s.rest)) (λ rest. Ok (taken_to parts.Statement rest s)) t e in
    let a = boolean_shorter (drop 1 s.rest) p.0 p.1 in
    let b = length-drop 1 s.rest in
    subst (λ u. Shortens s u) (ok_is (taken_to parts.Statement p.0 s) t p.2) (shortens_to parts.Statement p.0 s (λ b. absurd cc)
    (omega (arith, a, b, there)))

-- ---- headers

flags_goes : (rest : List ℕ) (s t : Reading) → flags_to rest s ≡ Ok t → Goes s t
flags_goes rest s t e = at (unknown_flag (take (length s.rest - length rest) s.rest)) e
  where
    at : (flag : Option (List ℕ)) → ◌≡◌ {A = Result Reading Stop}
        (elim flag [ None ↦ Ok (taken_to parts.Flags rest s) | Some w ↦ fault_here (left_out w) s.rest ]) (Ok t) → Goes s t
    at None e = subst (λ u. Goes s u) (ok_is (taken_to parts.Flags rest s) t e)
        (going_taken parts.Flags (length s.rest - length rest) s (λ b. absurd cc))
    at (Some w) e = absurd (not_ok _ t e)

pub condition_goes : (s t : Reading) → condition_part s ≡ Ok t → Goes s t
condition_goes s t e =
    elim (chosen (is_word (codes "xattrs") s.rest) _ _ _ e) [
      | inl h ↦
          let p = bind_ok (past_word s.rest) _ t h.1 in
          let q = bind_ok (past_condition p.0) _ t p.2 in
          subst (λ u. Goes s u) (ok_is (taken_to parts.Xattrs q.0 s) t q.2)
          (going_taken parts.Xattrs (length s.rest - length q.0) s (λ b. absurd cc))
      | inr h ↦ elim (chosen (is_word (codes "flags") s.rest) _ _ _ h.1) [
        | inl g ↦
            let p = bind_ok (past_word s.rest) _ t g.1 in
            let q = bind_ok (past_condition p.0) _ t p.2 in
            flags_goes q.0 s t q.2
        | inr g ↦ elim (chosen (begins (λ b. b == 40) s.rest) _ _ _ g.1) [
          | inl k ↦ let p = bind_ok (past_parentheses s.rest) _ t k.1 in flags_goes p.0 s t p.2
          | inr k ↦ subst (λ u. Goes s u) (ok_is s t k.1) (going_stays s)
        ]
      ]
    ]

attachment_goes : (s t : Reading) → attachment_part s ≡ Ok t → Goes s t
attachment_goes s t e =
    elim (chosen (is_path s.rest) _ _ _ e) [
      | inl h ↦ (word_shortens parts.Attachment (λ b. absurd cc) s t h.1).goes
      | inr h ↦ elim (chosen (begins is_colon (within_quotes s.rest)) _ _ _ h.1) [
        | inl g ↦ absurd (not_ok _ t g.1)
        | inr g ↦ subst (λ u. Goes s u) (ok_is s t g.1) (going_stays s)
      ]
    ]

pub head_rest_goes : (s t : Reading) → head_rest s ≡ Ok t → Goes s t
unfolding head_rest
head_rest_goes s t e =
    let a = bind_ok (condition_part s) _ t e in
    let b = bind_ok (blank_part a.0) _ t a.2 in
    let c = bind_ok (condition_part b.0) _ t b.2 in
    let d = bind_ok (blank_part c.0) _ t c.2 in
    going_on s a.0 t (condition_goes s a.0 a.1)
    (going_on a.0 b.0 t (blank_goes a.0 b.0 b.1)
    (going_on b.0 c.0 t (condition_goes b.0 c.0 c.1)
    (going_on c.0 d.0 t (blank_goes c.0 d.0 d.1)
    (literal_goes parts.Open (λ b. absurd cc) (codes "{") d.0 t d.2))))

pub named_head_shortens : (s t : Reading) → named_head s ≡ Ok t → Shortens s t
unfolding named_head
named_head_shortens s t e =
    let a = bind_ok (name_part parts.Name s) _ t e in
    let b = bind_ok (blank_part a.0) _ t a.2 in
    let c = bind_ok (attachment_part b.0) _ t b.2 in
    let d = bind_ok (blank_part c.0) _ t c.2 in
    shorter_on s a.0 t (name_shortens parts.Name (λ b. absurd cc) s a.0 a.1)
    (going_on a.0 b.0 t (blank_goes a.0 b.0 b.1)
    (going_on b.0 c.0 t (attachment_goes b.0 c.0 c.1)
    (going_on c.0 d.0 t (blank_goes c.0 d.0 d.1) (head_rest_goes d.0 t d.2))))

pub profile_head_shortens : (s t : Reading) → profile_head s ≡ Ok t → Shortens s t
profile_head_shortens s t e =
    let a = bind_ok (blank_part (taken parts.Profile 7 s)) _ t e in
    let first = going_taken parts.Profile 7 s (λ b. absurd cc) in
    on_shorter s a.0 t (going_on s (taken parts.Profile 7 s) a.0 first (blank_goes (taken parts.Profile 7 s) a.0 a.1))
    (named_head_shortens a.0 t a.2)

pub hat_head_shortens : (s t : Reading) → hat_head s ≡ Ok t → Shortens s t
hat_head_shortens s t e =
    let a = bind_ok (blank_part (taken parts.Hat 3 s)) _ t e in
    let first = going_taken parts.Hat 3 s (λ b. absurd cc) in
    on_shorter s a.0 t (going_on s (taken parts.Hat 3 s) a.0 first (blank_goes (taken parts.Hat 3 s) a.0 a.1))
    (named_head_shortens a.0 t a.2)

pub caret_head_shortens : (s t : Reading) → caret_head s ≡ Ok t → Shortens s t
caret_head_shortens s t e =
    on_shorter s (taken parts.Hat 1 s) t (going_taken parts.Hat 1 s (λ b. absurd cc)) (named_head_shortens (taken parts.Hat 1 s) t e)

-- ---- assignments

pub separators_go : (s : Reading) → Goes s (separators_part s)
separators_go s = going_taken parts.Separator (length s.rest - length (past_separators s.rest)) s (λ b. absurd cc)

values_go : (n : ℕ) (s t : Reading) → values_at n s ≡ Ok t → Goes s t
values_go zero s t e = subst (λ u. Goes s u) (ok_is s t e) (going_stays s)
values_go (suc n) s t e =
    elim (chosen (line_ends (separators_part s).rest) _ _ _ e) [
      | inl h ↦ subst (λ u. Goes s u) (ok_is (separators_part s) t h.1) (separators_go s)
      | inr h ↦
          let p = bind_ok (word_part parts.Value (separators_part s)) (λ behind. values_at n behind) t h.1 in
          going_on s (separators_part s) t (separators_go s)
          (going_on (separators_part s) p.0 t (word_shortens parts.Value (λ b. absurd cc) (separators_part s) p.0 p.1).goes
          (values_go n p.0 t p.2))
    ]

values_part_goes : (s t : Reading) → values_part s ≡ Ok t → Goes s t
unfolding values_part
values_part_goes s t e =
    let p = bind_ok (word_part parts.Value (separators_part s)) (λ behind. values_at (suc (length behind.rest)) behind) t e in
    going_on s (separators_part s) t (separators_go s)
    (going_on (separators_part s) p.0 t (word_shortens parts.Value (λ b. absurd cc) (separators_part s) p.0 p.1).goes
    (values_go (suc (length p.0.rest)) p.0 t p.2))

white_goes : (s : Reading) → Goes s (white_part s)
white_goes s =
    let cut = leading_parts is_white s.rest in
    let front : take (length s.rest - length (after is_white s.rest)) s.rest ≡ leading is_white s.rest =
    subst (λ (x : List ℕ). take (length x - length (after is_white s.rest)) x ≡ leading is_white s.rest) (sym cut)
    (front_taken (leading is_white s.rest) (after is_white s.rest)) in
    going_taken parts.Blank (length s.rest - length (after is_white s.rest)) s (λ _. ap (is_blank false) front ∙ leading_white s.rest)

operator_goes : (s : Reading) → Goes s (operator_part s)
operator_goes s = at (starts_with nat_eq s.rest (codes "="))
  where
    at : (b : Bool) → Goes s (cond b (taken parts.Equals 1 s) (taken parts.Adds 2 s))
    at true = going_taken parts.Equals 1 s (λ b. absurd cc)
    at false = going_taken parts.Adds 2 s (λ b. absurd cc)

pub assignment_shortens : (s t : Reading) → assignment_part s ≡ Ok t → Shortens s t
unfolding assignment_part
assignment_shortens s t e = at (past_use s.rest) refl e
  where
    at : (o : Option (List ℕ)) → past_use s.rest ≡ o
        → ◌≡◌ {A = Result Reading Stop}
        (elim o [ None ↦ syntax_here s.rest | Some rest ↦ values_part (operator_part (white_part (taken_to parts.Variable rest s))) ])
        (Ok t) → Shortens s t
    at None u e = absurd (not_ok _ t e)
    at (Some rest) u e =
        let v = taken_to parts.Variable rest s in
        shorter_on s v t (shortens_to parts.Variable rest s (λ b. absurd cc) (use_shorter s.rest rest u))
        (going_on v (white_part v) t (white_goes v)
        (going_on (white_part v) (operator_part (white_part v)) t (operator_goes (white_part v))
        (values_part_goes (operator_part (white_part v)) t e)))
