-- Paths: what is read is in the grammar.
use Rattle.rule_profile.specs.PathTokens.{is_plain_slash}
use Rattle.std.proofs.Common.{◌≡◌, ℕ, zero, suc, ◌≤◌, ◌<◌, Bool, true, false, cond, eqb, List, [], ◌∷◌, ◌++◌, length, drop, Result, Ok}
use Rattle.std.proofs.Common.{refl, sym, ap, subst, ◌∙◌, append_assoc, ◌⊎◌, inl, inr, ◌==◌, arith, length-drop}
use Rattle.std.specs.Prelude.{◌||◌, ◌&&◌, not, nat_eq, nat_le, codes}
use Rattle.std.specs.Char.{is_ascii_alphanumeric}
use Rattle.std.specs.List.{starts_with}
use Rattle.std.proofs.lemmas.Bool.{eqb-true, eqb-false, leb-false, and_parts, and_from, and_cases, and_left, and_right, or_parts, or_from}
use Rattle.std.proofs.lemmas.Bool.{not_from_false, not-false, not-true, eq-eqb, ne_eqb, false_from_ne_true}
use Rattle.rule_globs.specs.declared.items.ByteRange.{ByteRange}
use Rattle.rule_reader.specs.declared.reader.local_fault.LocalFault.{LocalFault}
use Rattle.rule_reader.specs.declared.reader.local_fault.FaultKind.TheVariants as kinds
use Rattle.rule_globs.specs.Glob.{is_slash}
use Rattle.rule_reader.specs.GrammarWords.{plain, escaped, may_stand}
use Rattle.rule_reader.specs.GrammarPaths.{WrittenItem, cell, question, star, two_stars, class, open_brace, comma, close_brace, star_bytes}
use Rattle.rule_reader.specs.GrammarPaths.{print_item, print_items, first_byte, next_is, stands_for_itself, IsItem, depth_behind_item}
use Rattle.rule_reader.specs.GrammarPaths.{AreItems, is_plain_slash_item, slash_or_end_behind_item, item_means, items_mean, WrittenPath}
use Rattle.rule_reader.specs.GrammarPaths.{print_path, IsAbsolute, IsPath, path_means}
use Rattle.rule_reader.specs.ReadPaths.{comma_ends, path_ends, escaped_at, goes_on_at, slash_or_end, token_at, braces_behind, all_closed}
use Rattle.rule_reader.specs.ReadPaths.{tokens_at, no_byte, path_in, path_at}
use Rattle.rule_reader.specs.ReadSteps.{◌>>=◌, goes_on, fault_here, fault_with_left, syntax}
use Rattle.rule_reader.specs.ReadClasses.{class_at}
use Rattle.rule_reader.specs.ReadWords.{after, literal}
use Rattle.rule_reader.specs.TextBytes.{begins, is_white, is_quote, is_comma, is_star, is_hash, is_open_brace, is_close_brace}
use Rattle.rule_reader.specs.TextBytes.{ends_behind_comma, is_escapable}
use Rattle.rule_globs.specs.Tokens.{Token, byte, any_byte, bracket, stars, opening, between, closing}
use Rattle.rule_reader.proofs.ReadSteps.{bind_ok, chosen, ok_is, not_ok}
use Rattle.rule_reader.proofs.TakeWords.{no_line_feed, begins_so, literal_takes, NoHash}
use Rattle.rule_reader.proofs.TakeClasses.{ClassTaken, class_takes}

-- ---- what is here: the path's end, or a byte of it

-- an item begins here
record GoesOn (quoted : Bool) (depth b : ℕ) (bytes : List ℕ) : Type 0 where
  fine : (b == 0 || (quoted && b == 10)) ≡ false
  inside : path_ends quoted depth (b ∷ bytes) ≡ false
  shallow : (is_open_brace b && nat_le 50 depth) ≡ false
  opened : (is_close_brace b && (depth == 0)) ≡ false
  variable : (b == 64 && begins is_open_brace bytes) ≡ false

goes_take : (quoted : Bool) (depth b : ℕ) (bytes : List ℕ) (more : Bool) → goes_on_at quoted depth (b ∷ bytes) ≡ Ok more
    → ((more ≡ false) × (path_ends quoted depth (b ∷ bytes) ≡ true)) ⊎ ((more ≡ true) × GoesOn quoted depth b bytes)
unfolding goes_on_at
goes_take quoted depth b bytes more e =
    let R : Type 0 = Result Bool LocalFault in
    let G : Type 0 = ((more ≡ false) × (path_ends quoted depth (b ∷ bytes) ≡ true)) ⊎ ((more ≡ true) × GoesOn quoted depth b bytes) in
    let s5 : R = cond (b == 92) (escaped_at bytes >>= λ _. Ok true) (Ok true) in
    let s4 : R = cond (b == 64 && begins is_open_brace bytes) (fault_here (kinds.LeftOut 2) (b ∷ bytes)) s5 in
    let s3 : R = cond (is_close_brace b && (depth == 0)) (fault_here kinds.Group (b ∷ bytes)) s4 in
    let s2 : R = cond (is_open_brace b && nat_le 50 depth) (fault_here kinds.Depth (b ∷ bytes)) s3 in
    let s1 : R = cond (path_ends quoted depth (b ∷ bytes)) (Ok false) s2 in
    elim (chosen (b == 0 || (quoted && b == 10)) (syntax (b ∷ bytes)) s1 (Ok more) e) [
      | inl h ↦ absurd (not_ok _ more h.1)
      | inr h0 ↦ elim (chosen (path_ends quoted depth (b ∷ bytes)) (Ok false) s2 (Ok more) h0.1) [
        | inl h ↦ inl (sym (ok_is false more h.1), h.0)
        | inr h1 ↦ elim (chosen (is_open_brace b && nat_le 50 depth) (fault_here kinds.Depth (b ∷ bytes)) s3 (Ok more) h1.1) [
          | inl h ↦ absurd (not_ok _ more h.1)
          | inr h2 ↦ elim (chosen (is_close_brace b && (depth == 0)) (fault_here kinds.Group (b ∷ bytes)) s4 (Ok more) h2.1) [
            | inl h ↦ absurd (not_ok _ more h.1)
            | inr h3 ↦ elim (chosen (b == 64 && begins is_open_brace bytes) (fault_here (kinds.LeftOut 2) (b ∷ bytes)) s5 (Ok more) h3.1) [
              | inl h ↦ absurd (not_ok _ more h.1)
              | inr h4 ↦
                  let all : GoesOn quoted depth b bytes = record {
                    fine = h0.0;
                    inside = h1.0;
                    shallow = h2.0;
                    opened =
                        h3.0;
                    variable = h4.0;
                  } in
                  elim (chosen (b == 92) (escaped_at bytes >>= λ _. Ok true) (Ok true) (Ok more) h4.1) [
                    | inl h ↦ let k = bind_ok (escaped_at bytes) (λ _. Ok true) more h.1 in inr (sym (ok_is true more k.2), all)
                    | inr h ↦ inr (sym (ok_is true more h.1), all)
                  ]
            ]
          ]
        ]
      ]
    ]

path_ends_at : (quoted : Bool) (depth : ℕ) (bytes : List ℕ) → goes_on_at quoted depth bytes ≡ Ok false →
    path_ends quoted depth bytes ≡ true
unfolding goes_on_at
path_ends_at true depth [] e = absurd (not_ok _ false e)
path_ends_at false depth [] e = refl
path_ends_at quoted depth (b ∷ bytes) e =
    elim (goes_take quoted depth b bytes false e) [
      | inl h ↦ h.1
      | inr h ↦ absurd (let no = h.0 in cc)
    ]

-- what ends a bare path also ends it after a comma
comma_ends_too : (q w m x h k : Bool) → (q || (w || (m && true && x))) ≡ true → (w || h || k || q || m) ≡ true
comma_ends_too q true m x h k e = refl
comma_ends_too q false m x true k e = refl
comma_ends_too q false m x false true e = refl
comma_ends_too true false m x false false e = refl
comma_ends_too false false true x false false e = refl
comma_ends_too false false false x false false e = absurd cc

pub end_behind_comma : (rest : List ℕ) → path_ends false 0 rest ≡ true → comma_ends rest ≡ true
end_behind_comma [] e = refl
end_behind_comma (b ∷ rest) e = comma_ends_too (is_quote b) (is_white b) (is_comma b) (comma_ends rest) (is_hash b) (is_close_brace b) e

-- ---- an item is in the grammar

-- where the text has no such byte, the path has none
next_false : (test : ℕ → Bool) (bytes w rest : List ℕ) → bytes ≡ w ++ rest → begins test bytes ≡ false →
    next_is test (first_byte w) ≡ false
next_false test bytes [] rest e h = refl
next_false test bytes (b ∷ w) rest e h = ap (begins test) (sym e) ∙ h

-- if the byte after a comma doesn't end the path there, it is one of the path
comma_next : (bytes w rest : List ℕ) → bytes ≡ w ++ rest → path_ends false 0 rest ≡ true → comma_ends bytes ≡ false →
    next_is (λ c. not (ends_behind_comma c)) (first_byte w) ≡ true
comma_next bytes [] rest e ends h = let yes = end_behind_comma rest ends in let same : comma_ends bytes ≡ comma_ends rest =
    ap comma_ends e in absurd cc
comma_next bytes (b ∷ w) rest e ends h = not_from_false (ends_behind_comma b) (ap comma_ends (sym e) ∙ h)

record OneItem (quoted : Bool) (depth : ℕ) (after_slash : Bool) (bytes : List ℕ) (t : Token) (middle : List ℕ) : Type 0 where
  written : WrittenItem
  parts : bytes ≡ print_item written ++ middle
  valid : (w rest : List ℕ) → middle ≡ w ++ rest → path_ends quoted 0 rest ≡ true → IsItem quoted depth (first_byte w) written
  means : (strict : Bool) → slash_or_end quoted (depth_behind_item written depth) middle ≡ strict →
      item_means (after_slash && strict) written ≡ t
  slash : (begins is_slash bytes || starts_with nat_eq bytes (codes "\\/")) ≡ is_plain_slash_item written
  same : is_plain_slash t ≡ is_plain_slash_item written
  deeper : (left : ℕ) (braces : List ℕ) → length braces ≡ depth → length (braces_behind t left braces) ≡ depth_behind_item written depth

-- a run of stars is n stars, and no star follows it
run_of_stars : (bytes : List ℕ) → (n : ℕ) × (bytes ≡ star_bytes n ++ after is_star bytes) × (begins is_star (after is_star bytes) ≡ false)
run_of_stars [] = (0, refl, refl)
run_of_stars (b ∷ bytes) =
    let h = run_of_stars bytes in
    let P : (t : Bool) → is_star b ≡ t → (n : ℕ) × (b ∷ bytes ≡ star_bytes n ++ cond t (after is_star bytes) (b ∷ bytes))
    × (begins is_star (cond t (after is_star bytes) (b ∷ bytes)) ≡ false) =
    λ t. elim t as (λ t. is_star b ≡ t → (n : ℕ) × (b ∷ bytes ≡ star_bytes n ++ cond t (after is_star bytes) (b ∷ bytes))
    × (begins is_star (cond t (after is_star bytes) (b ∷ bytes)) ≡ false)) [
      | true ↦ λ e. (suc h.0, (let same : b ≡ 42 = eqb-true b 42 e in let tail = h.1 in cc), h.2)
      | false ↦ λ e. (0, refl, e)
    ] in
    P (is_star b) refl

-- the run whose first star is read
abbrev RunTaken : Bool → ℕ → Bool → List ℕ → Bool → List ℕ → Type 0
RunTaken quoted depth after_slash bytes crosses middle = OneItem quoted depth after_slash (42 ∷ bytes)
    (stars crosses (after_slash && slash_or_end quoted depth middle)) middle

one_star : (quoted : Bool) (depth : ℕ) (after_slash : Bool) (bytes : List ℕ) → begins is_star bytes ≡ false →
    RunTaken quoted depth after_slash bytes false bytes
one_star quoted depth after_slash bytes e = record {
  written = star;
  parts = refl;
  valid = λ w rest p ends. next_false is_star bytes w rest p e;
  means = λ strict h. ap (λ t. stars false (after_slash && t)) (sym h);
  slash = refl;
  same = refl;
  deeper = λ left braces l. l;
}

more_stars : (quoted : Bool) (depth : ℕ) (after_slash : Bool) (n : ℕ) (bytes middle : List ℕ) → bytes ≡ 42 ∷ (star_bytes n ++ middle) →
    begins is_star middle ≡ false → RunTaken quoted depth after_slash bytes true middle
more_stars quoted depth after_slash n bytes middle p e = record {
  written = two_stars n;
  parts = ap (λ (x : List ℕ). 42 ∷ x) p;
  valid = λ w rest q ends. next_false is_star middle w rest q e;
  means = λ strict h. ap (λ t. stars true (after_slash && t)) (sym h);
  slash = refl;
  same = refl;
  deeper = λ left braces l. l;
}

star_takes : (quoted : Bool) (depth : ℕ) (after_slash : Bool) (bytes : List ℕ) → RunTaken quoted depth after_slash bytes
    (begins is_star bytes) (after is_star bytes)
star_takes quoted depth after_slash [] = one_star quoted depth after_slash [] refl
star_takes quoted depth after_slash (d ∷ bytes) =
    let h = run_of_stars bytes in
    let P : (t : Bool) → is_star d ≡ t → RunTaken quoted depth after_slash (d ∷ bytes) t (cond t (after is_star bytes) (d ∷ bytes)) =
    λ t. elim t as (λ t. is_star d ≡ t → RunTaken quoted depth after_slash (d ∷ bytes) t (cond t (after is_star bytes) (d ∷ bytes))) [
      | true ↦ λ e. more_stars quoted depth after_slash h.0 (d ∷ bytes) (after is_star bytes) (let second : d ≡ 42 = eqb-true d 42 e in
          let tail = h.1 in cc) h.2
      | false ↦ λ e. one_star quoted depth after_slash (d ∷ bytes) e
    ] in
    P (is_star d) refl

question_takes : (quoted : Bool) (depth : ℕ) (after_slash : Bool) (bytes : List ℕ) → OneItem quoted depth after_slash
    (63 ∷ bytes) any_byte bytes
question_takes quoted depth after_slash bytes = record {
  written = question;
  parts = refl;
  valid = λ w rest p ends. tt;
  means =
      λ strict h. refl;
  slash = refl;
  same = refl;
  deeper = λ left braces l. l;
}

class_item : (quoted : Bool) (depth : ℕ) (after_slash : Bool) (bytes : List ℕ) (x : (Bool × List ByteRange) × List ℕ) →
    ClassTaken quoted bytes x.0.0 x.0.1 x.1 → OneItem quoted depth after_slash (91 ∷ bytes) (bracket x.0.0 x.0.1) x.1
class_item quoted depth after_slash bytes x t = record {
  written = class t.written;
  parts = t.parts;
  valid = λ w rest p ends. t.valid;
  means = λ strict h. (let n = t.same_negated in let r = t.same_ranges in cc);
  slash = refl;
  same = refl;
  deeper = λ left braces l. l;
}

opening_takes : (quoted : Bool) (depth : ℕ) (after_slash : Bool) (bytes : List ℕ) → nat_le 50 depth ≡ false →
    OneItem quoted depth after_slash (123 ∷ bytes) opening bytes
opening_takes quoted depth after_slash bytes e = record {
  written = open_brace;
  parts = refl;
  valid =
      λ w rest p ends. leb-false 50 depth e;
  means = λ strict h. refl;
  slash = refl;
  same = refl;
  deeper = λ left braces l. ap suc l;
}

some_open : (depth : ℕ) → (depth == 0) ≡ false → 0 < depth
some_open depth e = let none : depth ≡ 0 → ⊥ = eqb-false depth 0 e in omega arith

closing_takes : (quoted : Bool) (depth : ℕ) (after_slash : Bool) (bytes : List ℕ) → (depth == 0) ≡ false → OneItem quoted depth after_slash
    (125 ∷ bytes) closing bytes
closing_takes quoted depth after_slash bytes e = record {
  written = close_brace;
  parts = refl;
  valid = λ w rest p ends. some_open depth e;
  means = λ strict h. refl;
  slash = refl;
  same = refl;
  deeper = λ left braces l. (let d = length-drop 1 braces in omega arith);
}

comma_takes : (quoted : Bool) (depth : ℕ) (after_slash : Bool) (bytes : List ℕ) → (depth == 0) ≡ false → OneItem quoted depth after_slash
    (44 ∷ bytes) between bytes
comma_takes quoted depth after_slash bytes e = record {
  written = comma;
  parts = refl;
  valid = λ w rest p ends. some_open depth e;
  means =
      λ strict h. refl;
  slash = refl;
  same = refl;
  deeper = λ left braces l. l;
}

-- a test on both sides of a number
swapped : (a b : ℕ) → eqb a b ≡ eqb b a
swapped a b =
    let P : (t : Bool) → eqb a b ≡ t → t ≡ eqb b a = λ t. elim t as (λ t. eqb a b ≡ t → t ≡ eqb b a) [
      | true ↦ λ e. sym (eq-eqb b a (sym (eqb-true a b e)))
      | false ↦ λ e. sym (ne_eqb b a (λ h. eqb-false a b e (sym h)))
    ] in
    P (eqb a b) refl

and_true : (t : Bool) → t && true ≡ t
and_true true = refl
and_true false = refl

or_false : (t : Bool) → t || false ≡ t
or_false true = refl
or_false false = refl

escaped_takes : (quoted : Bool) (depth : ℕ) (after_slash : Bool) (c : ℕ) (bytes : List ℕ) → is_escapable c ≡ true →
    OneItem quoted depth after_slash (92 ∷ c ∷ bytes) (byte c) bytes
escaped_takes quoted depth after_slash c bytes e = record {
  written = cell (escaped c);
  parts = refl;
  valid = λ w rest p ends. e;
  means = λ strict h. refl;
  slash = and_true (nat_eq 47 c) ∙ swapped 47 c;
  same = refl;
  deeper = λ left braces l. l;
}

-- a byte by itself is allowed
stand_so : (quoted z l w c : Bool) → (z || (quoted && l)) ≡ false → (not quoted && (w || c)) ≡ false → (w ≡ false → l ≡ false) →
    not (z || l || (not quoted && w)) ≡ true
stand_so quoted true l w c e1 e2 e3 = absurd cc
stand_so true false true w c e1 e2 e3 = absurd cc
stand_so true false false w c e1 e2 e3 = refl
stand_so false false l true c e1 e2 e3 = absurd cc
stand_so false false true false c e1 e2 e3 = let no = e3 refl in absurd cc
stand_so false false false false c e1 e2 e3 = refl

-- what it isn't
record Plain (depth b : ℕ) : Type 0 where
  no_star : is_star b ≡ false
  no_question : (b == 63) ≡ false
  no_bracket : (b == 91) ≡ false
  no_open : is_open_brace b ≡ false
  no_close : is_close_brace b ≡ false
  no_comma : (is_comma b && not (depth == 0)) ≡ false
  no_backslash : (b == 92) ≡ false

-- a comma after which the path goes on
comma_stays : (quoted : Bool) (depth b : ℕ) (bytes w rest : List ℕ) →
    (not quoted && (is_white b || (is_comma b && (depth == 0) && comma_ends bytes))) ≡ false → is_comma b ≡ true → (depth == 0) ≡ true
    → bytes ≡ w ++ rest → path_ends quoted 0 rest ≡ true → (quoted || next_is (λ c. not (ends_behind_comma c)) (first_byte w)) ≡ true
comma_stays true depth b bytes w rest h e1 e2 p ends = refl
comma_stays false depth b bytes w rest h e1 e2 p ends =
    let k = or_parts (is_white b) (is_comma b && (depth == 0) && comma_ends bytes) h in
    let none : comma_ends bytes ≡ false = sym (ap (λ t. t && comma_ends bytes) (and_from (is_comma b) (depth == 0) e1 e2)) ∙ k.1 in
    comma_next bytes w rest p ends none

plain_valid : (quoted : Bool) (depth b : ℕ) (bytes w rest : List ℕ) → GoesOn quoted depth b bytes → Plain depth b → bytes ≡ w ++ rest →
    path_ends quoted 0 rest ≡ true → stands_for_itself quoted depth (first_byte w) b ≡ true
plain_valid quoted depth b bytes w rest g n p ends =
    let ends_not = or_parts (is_quote b) (not quoted && (is_white b || (is_comma b && (depth == 0) && comma_ends bytes))) g.inside in
    let A : Bool = may_stand quoted b in
    let B : Bool = not (is_quote b || b == 42 || b == 63 || b == 91 || b == 92 || b == 123 || b == 125) in
    let C : Bool = not (b == 44 && not ((depth == 0) && (quoted || next_is (λ c. not (ends_behind_comma c)) (first_byte w)))) in
    let D : Bool = not (b == 64 && next_is is_open_brace (first_byte w)) in
    let a : A ≡ true = stand_so quoted (b == 0) (b == 10) (is_white b) (is_comma b && (depth == 0) && comma_ends bytes) g.fine ends_not.1
    (no_line_feed b) in
    let o1 = or_from (is_quote b) (b == 42) ends_not.0 n.no_star in
    let o2 = or_from (is_quote b || b == 42) (b == 63) o1 n.no_question in
    let o3 = or_from (is_quote b || b == 42 || b == 63) (b == 91) o2 n.no_bracket in
    let o4 = or_from (is_quote b || b == 42 || b == 63 || b == 91) (b == 92) o3 n.no_backslash in
    let o5 = or_from (is_quote b || b == 42 || b == 63 || b == 91 || b == 92) (b == 123) o4 n.no_open in
    let bb : B ≡ true = not_from_false (is_quote b || b == 42 || b == 63 || b == 91 || b == 92 || b == 123 || b == 125)
    (or_from (is_quote b || b == 42 || b == 63 || b == 91 || b == 92 || b == 123) (b == 125) o5 n.no_close) in
    let N : Bool = next_is (λ c. not (ends_behind_comma c)) (first_byte w) in
    let P : (t : Bool) → (b == 44) ≡ t → not (t && not ((depth == 0) && (quoted || N))) ≡ true =
    λ t. elim t as (λ t. (b == 44) ≡ t → not (t && not ((depth == 0) && (quoted || N))) ≡ true) [
      | true ↦ λ e.
          let outside : (depth == 0) ≡ true = not-false (depth == 0) (ap (λ t. t && not (depth == 0)) (sym e) ∙ n.no_comma) in
          ap (λ t. not (not t))
          (and_from (depth == 0) (quoted || N) outside (comma_stays quoted depth b bytes w rest ends_not.1 e outside p ends))
      | false ↦ λ e. refl
    ] in
    let c : C ≡ true = P (b == 44) refl in
    let d : D ≡ true = elim (and_cases (b == 64) (begins is_open_brace bytes) g.variable) [
      | inl e ↦ not_from_false (b == 64 && next_is is_open_brace (first_byte w))
          (and_left (b == 64) (next_is is_open_brace (first_byte w)) e)
      | inr e ↦ not_from_false (b == 64 && next_is is_open_brace (first_byte w))
          (and_right (b == 64) (next_is is_open_brace (first_byte w)) (next_false is_open_brace bytes w rest p e))
    ] in
    and_from (A && B && C) D (and_from (A && B) C (and_from A B a bb) c) d

byte_takes : (quoted : Bool) (depth : ℕ) (after_slash : Bool) (b : ℕ) (bytes : List ℕ) → GoesOn quoted depth b bytes → Plain depth b →
    OneItem quoted depth after_slash (b ∷ bytes) (byte b) bytes
byte_takes quoted depth after_slash b bytes g n = record {
  written = cell (plain b);
  parts = refl;
  valid = λ w rest p ends. plain_valid quoted depth b bytes w rest g n p ends;
  means = λ strict h. refl;
  slash = ap (λ t. is_slash b || (t && starts_with nat_eq bytes (codes "/"))) (swapped 92 b ∙ n.no_backslash) ∙ or_false (is_slash b);
  same = refl;
  deeper = λ left braces l. l;
}

that_item : (quoted : Bool) (depth : ℕ) (after_slash : Bool) (k b : ℕ) (bytes : List ℕ) (x y : Token × List ℕ) → b ≡ k → x ≡ y →
    OneItem quoted depth after_slash (k ∷ bytes) x.0 x.1 → OneItem quoted depth after_slash (b ∷ bytes) y.0 y.1
that_item quoted depth after_slash k b bytes x y same e t =
    subst (λ (y : Token × List ℕ). OneItem quoted depth after_slash (b ∷ bytes) y.0 y.1) e
    (subst (λ (n : ℕ). OneItem quoted depth after_slash (n ∷ bytes) x.0 x.1) (sym same) t)

escaped_at_takes : (bytes : List ℕ) (y : ℕ × List ℕ) → escaped_at bytes ≡ Ok y → (bytes ≡ y.0 ∷ y.1) × (is_escapable y.0 ≡ true)
escaped_at_takes [] y e = absurd (not_ok _ y e)
escaped_at_takes (b ∷ bytes) y e =
    let R : Type 0 = Result (ℕ × List ℕ) LocalFault in
    let second : R = cond (is_ascii_alphanumeric b) (fault_with_left (kinds.LeftOut 2) (suc (length (b ∷ bytes))) (b ∷ bytes))
    (Ok (b, bytes)) in
    elim (chosen (b == 0 || b == 10) (syntax (b ∷ bytes)) second (Ok y) e) [
      | inl h ↦ absurd (not_ok _ y h.1)
      | inr h ↦ elim (chosen (is_ascii_alphanumeric b) (fault_with_left (kinds.LeftOut 2) (suc (length (b ∷ bytes))) (b ∷ bytes))
          (Ok (b, bytes)) (Ok y) h.1) [
            | inl g ↦ absurd (not_ok _ y g.1)
            | inr g ↦
                let fine : is_escapable b ≡ true = not_from_false (b == 0 || b == 10 || is_ascii_alphanumeric b)
                (or_from (b == 0 || b == 10) (is_ascii_alphanumeric b) h.0 g.0) in
                subst (λ (y : ℕ × List ℕ). (b ∷ bytes ≡ y.0 ∷ y.1) × (is_escapable y.0 ≡ true)) (ok_is (b, bytes) y g.1) (refl, fine)
          ]
    ]

token_takes : (quoted : Bool) (depth : ℕ) (after_slash : Bool) (b : ℕ) (bytes : List ℕ) (x : Token × List ℕ) →
    GoesOn quoted depth b bytes → token_at quoted depth after_slash (b ∷ bytes) ≡ Ok x →
    OneItem quoted depth after_slash (b ∷ bytes) x.0 x.1
unfolding token_at
token_takes quoted depth after_slash b bytes x g e =
    let R : Type 0 = Result (Token × List ℕ) LocalFault in
    let run : Token × List ℕ =
    (stars (begins is_star bytes) (after_slash && slash_or_end quoted depth (after is_star bytes)), after is_star bytes) in
    let put_class : (Bool × List ByteRange) × List ℕ → R = λ x. Ok (bracket x.0.0 x.0.1, x.1) in
    let put_byte : ℕ × List ℕ → R = λ x. Ok (byte x.0, x.1) in
    let s7 : R = Ok (byte b, bytes) in
    let s6 : R = cond (b == 92) (escaped_at bytes >>= put_byte) s7 in
    let s5 : R = cond (is_comma b && not (depth == 0)) (Ok (between, bytes)) s6 in
    let s4 : R = cond (is_close_brace b) (Ok (closing, bytes)) s5 in
    let s3 : R = cond (is_open_brace b) (Ok (opening, bytes)) s4 in
    let s2 : R = cond (b == 91) (class_at quoted (length (b ∷ bytes)) bytes >>= put_class) s3 in
    let s1 : R = cond (b == 63) (Ok (any_byte, bytes)) s2 in
    let that = that_item quoted depth after_slash in
    elim (chosen (is_star b) (Ok run) s1 (Ok x) e) [
      | inl h ↦ that 42 b bytes run x (eqb-true b 42 h.0) (ok_is run x h.1) (star_takes quoted depth after_slash bytes)
      | inr h0 ↦ elim (chosen (b == 63) (Ok (any_byte, bytes)) s2 (Ok x) h0.1) [
        | inl h ↦ that 63 b bytes (any_byte, bytes) x (eqb-true b 63 h.0) (ok_is (any_byte, bytes) x h.1)
            (question_takes quoted depth after_slash bytes)
        | inr h1 ↦ elim (chosen (b == 91) (class_at quoted (length (b ∷ bytes)) bytes >>= put_class) s3 (Ok x) h1.1) [
          | inl h ↦
              let k = bind_ok (class_at quoted (length (b ∷ bytes)) bytes) put_class x h.1 in
              that 91 b bytes (bracket k.0.0.0 k.0.0.1, k.0.1) x (eqb-true b 91 h.0) (ok_is (bracket k.0.0.0 k.0.0.1, k.0.1) x k.2)
              (class_item quoted depth after_slash bytes k.0 (class_takes quoted (length (b ∷ bytes)) bytes k.0 k.1))
          | inr h2 ↦ elim (chosen (is_open_brace b) (Ok (opening, bytes)) s4 (Ok x) h2.1) [
            | inl h ↦
                let shallow : nat_le 50 depth ≡ false = ap (λ t. t && nat_le 50 depth) (sym h.0) ∙ g.shallow in
                that 123 b bytes (opening, bytes) x (eqb-true b 123 h.0) (ok_is (opening, bytes) x h.1)
                (opening_takes quoted depth after_slash bytes shallow)
            | inr h3 ↦ elim (chosen (is_close_brace b) (Ok (closing, bytes)) s5 (Ok x) h3.1) [
              | inl h ↦
                  let opened : (depth == 0) ≡ false = ap (λ t. t && (depth == 0)) (sym h.0) ∙ g.opened in
                  that 125 b bytes (closing, bytes) x (eqb-true b 125 h.0) (ok_is (closing, bytes) x h.1)
                  (closing_takes quoted depth after_slash bytes opened)
              | inr h4 ↦ elim (chosen (is_comma b && not (depth == 0)) (Ok (between, bytes)) s6 (Ok x) h4.1) [
                | inl h ↦
                    let k = and_parts (is_comma b) (not (depth == 0)) h.0 in
                    that 44 b bytes (between, bytes) x (eqb-true b 44 k.0) (ok_is (between, bytes) x h.1)
                    (comma_takes quoted depth after_slash bytes (not-true (depth == 0) k.1))
                | inr h5 ↦ elim (chosen (b == 92) (escaped_at bytes >>= put_byte) s7 (Ok x) h5.1) [
                  | inl h ↦
                      let k = bind_ok (escaped_at bytes) put_byte x h.1 in
                      let y = escaped_at_takes bytes k.0 k.1 in
                      that 92 b bytes (byte k.0.0, k.0.1) x (eqb-true b 92 h.0) (ok_is (byte k.0.0, k.0.1) x k.2)
                      (subst (λ (z : List ℕ). OneItem quoted depth after_slash (92 ∷ z) (byte k.0.0) k.0.1) (sym y.0)
                      (escaped_takes quoted depth after_slash k.0.0 k.0.1 y.1))
                  | inr h6 ↦
                      let n : Plain depth b = record {
                        no_star = h0.0;
                        no_question = h1.0;
                        no_bracket = h2.0;
                        no_open = h3.0;
                        no_close =
                            h4.0;
                        no_comma = h5.0;
                        no_backslash = h6.0;
                      } in
                      that b b bytes (byte b, bytes) x refl (ok_is (byte b, bytes) x h6.1)
                      (byte_takes quoted depth after_slash b bytes g n)
                ]
              ]
            ]
          ]
        ]
      ]
    ]

token_of : (quoted : Bool) (depth : ℕ) (after_slash : Bool) (bytes : List ℕ) (x : Token × List ℕ) → goes_on_at quoted depth bytes
    ≡ Ok true → token_at quoted depth after_slash bytes ≡ Ok x
    → (path_ends quoted depth bytes ≡ false) × OneItem quoted depth after_slash bytes x.0 x.1
unfolding token_at
token_of quoted depth after_slash [] x g e = absurd (not_ok _ x e)
token_of quoted depth after_slash (b ∷ bytes) x g e =
    elim (goes_take quoted depth b bytes true g) [
      | inl h ↦ absurd (let no = h.0 in cc)
      | inr h ↦ (h.1.inside, token_takes quoted depth after_slash b bytes x h.1 e)
    ]

-- ---- items are in the grammar

pub record ItemsTaken (quoted : Bool) (room depth : ℕ) (after_slash : Bool) (bytes : List ℕ) (tokens : List Token)
    (rest : List ℕ) : Type 0 where
  pub written : List WrittenItem
  pub valid : AreItems quoted depth written
  pub parts : bytes ≡ print_items written ++ rest
  pub means : items_mean after_slash written ≡ tokens
  pub few : length written ≤ room
  pub ends : path_ends quoted 0 rest ≡ true
  pub behind : slash_or_end quoted depth bytes ≡ slash_or_end_behind_item written

abbrev ItemsAs : Bool → ℕ → ℕ → Bool → List ℕ → List Token × List ℕ → Type 0
ItemsAs quoted room depth after_slash bytes x = ItemsTaken quoted room depth after_slash bytes x.0 x.1

abbrev read : List Token × List ℕ → Result (List Token × List ℕ) LocalFault
read x = Ok x

or_true : (t : Bool) → t || true ≡ true
or_true true = refl
or_true false = refl

no_items : (quoted : Bool) (room : ℕ) (braces : List ℕ) (after_slash : Bool) (bytes : List ℕ) (x : List Token × List ℕ) →
    path_ends quoted (length braces) bytes ≡ true → all_closed braces bytes ≡ Ok x →
    ItemsAs quoted room (length braces) after_slash bytes x
no_items quoted room [] after_slash bytes x e h =
    let start : Bool = begins is_slash bytes || starts_with nat_eq bytes (codes "\\/") in
    subst (ItemsAs quoted room 0 after_slash bytes) (ok_is ([], bytes) x h)
    (record {
      written = [];
      valid = refl;
      parts = refl;
      means = refl;
      few = omega arith;
      ends = e;
      behind =
          ap (λ t. start || t) e ∙ or_true start;
    })
no_items quoted room (brace ∷ braces) after_slash bytes x e h = absurd (not_ok _ x h)

more_items : (quoted : Bool) (room depth : ℕ) (after_slash : Bool) (bytes : List ℕ) (t : Token) (middle : List ℕ) (tokens : List Token)
    (rest : List ℕ) → path_ends quoted depth bytes ≡ false → (first : OneItem quoted depth after_slash bytes t middle)
    → ItemsTaken quoted room (depth_behind_item first.written depth) (is_plain_slash_item first.written) middle tokens rest →
    ItemsTaken quoted (suc room) depth after_slash bytes (t ∷ tokens) rest
more_items quoted room depth after_slash bytes t middle tokens rest inside first more =
    let start : Bool = begins is_slash bytes || starts_with nat_eq bytes (codes "\\/") in
    record {
      written = first.written ∷ more.written;
      valid = (first.valid (print_items more.written) rest more.parts more.ends, more.valid);
      parts = first.parts ∙ ap (λ (y : List ℕ). print_item first.written ++ y) more.parts
          ∙ sym (append_assoc (print_item first.written) (print_items more.written) rest);
      means = (let p = first.means (slash_or_end_behind_item more.written) more.behind in let q = more.means in cc);
      few = omega (arith, more.few);
      ends = more.ends;
      behind = ap (λ t. start || t) inside ∙ or_false start ∙ first.slash;
    }

next_items : (quoted : Bool) (room : ℕ) (braces : List ℕ) (after_slash : Bool) (bytes : List ℕ) (t : Token) (middle : List ℕ)
    (tokens : List Token) (rest : List ℕ) (x : List Token × List ℕ)
    → (path_ends quoted (length braces) bytes ≡ false) × OneItem quoted (length braces) after_slash bytes t middle
    → ItemsTaken quoted room (length (braces_behind t (length bytes) braces)) (is_plain_slash t) middle tokens rest →
    read (t ∷ tokens, rest) ≡ Ok x → ItemsAs quoted (suc room) (length braces) after_slash bytes x
next_items quoted room braces after_slash bytes t middle tokens rest x first more e =
    let item : OneItem quoted (length braces) after_slash bytes t middle = first.1 in
    let deep = subst (λ (n : ℕ). ItemsTaken quoted room n (is_plain_slash t) middle tokens rest)
    (item.deeper (length bytes) braces refl) more in
    let there = subst (λ (s : Bool). ItemsTaken quoted room (depth_behind_item item.written (length braces)) s middle tokens rest)
    item.same deep in
    subst (ItemsAs quoted (suc room) (length braces) after_slash bytes) (ok_is (t ∷ tokens, rest) x e)
    (more_items quoted room (length braces) after_slash bytes t middle tokens rest first.0 item there)

pub tokens_take : (quoted : Bool) (room : ℕ) (braces : List ℕ) (after_slash : Bool) (bytes : List ℕ) (x : List Token × List ℕ) →
    tokens_at quoted room braces after_slash bytes ≡ Ok x → ItemsTaken quoted room (length braces) after_slash bytes x.0 x.1
unfolding tokens_at
tokens_take quoted zero braces after_slash bytes x e =
    let R : Type 0 = Result (List Token × List ℕ) LocalFault in
    let go : Bool → R = λ more. cond more (fault_here kinds.TooManyItems bytes) (all_closed braces bytes) in
    let k = bind_ok (goes_on_at quoted (length braces) bytes) go x e in
    let P : (more : Bool) → goes_on_at quoted (length braces) bytes ≡ Ok more → go more ≡ Ok x →
    ItemsAs quoted zero (length braces) after_slash bytes x =
    λ more. elim more as (λ more. goes_on_at quoted (length braces) bytes ≡ Ok more → go more ≡ Ok x →
    ItemsAs quoted zero (length braces) after_slash bytes x) [
      | true ↦ λ a h. absurd (not_ok _ x h)
      | false ↦ λ a h. no_items quoted zero braces after_slash bytes x (path_ends_at quoted (length braces) bytes a) h
    ] in
    P k.0 k.1 k.2
tokens_take quoted (suc room) braces after_slash bytes x e =
    let R : Type 0 = Result (List Token × List ℕ) LocalFault in
    let depth : ℕ = length braces in
    let cons : Token → List Token × List ℕ → R = λ t others. Ok (t ∷ others.0, others.1) in
    let more_of : Token × List ℕ → R = λ y. tokens_at quoted room (braces_behind y.0 (length bytes) braces) (is_plain_slash y.0) y.1 in
    let put : Token × List ℕ → R = λ y. more_of y >>= cons y.0 in
    let go : Bool → R = λ more. cond more (token_at quoted depth after_slash bytes >>= put) (all_closed braces bytes) in
    let k = bind_ok (goes_on_at quoted depth bytes) go x e in
    let P : (more : Bool) → goes_on_at quoted depth bytes ≡ Ok more → go more ≡ Ok x →
    ItemsAs quoted (suc room) depth after_slash bytes x =
    λ more. elim more as (λ more. goes_on_at quoted depth bytes ≡ Ok more → go more ≡ Ok x →
    ItemsAs quoted (suc room) depth after_slash bytes x) [
      | true ↦ λ a h.
          let f = bind_ok (token_at quoted depth after_slash bytes) put x h in
          let m = bind_ok (more_of f.0) (cons f.0.0) x f.2 in
          let t = token_of quoted depth after_slash bytes f.0 a f.1 in
          next_items quoted room braces after_slash bytes f.0.0 f.0.1 m.0.0 m.0.1 x t
          (tokens_take quoted room (braces_behind f.0.0 (length bytes) braces) (is_plain_slash f.0.0) f.0.1 m.0 m.1) m.2
      | false ↦ λ a h. no_items quoted (suc room) braces after_slash bytes x (path_ends_at quoted depth bytes a) h
    ] in
    P k.0 k.1 k.2

-- ---- a path is in the grammar

-- what follows a bare path ends it
abbrev pub PathEnds : Bool → List ℕ → Type 0
PathEnds true rest = Unit {0}
PathEnds false rest = path_ends false 0 rest ≡ true

path_end : (quoted : Bool) (rest : List ℕ) → path_ends quoted 0 rest ≡ true → PathEnds quoted rest
path_end true rest h = tt
path_end false rest h = h

pub path_no_hash : (quoted : Bool) (rest : List ℕ) → PathEnds quoted rest → NoHash quoted rest
path_no_hash true rest h = tt
path_no_hash false [] h = refl
path_no_hash false (b ∷ rest) h = false_from_ne_true (is_hash b) (λ e.
    let no : path_ends false 0 (b ∷ rest) ≡ false = ap (λ n. path_ends false 0 (n ∷ rest)) (eqb-true b 35 e) in absurd cc)

-- a comma that ends a bare path
pub comma_behind : (rest : List ℕ) → PathEnds false (44 ∷ rest) → comma_ends rest ≡ true
comma_behind rest h = h

slash_inside : (quoted : Bool) (rest : List ℕ) → begins is_slash rest ≡ true → path_ends quoted 0 rest ≡ true → ⊥
slash_inside quoted [] h e = absurd cc
slash_inside true (b ∷ rest) h e = let no : path_ends true 0 (b ∷ rest) ≡ false = ap (λ n. path_ends true 0 (n ∷ rest))
    (eqb-true b 47 h) in absurd cc
slash_inside false (b ∷ rest) h e = let no : path_ends false 0 (b ∷ rest) ≡ false = ap (λ n. path_ends false 0 (n ∷ rest))
    (eqb-true b 47 h) in absurd cc

absolute : (quoted : Bool) (items : List WrittenItem) (bytes rest : List ℕ) → begins is_slash bytes ≡ true → bytes ≡ print_items items
    ++ rest → path_ends quoted 0 rest ≡ true → IsAbsolute items
absolute quoted [] bytes rest h p e = absurd (slash_inside quoted rest (ap (begins is_slash) (sym p) ∙ h) e)
absolute quoted (cell (plain b) ∷ items) bytes rest h p e = ap (λ n. cell (plain n)) (eqb-true b 47 (ap (begins is_slash) (sym p) ∙ h))
absolute quoted (cell (escaped b) ∷ items) bytes rest h p e = let no : begins is_slash bytes ≡ false = ap (begins is_slash) p in absurd cc
absolute quoted (question ∷ items) bytes rest h p e = let no : begins is_slash bytes ≡ false = ap (begins is_slash) p in absurd cc
absolute quoted (star ∷ items) bytes rest h p e = let no : begins is_slash bytes ≡ false = ap (begins is_slash) p in absurd cc
absolute quoted (two_stars n ∷ items) bytes rest h p e = let no : begins is_slash bytes ≡ false = ap (begins is_slash) p in absurd cc
absolute quoted (class c ∷ items) bytes rest h p e = let no : begins is_slash bytes ≡ false = ap (begins is_slash) p in absurd cc
absolute quoted (open_brace ∷ items) bytes rest h p e = let no : begins is_slash bytes ≡ false = ap (begins is_slash) p in absurd cc
absolute quoted (comma ∷ items) bytes rest h p e = let no : begins is_slash bytes ≡ false = ap (begins is_slash) p in absurd cc
absolute quoted (close_brace ∷ items) bytes rest h p e = let no : begins is_slash bytes ≡ false = ap (begins is_slash) p in absurd cc

record InTaken (quoted : Bool) (bytes : List ℕ) (x : List Token × List ℕ) : Type 0 where
  items : List WrittenItem
  valid : IsPath (record { quoted = quoted; items = items })
  parts : bytes ≡ print_items items ++ x.1
  means : items_mean false items ≡ x.0
  ends : PathEnds quoted x.1

path_in_takes : (quoted : Bool) (bytes : List ℕ) (x : List Token × List ℕ) → path_in quoted bytes ≡ Ok x → InTaken quoted bytes x
unfolding path_in
path_in_takes quoted bytes x e =
    let R : Type 0 = Result (List Token × List ℕ) LocalFault in
    let none : R = cond (no_byte quoted bytes) (syntax bytes) (fault_here kinds.NotAbsolute bytes) in
    elim (chosen (begins is_slash bytes) (tokens_at quoted 1024 [] false bytes) none (Ok x) e) [
      | inl h ↦
          let t = tokens_take quoted 1024 [] false bytes x h.1 in
          record {
            items = t.written;
            valid = record {
              absolute = absolute quoted t.written bytes x.1 h.0 t.parts t.ends;
              items = t.valid;
              fits = t.few;
            };
            parts = t.parts;
            means = t.means;
            ends = path_end quoted x.1 t.ends;
          }
      | inr h ↦ elim (chosen (no_byte quoted bytes) (syntax bytes) (fault_here kinds.NotAbsolute bytes) (Ok x) h.1)
          [ inl g ↦ absurd (not_ok _ x g.1) | inr g ↦ absurd (not_ok _ x g.1) ]
    ]

pub record PathTaken (bytes : List ℕ) (x : List Token × List ℕ) : Type 0 where
  pub written : WrittenPath
  pub valid : IsPath written
  pub parts : bytes ≡ print_path written ++ x.1
  pub means : path_means written ≡ x.0
  pub ends : PathEnds written.quoted x.1

regroup : (a b c d rest : List ℕ) → a ≡ 34 ∷ b → b ≡ c ++ d → d ≡ codes "\"" ++ rest → a ≡ (codes "\"" ++ (c ++ codes "\"")) ++ rest
regroup a b c d rest e1 e2 e3 = rw (e1, e2, e3) (simp append_assoc)

pub path_takes : (bytes : List ℕ) (x : List Token × List ℕ) → path_at bytes ≡ Ok x → PathTaken bytes x
unfolding path_at
path_takes bytes x e =
    let R : Type 0 = Result (List Token × List ℕ) LocalFault in
    let put : List Token × List ℕ → R = λ path. literal (codes "\"") path.1 >>= λ rest. Ok (path.0, rest) in
    elim (chosen (begins is_quote bytes) (path_in true (drop 1 bytes) >>= put) (path_in false bytes) (Ok x) e) [
      | inl h ↦
          let k = bind_ok (path_in true (drop 1 bytes)) put x h.1 in
          let l = bind_ok (literal (codes "\"") k.0.1) (λ rest. Ok (k.0.0, rest)) x k.2 in
          let t = path_in_takes true (drop 1 bytes) k.0 k.1 in
          subst (PathTaken bytes) (ok_is (k.0.0, l.0) x l.2) (record {
            written = record { quoted = true; items = t.items };
            valid = t.valid;
            parts = regroup bytes (drop 1 bytes) (print_items t.items) k.0.1 l.0 (begins_so 34 bytes h.0) t.parts
                (literal_takes (codes "\"") k.0.1 l.0 l.1);
            means = t.means;
            ends = tt;
          })
      | inr h ↦
          let t = path_in_takes false bytes x h.1 in
          record { written = record { quoted = false; items = t.items }; valid = t.valid; parts = t.parts; means = t.means; ends = t.ends }
    ]

-- a path has bytes
pub path_some : (bytes : List ℕ) (x : List Token × List ℕ) → path_at bytes ≡ Ok x → goes_on bytes ≡ true
unfolding path_at path_in
path_some [] x e = absurd (not_ok _ x e)
path_some (b ∷ bytes) x e = refl
