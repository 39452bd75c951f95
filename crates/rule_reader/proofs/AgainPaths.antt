-- A path that is written is read back.
use Rattle.rule_profile.specs.PathTokens.{is_plain_slash}
use Rattle.std.proofs.Common.{◌≡◌, ℕ, zero, suc, ◌-◌, ◌≤◌, ◌<◌, Bool, true, false, eqb, List, [], ◌∷◌, ◌++◌, length, drop, Option, Ok}
use Rattle.std.proofs.Common.{refl, sym, ap, subst, ◌∙◌, append_assoc, inl, inr, ◌==◌, arith}
use Rattle.std.specs.Prelude.{◌||◌, ◌&&◌, not}
use Rattle.std.specs.Char.{is_ascii_alphanumeric}
use Rattle.std.proofs.lemmas.Bool.{or_cases, or_parts, or_right, and_parts, and_right, not-true, eqb-true, eqb-false, eq-eqb, ne_eqb}
use Rattle.std.proofs.lemmas.Bool.{lt-leb}
use Rattle.rule_globs.specs.Glob.{is_slash}
use Rattle.rule_reader.specs.ReadPaths.{comma_ends, path_ends, escaped_at, goes_on_at, slash_or_end, token_at, braces_behind, tokens_at}
use Rattle.rule_reader.specs.ReadPaths.{path_in, path_at}
use Rattle.rule_reader.specs.ReadWords.{after}
use Rattle.rule_reader.specs.TextBytes.{begins, is_white, is_quote, is_comma, is_star, is_open_brace, is_close_brace, is_escapable}
use Rattle.rule_reader.specs.TextBytes.{ends_behind_comma}
use Rattle.rule_globs.specs.Tokens.{Token, stars}
use Rattle.rule_reader.specs.GrammarWords.{plain, escaped, may_stand, in_quotes}
use Rattle.rule_reader.specs.GrammarPaths.{print_class, WrittenItem, cell, question, star, two_stars, class, open_brace, comma}
use Rattle.rule_reader.specs.GrammarPaths.{close_brace, star_bytes, print_item, print_items, first_byte, next_is, stands_for_itself}
use Rattle.rule_reader.specs.GrammarPaths.{IsItem, depth_behind_item, AreItems, is_plain_slash_item, slash_or_end_behind_item, item_means}
use Rattle.rule_reader.specs.GrammarPaths.{items_mean, WrittenPath, print_path, IsAbsolute, IsPath, path_means}
use Rattle.rule_reader.specs.laws.ReadRuns.{after_again, white_stops}
use Rattle.rule_reader.proofs.AgainWords.{quote_regrouped, may_parts}
use Rattle.rule_reader.proofs.AgainClasses.{class_again}

-- ---- where a path ends

-- a byte before which a path ends fails a test that a quote, white and a comma fail
end_stops : (test : ℕ → Bool) (quoted : Bool) (rest : List ℕ) → test 32 ≡ false → test 9 ≡ false → test 10 ≡ false → test 13 ≡ false →
    test 34 ≡ false → test 44 ≡ false → path_ends quoted 0 rest ≡ true → begins test rest ≡ false
end_stops test quoted [] h1 h2 h3 h4 h5 h6 e = refl
end_stops test quoted (b ∷ rest) h1 h2 h3 h4 h5 h6 e =
    let P : ℕ → Type 0 = λ x. test x ≡ false in
    elim (or_cases (is_quote b) _ e) [
      | inl q ↦ subst P (sym (eqb-true b 34 q)) h5
      | inr r ↦ elim (or_cases (is_white b) _ (and_parts (not quoted) _ r).1) [
        | inl w ↦ white_stops test b h1 h2 h3 h4 w
        | inr c ↦ subst P (sym
            (eqb-true b 44 (and_parts (is_comma b) (0 == 0) (and_parts (is_comma b && (0 == 0)) (comma_ends rest) c).0).0)) h6
      ]
    ]

end_goes : (quoted : Bool) (rest : List ℕ) → path_ends quoted 0 rest ≡ true → goes_on_at quoted 0 rest ≡ Ok false
unfolding goes_on_at
end_goes true [] e = absurd cc
end_goes false [] e = refl
end_goes true (b ∷ rest) e =
    elim (or_cases (is_quote b) false e) [
      | inl q ↦ subst (λ (x : ℕ). goes_on_at true 0 (x ∷ rest) ≡ Ok false) (sym (eqb-true b 34 q)) refl
      | inr r ↦ absurd cc
    ]
end_goes false (b ∷ rest) e = rw (end_stops (λ x. x == 0) false (b ∷ rest) refl refl refl refl refl refl e, e) refl

-- ---- what follows an item

next_again : (test : ℕ → Bool) (bytes rest : List ℕ) → begins test rest ≡ false → begins test (bytes ++ rest)
    ≡ next_is test (first_byte bytes)
next_again test [] rest s = s
next_again test (b ∷ bytes) rest s = refl

comma_goes : (bytes rest : List ℕ) → next_is (λ c. not (ends_behind_comma c)) (first_byte bytes) ≡ true →
    comma_ends (bytes ++ rest) ≡ false
comma_goes [] rest h = absurd cc
comma_goes (b ∷ bytes) rest h = not-true _ h

-- what the bytes after an item say about the next byte of the path
record Behind (next : Option ℕ) (tail : List ℕ) : Type 0 where
  star : begins is_star tail ≡ next_is is_star next
  brace : begins is_open_brace tail ≡ next_is is_open_brace next
  comma : next_is (λ c. not (ends_behind_comma c)) next ≡ true → comma_ends tail ≡ false

behind_items : (quoted : Bool) (bytes rest : List ℕ) → path_ends quoted 0 rest ≡ true → Behind (first_byte bytes) (bytes ++ rest)
behind_items quoted bytes rest e = record {
  star = next_again is_star bytes rest (end_stops is_star quoted rest refl refl refl refl refl refl e);
  brace = next_again is_open_brace bytes rest (end_stops is_open_brace quoted rest refl refl refl refl refl refl e);
  comma = comma_goes bytes rest;
}

-- ---- a byte by itself

-- a comma t, at depth 0 or not, in quotes or not, with the next byte n, at which a comma would end the path or not; or white
comma_stays : (t d q n e w : Bool) → (t && not (d && (q || n))) ≡ false → (n ≡ true → e ≡ false) → (not q && w) ≡ false →
    ((t && not d) ≡ false) × ((not q && (w || (t && d && e))) ≡ false)
comma_stays false d true n e w h g k = (refl, refl)
comma_stays false d false n e w h g k = (refl, rw k refl)
comma_stays true false q n e w h g k = absurd cc
comma_stays true true true n e w h g k = (refl, refl)
comma_stays true true false true e w h g k = (refl, rw (k, g refl) refl)
comma_stays true true false false e w h g k = absurd cc

record Plain (quoted : Bool) (depth : ℕ) (tail : List ℕ) (b : ℕ) : Type 0 where
  none : eqb b 0 ≡ false
  lf : (quoted && (b == 10)) ≡ false
  goes : (not quoted && (is_white b || (is_comma b && (depth == 0) && comma_ends tail))) ≡ false
  quote : is_quote b ≡ false
  star : is_star b ≡ false
  question : eqb b 63 ≡ false
  bracket : eqb b 91 ≡ false
  backslash : eqb b 92 ≡ false
  open_brace : is_open_brace b ≡ false
  close_brace : is_close_brace b ≡ false
  comma : (is_comma b && not (depth == 0)) ≡ false
  variable : ((b == 64) && begins is_open_brace tail) ≡ false

plain_is : (quoted : Bool) (depth : ℕ) (next : Option ℕ) (tail : List ℕ) (b : ℕ) → stands_for_itself quoted depth next b ≡ true →
    Behind next tail → Plain quoted depth tail b
plain_is quoted depth next tail b h behind =
    let special : Bool = is_quote b || b == 42 || b == 63 || b == 91 || b == 92 || b == 123 || b == 125 in
    let at_comma : Bool = b == 44 && not ((depth == 0) && (quoted || next_is (λ c. not (ends_behind_comma c)) next)) in
    let at_variable : Bool = b == 64 && next_is is_open_brace next in
    let p1 = and_parts (may_stand quoted b && not special && not at_comma) (not at_variable) h in
    let p2 = and_parts (may_stand quoted b && not special) (not at_comma) p1.0 in
    let p3 = and_parts (may_stand quoted b) (not special) p2.0 in
    let q1 = or_parts (is_quote b || b == 42 || b == 63 || b == 91 || b == 92 || b == 123) (b == 125) (not-true _ p3.1) in
    let q2 = or_parts (is_quote b || b == 42 || b == 63 || b == 91 || b == 92) (b == 123) q1.0 in
    let q3 = or_parts (is_quote b || b == 42 || b == 63 || b == 91) (b == 92) q2.0 in
    let q4 = or_parts (is_quote b || b == 42 || b == 63) (b == 91) q3.0 in
    let q5 = or_parts (is_quote b || b == 42) (b == 63) q4.0 in
    let q6 = or_parts (is_quote b) (b == 42) q5.0 in
    let m = may_parts quoted b p3.0 in
    let c = comma_stays (b == 44) (depth == 0) quoted (next_is (λ c. not (ends_behind_comma c)) next) (comma_ends tail) (is_white b)
    (not-true _ p2.1) behind.comma m.2 in
    record {
      none = m.0;
      lf = and_right quoted (b == 10) m.1;
      goes = c.1;
      quote = q6.0;
      star = q6.1;
      question = q5.1;
      bracket = q4.1;
      backslash = q3.1;
      open_brace = q2.1;
      close_brace = q1.1;
      comma = c.0;
      variable = ap (λ t. (b == 64) && t) behind.brace ∙ not-true _ p1.1;
    }

-- ---- an item is read again

escaped_again : (b : ℕ) (tail : List ℕ) → is_escapable b ≡ true → escaped_at (b ∷ tail) ≡ Ok (b, tail)
escaped_again b tail h =
    let p = or_parts (b == 0 || b == 10) (is_ascii_alphanumeric b) (not-true _ h) in
    rw (p.1, p.0) refl

some_depth : (depth : ℕ) → 0 < depth → eqb depth 0 ≡ false
some_depth depth h = ne_eqb depth 0 (λ e. omega arith)

-- the path doesn't end before an item
item_no_end : (quoted : Bool) (depth : ℕ) (next : Option ℕ) (i : WrittenItem) (tail : List ℕ) → IsItem quoted depth next i →
    Behind next tail → path_ends quoted depth (print_item i ++ tail) ≡ false
item_no_end quoted depth next (cell (plain b)) tail h behind = let p = plain_is quoted depth next tail b h behind in
    rw (p.goes, p.quote) refl
item_no_end true depth next (cell (escaped b)) tail h behind = refl
item_no_end false depth next (cell (escaped b)) tail h behind = refl
item_no_end true depth next question tail h behind = refl
item_no_end false depth next question tail h behind = refl
item_no_end true depth next star tail h behind = refl
item_no_end false depth next star tail h behind = refl
item_no_end true depth next (two_stars more) tail h behind = refl
item_no_end false depth next (two_stars more) tail h behind = refl
item_no_end true depth next (class c) tail h behind = refl
item_no_end false depth next (class c) tail h behind = refl
item_no_end true depth next open_brace tail h behind = refl
item_no_end false depth next open_brace tail h behind = refl
item_no_end true depth next comma tail h behind = refl
item_no_end false depth next comma tail h behind = rw (some_depth depth h) refl
item_no_end true depth next close_brace tail h behind = refl
item_no_end false depth next close_brace tail h behind = refl

item_goes : (quoted : Bool) (depth : ℕ) (next : Option ℕ) (i : WrittenItem) (tail : List ℕ) → IsItem quoted depth next i →
    Behind next tail → goes_on_at quoted depth (print_item i ++ tail) ≡ Ok true
unfolding goes_on_at
item_goes quoted depth next (cell (plain b)) tail h behind =
    let p = plain_is quoted depth next tail b h behind in
    rw (p.goes, p.lf, p.none, p.quote, p.open_brace, p.close_brace, p.variable, p.backslash) refl
item_goes true depth next (cell (escaped b)) tail h behind = rw (escaped_again b tail h) refl
item_goes false depth next (cell (escaped b)) tail h behind = rw (escaped_again b tail h) refl
item_goes true depth next question tail h behind = refl
item_goes false depth next question tail h behind = refl
item_goes true depth next star tail h behind = refl
item_goes false depth next star tail h behind = refl
item_goes true depth next (two_stars more) tail h behind = refl
item_goes false depth next (two_stars more) tail h behind = refl
item_goes true depth next (class c) tail h behind = refl
item_goes false depth next (class c) tail h behind = refl
item_goes true depth next open_brace tail h behind = rw (lt-leb 50 depth h) refl
item_goes false depth next open_brace tail h behind = rw (lt-leb 50 depth h) refl
item_goes true depth next comma tail h behind = refl
item_goes false depth next comma tail h behind = rw (some_depth depth h) refl
item_goes true depth next close_brace tail h behind = rw (some_depth depth h) refl
item_goes false depth next close_brace tail h behind = rw (some_depth depth h) refl

stars_again : (n : ℕ) (rest : List ℕ) → begins is_star rest ≡ false → after is_star (star_bytes n ++ rest) ≡ rest
stars_again zero rest s = after_again is_star [] rest tt s
stars_again (suc n) rest s = stars_again n rest s

item_token : (quoted : Bool) (depth : ℕ) (next : Option ℕ) (after_slash : Bool) (i : WrittenItem) (tail : List ℕ) →
    IsItem quoted depth next i → Behind next tail
    → token_at quoted depth after_slash (print_item i ++ tail) ≡ Ok (item_means (after_slash && slash_or_end quoted depth tail) i, tail)
unfolding token_at
item_token quoted depth next after_slash (cell (plain b)) tail h behind =
    let p = plain_is quoted depth next tail b h behind in
    rw (p.star, p.question, p.bracket, p.open_brace, p.close_brace, p.comma, p.backslash) refl
item_token quoted depth next after_slash (cell (escaped b)) tail h behind = rw (escaped_again b tail h) refl
item_token quoted depth next after_slash question tail h behind = refl
item_token quoted depth next after_slash star tail h behind = rw (behind.star ∙ h, stars_again 0 tail (behind.star ∙ h)) refl
item_token quoted depth next after_slash (two_stars more) tail h behind = rw (stars_again more tail (behind.star ∙ h)) refl
item_token quoted depth next after_slash (class c) tail h behind = rw (class_again quoted (length (print_class c ++ tail)) c tail h) refl
item_token quoted depth next after_slash open_brace tail h behind = refl
item_token quoted depth next after_slash comma tail h behind = rw (some_depth depth h) refl
item_token quoted depth next after_slash close_brace tail h behind = refl

-- ---- the trees and the bytes agree on whether a slash or the end follows

eqb_turned : (a b : ℕ) → eqb a b ≡ eqb b a
eqb_turned a b =
    let P : (t : Bool) → eqb b a ≡ t → eqb a b ≡ t = λ t. elim t as (λ t. eqb b a ≡ t → eqb a b ≡ t) [
      | true ↦ λ e. eq-eqb a b (sym (eqb-true b a e))
      | false ↦ λ e. ne_eqb a b (λ same. eqb-false b a e (sym same))
    ] in
    P (eqb b a) refl

or_false : (a : Bool) → ((a || false) || false) ≡ a
or_false true = refl
or_false false = refl

same_and : (a : Bool) → ((a && true) || false) ≡ a
same_and true = refl
same_and false = refl

item_slash : (quoted : Bool) (depth : ℕ) (next : Option ℕ) (i : WrittenItem) (tail : List ℕ) → IsItem quoted depth next i →
    Behind next tail → slash_or_end quoted depth (print_item i ++ tail) ≡ is_plain_slash_item i
item_slash quoted depth next (cell (plain b)) tail h behind =
    let p = plain_is quoted depth next tail b h behind in
    rw (item_no_end quoted depth next (cell (plain b)) tail h behind, eqb_turned 92 b ∙ p.backslash) (or_false (is_slash b))
item_slash quoted depth next (cell (escaped b)) tail h behind =
    rw (item_no_end quoted depth next (cell (escaped b)) tail h behind, eqb_turned 47 b) (same_and (is_slash b))
item_slash quoted depth next question tail h behind = item_no_end quoted depth next question tail h behind
item_slash quoted depth next star tail h behind = item_no_end quoted depth next star tail h behind
item_slash quoted depth next (two_stars more) tail h behind = item_no_end quoted depth next (two_stars more) tail h behind
item_slash quoted depth next (class c) tail h behind = item_no_end quoted depth next (class c) tail h behind
item_slash quoted depth next open_brace tail h behind = item_no_end quoted depth next open_brace tail h behind
item_slash quoted depth next comma tail h behind = item_no_end quoted depth next comma tail h behind
item_slash quoted depth next close_brace tail h behind = item_no_end quoted depth next close_brace tail h behind

same_behind : (quoted : Bool) (depth : ℕ) (items : List WrittenItem) (rest : List ℕ) → AreItems quoted depth items →
    path_ends quoted 0 rest ≡ true → slash_or_end quoted depth (print_items items ++ rest) ≡ slash_or_end_behind_item items
same_behind quoted depth [] rest h e = subst (λ (n : ℕ). slash_or_end quoted n rest ≡ true) (sym h)
    (or_right _ (path_ends quoted 0 rest) e)
same_behind quoted depth (i ∷ items) rest h e =
    ap (slash_or_end quoted depth) (append_assoc (print_item i) (print_items items) rest)
    ∙ item_slash quoted depth (first_byte (print_items items)) i (print_items items ++ rest) h.0
    (behind_items quoted (print_items items) rest e)

-- only a run is strict, and it leaves the depth as it is
strict_again : (quoted : Bool) (depth : ℕ) (after_slash : Bool) (i : WrittenItem) (items : List WrittenItem) (rest : List ℕ) →
    AreItems quoted depth (i ∷ items) → path_ends quoted 0 rest ≡ true
    → item_means (after_slash && slash_or_end quoted depth (print_items items ++ rest)) i
    ≡ item_means (after_slash && slash_or_end_behind_item items) i
strict_again quoted depth after_slash (cell c) items rest h e = refl
strict_again quoted depth after_slash question items rest h e = refl
strict_again quoted depth after_slash star items rest h e = ap (λ t. stars false (after_slash && t))
    (same_behind quoted depth items rest h.1 e)
strict_again quoted depth after_slash (two_stars more) items rest h e = ap (λ t. stars true (after_slash && t))
    (same_behind quoted depth items rest h.1 e)
strict_again quoted depth after_slash (class c) items rest h e = refl
strict_again quoted depth after_slash open_brace items rest h e = refl
strict_again quoted depth after_slash comma items rest h e = refl
strict_again quoted depth after_slash close_brace items rest h e = refl

-- ---- items are read again

length_dropped : (braces : List ℕ) → length (drop 1 braces) ≡ length braces - 1
length_dropped [] = refl
length_dropped (b ∷ braces) = omega arith

depth_again : (strict : Bool) (i : WrittenItem) (left : ℕ) (braces : List ℕ) → length (braces_behind (item_means strict i) left braces)
    ≡ depth_behind_item i (length braces)
depth_again strict (cell c) left braces = refl
depth_again strict question left braces = refl
depth_again strict star left braces = refl
depth_again strict (two_stars more) left braces = refl
depth_again strict (class c) left braces = refl
depth_again strict open_brace left braces = refl
depth_again strict comma left braces = refl
depth_again strict close_brace left braces = length_dropped braces

slash_again : (strict : Bool) (i : WrittenItem) → is_plain_slash (item_means strict i) ≡ is_plain_slash_item i
slash_again strict (cell c) = refl
slash_again strict question = refl
slash_again strict star = refl
slash_again strict (two_stars more) = refl
slash_again strict (class c) = refl
slash_again strict open_brace = refl
slash_again strict comma = refl
slash_again strict close_brace = refl

items_end : (quoted : Bool) (room : ℕ) (braces : List ℕ) (after_slash : Bool) (rest : List ℕ) → length braces ≡ 0 → path_ends quoted 0 rest
    ≡ true → tokens_at quoted room braces after_slash rest ≡ Ok ([], rest)
unfolding tokens_at
items_end quoted zero [] after_slash rest h e = rw (end_goes quoted rest e) refl
items_end quoted (suc room) [] after_slash rest h e = rw (end_goes quoted rest e) refl
items_end quoted room (b ∷ braces) after_slash rest h e = absurd (omega arith)

items_again : (quoted : Bool) (room : ℕ) (braces : List ℕ) (after_slash : Bool) (items : List WrittenItem) (rest : List ℕ) →
    AreItems quoted (length braces) items → length items ≤ room → path_ends quoted 0 rest ≡ true
    → tokens_at quoted room braces after_slash (print_items items ++ rest) ≡ Ok (items_mean after_slash items, rest)
unfolding tokens_at
items_again quoted room braces after_slash [] rest h few e = items_end quoted room braces after_slash rest h e
items_again quoted zero braces after_slash (i ∷ items) rest h few e = absurd (omega arith)
items_again quoted (suc room) braces after_slash (i ∷ items) rest h few e =
    let tail : List ℕ = print_items items ++ rest in
    let all : List ℕ = print_item i ++ tail in
    let depth : ℕ = length braces in
    let next : Option ℕ = first_byte (print_items items) in
    let strict : Bool = after_slash && slash_or_end_behind_item items in
    let behind : Behind next tail = behind_items quoted (print_items items) rest e in
    let more_braces : List ℕ = braces_behind (item_means strict i) (length all) braces in
    let deep : length more_braces ≡ depth_behind_item i depth = depth_again strict i (length all) braces in
    let valid : AreItems quoted (length more_braces) items = subst (λ (n : ℕ). AreItems quoted n items) (sym deep) h.1 in
    let slash : Bool = is_plain_slash (item_means strict i) in
    let goes : goes_on_at quoted depth all ≡ Ok true = item_goes quoted depth next i tail h.0 behind in
    let token : token_at quoted depth after_slash all ≡ Ok (item_means strict i, tail) = item_token quoted depth next after_slash i tail
    h.0 behind ∙ ap (λ (t : Token). Ok (t, tail)) (strict_again quoted depth after_slash i items rest h e) in
    let more : tokens_at quoted room more_braces slash tail ≡ Ok (items_mean slash items, rest) = items_again quoted room more_braces slash
    items rest valid (omega arith) e in
    ap (tokens_at quoted (suc room) braces after_slash) (append_assoc (print_item i) (print_items items) rest)
    ∙ rw (goes, token, more) (ap (λ t. Ok (item_means strict i ∷ items_mean t items, rest)) (slash_again strict i))

-- ---- a path is read again

-- what a path ends before: anything after its quote, or what ends a bare one
abbrev pub PathEnds : Bool → List ℕ → Type 0
PathEnds true rest = Unit {0}
PathEnds false rest = path_ends false 0 rest ≡ true

path_first : (items : List WrittenItem) (rest : List ℕ) (test : ℕ → Bool) → IsAbsolute items →
    begins test (print_items items ++ rest) ≡ test 47
path_first [] rest test h = absurd h
path_first (i ∷ items) rest test h = subst (λ (j : WrittenItem). begins test (print_items (j ∷ items) ++ rest) ≡ test 47) (sym h) refl

bytes_again : (quoted : Bool) (items : List WrittenItem) (rest : List ℕ) → IsAbsolute items → AreItems quoted 0 items →
    length items ≤ 1024 → path_ends quoted 0 rest ≡ true → path_in quoted (print_items items ++ rest) ≡ Ok (items_mean false items, rest)
unfolding path_in
bytes_again quoted items rest a h few e = rw (path_first items rest is_slash a) (items_again quoted 1024 [] false items rest h few e)

quoted_or_bare : (quoted : Bool) (items : List WrittenItem) (rest : List ℕ) → IsAbsolute items → AreItems quoted 0 items →
    length items ≤ 1024 → PathEnds quoted rest
    → path_at (in_quotes quoted (print_items items) ++ rest) ≡ Ok (items_mean false items, rest)
unfolding path_at
quoted_or_bare true items rest a h few e = ap (λ (x : List ℕ). path_at (34 ∷ x)) (quote_regrouped (print_items items) rest)
    ∙ rw (bytes_again true items (34 ∷ rest) a h few refl) refl
quoted_or_bare false items rest a h few e = rw (path_first items rest is_quote a) (bytes_again false items rest a h few e)

pub path_again : (p : WrittenPath) (rest : List ℕ) → IsPath p → PathEnds p.quoted rest → path_at (print_path p ++ rest)
    ≡ Ok (path_means p, rest)
path_again p rest h e = quoted_or_bare p.quoted p.items rest h.absolute h.items h.fits e

quoted_or_bare_begins : (quoted : Bool) (items : List WrittenItem) (rest : List ℕ) (test : ℕ → Bool) → IsAbsolute items →
    test 34 ≡ test 47 → begins test (in_quotes quoted (print_items items) ++ rest) ≡ test 47
quoted_or_bare_begins true items rest test a e = e
quoted_or_bare_begins false items rest test a e = path_first items rest test a

-- the first byte of a path
pub path_begins : (p : WrittenPath) (rest : List ℕ) (test : ℕ → Bool) → IsPath p → test 34 ≡ test 47 →
    begins test (print_path p ++ rest) ≡ test 47
path_begins p rest test h e = quoted_or_bare_begins p.quoted p.items rest test h.absolute e
