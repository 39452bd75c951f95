-- The place of the next byte.
use Rattle.std.proofs.Common.{◌≡◌, ℕ, ◌+◌, ◌-◌, ◌<◌, ◌≤◌, true, false, List, length, get_or, take, drop, ◌≢◌, ap, sym, ◌∙◌, arith, ne_eqb}
use Rattle.std.specs.Prelude.{not, count_by}
use Rattle.std.specs.List.{after_last, suffix_len}
use Rattle.std.proofs.lemmas.List.{length-drop, length-take, get_or-take, get_or-drop}
use Rattle.std.proofs.lemmas.List.Sums.{count_by_more_yes, count_by_more_no, suffix_len-take_yes, suffix_len-take_no, suffix_len-le-length}
use Rattle.rule_explain.specs.declared.place.Place.{Place}
use Rattle.rule_explain.specs.Places.{is_line_feed, place_at}

-- a place, given its parts
abbrev pub place_of : ℕ → ℕ → Place
place_of line column = record { line = line; column = column }

-- the last line is as long as what has no line feed at the end
pub length-after_last : (bytes : List ℕ) → length (after_last is_line_feed bytes) ≡ suffix_len (λ b. not (is_line_feed b)) bytes
length-after_last bytes =
    let small : suffix_len (λ b. not (is_line_feed b)) bytes ≤ length bytes = suffix_len-le-length (λ b. not (is_line_feed b)) bytes in
    omega (arith, length-drop (length bytes - suffix_len (λ b. not (is_line_feed b)) bytes) bytes)

-- after a line feed a new line begins
pub place_behind_feed : (text : List ℕ) (i : ℕ) → i < length text → is_line_feed (get_or text i 0) ≡ true
    → place_at text (i + 1) ≡ place_of ((place_at text i).line + 1) 1
place_behind_feed text i within here =
    let line : count_by is_line_feed (take (i + 1) text) ≡ count_by is_line_feed (take i text) + 1 =
    count_by_more_yes is_line_feed text i 0 within here in
    let back : i + 1 - 1 ≡ i = omega arith in
    let none : suffix_len (λ b. not (is_line_feed b)) (take (i + 1) text) ≡ 0 = suffix_len-take_no (λ b. not (is_line_feed b)) text
    (i + 1) 0 (omega arith) (omega arith) (rw back (ap not here)) in
    let column : length (after_last is_line_feed (take (i + 1) text)) ≡ 0 = length-after_last (take (i + 1) text) ∙ none in
    rw (line, column)

-- after another byte the column is the next one
pub place_behind_other : (text : List ℕ) (i : ℕ) → i < length text → is_line_feed (get_or text i 0) ≡ false
    → place_at text (i + 1) ≡ place_of (place_at text i).line ((place_at text i).column + 1)
place_behind_other text i within here =
    let line : count_by is_line_feed (take (i + 1) text) ≡ count_by is_line_feed (take i text) =
    count_by_more_no is_line_feed text i 0 within here in
    let back : i + 1 - 1 ≡ i = omega arith in
    let more : suffix_len (λ b. not (is_line_feed b)) (take (i + 1) text) ≡ 1 + suffix_len (λ b. not (is_line_feed b))
    (take (i + 1 - 1) text) = suffix_len-take_yes (λ b. not (is_line_feed b)) text (i + 1) 0 (omega arith) (omega arith)
    (rw back (ap not here)) in
    let column : length (after_last is_line_feed (take (i + 1) text)) ≡ length (after_last is_line_feed (take i text)) + 1 =
    omega (arith, length-after_last (take (i + 1) text), length-after_last (take i text), rw back at more) in
    rw (line, column)

-- a byte of a part with this start and end is a byte of the text
pub stands_in_text : (text : List ℕ) (start end i : ℕ) → end ≤ length text → i < length (take (end - start) (drop start text)) →
    start + i < length text
stands_in_text text start end i within inside =
    omega (arith, length-take (end - start) (drop start text), length-drop start text)

pub byte_of_part : (text : List ℕ) (start end i : ℕ) → end ≤ length text → i < length (take (end - start) (drop start text))
    → get_or (take (end - start) (drop start text)) i 0 ≡ get_or text (start + i) 0
byte_of_part text start end i within inside =
    let near : i < end - start = omega (arith, length-take (end - start) (drop start text)) in
    get_or-take (end - start) (drop start text) i 0 near ∙ get_or-drop start text i 0

pub place_behind_feed_of_part : (text : List ℕ) (start end i : ℕ) (place : Place) → place ≡ place_at text (start + i) → end ≤ length text
    → i < length (take (end - start) (drop start text)) → get_or (take (end - start) (drop start text)) i 0 ≡ 10
    → place_of (place.line + 1) 1 ≡ place_at text (start + (i + 1))
place_behind_feed_of_part text start end i place here within inside feed =
    let byte : is_line_feed (get_or text (start + i) 0) ≡ true =
    ap is_line_feed (sym (byte_of_part text start end i within inside) ∙ feed) in
    let next : start + (i + 1) ≡ start + i + 1 = omega arith in
    rw (next, place_behind_feed text (start + i) (stands_in_text text start end i within inside) byte, here)

pub place_behind_other_of_part : (text : List ℕ) (start end i : ℕ) (place : Place) → place ≡ place_at text (start + i) → end ≤ length text
    → i < length (take (end - start) (drop start text)) → get_or (take (end - start) (drop start text)) i 0 ≢ 10
    → place_of place.line (place.column + 1) ≡ place_at text (start + (i + 1))
place_behind_other_of_part text start end i place here within inside other =
    let byte : is_line_feed (get_or text (start + i) 0) ≡ false = ne_eqb (get_or text (start + i) 0) 10
    (λ feed. other (byte_of_part text start end i within inside ∙ feed)) in
    let next : start + (i + 1) ≡ start + i + 1 = omega arith in
    rw (next, place_behind_other text (start + i) (stands_in_text text start end i within inside) byte, here)
