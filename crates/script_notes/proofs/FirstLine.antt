-- The first line of a text, and the lines after it.
use Rattle.std.proofs.Common.{◌≡◌, ℕ, suc, ◌+◌, ◌<◌, ◌==◌, Bool, true, false, not, List, [], ◌∷◌, length}
use Rattle.std.proofs.Common.{◌-◌, cond, drop, take, take_all, length-drop, ap, sym, ◌∙◌, refl, arith}
use Rattle.std.specs.List.{before_first, position_or_len}
use Rattle.trace_script.specs.Script.{line_feed, lines_of, onto_first_line}

abbrev feeds : ℕ → Bool
feeds b = b == line_feed

-- the lines of a byte and a text, by whether the byte is a line feed
abbrev lines_by : ℕ → List ℕ → Bool → List (List ℕ)
lines_by b rest e = cond e ([] ∷ lines_of rest) (onto_first_line b (lines_of rest))

-- how long the first line is
abbrev long : List ℕ → Bool → ℕ
long rest e = cond (not e) (1 + position_or_len feeds rest) 0

abbrev IsCut : ℕ → List ℕ → Bool → Type 0
IsCut b rest e = lines_by b rest e ≡ take (long rest e) (b ∷ rest) ∷ lines_of (drop 1 (drop (long rest e) (b ∷ rest)))

at_last : (b : ℕ) (e : Bool) → IsCut b [] e
at_last b true = refl
at_last b false = refl

-- the first line of one byte more
shift : (b : ℕ) (xs : List ℕ) (p : ℕ) → (b ∷ take p xs) ∷ lines_of (drop 1 (drop p xs))
    ≡ take (1 + p) (b ∷ xs) ∷ lines_of (drop 1 (drop (1 + p) (b ∷ xs)))
shift b xs p =
    let e : 1 + p ≡ suc p = omega arith in
    sym (ap (λ (n : ℕ). take n (b ∷ xs) ∷ lines_of (drop 1 (drop n (b ∷ xs)))) e)

at_more : (b c : ℕ) (rest : List ℕ) → lines_of (c ∷ rest)
    ≡ before_first feeds (c ∷ rest) ∷ lines_of (drop 1 (drop (position_or_len feeds (c ∷ rest)) (c ∷ rest))) →
    (e : Bool) → IsCut b (c ∷ rest) e
at_more b c rest next true = refl
at_more b c rest next false = ap (onto_first_line b) next ∙ shift b (c ∷ rest) (position_or_len feeds (c ∷ rest))

pub first_line : (text : List ℕ) → 0 < length text →
    lines_of text ≡ before_first feeds text ∷ lines_of (drop 1 (drop (position_or_len feeds text) text))
first_line [] some = absurd (omega arith)
first_line (b ∷ []) some = at_last b (b == line_feed)
first_line (b ∷ c ∷ rest) some = at_more b c rest (first_line (c ∷ rest) (omega arith)) (b == line_feed)

-- the first line, where the text ends with it, by what is cut off the text after it
pub cut_at_end : (text line from : List ℕ) → 0 < length text → line ≡ before_first feeds text →
    from ≡ drop (position_or_len feeds text) text → length from < 1 → lines_of text ≡ line ∷ lines_of from
cut_at_end text line [] some e_line e_from short =
    first_line text some ∙ ap (λ (x : List ℕ). before_first feeds text ∷ lines_of (drop 1 x)) (sym e_from)
    ∙ ap (λ (x : List ℕ). x ∷ lines_of []) (sym e_line)
cut_at_end text line (b ∷ from) some e_line e_from short = absurd (omega arith)

-- and where a line feed follows it
pub cut_in_text : (text line from : List ℕ) → 0 < length text → line ≡ before_first feeds text →
    from ≡ drop (position_or_len feeds text) text →
    lines_of text ≡ line ∷ lines_of (take (length from - 1) (drop 1 from))
cut_in_text text line from some e_line e_from =
    first_line text some ∙ ap (λ (x : List ℕ). before_first feeds text ∷ lines_of (drop 1 x)) (sym e_from)
    ∙ ap (λ (x : List ℕ). x ∷ lines_of (drop 1 from)) (sym e_line)
    ∙ ap (λ (x : List ℕ). line ∷ lines_of x) (sym (take_all (length from - 1) (drop 1 from) (omega (arith, length-drop 1 from))))
