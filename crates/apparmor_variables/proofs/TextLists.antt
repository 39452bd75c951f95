-- How many texts there are and how long they are, when texts are put together.
use Rattle.std.proofs.Common.{◌≡◌, ℕ, suc, ◌+◌, ◌*◌, ◌<◌, ◌≤◌, Bool, true, false, cond, List, [], ◌∷◌, ◌++◌, length, append-nil, map, Some}
use Rattle.std.proofs.Common.{None, Vec, refl, sym, ap, subst, ◌∙◌, arith, length-append, take, get_or}
use Rattle.std.specs.Prelude.{◌&&◌, nat_le}
use Rattle.std.specs.List.{flat_map}
use Rattle.std.proofs.lemmas.List.{map-append, length-map, take_more}
use Rattle.std.proofs.lemmas.List.Sums.{sum_by-append, sum_by-cons}
use Rattle.std.proofs.lemmas.List.Concat.{flat_map_single, flat_map-append}
use Rattle.std.specs.declared.alloc.Global.{Global}
use Rattle.std.proofs.lemmas.Bool.{le-leb, lt-leb}
use Rattle.apparmor_pieces.specs.Pieces.{Text}
use Rattle.apparmor_variables.specs.Variables.{byte_count, fitting, each_with, most_texts, most_bytes}

pub fitting_all : (texts : List Text) → length texts ≤ most_texts → byte_count texts ≤ most_bytes → fitting texts ≡ Some texts
fitting_all texts few short =
    ap (λ b. cond (b && nat_le (byte_count texts) most_bytes) (Some texts) None) (le-leb (length texts) most_texts few)
    ∙ ap (λ b. cond b (Some texts) None) (le-leb (byte_count texts) most_bytes short)

pub not_fitting_many : (texts : List Text) → most_texts < length texts → fitting texts ≡ None
not_fitting_many texts many = ap (λ b. cond (b && nat_le (byte_count texts) most_bytes) (Some texts) None)
    (lt-leb (length texts) most_texts many)

and_false : (b : Bool) → b && false ≡ false
and_false true = refl
and_false false = refl

pub not_fitting_long : (texts : List Text) → most_bytes < byte_count texts → fitting texts ≡ None
not_fitting_long texts long =
    ap (λ b. cond (nat_le (length texts) most_texts && b) (Some texts) None) (lt-leb (byte_count texts) most_bytes long)
    ∙ ap (λ b. cond b (Some texts) None) (and_false (nat_le (length texts) most_texts))

-- ---- one text with each of the others appended

with_each_bytes : (first : Text) (seconds : List Text) → byte_count (map (λ (second : Text). first ++ second) seconds)
    ≡ length seconds * length first + byte_count seconds
with_each_bytes first [] = omega arith
with_each_bytes first (second ∷ seconds) =
    let rest = with_each_bytes first seconds in
    let here = length-append first second in
    let more = sum_by-cons length (first ++ second) (map (λ (s : Text). first ++ s) seconds) in
    let old = sum_by-cons length second seconds in
    let P : ℕ → Type 0 = λ n. n ≡ suc (length seconds) * length first + byte_count (second ∷ seconds) in
    subst P (sym more) (rw old (omega (arith, rest, here)))

pub length-each_with : (firsts seconds : List Text) → length (each_with firsts seconds) ≡ length firsts * length seconds
length-each_with [] seconds = omega arith
length-each_with (first ∷ firsts) seconds =
    let rest = length-each_with firsts seconds in
    let here = length-map seconds (λ (second : Text). first ++ second) in
    let both = length-append (map (λ (second : Text). first ++ second) seconds) (each_with firsts seconds) in
    grind (arith, rest, here, both)

pub byte_count-each_with : (firsts seconds : List Text) → byte_count (each_with firsts seconds) ≡ byte_count firsts * length
    seconds + length firsts * byte_count seconds
byte_count-each_with [] seconds = omega arith
byte_count-each_with (first ∷ firsts) seconds =
    let rest = byte_count-each_with firsts seconds in
    let here = with_each_bytes first seconds in
    let both = sum_by-append length (map (λ (second : Text). first ++ second) seconds) (each_with firsts seconds) in
    let old = sum_by-cons length first firsts in
    both ∙ rw old (omega (arith, rest, here))

-- ---- one text appended to each of the others

pub each_with_one : (firsts : List Text) (end : Text) → each_with firsts (end ∷ []) ≡ map (λ (first : Text). first ++ end) firsts
each_with_one firsts end = flat_map_single (λ (first : Text). first ++ end) firsts

pub length-ended : (firsts : List Text) (end : Text) → length (each_with firsts (end ∷ [])) ≡ length firsts
length-ended firsts end = ap length (each_with_one firsts end) ∙ length-map firsts (λ (first : Text). first ++ end)

pub byte_count-ended : (firsts : List Text) (end : Text) → byte_count (each_with firsts (end ∷ []))
    ≡ byte_count firsts + length firsts * length end
byte_count-ended firsts end = let h = byte_count-each_with firsts (end ∷ []) in grind (arith, h)

-- ---- what exceeds the limits

pub refused_many : (firsts seconds : List Text) (m n : ℕ) → m ≡ length firsts → n ≡ length seconds → most_texts < m * n →
    fitting (each_with firsts seconds) ≡ None
refused_many firsts seconds m n is_m is_n many =
    let count : length (each_with firsts seconds) ≡ m * n = length-each_with firsts seconds ∙ (λ i. sym is_m i * sym is_n i) in
    not_fitting_many (each_with firsts seconds) (omega (arith, count))

pub refused_long : (firsts seconds : List Text) (a b m n : ℕ) → a ≡ byte_count firsts → b ≡ byte_count seconds → m ≡ length firsts →
    n ≡ length seconds → most_bytes < a * n + m * b → fitting (each_with firsts seconds) ≡ None
refused_long firsts seconds a b m n is_a is_b is_m is_n long =
    let count : byte_count (each_with firsts seconds) ≡ a * n + m * b = byte_count-each_with firsts seconds
    ∙ (λ i. sym is_a i * sym is_n i + sym is_m i * sym is_b i) in
    not_fitting_long (each_with firsts seconds) (omega (arith, count))

pub refused_end : (firsts : List Text) (end : Text) (a m : ℕ) → a ≡ byte_count firsts → m ≡ length firsts →
    most_bytes < a + m * length end → fitting (each_with firsts (end ∷ [])) ≡ None
refused_end firsts end a m is_a is_m long =
    let count : byte_count (each_with firsts (end ∷ [])) ≡ a + m * length end = byte_count-ended firsts end
    ∙ (λ i. sym is_a i + sym is_m i * length end) in
    not_fitting_long (each_with firsts (end ∷ [])) (omega (arith, count))

-- ---- texts as the code has them

abbrev pub Bytes : Type 0
Bytes = Vec ℕ Global

abbrev pub items : List Bytes → List Text
items texts = map (λ (text : Bytes). text.items) texts

pub seen_length : (texts : List Bytes) (seen : List Text) (n : ℕ) → items texts ≡ seen → n ≡ length texts → n ≡ length seen
seen_length texts seen n is same = same ∙ sym (length-map texts (λ (text : Bytes). text.items)) ∙ ap length is

-- the list that was made is what was asked for
pub made : (asked : List Text) (texts : List Bytes) → items texts ≡ asked → length texts ≤ most_texts →
    byte_count (items texts) ≤ most_bytes → fitting asked ≡ Some (items texts)
made asked texts is few short =
    ap fitting (sym is) ∙ fitting_all (items texts) (let h = length-map texts (λ (text : Bytes). text.items) in omega (arith, h)) short

-- one more of the firsts was taken
pub product_more : (firsts seconds old new : List Bytes) (i : ℕ) (d : Bytes) → i < length firsts
    → items old ≡ each_with (items (take i firsts)) (items seconds)
    → items new ≡ items old ++ map (λ (second : Text). (get_or firsts i d).items ++ second) (items seconds)
    → items new ≡ each_with (items (take (i + 1) firsts)) (items seconds)
product_more firsts seconds old new i d low before step =
    let row : Bytes → List Text = λ first. map (λ (second : Text). first.items ++ second) (items seconds) in
    let f : Text → List Text = λ first. map (λ (second : Text). first ++ second) (items seconds) in
    let split : items (take (i + 1) firsts) ≡ items (take i firsts) ++ (get_or firsts i d).items ∷ [] = ap items (take_more firsts i d low)
    ∙ map-append (λ (text : Bytes). text.items) (take i firsts) (get_or firsts i d ∷ []) in
    step ∙ ap (λ (x : List Text). x ++ f (get_or firsts i d).items) before
    ∙ ap (λ (x : List Text). each_with (items (take i firsts)) (items seconds) ++ x) (sym (append-nil (f (get_or firsts i d).items)))
    ∙ sym (flat_map-append f (items (take i firsts)) ((get_or firsts i d).items ∷ []))
    ∙ ap (flat_map f) (sym split)

-- the lengths of texts with bytes appended
pub ended_bytes : (firsts new : List Text) (end : Text) (a m all : ℕ) → all ≡ a + m * length end → a ≡ byte_count firsts →
    m ≡ length firsts → new ≡ map (λ (first : Text). first ++ end) firsts → all ≡ byte_count new
ended_bytes firsts new end a m all is is_a is_m ended =
    is ∙ (λ i. is_a i + is_m i * length end) ∙ sym (byte_count-ended firsts end) ∙ ap byte_count (each_with_one firsts end ∙ sym ended)
