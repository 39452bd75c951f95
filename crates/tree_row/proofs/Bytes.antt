-- The bytes of words.
use Rattle.std.proofs.Common.{◌≡◌, ℕ, zero, suc, ◌+◌, ◌-◌, ◌*◌, ◌/◌, ◌%◌, ◌<◌, ◌≤◌, List, [], length, get_or, take, drop}
use Rattle.std.proofs.Common.{sym, refl, ap, ◌∙◌, arith, add-one}
use Rattle.std.specs.Prelude.{slice_index}
use Rattle.std.specs.Int.{byte_at, to_le_bytes, w64}
use Rattle.std.proofs.lemmas.List.{
  length_push,
  get_or_append_left,
  get_or_at,
  length-take-le,
  length-drop,
  get_or-take,
  get_or-drop,
  ext_get_or,
}
use mathlib.Core.Logic.{dite}
use native.Mathlib.Decide.{ℕ_discrete}
use Rattle.tree_row.specs.Slots.{text_at}
use Rattle.tree_row.specs.inner.Words.{IsStart}

pub byte_is : (n i : ℕ) → i < 8 → get_or (to_le_bytes w64 n) i 0 ≡ byte_at i n
byte_is n zero l = refl
byte_is n (suc zero) l = refl
byte_is n (suc (suc zero)) l = refl
byte_is n (suc (suc (suc zero))) l = refl
byte_is n (suc (suc (suc (suc zero)))) l = refl
byte_is n (suc (suc (suc (suc (suc zero))))) l = refl
byte_is n (suc (suc (suc (suc (suc (suc zero)))))) l = refl
byte_is n (suc (suc (suc (suc (suc (suc (suc zero))))))) l = refl
byte_is n (suc (suc (suc (suc (suc (suc (suc (suc i)))))))) l = absurd (omega arith)

pub length-text : (row : List ℕ) (base n : ℕ) → length (text_at row base n) ≡ n
length-text row base zero = refl
length-text row base (suc n) = length_push (text_at row base n) _ ∙ ap (λ (z : ℕ). z + 1) (length-text row base n) ∙ add-one n

-- one byte of a text
pub text_byte : (row : List ℕ) (base n i : ℕ) → i < n → get_or (text_at row base n) i 0 ≡ byte_at (i % 8) (slice_index row (base + i / 8))
text_byte row base zero i l = absurd (omega arith)
text_byte row base (suc n) i l = dite (ℕ_discrete i n)
    (λ e. (λ k. get_or (text_at row base (suc n)) (e k) 0) ∙ get_or_at (text_at row base n) _ [] 0 n (length-text row base n)
    ∙ (λ k. byte_at (sym e k % 8) (slice_index row (base + sym e k / 8))))
    (λ other. let a = length-text row base n in get_or_append_left (text_at row base n) _ 0 i (omega arith)
    ∙ text_byte row base n i (omega arith))

-- a text of these bytes is the front of this one
pub text_taken : (row : List ℕ) (base count : ℕ) (text : List ℕ) → count ≤ length text →
    ((i : ℕ) → i < count → byte_at (i % 8) (slice_index row (base + i / 8)) ≡ slice_index text i) →
    text_at row base count ≡ take count text
text_taken row base count text fits same =
    let long = length-text row base count in
    ext_get_or 0 _ _ (long ∙ sym (length-take-le count text fits))
    (λ i l. let near : i < count = omega arith in
    text_byte row base count i near ∙ same i near ∙ sym (get_or-take count text i 0 near))

-- and all of it, if it is as long
pub text_is : (row : List ℕ) (base : ℕ) (text : List ℕ) →
    ((i : ℕ) → i < length text → byte_at (i % 8) (slice_index row (base + i / 8)) ≡ slice_index text i) →
    text_at row base (length text) ≡ text
text_is row base text same =
    let long = length-text row base (length text) in
    ext_get_or 0 _ _ long (λ i l. let near : i < length text = omega arith in text_byte row base (length text) i near ∙ same i near)

-- a word of it has eight bytes of it
pub word_starts : (row : List ℕ) (base : ℕ) (text : List ℕ) (k word : ℕ) → text_at row base (length text) ≡ text →
    slice_index row (base + k) ≡ word → IsStart word (drop (8 * k) text)
word_starts row base text k word same is j l near =
    let fits = length-drop (8 * k) text in
    let low : 8 * k + j < length text = omega arith in
    let byte = text_byte row base (length text) (8 * k + j) low in
    let at : (8 * k + j) / 8 ≡ k = omega arith in
    let nth : (8 * k + j) % 8 ≡ j = omega arith in
    sym (get_or-drop (8 * k) text j 0 ∙ sym (ap (λ (z : List ℕ). get_or z (8 * k + j) 0) same) ∙ byte
    ∙ (λ i. byte_at (nth i) (slice_index row (base + at i))) ∙ ap (byte_at j) is)

-- bytes that are known up to a word are known up to the next one
pub bytes_more : (row text : List ℕ) (base k word count : ℕ) → slice_index row (base + k) ≡ word → IsStart word (drop (8 * k) text) →
    count ≤ length text →
    ((i : ℕ) → i < 8 * k → i < count → byte_at (i % 8) (slice_index row (base + i / 8)) ≡ slice_index text i) →
    (i : ℕ) → i < 8 * (k + 1) → i < count → byte_at (i % 8) (slice_index row (base + i / 8)) ≡ slice_index text i
bytes_more row text base k word count is start fits before i l near = dite (ℕ_discrete (i / 8) k)
    (λ at.
    let long = length-drop (8 * k) text in
    let nth : i % 8 ≡ i - 8 * k = omega arith in
    (λ z. byte_at (nth z) (slice_index row (base + at z))) ∙ ap (byte_at (i - 8 * k)) is
    ∙ start (i - 8 * k) (omega arith) (omega arith) ∙ get_or-drop (8 * k) text (i - 8 * k) 0
    ∙ ap (λ (z : ℕ). get_or text z 0) (let e : 8 * k + (i - 8 * k) ≡ i = omega arith in e))
    (λ other. before i (omega arith) near)
