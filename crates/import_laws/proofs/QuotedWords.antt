-- Words in quotes: where one ends, and that names and the texts of paths are such words.
use Rattle.std.proofs.Common.{◌≡◌, ℕ, suc, ◌-◌, Bool, true, false, cond, List, [], ◌∷◌, ◌++◌, length, drop, Ok, refl, sym, ap, subst, ◌∙◌}
use Rattle.std.proofs.Common.{◌==◌, arith}
use Rattle.std.specs.Prelude.{◌&&◌, ◌||◌, not, codes, nat_eq}
use Rattle.std.specs.List.{list_all, flat_map, ends_with}
use lib.Pointwise.{pointwise}
use Rattle.std.proofs.lemmas.Bool.{and_parts, not-true, eqb-true}
use Rattle.rule_globs.specs.declared.items.ByteRange.{ByteRange}
use Rattle.rule_globs.specs.Tokens.{Token, byte, any_byte, bracket, stars, opening, between, closing}
use Rattle.rule_profile.specs.PathTokens.{depth_behind, is_plain_slash}
use Rattle.rule_profile.specs.Readable.{can_stand, are_name_bytes, is_range, is_token, are_tokens}
use Rattle.rule_writer.specs.Canonical.{escaped_among, range_text, token_text}
use Rattle.rule_writer.proofs.CanonCells.{stands, is_special}
use Rattle.apparmor_words.specs.Words.{quoted_at, word_end}
use Rattle.import_laws.specs.CanonicalItems.{path_text, ends_plainly}

pub record NameHead (escaped : Bool) (b : ℕ) (bytes : List ℕ) : Type 0 where
  pub zero : (b == 0) ≡ false
  pub line_feed : (b == 10) ≡ false
  pub quote : (b == 34 && not escaped) ≡ false
  pub rest : are_name_bytes (not escaped && b == 92) bytes ≡ true

and_false : (b : Bool) → (b && false) ≡ false
and_false true = refl
and_false false = refl

no_quote : (escaped : Bool) (b : ℕ) → (escaped || not (b == 34)) ≡ true → (b == 34 && not escaped) ≡ false
no_quote true b h = rw (and_false (b == 34)) refl
no_quote false b h = rw (not-true (b == 34) h) refl

pub name_head : (escaped : Bool) (b : ℕ) (bytes : List ℕ) → are_name_bytes escaped (b ∷ bytes) ≡ true → NameHead escaped b bytes
name_head escaped b bytes h =
    let p = and_parts (can_stand b && (escaped || not (b == 34))) (are_name_bytes (not escaped && b == 92) bytes) h in
    let q = and_parts (can_stand b) (escaped || not (b == 34)) p.0 in
    let s = stands b q.0 in
    record { zero = s.0; line_feed = s.1; quote = no_quote escaped b q.1; rest = p.1 }

-- ---- the last byte

-- the last of these bytes is a backslash; of none, this
abbrev is_last : Bool → List ℕ → Bool
is_last before [] = before
is_last before (b ∷ bytes) = is_last (b == 92) bytes

last_of_more : (b c : ℕ) (bytes : List ℕ) → ends_with nat_eq (b ∷ c ∷ bytes) (92 ∷ []) ≡ ends_with nat_eq (c ∷ bytes) (92 ∷ [])
last_of_more b c bytes =
    let n : length (b ∷ c ∷ bytes) - 1 ≡ suc (length (c ∷ bytes) - 1) = omega arith in
    ap (λ k. pointwise nat_eq (92 ∷ []) (drop k (b ∷ c ∷ bytes))) n

last_from : (b : ℕ) (bytes : List ℕ) → ends_plainly (b ∷ bytes) ≡ true → is_last (b == 92) bytes ≡ false
last_from b [] h = at (b == 92) refl
  where
    at : (t : Bool) → (b == 92) ≡ t → t ≡ false
    at false e = refl
    at true e =
        let same : b ≡ 92 = eqb-true b 92 e in
        let no : false ≡ true = subst (λ (x : ℕ). ends_plainly (x ∷ []) ≡ true) same h in absurd cc
last_from b (c ∷ bytes) h = last_from c bytes (sym (ap not (last_of_more b c bytes)) ∙ h)

last_plain : (bytes : List ℕ) → ends_plainly bytes ≡ true → is_last false bytes ≡ false
last_plain [] h = refl
last_plain (b ∷ bytes) h = last_from b bytes h

last_sooner : (x y : Bool) (bytes : List ℕ) → is_last y bytes ≡ false → is_last (x && y) bytes ≡ false
last_sooner true y bytes h = h
last_sooner false y [] h = refl
last_sooner false y (b ∷ bytes) h = h

-- ---- words in quotes

-- bytes that a name may have, the last of which is no backslash, and a quote
pub quoted_ends : (escaped doubled : Bool) (bytes rest : List ℕ) → are_name_bytes escaped bytes ≡ true → is_last doubled bytes ≡ false →
    quoted_at (record { escaped = escaped; doubled = doubled }) (bytes ++ 34 ∷ rest) ≡ Ok rest
quoted_ends true doubled [] rest h l = absurd cc
quoted_ends false doubled [] rest h l = rw l refl
quoted_ends escaped doubled (b ∷ bytes) rest h l =
    let p = name_head escaped b bytes h in
    let more = quoted_ends (not escaped && b == 92) (escaped && b == 92) bytes rest p.rest (last_sooner escaped (b == 92) bytes l) in
    rw (p.zero, p.line_feed, p.quote) more

pub word_ends : (bytes rest : List ℕ) → are_name_bytes false bytes ≡ true → ends_plainly bytes ≡ true →
    word_end (34 ∷ (bytes ++ 34 ∷ rest)) ≡ Ok rest
unfolding word_end
word_ends bytes rest h plain = quoted_ends false false bytes rest h (last_plain bytes plain)

-- ---- the texts of paths

-- bytes that may be in a name, none of which is left to escape the next
abbrev pub Hidden : List ℕ → Type 0
Hidden bytes = are_name_bytes false bytes ≡ true

hidden_append : (x y : List ℕ) → Hidden x → Hidden y → Hidden (x ++ y)
hidden_append x y h g = at false x h
  where
    at : (escaped : Bool) (x : List ℕ) → are_name_bytes escaped x ≡ true → are_name_bytes escaped (x ++ y) ≡ true
    at true [] h = absurd cc
    at false [] h = g
    at escaped (b ∷ x) h =
        let p = and_parts (can_stand b && (escaped || not (b == 34))) (are_name_bytes (not escaped && b == 92) x) h in
        rw (p.0) (at (not escaped && b == 92) x p.1)

-- one byte that is neither a quote nor a backslash
plain_hidden : (b : ℕ) → can_stand b ≡ true → (b == 34) ≡ false → (b == 92) ≡ false → Hidden (b ∷ [])
plain_hidden b h e f = rw (h, e, f) refl

-- a byte that has a backslash before it where it is one of these, which has to be so of a quote and of a backslash
escaped_hidden : (special : List ℕ) (b : ℕ) → is_special special 34 ≡ true → is_special special 92 ≡ true → can_stand b ≡ true →
    Hidden (escaped_among special b)
escaped_hidden special b quote backslash h = at (is_special special b) refl
  where
    apart : (c : ℕ) → is_special special c ≡ true → is_special special b ≡ false → (t : Bool) → (b == c) ≡ t → t ≡ false
    apart c special_is none false f = refl
    apart c special_is none true f =
        let same : is_special special b ≡ is_special special c = ap (is_special special) (eqb-true b c f) in
        let no : true ≡ false = sym special_is ∙ sym same ∙ none in absurd cc

    at : (t : Bool) → is_special special b ≡ t → Hidden (cond t (92 ∷ b ∷ []) (b ∷ []))
    at true e = rw (h) refl
    at false e = plain_hidden b h (apart 34 quote e (b == 34) refl) (apart 92 backslash e (b == 92) refl)

range_hidden : (r : ByteRange) → is_range r ≡ true → Hidden (range_text r)
range_hidden r h =
    let p = and_parts (can_stand r.first && can_stand r.last) _ h in
    let q = and_parts (can_stand r.first) (can_stand r.last) p.0 in
    let first = escaped_hidden (codes "\\]^-\"") r.first refl refl q.0 in
    let last = escaped_hidden (codes "\\]^-\"") r.last refl refl q.1 in
    let both = hidden_append (escaped_among (codes "\\]^-\"") r.first) (codes "-" ++ escaped_among (codes "\\]^-\"") r.last) first
    (hidden_append (codes "-") (escaped_among (codes "\\]^-\"") r.last) (plain_hidden 45 refl refl refl) last) in
    chosen (r.first == r.last) _ _ both first
  where
    chosen : (t : Bool) (x y : List ℕ) → Hidden y → Hidden x → Hidden (cond t x y)
    chosen true x y h g = g
    chosen false x y h g = h

ranges_hidden : (ranges : List ByteRange) → list_all is_range ranges ≡ true → Hidden (flat_map range_text ranges)
ranges_hidden [] h = refl
ranges_hidden (r ∷ ranges) h =
    let p = and_parts (is_range r) (list_all is_range ranges) h in
    hidden_append (range_text r) (flat_map range_text ranges) (range_hidden r p.0) (ranges_hidden ranges p.1)

token_hidden : (after_slash : Bool) (depth : ℕ) (behind : List Token) (t : Token) → is_token after_slash depth behind t ≡ true →
    Hidden (token_text t)
token_hidden after_slash depth behind (byte b) h = escaped_hidden (codes "*?[{},\\\"@]") b refl refl h
token_hidden after_slash depth behind any_byte h = plain_hidden 63 refl refl refl
token_hidden after_slash depth behind (bracket negated ranges) h =
    let p = and_parts _ (list_all is_range ranges) h in
    let within = hidden_append (flat_map range_text ranges) (codes "]") (ranges_hidden ranges p.1) (plain_hidden 93 refl refl refl) in
    at negated within
  where
    at : (negated : Bool) → Hidden (flat_map range_text ranges ++ codes "]") → Hidden (token_text (bracket negated ranges))
    at true g =
        hidden_append (codes "[") (94 ∷ (flat_map range_text ranges ++ codes "]")) (plain_hidden 91 refl refl refl)
        (hidden_append (codes "^") (flat_map range_text ranges ++ codes "]") (plain_hidden 94 refl refl refl) g)
    at false g = hidden_append (codes "[") (flat_map range_text ranges ++ codes "]") (plain_hidden 91 refl refl refl) g
token_hidden after_slash depth behind (stars true strict) h = hidden_append (codes "*") (codes "*") (plain_hidden 42 refl refl refl)
    (plain_hidden 42 refl refl refl)
token_hidden after_slash depth behind (stars false strict) h = plain_hidden 42 refl refl refl
token_hidden after_slash depth behind opening h = plain_hidden 123 refl refl refl
token_hidden after_slash depth behind between h = plain_hidden 44 refl refl refl
token_hidden after_slash depth behind closing h = plain_hidden 125 refl refl refl

pub path_is_hidden : (after_slash : Bool) (depth : ℕ) (tokens : List Token) → are_tokens after_slash depth tokens ≡ true →
    Hidden (path_text tokens)
path_is_hidden after_slash depth [] h = refl
path_is_hidden after_slash depth (t ∷ tokens) h =
    let p = and_parts (is_token after_slash depth tokens t) (are_tokens (is_plain_slash t) (depth_behind t depth) tokens) h in
    hidden_append (token_text t) (path_text tokens) (token_hidden after_slash depth tokens t p.0)
    (path_is_hidden (is_plain_slash t) (depth_behind t depth) tokens p.1)
