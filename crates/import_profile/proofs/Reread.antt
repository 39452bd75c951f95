-- The canonical text of a path that can be read is read as that path, and what a text is read as is allowed where it is.
use Rattle.std.proofs.Common.{◌≡◌, ℕ, suc, ◌≤◌, Bool, true, false, List, [], ◌∷◌, ◌++◌, length, map, Some, None, Ok, Err, Option, Result}
use Rattle.std.proofs.Common.{refl, sym, ap, subst, ◌∙◌, arith, ◌==◌, if◌then◌else◌}
use Rattle.std.specs.Prelude.{codes}
use Rattle.std.proofs.lemmas.Bool.{eqb-true}
use Rattle.rule_globs.specs.Tokens.{Token, byte, any_byte, bracket, stars, opening, between, closing}
use Rattle.rule_reader.specs.GrammarPaths.{WrittenItem, print_items, items_mean, is_plain_slash_item}
use Rattle.rule_reader.specs.PathText.{whole_tokens, text_tokens}
use Rattle.rule_profile.specs.Readable.{begins_with_slash, are_tokens, is_path}
use Rattle.rule_reader.specs.ReadPaths.{tokens_at, path_in, path_at}
use Rattle.rule_reader.specs.ReadSteps.{◌>>=◌, syntax}
use Rattle.rule_reader.specs.ReadWords.{literal}
use Rattle.rule_reader.specs.TextBytes.{begins}
use Rattle.rule_globs.specs.Glob.{is_slash}
use Rattle.rule_reader.proofs.AgainPaths.{path_again}
use Rattle.rule_reader.proofs.AgainWords.{quote_regrouped}
use Rattle.rule_reader.proofs.ReadStands.{read_stands}
use Rattle.rule_reader.proofs.TakePaths.{tokens_take}
use Rattle.rule_writer.proofs.CanonItems.{canonical_item, canonical_path, canonical_path_valid, canonical_path_means, items_print}
use Rattle.rule_writer.proofs.CanonItems.{path_parts}
use Rattle.import_profile.specs.Settled.{path_text}

abbrev Taken : Type 0
Taken = List Token × List ℕ

-- the tokens, and the bytes that are left
abbrev taken : List Token → List ℕ → Taken
taken row left = (row, left)

abbrev front_of : {E : Type 0} → Result Taken E → Option (List Token)
front_of (Ok x) = Some x.0
front_of (Err fault) = None

abbrev left_of : {E : Type 0} → Result Taken E → List ℕ
left_of (Ok x) = x.1
left_of (Err fault) = []

-- what was read goes on to the closing quote, which is the last byte
quote_left : (row path : List Token) (left : List ℕ) → (literal (codes "\"") left >>= λ rest. Ok (taken row rest)) ≡ Ok (taken path []) →
    whole_tokens (Ok (taken row left)) ≡ Some path
quote_left row path [] e = absurd cc
quote_left row path (b ∷ []) e =
    elim (b == 34) as (λ t. ((if t then Ok [] else syntax (b ∷ [])) >>= λ rest. Ok (taken row rest)) ≡ Ok (taken path []) →
    Some row ≡ Some path) [
      | true ↦ λ e. ap front_of e
      | false ↦ λ e. absurd cc
    ] e
quote_left row path (b ∷ c ∷ left) e =
    elim (b == 34) as (λ t. ((if t then Ok (c ∷ left) else syntax (b ∷ c ∷ left)) >>= λ rest. Ok (taken row rest)) ≡ Ok (taken path []) →
    whole_tokens (Ok (taken row (b ∷ c ∷ left))) ≡ Some path) [
      | true ↦ λ e. absurd (let no : c ∷ left ≡ [] = ap left_of e in cc)
      | false ↦ λ e. absurd cc
    ] e

-- a path in quotes is read as the text between them
quoted_as_text : (text : List ℕ) → begins is_slash text ≡ true → path_at (34 ∷ (text ++ 34 ∷ []))
    ≡ (tokens_at true 1024 [] false (text ++ 34 ∷ []) >>= λ path. literal (codes "\"") path.1 >>= λ rest. Ok (taken path.0 rest))
unfolding path_at path_in
quoted_as_text [] h = absurd cc
quoted_as_text (b ∷ text) h = rw h refl

text_begins : (path : List Token) → begins_with_slash path ≡ true → begins is_slash (path_text path) ≡ true
text_begins [] h = absurd cc
text_begins (byte b ∷ path) h = subst (λ n. begins is_slash (path_text (byte n ∷ path)) ≡ true) (sym (eqb-true b 47 h)) refl
text_begins (any_byte ∷ path) h = absurd cc
text_begins (bracket negated ranges ∷ path) h = absurd cc
text_begins (stars crosses strict ∷ path) h = absurd cc
text_begins (opening ∷ path) h = absurd cc
text_begins (between ∷ path) h = absurd cc
text_begins (closing ∷ path) h = absurd cc

as_whole : (z : Result Taken _) (path : List Token) → (z >>= λ path. literal (codes "\"") path.1 >>= λ rest. Ok (taken path.0 rest))
    ≡ Ok (taken path []) → whole_tokens z ≡ Some path
as_whole (Ok x) path e = quote_left x.0 path x.1 e
as_whole (Err fault) path e = absurd cc

pub text_again : (path : List Token) → is_path path ≡ true → text_tokens (path_text path) ≡ Some path
text_again path h =
    let text = path_text path in
    let written : path_at (34 ∷ (text ++ 34 ∷ [])) ≡ Ok (taken path []) =
    ap (λ x. path_at (34 ∷ (x ++ 34 ∷ []))) (sym (items_print path))
    ∙ ap (λ x. path_at (34 ∷ x)) (sym (quote_regrouped (print_items (map canonical_item path)) []))
    ∙ path_again (canonical_path path) [] (canonical_path_valid path h) tt
    ∙ ap (λ row. Ok (taken row [])) (canonical_path_means path h) in
    as_whole (tokens_at true 1024 [] false (text ++ 34 ∷ [])) path (sym (quoted_as_text text (text_begins path (path_parts path h).0))
    ∙ written)

-- ---- what a text is read as

-- as many tokens as items
same_length : (after_slash : Bool) (items : List WrittenItem) → length (items_mean after_slash items) ≡ length items
same_length after_slash [] = refl
same_length after_slash (i ∷ items) = ap (λ (n : ℕ). suc n) (same_length (is_plain_slash_item i) items)

if_one : (n : ℕ) (row path : List Token) → (if n == 1 then Some row else None) ≡ Some path → row ≡ path
if_one n row path e =
    elim (n == 1) as (λ t. (if t then Some row else None) ≡ Some path → row ≡ path) [ true ↦ λ e. cc | false ↦ λ e. absurd cc ] e

was_read : (z : Result Taken _) (path : List Token) → whole_tokens z ≡ Some path → (left : List ℕ) × (z ≡ Ok (taken path left))
was_read (Ok x) path e = (x.1, ap (λ row. Ok (taken row x.1)) (if_one (length x.1) x.0 path e))
was_read (Err fault) path e = absurd cc

pub record IsRead (path : List Token) : Type 0 where
  pub few : length path ≤ 1024
  pub stands : are_tokens false 0 path ≡ true

pub as_read : (text : List ℕ) (path : List Token) → text_tokens text ≡ Some path → IsRead path
as_read text path e =
    let bytes = text ++ 34 ∷ [] in
    let is = was_read (tokens_at true 1024 [] false bytes) path e in
    let items = tokens_take true 1024 [] false bytes (path, is.0) is.1 in
    record {
      few = omega (arith, items.few, same_length false items.written, ap length items.means);
      stands = read_stands bytes path is.0 is.1;
    }
