-- A path's text with its variables put in place (apparmor.d(5), "Variables"; where it is silent, what AppArmor's parser
-- does). The substitution is textual, so that what is put there is read with the rest.
use Rattle.std.specs.Prelude.{◌≡◌, ℕ, ◌<◌, ◌≤◌, Bool, false, if◌then◌else◌, List, [], ◌∷◌, ◌++◌, length, reverse, Option, Some}
use Rattle.std.specs.Prelude.{option_and_then}
use Rattle.std.specs.List.{flat_map}
use Rattle.names.specs.Ascii as ascii
use Rattle.names.specs.Paths.{is_slash, ends_with_slash}
use Rattle.apparmor_pieces.specs.Pieces.{Text, Piece, byte, escaped, use_of, pieces, used_names}
use Rattle.apparmor_variables.specs.Variables.{Variable, Known, piece_texts, list_at, most_bytes}
use Rattle.apparmor_variables.specs.Problems.{Problem, HasProblem, AreListed, too_long}

abbrev pub without_leading_slashes : Text → Text
without_leading_slashes [] = []
without_leading_slashes (b ∷ bytes) = if is_slash b then without_leading_slashes bytes else b ∷ bytes

-- the same at the text's end
abbrev pub without_trailing_slashes : Text → Text
without_trailing_slashes text = reverse (without_leading_slashes (reverse text))

-- A text of a group, by whether a slash is directly before the group, and whether one is directly after it: the text's own
-- slashes next to it are left out.
abbrev pub alternative : Bool → Bool → Text → Text
alternative before behind text =
    let end = if before then without_leading_slashes text else text in
    if behind then without_trailing_slashes end else end

-- the texts of a group, separated by commas
abbrev pub alternatives : Bool → Bool → List Text → Text
alternatives before behind [] = []
alternatives before behind (text ∷ texts) = alternative before behind text
    ++ flat_map (λ other. ascii.comma ∷ alternative before behind other) texts

-- a single text is left as it is; several form one group
abbrev pub in_place : Bool → Bool → List Text → Text
in_place before behind (text ∷ []) = text
in_place before behind texts = ascii.open_brace ∷ alternatives before behind texts ++ ascii.close_brace ∷ []

-- The next byte, as it is written, is a slash. A variable is none, whatever its texts are.
abbrev pub begins_with_slash : List Piece → Bool
begins_with_slash [] = false
begins_with_slash (byte b ∷ more) = is_slash b
begins_with_slash (escaped b ∷ more) = false
begins_with_slash (use_of name ∷ more) = false

-- The text so far, followed by the pieces with the variables in place, if their lists are known. Whether a slash is directly
-- before a variable depends on the text so far, in which the variables to the left are already in place.
abbrev pub text_of : Known → Text → List Piece → Option Text
text_of known so_far [] = Some so_far
text_of known so_far (p ∷ more) =
    option_and_then (λ texts. text_of known (so_far ++ in_place (ends_with_slash so_far) (begins_with_slash more) texts) more)
    (piece_texts known p)

abbrev pub path_text : Known → Text → Option Text
path_text known path = text_of known [] (pieces path)

-- the path with its variables in place is this text
pub record IsSubstituted (variables : List Variable) (path text : Text) : Type 0 where
  pub levels : ℕ
  pub is : path_text (list_at levels variables) path ≡ Some text
  pub short : length text ≤ most_bytes

-- why there is no such text
pub data PathProblem (variables : List Variable) (path : Text) : Problem → Type 0 where
  -- the first variable that it uses and that has no list has this problem
  OfUse : (before after : List Text) → (name : Text) → (problem : Problem)
      → (used_names path ≡ before ++ name ∷ after) → AreListed variables before
      → HasProblem variables [] name problem → PathProblem variables path problem
  -- all have lists, and the text would be too long
  TextTooLong : (levels : ℕ) → (text : Text)
      → (path_text (list_at levels variables) path ≡ Some text) → (most_bytes < length text) → PathProblem variables path too_long
