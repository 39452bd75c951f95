-- Lists of texts whose limits apply to whole lists only (in `Variables.antt` they also apply to all that a list is made of).
use Rattle.std.specs.Prelude.{ℕ, zero, suc, List, [], ◌∷◌, ◌++◌, Option, Some, None, option_and_then}
use Rattle.apparmor_pieces.specs.Pieces.{Text, Piece, pieces}
use Rattle.apparmor_variables.specs.Variables.{Variable, Known, values_of, fitting, each_with, piece_texts}

-- the texts that extend these by each piece in turn, however many and however long
abbrev pub all_texts_from : Known → List Text → List Piece → Option (List Text)
all_texts_from known begun [] = Some begun
all_texts_from known begun (p ∷ more) = option_and_then (λ choices. all_texts_from known (each_with begun choices) more)
    (piece_texts known p)

-- the texts of these, and then those of each value in turn
abbrev pub all_from : Known → List Text → List Text → Option (List Text)
all_from known begun [] = Some begun
all_from known begun (value ∷ more) =
    option_and_then (λ texts. all_from known (begun ++ texts) more) (all_texts_from known ([] ∷ []) (pieces value))

-- the texts of all values, if they aren't too many or too long
abbrev pub whole_list : Known → List Text → Option (List Text)
whole_list known values = option_and_then fitting (all_from known [] values)

unfoldable pub whole_list_at : ℕ → List Variable → Known
whole_list_at zero variables name = None
whole_list_at (suc n) variables name = option_and_then (whole_list (whole_list_at n variables)) (values_of variables name)
