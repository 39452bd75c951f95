-- What the variables of a text count towards the limit on all of its texts together (our choice; AppArmor has no bound).
use Rattle.std.specs.Prelude.{◌≡◌, ◌<◌, ◌≤◌, ◌⊎◌, ℕ, ◌+◌, ◌*◌, List, [], ◌∷◌, length, drop, Option, Some, None}
use Rattle.apparmor_pieces.specs.Pieces.{Text}
use Rattle.apparmor_variables.specs.Variables.{Variable, HasList, byte_count, most_bytes, most_texts}
use Rattle.apparmor_variables.specs.Problems.{Problem, HasProblem}

-- what a text of a list counts besides its bytes
abbrev pub text_share : ℕ
text_share = 16

abbrev pub list_count : List Text → ℕ
list_count texts = byte_count texts + text_share * length texts

-- what the longest list counts
abbrev pub most_list_count : ℕ
most_list_count = most_bytes + text_share * most_texts

-- what the list of the variable of that name counts; if it has none, as much as the longest
abbrev pub ListCounts : List Variable → Text → ℕ → Type 0
ListCounts variables name n =
    ((list : List Text) × HasList variables name list × (n ≡ list_count list))
    ⊎ ((problem : Problem) × HasProblem variables [] name problem × (n ≡ most_list_count))

-- a variable counts the bytes of its values, as they are written, and its list
abbrev pub Counts : List Variable → Variable → ℕ → Type 0
Counts variables v n = (list : ℕ) × ListCounts variables v.name list × (n ≡ byte_count v.values + list)

-- what some of the variables count together
abbrev pub CountTogether : List Variable → List Variable → ℕ → Type 0
CountTogether variables [] n = n ≡ 0
CountTogether variables (v ∷ others) n =
    (one : ℕ) × (rest : ℕ) × Counts variables v one × CountTogether variables others rest × (n ≡ one + rest)

-- what all but the first count: the first has its value from elsewhere
abbrev pub OthersCount : List Variable → ℕ → Type 0
OthersCount variables n = CountTogether variables (drop 1 variables) n

-- the number for which this holds, if it is at most `most`
abbrev pub AtMost : (ℕ → Type 0) → ℕ → Option ℕ → Type 0
AtMost IsIt most (Some n) = IsIt n × (n ≤ most)
AtMost IsIt most None = (n : ℕ) × IsIt n × (most < n)
