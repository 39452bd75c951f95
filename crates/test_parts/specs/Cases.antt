-- Cases as they are written: a title, what is asked, options, a text.
use Rattle.std.specs.Prelude.{◌≡◌, ℕ, suc, zero, ◌+◌, ◌++◌, ◌==◌, List, Some, codes, length, slice_get}
use Rattle.std.specs.List.{before_first, after_first}
use Rattle.names.specs.Ascii as ascii

-- the first line, without its end
abbrev pub line_of : List ℕ → List ℕ
line_of text = before_first (λ b. b == ascii.line_feed) text

-- what follows that many lines
abbrev pub after_lines : ℕ → List ℕ → List ℕ
after_lines zero text = text
after_lines (suc n) text = after_first (λ b. b == ascii.line_feed) (after_lines n text)

-- an option's line
abbrev pub IsOption : List ℕ → List ℕ → Type 0
IsOption line option = line ≡ codes "+ " ++ option

-- the second line; the lines after it that are options, one after another; and all that follows these
pub record IsRead (written : List ℕ) (view : List ℕ) (options : List (List ℕ)) (text : List ℕ) : Type 0 where
  pub second : view ≡ line_of (after_lines 1 written)
  pub each : (i : ℕ) (o : List ℕ) → slice_get options i ≡ Some o → IsOption (line_of (after_lines (i + 2) written)) o
  pub rest : text ≡ after_lines (length options + 2) written
  pub last : (o : List ℕ) → IsOption (line_of text) o → ⊥
