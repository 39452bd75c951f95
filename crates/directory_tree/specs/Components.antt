-- What a walk does with the components of a path or a link's text (path_resolution(7)).
use Rattle.std.specs.Prelude.{ℕ, Bool, true, false, ◌≡◌, ◌==◌, List, [], ◌∷◌, map, bytes_eq, if◌then◌else◌}
use Rattle.std.specs.List.{list_any}
use Rattle.names.specs.Ascii as ascii
use Rattle.names.specs.Paths.{components}

abbrev pub slash : ℕ
slash = ascii.slash

-- `.`
abbrev pub dot : List ℕ
dot = ascii.dot ∷ []

-- `..`
abbrev pub dot_dot : List ℕ
dot_dot = ascii.dot ∷ ascii.dot ∷ []

abbrev pub is_filled : List ℕ → Bool
is_filled [] = false
is_filled (b ∷ bytes) = true

-- a component leads nowhere, up, or down to an entry
pub data Step : Type 0 where
  Here : Step
  Up : Step
  Down : List ℕ → Step

abbrev pub step_of : List ℕ → Step
step_of component = if bytes_eq component dot then Here else if bytes_eq component dot_dot then Up else Down component

abbrev pub steps_of : List ℕ → List Step
steps_of text = map step_of (components text)

-- a component that an entry can have: not empty, no slash in it, and neither `.` nor `..`
pub record IsComponent (component : List ℕ) : Type 0 where
  pub filled : is_filled component ≡ true
  pub no_slash : list_any (λ b. b == slash) component ≡ false
  pub no_dot : bytes_eq component dot ≡ false
  pub no_dot_dot : bytes_eq component dot_dot ≡ false
