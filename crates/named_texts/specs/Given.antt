-- Texts in memory, by their names.
use Rattle.std.specs.Prelude.{ℕ, List, Option, find, option_map}
use Rattle.std.specs.Str.{bytes_eq}
use Rattle.named_texts.specs.declared.given.GivenText.{GivenText}

-- the first text with this name
abbrev pub given_text : List GivenText → List ℕ → Option (List ℕ)
given_text texts name = option_map (λ given. given.text.now) (find (λ given. bytes_eq given.name.now name) texts)
