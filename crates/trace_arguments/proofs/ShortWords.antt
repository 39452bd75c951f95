-- Short options that are spelled out.
use Rattle.std.proofs.Common.{◌≡◌, ◌||◌, ◌++◌, Bool, true, false, List, [], ◌∷◌, refl}
use Rattle.std.specs.Prelude.{codes, if◌then◌else◌}
use Rattle.std.specs.Str.{bytes_eq}
use Rattle.clap.specs.Walk.{Text}
use Rattle.trace_arguments.specs.ShortOptions.{spelled_out, word_spelled}

-- the words spelled out, perhaps after `--`
abbrev pub spelled_after : Bool → List Text → List Text
spelled_after true words = words
spelled_after false words = spelled_out words

pub one_spelled : (escaped : Bool) (word : Text) (words : List Text) → spelled_after escaped (word ∷ words)
    ≡ (if escaped || bytes_eq word (codes "--") then word ∷ [] else word_spelled word)
    ++ spelled_after (escaped || bytes_eq word (codes "--")) words
one_spelled true word words = refl
one_spelled false word words = go (bytes_eq word (codes "--"))
  where
    go : (dashes : Bool) → (if dashes then word ∷ words else word_spelled word ++ spelled_out words)
        ≡ (if dashes then word ∷ [] else word_spelled word) ++ spelled_after dashes words
    go true = refl
    go false = refl

-- ---- examples

bundle : spelled_out (codes "aa-trace" ∷ codes "judge" ∷ codes "-vq" ∷ codes "r" ∷ codes "/a" ∷ [])
    ≡ codes "aa-trace" ∷ codes "judge" ∷ codes "--verbose" ∷ codes "--quiet" ∷ codes "r" ∷ codes "/a" ∷ []
bundle = refl

-- other letters, a hyphen alone, and long options stay
others : spelled_out (codes "-nz" ∷ codes "-" ∷ codes "-V" ∷ codes "--v" ∷ codes "-n0" ∷ [])
    ≡ codes "-nz" ∷ codes "-" ∷ codes "-V" ∷ codes "--v" ∷ codes "--not-allowed" ∷ codes "--null" ∷ []
others = refl

-- after `--`
escaped : spelled_out (codes "-0" ∷ codes "--" ∷ codes "-v" ∷ []) ≡ codes "--null" ∷ codes "--" ∷ codes "-v" ∷ []
escaped = refl
