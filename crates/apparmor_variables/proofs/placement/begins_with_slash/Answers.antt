use Rattle.std.proofs.Common.{◌≡◌, ◌<◌, List, ℕ, [], ◌∷◌, length, sym, refl, arith}
use Rattle.apparmor_variables.proofs.FirstSlashes.{text_slash, no_slash}
use Rattle.apparmor_variables.proofs.placement.begins_with_slash.Goals as goal

empty : (text : List ℕ) → length text < 1 → text ≡ []
empty [] few = refl
empty (b ∷ text) few = absurd (omega arith)

pub returns-in-empty : goal.returns-in-empty
returns-in-empty c = sym (no_slash c.args.text.now (empty c.args.text.now c.in-empty.len_below))

pub returns-in-len1-up : goal.returns-in-len1-up
returns-in-len1-up c = sym (text_slash c.args.text.now c.in-len1-up.len_at_least)
