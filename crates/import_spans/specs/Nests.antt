-- Which profile an item of a text is in, by its braces: each head opens a profile, a child or a hat, and each closing brace closes
-- the innermost one that is open (apparmor.d(5), "Format").
use Rattle.std.specs.Prelude.{ℕ, suc, List, [], ◌∷◌, drop, Bool, false, ◌&&◌, ◌==◌}
use Rattle.apparmor_text.specs.declared.part.ItemKind.{ItemKind}
use Rattle.apparmor_text.specs.declared.part.ItemKind.TheVariants as items
use Rattle.apparmor_text.specs.Parts.{ItemValue}
use Rattle.import_spans.specs.Cuts.{is_rule}

-- how many profiles began, and the numbers of those that are open, the innermost first. The first that begins has number 0.
pub record Nesting : Type 0 where
  pub begun : ℕ
  pub still_open : List ℕ

abbrev pub in_none : Nesting
in_none = record { begun = 0; still_open = [] }

-- after an item of this kind
abbrev pub nested : ItemKind → Nesting → Nesting
nested items.Profile n = record { begun = suc n.begun; still_open = n.begun ∷ n.still_open }
nested items.Hat n = record { begun = suc n.begun; still_open = n.begun ∷ n.still_open }
nested items.Close n = record { begun = n.begun; still_open = drop 1 n.still_open }
nested _ n = n

abbrev pub nesting_after : List ItemValue → Nesting → Nesting
nesting_after [] n = n
nesting_after (item ∷ items) n = nesting_after items (nested item.kind n)

-- the innermost profile that is open has this number
abbrev pub is_innermost : ℕ → List ℕ → Bool
is_innermost number [] = false
is_innermost number (first ∷ others) = first == number

-- after these items from the text's start on, this one is a rule directly in the profile with this number
abbrev pub is_rule_of : ℕ → List ItemValue → ItemValue → Bool
is_rule_of number before item = is_innermost number (nesting_after before in_none).still_open && is_rule item.kind
