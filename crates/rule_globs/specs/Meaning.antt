-- The pattern that the items of a path stand for.
use Rattle.std.specs.Prelude.{Bool, List, [], ◌∷◌, map, Vec, if◌then◌else◌}
use Rattle.std.specs.declared.alloc.Global.{Global}
use Rattle.rule_globs.specs.Glob.{Glob, empty, one, run, cat, none, alt, ByteSet, exactly, not_slash, every_byte, class}
use Rattle.rule_globs.specs.declared.items.Item.{Item}
use Rattle.rule_globs.specs.declared.items.Item.TheOpen.{Item-F}
use Rattle.rule_globs.specs.declared.items.Item.TheFolds.{fold-Item}

-- one after another
abbrev pub cat_all : List Glob → Glob
cat_all [] = empty
cat_all (a ∷ rest) = cat a (cat_all rest)

-- one of them
abbrev pub alt_all : List Glob → Glob
alt_all [] = none
alt_all (a ∷ rest) = alt a (alt_all rest)

-- the bytes of a run of stars: two stars cross slashes, one doesn't
abbrev pub in_stars : Bool → ByteSet
in_stars crosses_slashes = if crosses_slashes then every_byte else not_slash

-- a strict run takes one byte that isn't a slash, and then what any run does (our choice; the page shows it by examples)
abbrev pub stars_glob : Bool → Bool → Glob
stars_glob crosses_slashes strict =
    if strict then cat (one not_slash) (run (in_stars crosses_slashes)) else run (in_stars crosses_slashes)

abbrev pub node_meaning : Item-F Glob → Glob
node_meaning (Item-F.Byte b) = one (exactly b)
node_meaning Item-F.AnyByte = one not_slash
node_meaning (Item-F.Class c) = one (class c.negated c.ranges)
node_meaning (Item-F.Stars stars) = stars_glob stars.crosses_slashes stars.strict
node_meaning (Item-F.Group alternatives) = alt_all (map (λ items. cat_all items.items) alternatives.items)

-- what an item stands for, and the items within it
abbrev pub meaning : Item → Glob
meaning = fold-Item Glob node_meaning

-- what a list of items stands for
abbrev pub meaning_of : List Item → Glob
meaning_of items = cat_all (map meaning items)

-- what the alternatives of a group stand for
abbrev pub alternatives_meaning : List (Vec Item Global) → Glob
alternatives_meaning alternatives = alt_all (map (λ items. meaning_of items.items) alternatives)
