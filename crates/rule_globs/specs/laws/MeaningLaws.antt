-- The equations of `meaning`, one for each variant.
use Rattle.std.proofs.Common.{◌≡◌, ℕ, Vec, Global, sym, ap, ◌∙◌}
use Rattle.std.proofs.lemmas.Simd.{map-map}
use Rattle.rule_globs.specs.Glob.{Glob, one, exactly, not_slash, class}
use Rattle.rule_globs.specs.Meaning.{meaning, node_meaning, alt_all, stars_glob, alternatives_meaning}
use Rattle.rule_globs.specs.declared.items.Class.{Class}
use Rattle.rule_globs.specs.declared.items.Stars.{Stars}
use Rattle.rule_globs.specs.declared.items.Item.{Item, Item-F, fold-roll-Item}
use Rattle.rule_globs.specs.declared.items.Item.TheVariants as v
use Rattle.rule_globs.specs.declared.items.Item.TheVariants.{rolls-Byte, rolls-AnyByte, rolls-Class, rolls-Stars, rolls-Group}

pub meaning-Byte : (b : ℕ) → meaning (v.Byte b) ≡ one (exactly b)
meaning-Byte b = ap meaning (sym (rolls-Byte b)) ∙ fold-roll-Item Glob node_meaning (Item-F.Byte b)

pub meaning-AnyByte : meaning v.AnyByte ≡ one not_slash
meaning-AnyByte = ap meaning (sym rolls-AnyByte) ∙ fold-roll-Item Glob node_meaning Item-F.AnyByte

pub meaning-Class : (c : Class) → meaning (v.Class c) ≡ one (class c.negated c.ranges)
meaning-Class c = ap meaning (sym (rolls-Class c)) ∙ fold-roll-Item Glob node_meaning (Item-F.Class c)

pub meaning-Stars : (stars : Stars) → meaning (v.Stars stars) ≡ stars_glob stars.crosses_slashes stars.strict
meaning-Stars stars = ap meaning (sym (rolls-Stars stars)) ∙ fold-roll-Item Glob node_meaning (Item-F.Stars stars)

pub meaning-Group : (alternatives : Vec (Vec Item Global) Global) →
    meaning (v.Group alternatives) ≡ alternatives_meaning alternatives.items
meaning-Group alternatives =
    ap meaning (sym (rolls-Group alternatives)) ∙ fold-roll-Item Glob node_meaning (Item-F.Group alternatives)
    ∙ ap alt_all (map-map _ _ alternatives.items)
