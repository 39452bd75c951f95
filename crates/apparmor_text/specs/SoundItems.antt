-- What holds for each part of a text.
use Rattle.std.specs.Prelude.{◌≡◌, ◌<◌, length, true, false}
use Rattle.rule_globs.specs.Each.{Each}
use Rattle.apparmor_text.specs.declared.part.PartKind.TheVariants as kinds
use Rattle.apparmor_text.specs.Parts.{PartValue, ItemValue}
use Rattle.apparmor_words.specs.Blanks.{is_blank}

-- a part has bytes, and one that is blank has white space and comments alone
pub record IsPart (part : PartValue) : Type 0 where
  pub some : 0 < length part.bytes
  pub blank : part.kind ≡ kinds.Blank → is_blank false part.bytes ≡ true

-- an item has parts
pub record IsItem (item : ItemValue) : Type 0 where
  pub some : 0 < length item.parts
  pub parts : Each IsPart item.parts
