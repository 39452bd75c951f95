-- The items of the canonical text of a profile, read as a flattened text (apparmor.d(5), "Format").
use Rattle.std.specs.Prelude.{◌≡◌, ℕ, List, [], ◌∷◌, ◌++◌, codes, None, Bool, true, false, not, nat_eq}
use Rattle.std.specs.List.{flat_map, ends_with}
use Rattle.names.specs.declared.permissions.Perms.{Perms}
use Rattle.names.specs.Permissions.{letters}
use Rattle.rule_globs.specs.Each.{Each}
use Rattle.rule_globs.specs.Tokens.{Token}
use Rattle.names.specs.declared.kind.RuleKind.{RuleKind}
use Rattle.names.specs.declared.kind.RuleKind.TheVariants.{Allow, Deny}
use Rattle.rule_profile.specs.Profile.{RuleValue, ProfileValue}
use Rattle.rule_writer.specs.Canonical.{token_text}
use Rattle.apparmor_words.specs.declared.letters.Letters.{Letters}
use Rattle.apparmor_text.specs.declared.part.PartKind.{PartKind}
use Rattle.apparmor_text.specs.declared.part.PartKind.TheVariants as parts
use Rattle.apparmor_text.specs.declared.part.ItemKind.TheVariants as items
use Rattle.apparmor_text.specs.Parts.{PartValue, ItemValue}

-- the bytes of a path, as they are within quotes
abbrev pub path_text : List Token → List ℕ
path_text tokens = flat_map token_text tokens

-- ---- the items

abbrev pub part_of : PartKind → List ℕ → PartValue
part_of kind bytes = record { kind = kind; bytes = bytes }

abbrev pub in_quotes : List ℕ → List ℕ
in_quotes bytes = codes "\"" ++ (bytes ++ codes "\"")

abbrev pub blank_item : List ℕ → ItemValue
blank_item bytes = record { kind = items.Blank; parts = part_of parts.Blank bytes ∷ [] }

-- profile "NAME" {
abbrev pub head_item : List ℕ → ItemValue
head_item name = record {
  kind = items.Profile;
  parts = part_of parts.Profile (codes "profile") ∷ part_of parts.Blank (codes " ") ∷ part_of parts.Name (in_quotes name)
      ∷ part_of parts.Blank (codes " ") ∷ part_of parts.Open (codes "{") ∷ [];
}

-- what comes before the path
abbrev pub qualifier_parts : RuleKind → List PartValue
qualifier_parts Allow = []
qualifier_parts Deny = part_of parts.Deny (codes "deny") ∷ part_of parts.Blank (codes " ") ∷ []

-- "PATH" PERMISSIONS, with deny before it or not
abbrev pub rule_item : RuleValue → ItemValue
rule_item r = record {
  kind = items.Rule;
  parts = qualifier_parts r.kind ++ (part_of parts.Path (in_quotes (path_text r.items)) ∷ part_of parts.Blank (codes " ")
      ∷ part_of parts.Permissions (letters r.perms) ∷ part_of parts.Comma (codes ",") ∷ []);
}

abbrev pub close_item : ItemValue
close_item = record { kind = items.Close; parts = part_of parts.Close (codes "}") ∷ [] }

-- What follows the opening brace: each rule is on a line of its own after two spaces, and the closing brace on the last.
abbrev pub inner_items : List RuleValue → List ItemValue
inner_items [] = blank_item (codes "\n") ∷ close_item ∷ blank_item (codes "\n") ∷ []
inner_items (r ∷ rules) = blank_item (codes "\n  ") ∷ rule_item r ∷ inner_items rules

abbrev pub canonical_items : ProfileValue → List ItemValue
canonical_items p = head_item p.name ∷ inner_items p.rules

-- ---- words that end where they seem to

-- AppArmor's parser reads a word whose last byte is a backslash on to the next quote.
abbrev pub ends_plainly : List ℕ → Bool
ends_plainly bytes = not (ends_with nat_eq bytes (codes "\\"))

-- neither the profile's name nor the text of any of its paths ends with a backslash
pub record WordsEndPlainly (p : ProfileValue) : Type 0 where
  pub name : ends_plainly p.name ≡ true
  pub paths : Each (λ r. ends_plainly (path_text r.items) ≡ true) p.rules

-- ---- letters

-- what letters stand for that give these permissions and no more: no exec mode, nothing in upper case
abbrev pub plain_letters : Perms → Letters
plain_letters perms = record { perms = perms; exec = None; two_modes = false; capitals = false }
