-- What an account says about the parts of a file rule (our choice of words).
use Rattle.std.specs.Prelude.{ℕ, List, [], ◌∷◌, ◌++◌, Option, Some, None, is_some, Bool, false, not, ◌&&◌, if◌then◌else◌}
use Rattle.std.specs.List.{flat_map}
use Rattle.std.specs.Str.{bytes_eq}
use Rattle.apparmor_text.specs.declared.part.PartKind.{PartKind}
use Rattle.apparmor_text.specs.declared.part.PartKind.TheVariants as kinds
use Rattle.apparmor_text.specs.Parts.{PartValue}
use Rattle.apparmor_rules.specs.declared.what.What.{What}
use Rattle.apparmor_rules.specs.declared.what.What.TheVariants as whats
use Rattle.apparmor_pieces.specs.Slashes.{one_slash}
use Rattle.apparmor_rules.specs.declared.effect.Extent.TheVariants.{Exact}
use Rattle.apparmor_rules.specs.declared.effect.Effect.{Effect}
use Rattle.apparmor_rules.specs.declared.shape.RuleShape.{RuleShape}
use Rattle.apparmor_rules.specs.declared.subject.Subject.{Subject}
use Rattle.apparmor_rules.specs.Changes.{effect, qualifier_alone, for_everybody}
use Rattle.apparmor_rules.specs.declared.marks.Marks.{Marks}
use Rattle.apparmor_rules.specs.RuleWords.{has_part, is_link, letters_in, path_of, may_bind_link}

abbrev pub has_long_slashes : Option (List ℕ) → Bool
has_long_slashes None = false
has_long_slashes (Some text) = not (bytes_eq (one_slash text) text)

-- the marks of a rule of these parts
abbrev pub marks_of : Bool → List PartValue → Marks
marks_of pattern parts = record {
  letters = letters_in parts;
  slashes = has_long_slashes (path_of parts);
  pattern = pattern;
  link = has_part is_link parts;
  binds = may_bind_link parts;
}

abbrev pub if_so : Bool → What → List What
if_so b w = if b then w ∷ [] else []

-- what is reported about a part of this kind
abbrev pub part_whats : Marks → PartKind → List What
part_whats m kinds.Audit = whats.Audit ∷ []
part_whats m kinds.Priority = whats.Priority ∷ []
part_whats m kinds.Owner = whats.Owner ∷ []
part_whats m kinds.Other = whats.Other ∷ []
part_whats m kinds.File = whats.File ∷ []
part_whats m kinds.Safe = whats.Safe ∷ []
part_whats m kinds.Unsafe = whats.Unsafe ∷ []
part_whats m kinds.Link = whats.Link ∷ []
part_whats m kinds.Subset = whats.Subset ∷ []
part_whats m kinds.Path = if_so m.slashes whats.Slashes ++ if_so m.pattern whats.Pattern
part_whats m kinds.Permissions = if_so (is_some m.letters.exec) whats.Exec ++ if_so m.letters.capitals whats.Capitals
part_whats m kinds.Arrow = if_so (not m.link && m.binds) whats.Link ++ if_so (not m.link && not m.binds) whats.Target
part_whats m _ = []

-- what is reported about a rule of which nothing is kept, in the order of its parts
abbrev pub rule_whats : Marks → List PartValue → List What
rule_whats m parts = flat_map (λ p. part_whats m p.kind) parts

-- ---- effects of the parts of a rule that is kept

abbrev pub no_effect : Subject → Effect
no_effect chosen = record { chosen = chosen; on_chosen = Exact; on_other = Exact }

-- Owner and other change to whom the rule applies, an arrow that binds link what it holds; no other part changes anything.
abbrev pub part_effect : Subject → RuleShape → PartKind → Effect
part_effect chosen shape kinds.Owner = effect chosen (qualifier_alone shape)
part_effect chosen shape kinds.Other = effect chosen (qualifier_alone shape)
part_effect chosen shape kinds.Arrow = effect chosen (for_everybody shape)
part_effect chosen shape _ = no_effect chosen
