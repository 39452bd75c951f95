-- The head of a canonical text, and what it is read as.
use Rattle.std.proofs.Common.{◌≡◌, ℕ, Bool, true, false, List, [], ◌∷◌, ◌++◌, Ok, refl, ◌==◌}
use Rattle.std.specs.Prelude.{codes, ◌&&◌}
use Rattle.rule_profile.specs.Readable.{is_name}
use Rattle.rule_writer.proofs.CanonTexts.{name_parts}
use Rattle.apparmor_text.specs.declared.part.PartKind.TheVariants as parts
use Rattle.apparmor_text.specs.Parts.{PartValue}
use Rattle.apparmor_text.specs.WordParts.{name_part}
use Rattle.apparmor_text.specs.Headers.{profile_head, named_head, head_rest}
use Rattle.import_laws.specs.CanonicalItems.{part_of, in_quotes, head_item, ends_plainly}
use Rattle.import_laws.proofs.QuotedWords.{name_head}
use Rattle.import_laws.proofs.PartsRead.{reading, takes_none, takes_to, reads_quoted}

reads_name : (read : List PartValue) (name rest : List ℕ) → is_name name ≡ true → ends_plainly name ≡ true
    → name_part parts.Name (reading read (34 ∷ (name ++ 34 ∷ rest)))
    ≡ Ok (reading (read ++ (part_of parts.Name (in_quotes name) ∷ [])) rest)
reads_name read [] rest h plain = absurd cc
reads_name read (b ∷ name) rest h plain =
    let p = name_parts b name h in
    let no = (name_head false b name p.2).quote in
    let quote : (b == 34) ≡ false = not_quoted (b == 34) no in
    rw (p.0, quote) (reads_quoted parts.Name read (b ∷ name) rest p.2 plain)
  where
    not_quoted : (t : Bool) → (t && true) ≡ false → t ≡ false
    not_quoted true e = e
    not_quoted false e = refl

reads_brace : (read : List PartValue) (rest : List ℕ) → head_rest (reading read (123 ∷ rest))
    ≡ Ok (reading (read ++ (part_of parts.Open (codes "{") ∷ [])) rest)
unfolding head_rest
reads_brace read rest = let none = takes_none parts.Blank read (123 ∷ rest) in rw (none, none) refl

-- the head after its name
reads_named : (read : List PartValue) (name rest : List ℕ) → is_name name ≡ true → ends_plainly name ≡ true
    → named_head (reading read (34 ∷ (name ++ 34 ∷ 32 ∷ 123 ∷ rest)))
    ≡ Ok (reading (((read ++ (part_of parts.Name (in_quotes name) ∷ [])) ++ (part_of parts.Blank (codes " ") ∷ []))
    ++ (part_of parts.Open (codes "{") ∷ [])) rest)
unfolding named_head
reads_named read name rest h plain =
    let named = read ++ (part_of parts.Name (in_quotes name) ∷ []) in
    let behind = named ++ (part_of parts.Blank (codes " ") ∷ []) in
    rw (
      reads_name read name (32 ∷ 123 ∷ rest) h plain,
      takes_to parts.Blank named 32 [] (123 ∷ rest),
      takes_none parts.Blank behind
          (123 ∷ rest),
    ) (reads_brace behind rest)

pub reads_head : (name rest : List ℕ) → is_name name ≡ true → ends_plainly name ≡ true
    → profile_head (reading [] (codes "profile \"" ++ (name ++ 34 ∷ 32 ∷ 123 ∷ rest))) ≡ Ok (reading (head_item name).parts rest)
reads_head name rest h plain =
    let there = part_of parts.Profile (codes "profile") ∷ [] in
    rw (takes_to parts.Blank there 32 [] (34 ∷ (name ++ 34 ∷ 32 ∷ 123 ∷ rest)))
    (reads_named (there ++ (part_of parts.Blank (codes " ") ∷ [])) name rest h plain)
