-- The items of a text, one by one.
use Rattle.std.proofs.Common.{◌≡◌, ℕ, ◌<◌, ◌≤◌, ◌+◌, List, [], ◌∷◌, ◌++◌, ◌-◌, take, length, Option, Some, Ok, Err, sym, ap, ◌∙◌}
use Rattle.std.proofs.Common.{subst, append_assoc, arith}
use Rattle.std.proofs.lemmas.List.{append-nil}
use Rattle.apparmor_text.specs.declared.part.ItemKind.{ItemKind}
use Rattle.apparmor_text.specs.declared.part.ItemKind.TheVariants as items
use Rattle.apparmor_text.specs.declared.text.Position.{Position}
use Rattle.apparmor_text.specs.Parts.{PartValue, ItemValue, bytes_of_parts}
use Rattle.apparmor_words.specs.Steps.{Stop}
use Rattle.apparmor_text.specs.Readings.{Reading}
use Rattle.apparmor_text.specs.Texts.{item_at, behind_item, ReadsFrom, stops, goes_on}
use Rattle.apparmor_text.specs.laws.GoingWords.{front_taken}
use Rattle.apparmor_text.proofs.GoingRules.{item_shortens}

-- what is read from here on comes after these items
abbrev pub Behind : List ℕ → Position → List ItemValue → Position → List ℕ → Type 0
Behind text start read position rest =
    (others : List ItemValue) (end : Option Stop) → ReadsFrom position rest others end → ReadsFrom start text (read ++ others) end

pub item_shorter : (position : Position) (rest : List ℕ) (kind : ItemKind) (s : Reading) → 0 < length rest →
    item_at position (record { parts = []; rest = rest }) ≡ Ok (kind, s) → length s.rest < length rest
item_shorter position rest kind s there e = (item_shortens position (record { parts = []; rest = rest }) (kind, s) there e).less

pub one_item_more : (text : List ℕ) (start : Position) (read : List ItemValue) (position : Position) (rest : List ℕ)
    (kind : ItemKind) (s : Reading)
    → 0 < length rest → item_at position (record { parts = []; rest = rest }) ≡ Ok (kind, s) → Behind text start read position rest
    → Behind text start (read ++ (record { kind = kind; parts = s.parts } ∷ [])) (behind_item kind position) s.rest
one_item_more text start read position [] kind s there e h = absurd (omega (arith, there))
one_item_more text start read position (b ∷ bytes) kind s there e h = λ others end r.
    let item : ItemValue = record { kind = kind; parts = s.parts } in
    subst (λ (x : List ItemValue). ReadsFrom start text x end) (sym (append_assoc read (item ∷ []) others))
    (h (item ∷ others) end (goes_on position b bytes kind s others end e r))

pub stops_here : (text : List ℕ) (start : Position) (read : List ItemValue) (position : Position) (rest : List ℕ) (stop : Stop)
    → 0 < length rest → item_at position (record { parts = []; rest = rest }) ≡ Err stop → Behind text start read position rest →
    ReadsFrom start text read (Some stop)
stops_here text start read position [] stop there e h = absurd (omega (arith, there))
stops_here text start read position (b ∷ bytes) stop there e h =
    subst (λ (x : List ItemValue). ReadsFrom start text x (Some stop)) (append-nil read) (h [] (Some stop) (stops position b bytes stop e))

pub depth_behind : (kind : ItemKind) (position : Position) → (behind_item kind position).depth ≤ position.depth + 1
depth_behind items.Profile position = omega arith
depth_behind items.Hat position = omega arith
depth_behind items.Close position = omega arith
depth_behind items.Blank position = omega arith
depth_behind items.Assignment position = omega arith
depth_behind items.Statement position = omega arith
depth_behind items.Rule position = omega arith

-- the bytes of an item are what comes before the rest
pub item_taken : (position : Position) (bytes : List ℕ) (kind : ItemKind) (s : Reading) → 0 < length bytes →
    item_at position (record { parts = []; rest = bytes }) ≡ Ok (kind, s)
    → take (length bytes - length s.rest) bytes ≡ bytes_of_parts s.parts
item_taken position bytes kind s there e =
    let g = (item_shortens position (record { parts = []; rest = bytes }) (kind, s) there e).goes in
    let whole : bytes ≡ bytes_of_parts s.parts ++ s.rest =
    sym (ap (λ (p : List PartValue). bytes_of_parts p ++ s.rest) g.parts ∙ g.bytes) in
    subst (λ (x : List ℕ). take (length x - length s.rest) x ≡ bytes_of_parts s.parts) (sym whole)
    (front_taken (bytes_of_parts s.parts) s.rest)
