-- Each step reads on: what it takes from the front of what is left are parts more, none of which is empty.
use Rattle.std.proofs.Common.{◌≡◌, ℕ, ◌≤◌, ◌<◌, Bool, true, false, cond, List, [], ◌∷◌, ◌++◌, length, take, drop}
use Rattle.std.proofs.Common.{refl, sym, ap, ◌∙◌, append_assoc, ◌==◌, arith}
use Rattle.std.proofs.lemmas.List.{take-append-drop, append-nil, length-append}
use Rattle.std.proofs.lemmas.Grind.{flat_map-append}
use Rattle.rule_globs.specs.Each.{Each}
use Rattle.apparmor_text.specs.declared.part.PartKind.{PartKind}
use Rattle.apparmor_text.specs.declared.part.PartKind.TheVariants as parts
use Rattle.apparmor_text.specs.Parts.{PartValue, bytes_of_parts}
use Rattle.apparmor_text.specs.Readings.{Reading, taken}
use Rattle.apparmor_words.specs.Blanks.{is_blank}
use Rattle.apparmor_text.specs.SoundItems.{IsPart}

-- from one reading to another: the parts that came, and that the bytes are the same
pub record Goes (s t : Reading) : Type 0 where
  pub more : List PartValue
  pub parts : t.parts ≡ s.parts ++ more
  pub bytes : bytes_of_parts more ++ t.rest ≡ s.rest
  pub whole : Each IsPart more

pub going_stays : (s : Reading) → Goes s s
going_stays s = record { more = []; parts = sym (append-nil s.parts); bytes = refl; whole = tt }

each_append : (xs ys : List PartValue) → Each IsPart xs → Each IsPart ys → Each IsPart (xs ++ ys)
each_append [] ys h g = g
each_append (x ∷ xs) ys h g = (h.0, each_append xs ys h.1 g)

pub going_on : (s t u : Reading) → Goes s t → Goes t u → Goes s u
going_on s t u h g = record {
  more = h.more ++ g.more;
  parts = g.parts ∙ ap (λ (p : List PartValue). p ++ g.more) h.parts ∙ append_assoc s.parts h.more g.more;
  bytes =
      ap (λ (b : List ℕ). b ++ u.rest) (flat_map-append (λ (part : PartValue). part.bytes) h.more g.more)
      ∙ append_assoc (bytes_of_parts h.more) (bytes_of_parts g.more) u.rest
      ∙ ap (λ (b : List ℕ). bytes_of_parts h.more ++ b) g.bytes
      ∙ h.bytes;
  whole = each_append h.more g.more h.whole g.whole;
}

pub going_taken : (kind : PartKind) (n : ℕ) (s : Reading) → (kind ≡ parts.Blank → is_blank false (take n s.rest) ≡ true) →
    Goes s (taken kind n s)
going_taken kind n s h =
    let at : (b : Bool) → (length (take n s.rest) == 0) ≡ b →
    Goes s (cond b s (record { parts = s.parts ++ (record { kind = kind; bytes = take n s.rest } ∷ []); rest = drop n s.rest })) =
    λ b. elim b as (λ b. (length (take n s.rest) == 0) ≡ b →
    Goes s (cond b s (record { parts = s.parts ++ (record { kind = kind; bytes = take n s.rest } ∷ []); rest = drop n s.rest }))) [
      | true ↦ λ e. going_stays s
      | false ↦ λ e. record {
        more = record { kind = kind; bytes = take n s.rest } ∷ [];
        parts = refl;
        bytes = ap (λ (b : List ℕ). b ++ drop n s.rest) (append-nil (take n s.rest)) ∙ take-append-drop n s.rest;
        whole = (record { some = some_bytes (take n s.rest) e; blank = h }, tt);
      }
    ] in
    at (length (take n s.rest) == 0) refl
  where
    some_bytes : (xs : List ℕ) → (length xs == 0) ≡ false → 0 < length xs
    some_bytes [] e = absurd cc
    some_bytes (x ∷ xs) e = omega arith

-- what is left doesn't grow
pub going_shortens : (s t : Reading) → Goes s t → length t.rest ≤ length s.rest
going_shortens s t g =
    let e = ap length g.bytes in
    let a = length-append (bytes_of_parts g.more) t.rest in
    omega (arith, e, a)
