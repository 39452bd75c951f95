-- The items of a text are all of its bytes, and a text has one outcome.
use Rattle.std.proofs.Common.{◌≡◌, ℕ, zero, suc, ◌<◌, Bool, true, false, List, [], ◌∷◌, ◌++◌, length, Option}
use Rattle.std.proofs.Common.{Some, None, Result, Ok, Err, refl, sym, ap, subst, ◌∙◌, append_assoc, arith}
use Rattle.rule_globs.specs.Each.{Each}
use Rattle.apparmor_text.specs.declared.part.ItemKind.{ItemKind}
use Rattle.apparmor_text.specs.declared.text.Position.{Position}
use Rattle.apparmor_text.specs.SoundItems.{IsPart, IsItem}
use Rattle.apparmor_text.specs.Parts.{PartValue, ItemValue, bytes_of_parts, bytes_of_items}
use Rattle.apparmor_words.specs.Steps.{Stop, syntax}
use Rattle.apparmor_text.specs.Readings.{Reading}
use Rattle.apparmor_text.specs.Texts.{item_at, behind_item, may_end, ReadsFrom, ends, lacks, stops, goes_on}
use Rattle.apparmor_text.specs.laws.GoingWords.{Shortens}
use Rattle.apparmor_text.proofs.GoingRules.{item_shortens}

abbrev start_of : ℕ → List ℕ → Reading
start_of b bytes = record { parts = []; rest = b ∷ bytes }

-- one item and what is left are what was there
item_cut : (position : Position) (b : ℕ) (bytes : List ℕ) (kind : ItemKind) (s : Reading) → item_at position (start_of b bytes)
    ≡ Ok (kind, s) → Shortens (start_of b bytes) s
item_cut position b bytes kind s e = item_shortens position (start_of b bytes) (kind, s) (omega arith) e

item_bytes : (position : Position) (b : ℕ) (bytes : List ℕ) (kind : ItemKind) (s : Reading) → item_at position (start_of b bytes)
    ≡ Ok (kind, s) → bytes_of_parts s.parts ++ s.rest ≡ b ∷ bytes
item_bytes position b bytes kind s e =
    let g = (item_cut position b bytes kind s e).goes in
    ap (λ (p : List PartValue). bytes_of_parts p ++ s.rest) g.parts ∙ g.bytes

-- the items before some bytes are left are what was there
pub front_from : (position : Position) (text : List ℕ) (read : List ItemValue) (end : Option Stop) → ReadsFrom position text read end
    → (rest : List ℕ) × (bytes_of_items read ++ rest ≡ text) × (end ≡ None → rest ≡ [])
front_from position text read end (ends p h) = ([], refl, λ _. refl)
front_from position text read end (lacks p h) = ([], refl, λ e. absurd cc)
front_from position text read end (stops p b bytes stop e) = (b ∷ bytes, refl, λ e. absurd cc)
front_from position text read end (goes_on p b bytes kind s others last e r) =
    let h = front_from (behind_item kind p) s.rest others last r in (
      h.0,
      append_assoc (bytes_of_parts s.parts) (bytes_of_items others) h.0 ∙ ap (λ (x : List ℕ). bytes_of_parts s.parts ++ x) h.1
          ∙ item_bytes p b bytes kind s e,
      h.2,
    )

pub items_from : (position : Position) (text : List ℕ) (read : List ItemValue) (end : Option Stop) → ReadsFrom position text read end →
    Each IsItem read
items_from position text read end (ends p h) = tt
items_from position text read end (lacks p h) = tt
items_from position text read end (stops p b bytes stop e) = tt
items_from position text read end (goes_on p b bytes kind s others last e r) =
    let cut = item_cut p b bytes kind s e in
    let parts = subst (λ (x : List PartValue). Each IsPart x) (sym cut.goes.parts) cut.goes.whole in
    let less = cut.less in (
      record { some = some_parts s.parts (item_bytes p b bytes kind s e) less; parts = parts },
      items_from (behind_item kind p)
          s.rest others last r,
    )
  where
    some_parts : (x : List PartValue) → bytes_of_parts x ++ s.rest ≡ b ∷ bytes → length s.rest < length (b ∷ bytes) → 0 < length x
    some_parts [] same less = let n = ap length same in absurd (omega (arith, n, less))
    some_parts (y ∷ x) same less = omega arith

-- ---- one outcome

abbrev Same : List ItemValue → Option Stop → List ItemValue → Option Stop → Type 0
Same read end others other = (read ≡ others) × (end ≡ other)

pub one_from : (position : Position) (text : List ℕ) (read others : List ItemValue) (end other : Option Stop)
    → ReadsFrom position text read end → ReadsFrom position text others other → Same read end others other
one_from position text read others end other (ends p h) (ends q g) = (refl, refl)
one_from position text read others end other (ends p h) (lacks q g) = absurd cc
one_from position text read others end other (lacks p h) (ends q g) = absurd cc
one_from position text read others end other (lacks p h) (lacks q g) = (refl, refl)
one_from position text read others end other (stops p b bytes stop e) (stops q c more stop_2 f) =
    let same : stop ≡ stop_2 = cc in (refl, ap (λ (s : Stop). Some s) same)
one_from position text read others end other (stops p b bytes stop e) (goes_on q c more kind s rest end_2 f r) = absurd cc
one_from position text read others end other (goes_on p b bytes kind s rest end_2 e r) (stops q c more stop f) = absurd cc
one_from position text read others end other (goes_on p b bytes kind s rest end_2 e r) (goes_on q c more kind_2 s_2 rest_2 end_3 f r_2) =
    let same : (kind, s) ≡ (kind_2, s_2) = cc in
    let kinds : kind ≡ kind_2 = ap (λ (i : ItemKind × Reading). i.0) same in
    let readings : s ≡ s_2 = ap (λ (i : ItemKind × Reading). i.1) same in
    let there : ReadsFrom (behind_item kind p) s.rest rest_2 end_3 = rw (kinds, readings) r_2 in
    let h = one_from (behind_item kind p) s.rest rest rest_2 end_2 end_3 r there in
    (rw (kinds, readings, h.0) refl, h.1)

-- ---- some outcome

abbrev pub Outcome : Position → List ℕ → Type 0
Outcome position text = (read : List ItemValue) × (end : Option Stop) × ReadsFrom position text read end

-- with `room` greater than the length of what is left
pub some_from : (room : ℕ) (position : Position) (text : List ℕ) → length text < room → Outcome position text
some_from zero position text h = absurd (omega (arith, h))
some_from (suc room) position [] h = at (may_end position) refl
  where
    at : (b : Bool) → may_end position ≡ b → Outcome position []
    at true e = ([], None, ends position e)
    at false e = ([], Some (record { kind = syntax; left = 0 }), lacks position e)
some_from (suc room) position (b ∷ bytes) h = at (item_at position (start_of b bytes)) refl (λ kind s e.
    let less = (item_cut position b bytes kind s e).less in
    some_from room (behind_item kind position) s.rest (omega (arith, h, less)))
  where
    at : (r : Result (ItemKind × Reading) Stop) → item_at position (start_of b bytes) ≡ r
        → ((kind : ItemKind) (s : Reading) → item_at position (start_of b bytes) ≡ Ok (kind, s) →
        Outcome (behind_item kind position) s.rest) → Outcome position (b ∷ bytes)
    at (Err stop) e next = ([], Some stop, stops position b bytes stop e)
    at (Ok i) e next =
        let others = next i.0 i.1 e in
        (record { kind = i.0; parts = i.1.parts } ∷ others.0, others.1, goes_on position b bytes i.0 i.1 others.0 others.1 e others.2)
