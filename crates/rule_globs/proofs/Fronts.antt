-- Items at the front that are bytes as they are written.
use Rattle.std.proofs.Common.{◌≡◌, ℕ, zero, suc, ◌+◌, ◌<◌, ◌≤◌, ◌↔◌, true, false, List, [], ◌∷◌, ◌++◌, IsTrue, drop, length, get_or}
use Rattle.std.proofs.Common.{refl, sym, ap, ◌∙◌, subst, arith, drop_of_length-le, true≢false}
use Rattle.std.proofs.lemmas.List.{get_or_default}
use Rattle.rule_globs.specs.Glob.{Glob, ByteSet, one, cat, exactly, fits, Takes, places}
use Rattle.rule_globs.specs.Meaning.{meaning, meaning_of}
use Rattle.rule_globs.specs.declared.items.Item.{Item}
use Rattle.rule_globs.specs.declared.items.Item.TheVariants as v
use Rattle.rule_globs.specs.laws.Behind.{iff_trans}
use Rattle.rule_globs.specs.laws.MeaningLaws.{meaning-Byte}
use Rattle.rule_globs.proofs.PassLaws.{left}

-- a byte of a set in front
one_first : (set : ByteSet) (g : Glob) (c : ℕ) (bytes : List ℕ) →
    Takes (cat (one set) g) (c ∷ bytes) ↔ (IsTrue (fits set c) × Takes g bytes)
one_first set g c bytes = (
  λ h. let e : c ∷ bytes ≡ h.3.0 ∷ h.1 = h.2 ∙ ap (λ z. z ++ h.1) h.3.1 in
      let same : h.3.0 ≡ c = cc (e) in
      let rest : h.1 ≡ bytes = cc (e) in
      (subst (λ z. IsTrue (fits set z)) same h.3.2, subst (Takes g) rest h.4),
  λ h. (c ∷ [], bytes, refl, (c, refl, h.0), h.1),
)

-- what is left at an item that is a byte
byte_left : (items : List Item) (bytes : List ℕ) (i : ℕ) (item : Item) (b c : ℕ) → i < length items →
    item ≡ get_or items i item → item ≡ v.Byte b → i < length bytes → c ≡ get_or bytes i 0 →
    Takes (meaning_of (drop i items)) (drop i bytes)
    ↔ (IsTrue (fits (exactly b) c) × Takes (meaning_of (drop (i + 1) items)) (drop (i + 1) bytes))
byte_left items bytes i item b c lt is kind within at =
    let front : meaning_of (drop i items) ≡ cat (one (exactly b)) (meaning_of (drop (i + 1) items)) =
    ap meaning_of (left items i item lt is)
    ∙ ap (λ z. cat z (meaning_of (drop (i + 1) items))) (ap meaning kind ∙ meaning-Byte b) in
    let byte : drop i bytes ≡ c ∷ drop (i + 1) bytes =
    left bytes i c within (at ∙ sym (get_or_default bytes i c 0 within)) in
    let P : Glob → List ℕ → Type 0 = λ g x. Takes g x
    ↔ (IsTrue (fits (exactly b) c) × Takes (meaning_of (drop (i + 1) items)) (drop (i + 1) bytes)) in
    subst (λ g. P g (drop i bytes)) (sym front) (subst (λ x. P (cat (one (exactly b)) (meaning_of (drop (i + 1) items))) x) (sym byte)
    (one_first (exactly b) (meaning_of (drop (i + 1) items)) c (drop (i + 1) bytes)))

-- the byte is the one that is written
pub front-same : (items : List Item) (bytes : List ℕ) (i : ℕ) (item : Item) (b c : ℕ) → i < length items →
    item ≡ get_or items i item → item ≡ v.Byte b → i < length bytes → c ≡ get_or bytes i 0 → fits (exactly b) c ≡ true →
    Takes (meaning_of items) bytes ↔ Takes (meaning_of (drop i items)) (drop i bytes) →
    Takes (meaning_of items) bytes ↔ Takes (meaning_of (drop (i + 1) items)) (drop (i + 1) bytes)
front-same items bytes i item b c lt is kind within at same now =
    iff_trans now (iff_trans (byte_left items bytes i item b c lt is kind within at) (λ h. h.1, λ h. (same, h)))

-- it is another one
pub front-other : (items : List Item) (bytes : List ℕ) (i : ℕ) (item : Item) (b c : ℕ) → i < length items →
    item ≡ get_or items i item → item ≡ v.Byte b → i < length bytes → c ≡ get_or bytes i 0 → fits (exactly b) c ≡ false →
    Takes (meaning_of items) bytes ↔ Takes (meaning_of (drop i items)) (drop i bytes) →
    Takes (meaning_of items) bytes → ⊥
front-other items bytes i item b c lt is kind within at other now h =
    true≢false (sym ((byte_left items bytes i item b c lt is kind within at).0 (now.0 h)).0 ∙ other)

-- the places of what is left are among those of all
pub places_cut : (items : List Item) (i : ℕ) → places (meaning_of (drop i items)) ≤ places (meaning_of items)
places_cut [] i = let e : drop {A = Item} i [] ≡ [] = drop_of_length-le [] {i = i} (omega arith) in
    omega (arith, ap (λ z. places (meaning_of z)) e)
places_cut (x ∷ items) zero = omega arith
places_cut (x ∷ items) (suc i) = omega (arith, places_cut items i)
