-- Which bytes the places of a set take alone, one place after another.
use Rattle.std.proofs.Common.{◌≡◌, ◌≢◌, ⊎_elim, ℕ, ◌+◌, ◌<◌, ◌≤◌, Bool, true, false, List, length, Some, slice_get, get_or, slice_index_or}
use Rattle.std.proofs.Common.{sym, ap, ◌∙◌, subst, arith}
use Rattle.std.proofs.Math.ListN.{set}
use Rattle.std.proofs.lemmas.Bool.{cases_lt}
use Rattle.std.proofs.lemmas.Bool.Decides.{eqb_tells}
use Rattle.std.proofs.lemmas.Grind.{get_or-set_at}
use Rattle.std.proofs.lemmas.List.{get_or_default, get_or-set_other, length-set}
use Rattle.std.proofs.lemmas.Option.{same_Some}
use Rattle.glob_automaton.specs.declared.chart.Chart.{Chart}
use Rattle.glob_automaton.specs.declared.chart.ChartPlace.{ChartPlace}
use Rattle.glob_automaton.specs.declared.chart.Label.TheVariants as label
use Rattle.glob_automaton.specs.inner.Alike.{AreNamed}

-- each byte that one of the first i places of the set takes alone is marked
pub record NamedBefore (chart : Chart) (set : List ℕ) (named : List Bool) (i : ℕ) : Type 0 where
  pub long : length named ≡ 256
  pub each : (k b : ℕ) (place : ChartPlace) → k < i → k < length set → slice_get chart.places.items (get_or set k 0) ≡ Some place →
      place.takes ≡ label.Byte b → b < 256 →
      slice_index_or named b false ≡ true

-- a mark that is set stays, whichever other one is set
mark_stays : (named : List Bool) (byte b : ℕ) → b < length named → slice_index_or named b false ≡ true →
    slice_index_or (set named byte true) b false ≡ true
mark_stays named byte b room marked = ⊎_elim
    (λ same. get_or-set_at named byte b true false same.1 (omega (arith, room, same.1)))
    (λ apart. get_or-set_other named byte b true false apart.1 ∙ marked)
    (eqb_tells b byte)

-- the byte that a place takes alone
byte_of : (place : ChartPlace) (a b : ℕ) → place.takes ≡ label.Byte a → place.takes ≡ label.Byte b → b ≡ a
byte_of place a b one other = cc

module _ (chart : Chart) (places : List ℕ) where
  module _ (named : List Bool) (i : ℕ) (place : ChartPlace) (read : slice_get chart.places.items (get_or places i 0) ≡ Some place)
      (is : NamedBefore chart places named i) where
    -- what is read at the last index
    read_same : (k : ℕ) (other : ChartPlace) → k ≡ i → slice_get chart.places.items (get_or places k 0) ≡ Some other → other ≡ place
    read_same k other at there = same_Some other place (sym there ∙ ap (λ z. slice_get chart.places.items (get_or places z 0)) at ∙ read)

    -- the place takes this byte alone
    pub named_more : (byte : ℕ) → place.takes ≡ label.Byte byte → NamedBefore chart places (set named byte true) (i + 1)
    named_more byte takes_it = record {
      long = length-set named byte true ∙ is.long;
      each = λ k b other lt within at alone small. ⊎_elim
          (λ before. mark_stays named byte b (omega (arith, small, is.long)) (is.each k b other before within at alone small))
          (λ le.
          let last : k ≡ i = omega (arith, lt, le) in
          let one : other ≡ place = read_same k other last at in
          let same : b ≡ byte = byte_of place byte b takes_it (ap (λ (z : ChartPlace). z.takes) (sym one) ∙ alone) in
          get_or-set_at named byte b true false same (omega (arith, small, same, is.long)))
          (cases_lt k i);
    }

    -- the place takes no byte alone
    pub named_skip : ((b : ℕ) → place.takes ≢ label.Byte b) → NamedBefore chart places named (i + 1)
    named_skip none = record {
      long = is.long;
      each = λ k b other lt within at alone small. ⊎_elim
          (λ before. is.each k b other before within at alone small)
          (λ le.
          let last : k ≡ i = omega (arith, lt, le) in
          absurd (none b (ap (λ (z : ChartPlace). z.takes) (sym (read_same k other last at)) ∙ alone)))
          (cases_lt k i);
    }

  -- all places are read
  pub named_all : (named : List Bool) (i : ℕ) → length places ≤ i → NamedBefore chart places named i → AreNamed chart places named
  named_all named i past is = record {
    long = is.long;
    each = λ p b place there at alone small.
        let stands : get_or places there.0 0 ≡ p = get_or_default places there.0 0 p there.1 ∙ there.2 in
        is.each there.0 b place (omega (arith, there.1, past)) there.1
        (subst (λ z. slice_get chart.places.items z ≡ Some place) (sym stands) at) alone small;
  }
