-- How the bytes stay together that are taken alike, while more and more sets of bytes separate them.
use Rattle.std.proofs.Common.{◌≡◌, ℕ, ◌<◌, ◌≤◌, ◌+◌, ◌==◌, ◌&&◌, not, nat_lt, Bool, true, false, List, [], length, slice_index_or}
use Rattle.std.proofs.Common.{slice_set, refl, sym, ap, ◌∙◌, ⊎_elim, arith}
use Rattle.std.proofs.Math.ListN.{replicate}
use Rattle.std.proofs.lemmas.Bool.Decides.{leb_tells, eqb_tells}
use Rattle.std.proofs.lemmas.List.{get_or-replicate, length-replicate, get_or-set_other, get_or-set_same}
use Rattle.glob_automaton.specs.inner.Alike.{IsAlike, AreAlike, IsSplit, NamesNone, least_of}
use Rattle.glob_automaton.specs.inner.Chart.{takes_byte}
use Rattle.glob_automaton.specs.inner.Drawings.{IsKnown}
use Rattle.glob_automaton.specs.declared.chart.Chart.{Chart}
use Rattle.glob_automaton.specs.declared.chart.Label.{Label}
use Rattle.glob_automaton.specs.declared.chart.Label.TheVariants as label
use Rattle.glob_automaton.proofs.Splits.{and_last}

-- the test says the same of a byte and of its least one
abbrev pub Together : (ℕ → Bool) → List ℕ → Type 0
Together test least = (b : ℕ) → b < 256 → test (least_of least b) ≡ test b

-- The bytes are parted by byte 0, by the slash, and by the classes before k.
pub record PartedBefore (classes : List (List Bool)) (least : List ℕ) (k : ℕ) : Type 0 where
  pub alike : IsAlike least
  pub zeros : Together (λ b. b == 0) least
  pub slashes : Together (λ b. b == 47) least
  pub tables : (n : ℕ) → n < k → Together (λ b. slice_index_or (slice_index_or classes n []) b false) least

-- the table of one byte
pub that_alone : (n byte b : ℕ) → byte < n → b < n → slice_index_or (slice_set (replicate n false) byte true) b false ≡ (b == byte)
that_alone n byte b room lt = ⊎_elim
    (λ same.
    ap (λ z. slice_index_or (slice_set (replicate n false) byte true) z false) same.1
    ∙ get_or-set_same (replicate n false) byte true false within ∙ sym same.0)
    (λ apart. get_or-set_other (replicate n false) byte b true false apart.1 ∙ get_or-replicate n b false false lt ∙ sym apart.0)
    (eqb_tells b byte)
  where
    within : byte < length (replicate n false)
    within = omega (arith, room, length-replicate n false)

-- at first all bytes are alike
pub all_alike : (n : ℕ) → n ≡ 256 → IsAlike (replicate n 0)
all_alike n is = record {
  long = length-replicate n 0 ∙ is;
  below = λ b lt. omega (arith, read b lt);
  own = λ b lt. ap (λ z. least_of (replicate n 0) z) (read b lt) ∙ read 0 (omega arith) ∙ sym (read b lt);
}
  where
    read : (b : ℕ) → b < 256 → least_of (replicate n 0) b ≡ 0
    read b lt = get_or-replicate n b 0 0 (omega (arith, lt, is))

-- what is together stays so
stays : (test : ℕ → Bool) (old new : List ℕ) (taken : List Bool) → IsSplit old taken new → Together test old → Together test new
stays test old new taken split was b lt =
    sym (was (least_of new b) (omega (arith, lt, split.alike.below b lt))) ∙ ap test (split.within b lt) ∙ was b lt

-- and what one byte parts is together too
one_byte : (byte : ℕ) (old new : List ℕ) (taken : List Bool) → ((b : ℕ) → b < 256 → slice_index_or taken b false ≡ (b == byte)) →
    IsSplit old taken new → Together (λ b. b == byte) new
one_byte byte old new taken is split b lt =
    sym (is (least_of new b) (omega (arith, lt, split.alike.below b lt))) ∙ split.taken_alike b lt ∙ is b lt

-- byte 0 and the slash have parted them
pub no_class : (classes : List (List Bool)) (first second third : List ℕ) (zero_table slash_table : List Bool) →
    ((b : ℕ) → b < 256 → slice_index_or zero_table b false ≡ (b == 0)) →
    ((b : ℕ) → b < 256 → slice_index_or slash_table b false ≡ (b == 47)) →
    IsSplit first zero_table second → IsSplit second slash_table third → PartedBefore classes third 0
no_class classes first second third zero_table slash_table zero_is slash_is one two = record {
  alike = two.alike;
  zeros = stays (λ b. b == 0) second third slash_table two (one_byte 0 first second zero_table zero_is one);
  slashes = one_byte 47 second third slash_table slash_is two;
  tables = λ n lt. absurd (omega (arith, lt));
}

-- the next class parts them
pub next_class : (classes : List (List Bool)) (old new : List ℕ) (k : ℕ) → PartedBefore classes old k →
    IsSplit old (slice_index_or classes k []) new → PartedBefore classes new (k + 1)
next_class classes old new k is split = record {
  alike = split.alike;
  zeros = stays (λ b. b == 0) old new (slice_index_or classes k []) split is.zeros;
  slashes = stays (λ b. b == 47) old new (slice_index_or classes k []) split is.slashes;
  tables = and_last (λ n. Together (λ b. slice_index_or (slice_index_or classes n []) b false) new) k
      (λ n lt. stays (λ b. slice_index_or (slice_index_or classes n []) b false) old new (slice_index_or classes k []) split
      (is.tables n lt))
      split.taken_alike;
}

-- a byte is above 0 unless it is 0
above_zero : (b : ℕ) → nat_lt 0 b ≡ not (b == 0)
above_zero b = ⊎_elim
    (λ some. some.0 ∙ sym (⊎_elim (λ zero. absurd (omega (arith, zero.1, some.1))) (λ apart. ap not apart.0) (eqb_tells b 0)))
    (λ none. none.0 ∙ sym (⊎_elim (λ zero. ap not zero.0) (λ apart. absurd (omega (arith, apart.1, none.1))) (eqb_tells b 0)))
    (leb_tells 1 b)

-- a byte is above 0 as its least one is
above : (least : List ℕ) (b : ℕ) → Together (λ b. b == 0) least → b < 256 → nat_lt 0 (least_of least b) ≡ nat_lt 0 b
above least b zeros lt = above_zero (least_of least b) ∙ ap not (zeros b lt) ∙ sym (above_zero b)

-- whatever isn't one byte alone takes a byte and its least one alike
taken_together : (chart : Chart) (least : List ℕ) (b : ℕ) (by : Label) → PartedBefore chart.classes.items least
    (length chart.classes.items) →
    b < 256 → IsKnown chart by → NamesNone by → takes_byte chart.classes.items by (least_of least b) ≡ takes_byte chart.classes.items by b
taken_together chart least b (label.Byte a) is lt known none = absurd none
taken_together chart least b label.InComponent is lt known none =
    ap (λ z. z && not (least_of least b == 47)) (above least b is.zeros lt) ∙ ap (λ z. nat_lt 0 b && not z) (is.slashes b lt)
taken_together chart least b label.Any is lt known none = ap (λ z. z && true) (above least b is.zeros lt)
taken_together chart least b (label.Class n) is lt known none = is.tables n known b lt
taken_together chart least b label.Nothing is lt known none = refl

-- so it is when all classes have parted them
pub parted_by_all : (chart : Chart) (least : List ℕ) (k : ℕ) → length chart.classes.items ≤ k →
    PartedBefore chart.classes.items least k → AreAlike chart least
parted_by_all chart least k past is = record {
  alike = is.alike;
  taken_alike = λ b by lt known none. taken_together chart least b by all lt known none;
}
  where
    all : PartedBefore chart.classes.items least (length chart.classes.items)
    all = record {
      alike = is.alike;
      zeros = is.zeros;
      slashes = is.slashes;
      tables = λ n lt. is.tables n (omega (arith, lt, past));
    }
