-- How the bytes that are taken are parted from the others, byte by byte.
use Rattle.std.proofs.Common.{◌≡◌, ◌≢◌, ⊎_elim, ℕ, zero, suc, ◌<◌, ◌≤◌, ◌+◌, Bool, true, false, Option, Some, None, List, length}
use Rattle.std.proofs.Common.{slice_index_or, refl, sym, ap, ◌∙◌, subst, arith}
use Rattle.std.proofs.Math.ListN.{set, replicate}
use Rattle.std.proofs.Math.Bool.{beq}
use Rattle.std.proofs.lemmas.Bool.{true≢false}
use Rattle.std.proofs.lemmas.Bool.Decides.{eqb_tells}
use Rattle.std.proofs.lemmas.List.{get_or-set_other, length-set, length-replicate}
use Rattle.std.proofs.lemmas.Grind.{get_or-set_at}
use Rattle.std.proofs.lemmas.Option.{same_Some, none-some}
use Rattle.glob_automaton.specs.inner.Alike.{IsAlike, IsSplit, least_of}

-- The bytes before k are parted, the others are as they were.
pub record SplitBefore (old : List ℕ) (taken : List Bool) (other : List (Option ℕ)) (least : List ℕ) (k : ℕ) : Type 0 where
  pub long : length least ≡ 256
  pub wide : length other ≡ 256
  pub rest : (b : ℕ) → k ≤ b → least_of least b ≡ least_of old b
  pub roots : (b : ℕ) → least_of old b ≡ b → least_of least b ≡ b
  pub below : (b : ℕ) → b < k → least_of least b ≤ b
  pub own : (b : ℕ) → b < k → least_of least (least_of least b) ≡ least_of least b
  pub taken_alike : (b : ℕ) → b < k → slice_index_or taken (least_of least b) false ≡ slice_index_or taken b false
  pub within : (b : ℕ) → b < k → least_of old (least_of least b) ≡ least_of old b
  pub firsts : (o f : ℕ) → slice_index_or other o None ≡ Some f →
      (f < k) × (least_of least f ≡ f) × (slice_index_or taken f false ≢ slice_index_or taken o false) × (least_of old f ≡ o)

alike_when : (a b : Bool) → beq a b ≡ true → a ≡ b
alike_when true true is = refl
alike_when true false is = absurd (true≢false (sym is))
alike_when false true is = absurd (true≢false (sym is))
alike_when false false is = refl

apart_when : (a b : Bool) → beq a b ≡ false → a ≢ b
apart_when true true is same = true≢false is
apart_when true false is same = true≢false same
apart_when false true is same = true≢false (sym same)
apart_when false false is same = true≢false is

-- what differs from one truth value is the other
two_apart : (a b o : Bool) → a ≢ o → b ≢ o → a ≡ b
two_apart true true o one two = refl
two_apart true false true one two = absurd (one refl)
two_apart true false false one two = absurd (two refl)
two_apart false true true one two = absurd (two refl)
two_apart false true false one two = absurd (one refl)
two_apart false false o one two = refl

-- what holds before k and at k holds before k + 1
pub and_last : (P : ℕ → Type 0) (k : ℕ) → ((b : ℕ) → b < k → P b) → P k → (b : ℕ) → b < k + 1 → P b
and_last P k before last b lt = ⊎_elim
    (λ same. subst (λ z. P z) (sym same.1) last)
    (λ apart. before b (less apart.1))
    (eqb_tells b k)
  where
    less : b ≢ k → b < k
    less apart = omega (arith, lt, apart)

-- a byte that is taken as its least one stays with it
kept : (old : List ℕ) (taken : List Bool) (other : List (Option ℕ)) (least : List ℕ) (k : ℕ) → IsAlike old → k < 256 →
    SplitBefore old taken other least k → slice_index_or taken k false ≡ slice_index_or taken (least_of least k) false →
    SplitBefore old taken other least (k + 1)
kept old taken other least k alike room is same = record {
  long = is.long;
  wide = is.wide;
  rest = λ b le. is.rest b (omega (arith, le));
  roots = is.roots;
  below = and_last (λ b. least_of least b ≤ b) k is.below (subst (λ z. z ≤ k) (sym at) (alike.below k room));
  own = and_last (λ b. least_of least (least_of least b) ≡ least_of least b) k is.own
      (ap (λ z. least_of least z) at ∙ is.roots (least_of old k) (alike.own k room) ∙ sym at);
  taken_alike = and_last (λ b. slice_index_or taken (least_of least b) false ≡ slice_index_or taken b false) k is.taken_alike (sym same);
  within = and_last (λ b. least_of old (least_of least b) ≡ least_of old b) k is.within
      (ap (λ z. least_of old z) at ∙ alike.own k room);
  firsts = λ o f there. let w = is.firsts o f there in (omega (arith, w.0), w.1, w.2, w.3);
}
  where
    at : least_of least k ≡ least_of old k
    at = is.rest k (omega arith)

-- a byte that isn't goes to another least one, which was alike to it
parted : (old : List ℕ) (taken : List Bool) (other then : List (Option ℕ)) (least : List ℕ) (k f : ℕ) → k < 256 →
    SplitBefore old taken other least k → slice_index_or taken k false ≢ slice_index_or taken (least_of least k) false →
    f ≤ k → slice_index_or taken f false ≡ slice_index_or taken k false → least_of old f ≡ least_of old k →
    least_of (set least k f) f ≡ f →
    length then ≡ 256 →
    ((o g : ℕ) → slice_index_or then o None ≡ Some g →
    (g < k + 1) × (least_of (set least k f) g ≡ g) × (slice_index_or taken g false ≢ slice_index_or taken o false)
    × (least_of old g ≡ o)) →
    SplitBefore old taken then (set least k f) (k + 1)
parted old taken other then least k f room is differs le same within own wide firsts = record {
  long = length-set least k f ∙ is.long;
  wide = wide;
  rest = λ b past. elsewhere b (λ e. omega (arith, e, past)) ∙ is.rest b (omega (arith, past));
  roots = λ b root. elsewhere b (λ e. differs (ap (λ z. slice_index_or taken z false) (sym (not_root b e root)))) ∙ is.roots b root;
  below = and_last (λ b. least_of (set least k f) b ≤ b) k (λ b lt. subst (λ z. z ≤ b) (sym (before b lt)) (is.below b lt))
      (subst (λ z. z ≤ k) (sym here) le);
  own = and_last (λ b. least_of (set least k f) (least_of (set least k f) b) ≡ least_of (set least k f) b) k
      (λ b lt. ap (λ z. least_of (set least k f) z) (before b lt) ∙ before (least_of least b) (omega (arith, lt, is.below b lt))
      ∙ is.own b lt ∙ sym (before b lt))
      (ap (λ z. least_of (set least k f) z) here ∙ own ∙ sym here);
  taken_alike = and_last (λ b. slice_index_or taken (least_of (set least k f) b) false ≡ slice_index_or taken b false) k
      (λ b lt. ap (λ z. slice_index_or taken z false) (before b lt) ∙ is.taken_alike b lt)
      (ap (λ z. slice_index_or taken z false) here ∙ same);
  within = and_last (λ b. least_of old (least_of (set least k f) b) ≡ least_of old b) k
      (λ b lt. ap (λ z. least_of old z) (before b lt) ∙ is.within b lt)
      (ap (λ z. least_of old z) here ∙ within);
  firsts = firsts;
}
  where
    elsewhere : (b : ℕ) → b ≢ k → least_of (set least k f) b ≡ least_of least b
    elsewhere b apart = get_or-set_other least k b f 0 apart

    before : (b : ℕ) → b < k → least_of (set least k f) b ≡ least_of least b
    before b lt = elsewhere b (λ e. omega (arith, e, lt))

    here : least_of (set least k f) k ≡ f
    here = get_or-set_at least k k f 0 refl (omega (arith, room, is.long))

    not_root : (b : ℕ) → b ≡ k → least_of old b ≡ b → least_of least k ≡ k
    not_root b e root = subst (λ z. least_of least z ≡ z) e (is.roots b root)

-- it goes to the first one that wasn't taken as the least one
joined : (old : List ℕ) (taken : List Bool) (other : List (Option ℕ)) (least : List ℕ) (k f : ℕ) → k < 256 →
    SplitBefore old taken other least k → slice_index_or taken k false ≢ slice_index_or taken (least_of least k) false →
    slice_index_or other (least_of least k) None ≡ Some f → SplitBefore old taken other (set least k f) (k + 1)
joined old taken other least k f room is differs there =
    let w = is.firsts (least_of least k) f there in
    parted old taken other other least k f room is differs (omega (arith, w.0))
    (two_apart (slice_index_or taken f false) (slice_index_or taken k false) (slice_index_or taken (least_of least k) false) w.2 differs)
    (w.3 ∙ is.rest k (omega arith)) (stays f w.0 ∙ w.1) is.wide
    (λ o g at. let v = is.firsts o g at in (omega (arith, v.0), stays g v.0 ∙ v.1, v.2, v.3))
  where
    stays : (b : ℕ) → b < k → least_of (set least k f) b ≡ least_of least b
    stays b lt = get_or-set_other least k b f 0 (λ e. omega (arith, e, lt))

-- or is the first one itself
begun : (old : List ℕ) (taken : List Bool) (other : List (Option ℕ)) (least : List ℕ) (k : ℕ) → IsAlike old → k < 256 →
    SplitBefore old taken other least k → slice_index_or taken k false ≢ slice_index_or taken (least_of least k) false →
    SplitBefore old taken (set other (least_of least k) (Some k)) (set least k k) (k + 1)
begun old taken other least k alike room is differs =
    parted old taken other (set other (least_of least k) (Some k)) least k k room is differs (omega arith) refl refl here
    (length-set other (least_of least k) (Some k) ∙ is.wide)
    (λ o g at. ⊎_elim
    (λ same.
    let e : k ≡ g = same_Some k g (sym (get_or-set_at other (least_of least k) o (Some k) None same.1 fits) ∙ at) in (
      omega (arith, e),
      subst (λ z. least_of (set least k k) z ≡ z) e here,
      λ q. differs (ap (λ z. slice_index_or taken z false) e ∙ q ∙ ap (λ z. slice_index_or taken z false) same.1),
      ap (λ z. least_of old z) (sym e) ∙ sym (is.rest k (omega arith)) ∙ sym same.1,
    ))
    (λ apart.
    let v = is.firsts o g (sym (get_or-set_other other (least_of least k) o (Some k) None apart.1) ∙ at) in
    (omega (arith, v.0), get_or-set_other least k g k 0 (λ e. omega (arith, e, v.0)) ∙ v.1, v.2, v.3))
    (eqb_tells o (least_of least k)))
  where
    here : least_of (set least k k) k ≡ k
    here = get_or-set_at least k k k 0 refl (omega (arith, room, is.long))

    fits : least_of least k < length other
    fits = omega (arith, is.rest k (omega arith), alike.below k room, room, is.wide)

-- each step, by the results of the tests
pub kept_step : (old : List ℕ) (taken : List Bool) (other : List (Option ℕ)) (least : List ℕ) (k : ℕ) → IsAlike old → k < 256 →
    SplitBefore old taken other least k → beq (slice_index_or taken k false) (slice_index_or taken (least_of least k) false) ≡ true →
    SplitBefore old taken other least (k + 1)
kept_step old taken other least k alike room is same = kept old taken other least k alike room is (alike_when _ _ same)

pub joined_step : (old : List ℕ) (taken : List Bool) (other : List (Option ℕ)) (least : List ℕ) (k f : ℕ) → k < 256 →
    SplitBefore old taken other least k → beq (slice_index_or taken k false) (slice_index_or taken (least_of least k) false) ≡ false →
    slice_index_or other (least_of least k) None ≡ Some f → SplitBefore old taken other (set least k f) (k + 1)
joined_step old taken other least k f room is differs there = joined old taken other least k f room is (apart_when _ _ differs) there

pub begun_step : (old : List ℕ) (taken : List Bool) (other : List (Option ℕ)) (least : List ℕ) (k : ℕ) → IsAlike old → k < 256 →
    SplitBefore old taken other least k → beq (slice_index_or taken k false) (slice_index_or taken (least_of least k) false) ≡ false →
    SplitBefore old taken (set other (least_of least k) (Some k)) (set least k k) (k + 1)
begun_step old taken other least k alike room is differs = begun old taken other least k alike room is (apart_when _ _ differs)

-- where each is absent, none is there
pub none_there : (n o : ℕ) → slice_index_or (replicate {A = Option ℕ} n None) o None ≡ None
none_there zero o = refl
none_there (suc n) zero = refl
none_there (suc n) (suc o) = none_there n o

-- at first nothing is parted
pub none_parted : (old : List ℕ) (taken : List Bool) (other : List (Option ℕ)) → IsAlike old → length other ≡ 256 →
    ((o : ℕ) → slice_index_or other o None ≡ None) → SplitBefore old taken other old 0
none_parted old taken other alike wide none = record {
  long = alike.long;
  wide = wide;
  rest = λ b le. refl;
  roots = λ b root. root;
  below = λ b lt. absurd (omega (arith, lt));
  own = λ b lt. absurd (omega (arith, lt));
  taken_alike = λ b lt. absurd (omega (arith, lt));
  within = λ b lt. absurd (omega (arith, lt));
  firsts = λ o f there. absurd (none-some f (sym (none o) ∙ there));
}

-- so it is where the list of the first ones is as new
pub as_new : (n : ℕ) → n ≡ 256 → (old : List ℕ) (taken : List Bool) → IsAlike old →
    SplitBefore old taken (replicate {A = Option ℕ} n None) old 0
as_new n long old taken alike = none_parted old taken (replicate n None) alike (length-replicate n None ∙ long) (none_there n)

-- at the end all bytes are
pub all_parted : (old : List ℕ) (taken : List Bool) (other : List (Option ℕ)) (least : List ℕ) (k : ℕ) → 256 ≤ k →
    SplitBefore old taken other least k → IsSplit old taken least
all_parted old taken other least k past is = record {
  alike = record {
    long = is.long;
    below = λ b lt. is.below b (omega (arith, lt, past));
    own = λ b lt. is.own b (omega (arith, lt, past));
  };
  taken_alike = λ b lt. is.taken_alike b (omega (arith, lt, past));
  within = λ b lt. is.within b (omega (arith, lt, past));
}
