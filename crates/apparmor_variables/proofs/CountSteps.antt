-- Counting variables one after another.
use Rattle.std.proofs.Common.{◌≡◌, ℕ, ◌+◌, ◌<◌, List, [], ◌∷◌, length, map, drop, get_or, Bor, Option, Some, None}
use Rattle.std.proofs.Common.{refl, sym, ap, ◌∙◌, subst, inr, arith}
use Rattle.std.specs.Prelude.{unwrap_or}
use Rattle.std.proofs.lemmas.List.{drop_more}
use Rattle.std.proofs.lemmas.List.Sums.{sum_by-cons}
use Rattle.apparmor_pieces.specs.Pieces.{Text}
use Rattle.apparmor_variables.specs.Variables.{Variable, byte_count}
use Rattle.apparmor_variables.specs.Faults.{Tells}
use Rattle.apparmor_variables.specs.Problems.{HasProblem, undefined, cycle, too_long}
use Rattle.apparmor_variables.specs.Counts.{AtMost, ListCounts, Counts, CountTogether, OthersCount, most_list_count}
use Rattle.apparmor_variables.specs.inner.Way.{variable_at}
use Rattle.apparmor_variables.specs.declared.fault.ExpandFault.{ExpandFault}
use Rattle.apparmor_variables.specs.declared.fault.ExpandFault.TheVariants.{Undefined, Cycle, TooLong, NoMemory}
use Rattle.apparmor_variables.proofs.Gets.{drop_at_get, get_is}
use Rattle.apparmor_variables.proofs.CountLaws.{some_count}

pub at_most_so : (IsIt IsOther : ℕ → Type 0) → ((n : ℕ) → IsIt n → IsOther n) → (most : ℕ) (o : Option ℕ) → AtMost IsIt most o →
    AtMost IsOther most o
at_most_so IsIt IsOther so most None h = (h.0, so h.0 h.1, h.2)
at_most_so IsIt IsOther so most (Some n) h = (so n h.0, h.1)

-- ---- the values

abbrev pub Lent : Type 0
Lent = Bor (List ℕ)

abbrev pub texts_of : List Lent → List Text
texts_of values = map (λ (value : Lent). value.now) values

pub value_left : (values : List Lent) (i : ℕ) (d : Lent) → i < length values → byte_count (texts_of (drop i values))
    ≡ length (get_or values i d).now + byte_count (texts_of (drop (i + 1) values))
value_left values i d low =
    ap (λ (x : List Lent). byte_count (texts_of x)) (drop_more values i d low)
    ∙ sum_by-cons length (get_or values i d).now (texts_of (drop (i + 1) values))

-- ---- a variable without a list

pub no_list : (variables : List Variable) (name : Text) (fault : ExpandFault) → (fault ≡ NoMemory → ⊥) →
    Tells (HasProblem variables [] name) fault → (n : ℕ) → n ≡ most_list_count → ListCounts variables name n
no_list variables name (Undefined other) apart has n is = inr (undefined other.now, has, is)
no_list variables name (Cycle other) apart has n is = inr (cycle other.now, has, is)
no_list variables name TooLong apart has n is = inr (too_long, has, is)
no_list variables name NoMemory apart has n is = absurd (apart refl)

-- ---- the variables

left : (variables : List Variable) (place : ℕ) → place < length variables → drop place variables
    ≡ variable_at variables place ∷ drop (place + 1) variables
left variables place low =
    let at = get_is variables place low in
    let is : variable_at variables place ≡ at.0 = ap (λ o. unwrap_or o (record { name = []; values = [] })) at.1 in
    drop_at_get variables place at.0 at.1 ∙ ap (λ (v : Variable). v ∷ drop (place + 1) variables) (sym is)

module _ (variables : List Variable) (place all : ℕ) (low : place < length variables)
    (whole : (rest : ℕ) → CountTogether variables (drop place variables) rest → OthersCount variables (all + rest)) where
  with_one : (one : ℕ) → Counts variables (variable_at variables place) one → (rest : ℕ) →
      CountTogether variables (drop (place + 1) variables) rest → OthersCount variables (all + (one + rest))
  with_one one counts rest others =
      whole (one + rest) (subst (λ (vs : List Variable). CountTogether variables vs (one + rest)) (sym (left variables place low))
      (one, rest, counts, others, refl))

  pub one_more : (one : ℕ) → Counts variables (variable_at variables place) one → (rest : ℕ) →
      CountTogether variables (drop (place + 1) variables) rest → OthersCount variables (all + one + rest)
  one_more one counts rest others =
      let same : all + (one + rest) ≡ all + one + rest = omega arith in
      subst (OthersCount variables) same (with_one one counts rest others)

  -- one that counts too much
  pub too_much : (one most : ℕ) → Counts variables (variable_at variables place) one → most < all + one →
      AtMost (OthersCount variables) most None
  too_much one most counts more =
      let rest = some_count variables (drop (place + 1) variables) in
      (all + one + rest.0, one_more one counts rest.0 rest.1, omega (arith, more))
