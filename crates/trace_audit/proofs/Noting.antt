-- A denial is noted with those that are the same, or after all others.
use Rattle.std.proofs.Common.{◌≡◌, ◌∙◌, ◌<◌, ℕ, zero, suc, Bool, true, false, cond, List, [], ◌∷◌, ◌++◌, length, set}
use Rattle.std.proofs.Common.{map, Some, None, Option, get_or, sym, ap, refl, arith, if◌then◌else◌}
use Rattle.std.specs.Prelude.{option_map}
use Rattle.std.specs.Ordering.{is_eq}
use Rattle.audit_log.specs.Denials.{DenialValue, denial_value}
use Rattle.audit_log.specs.contracts.denial.DenialOrd.TheImpl as denial_order
use Rattle.audit_log.specs.declared.denial.Denial.{Denial}
use Rattle.trace_audit.specs.Groups as groups
use Rattle.trace_audit.specs.Groups.{is_same, noted, once_more}
use Rattle.trace_audit.specs.inner.GroupValues.{group_value, place_of}
use Rattle.trace_audit.specs.declared.groups.Group.{Group}
use Rattle.trace_audit.proofs.SameDenials.{back, in_order, through}

abbrev place_with : Bool → Option ℕ → Option ℕ
place_with b o = if b then Some 0 else option_map (λ place. suc place) o

abbrev noted_in : Bool → ℕ → DenialValue → groups.Group → List groups.Group → List groups.Group
noted_in b line d g gs = if b then once_more line g ∷ gs else g ∷ noted line d gs

-- the place is one of the list
within_by : (b : Bool) (o : Option ℕ) (n place : ℕ) → ((i : ℕ) → o ≡ Some i → i < n) → place_with b o ≡ Some place → place < suc n
within_by true o n place below e = let same : 0 ≡ place = cc in omega (arith, same)
within_by false None n place below e = absurd cc
within_by false (Some i) n place below e = let same : suc i ≡ place = cc in let lt = below i refl in omega (arith, same, lt)

pub place_within : (items : List Group) (d : DenialValue) (place : ℕ) → place_of (map group_value items) d ≡ Some place
    → place < length items
place_within [] d place e = absurd cc
place_within (g ∷ gs) d place e =
    within_by (is_same (denial_value g.denial) d) (place_of (map group_value gs) d) (length gs) place (λ i h. place_within gs d i h) e

-- another line of a group leaves all groups where they are
pub places_stay : (items : List Group) (i : ℕ) (before after : Group) → before ≡ get_or items i before → after.denial ≡ before.denial
    → (d : DenialValue) → place_of (map group_value (set items i after)) d ≡ place_of (map group_value items) d
places_stay [] i before after is same d = refl
places_stay (g ∷ gs) zero before after is same d =
    ap (λ (e : Denial). place_with (is_same (denial_value e) d) (place_of (map group_value gs) d))
    (same ∙ ap (λ (x : Group). x.denial) is)
places_stay (g ∷ gs) (suc i) before after is same d =
    ap (λ (o : Option ℕ). place_with (is_same (denial_value g.denial) d) o) (places_stay gs i before after is same d)

-- one that was noted before
pub noted_again : (line : ℕ) (d : DenialValue) (before after : Group) → group_value after ≡ once_more line (group_value before)
    → (items : List Group) (place : ℕ) → place_of (map group_value items) d ≡ Some place → before ≡ get_or items place before
    → map group_value (set items place after) ≡ noted line d (map group_value items)
noted_again line d before after more [] place e is = absurd cc
noted_again line d before after more (g ∷ gs) place e is =
    by (is_same (denial_value g.denial) d) (place_of (map group_value gs) d) refl e (noted_again line d before after more gs)
  where
    by : (b : Bool) (o : Option ℕ) → place_of (map group_value gs) d ≡ o → place_with b o ≡ Some place
        → ((i : ℕ) → place_of (map group_value gs) d ≡ Some i → before ≡ get_or gs i before
        → map group_value (set gs i after) ≡ noted line d (map group_value gs))
        → map group_value (set (g ∷ gs) place after) ≡ noted_in b line d (group_value g) (map group_value gs)
    by true o found e rest =
        let zeroth : place ≡ 0 = cc in
        ap (λ (i : ℕ). map group_value (set (g ∷ gs) i after)) zeroth
        ∙ ap (λ (v : groups.Group). v ∷ map group_value gs)
        (more ∙ ap (λ (x : Group). once_more line (group_value x)) (is ∙ ap (λ (i : ℕ). get_or (g ∷ gs) i before) zeroth))
    by false None found e rest = absurd cc
    by false (Some i) found e rest =
        let next : place ≡ suc i = cc in
        ap (λ (j : ℕ). map group_value (set (g ∷ gs) j after)) next
        ∙ ap (λ (l : List groups.Group). group_value g ∷ l) (rest i found (is ∙ ap (λ (j : ℕ). get_or (g ∷ gs) j before) next))

-- one that wasn't noted before
abbrev made : DenialValue → ℕ → List ℕ → groups.Group
made d line again = record { denial = d; line = line; again = again }

pub noted_first : (g : Group) → g.again.items ≡ [] → (items : List Group)
    → place_of (map group_value items) (denial_value g.denial) ≡ None
    → map group_value (items ++ g ∷ []) ≡ noted g.line (denial_value g.denial) (map group_value items)
noted_first g fresh [] e = ap (λ (l : List ℕ). made (denial_value g.denial) g.line l ∷ []) fresh
noted_first g fresh (x ∷ xs) e =
    by (is_same (denial_value x.denial) (denial_value g.denial)) (place_of (map group_value xs) (denial_value g.denial)) refl e
    (noted_first g fresh xs)
  where
    by : (b : Bool) (o : Option ℕ) → place_of (map group_value xs) (denial_value g.denial) ≡ o → place_with b o ≡ None
        → (place_of (map group_value xs) (denial_value g.denial) ≡ None
        → map group_value (xs ++ g ∷ []) ≡ noted g.line (denial_value g.denial) (map group_value xs))
        → map group_value ((x ∷ xs) ++ g ∷ []) ≡ noted_in b g.line (denial_value g.denial) (group_value x) (map group_value xs)
    by true o found e rest = absurd cc
    by false None found e rest = ap (λ (l : List groups.Group). group_value x ∷ l) (rest found)
    by false (Some i) found e rest = absurd cc

-- the place of a denial that differs from the one that is noted
other_stays : (g : Group) (q : Denial) → is_same (denial_value g.denial) (denial_value q) ≡ false → (items : List Group)
    → place_of (map group_value items) (denial_value q) ≡ place_of (map group_value (items ++ g ∷ [])) (denial_value q)
other_stays g q h [] = ap (λ (b : Bool). place_with b None) (sym h)
other_stays g q h (x ∷ xs) =
    ap (λ (o : Option ℕ). place_with (is_same (denial_value x.denial) (denial_value q)) o) (other_stays g q h xs)

-- the place of one that is the same
last_place : (g : Group) (q : Denial) → is_same (denial_value g.denial) (denial_value q) ≡ true → (items : List Group)
    → place_of (map group_value items) (denial_value g.denial) ≡ None
    → Some (length items) ≡ place_of (map group_value (items ++ g ∷ [])) (denial_value q)
last_place g q h [] e = ap (λ (b : Bool). place_with b None) (sym h)
last_place g q h (x ∷ xs) e =
    by (is_same (denial_value x.denial) (denial_value g.denial)) (place_of (map group_value xs) (denial_value g.denial)) refl refl e
    (last_place g q h xs)
  where
    by : (b : Bool) (o : Option ℕ) → is_same (denial_value x.denial) (denial_value g.denial) ≡ b
        → place_of (map group_value xs) (denial_value g.denial) ≡ o → place_with b o ≡ None
        → (place_of (map group_value xs) (denial_value g.denial) ≡ None
        → Some (length xs) ≡ place_of (map group_value (xs ++ g ∷ [])) (denial_value q))
        → Some (suc (length xs)) ≡ place_of (map group_value ((x ∷ xs) ++ g ∷ [])) (denial_value q)
    by true o same found e rest = absurd cc
    by false None same found e rest =
        ap (λ (o : Option ℕ). option_map (λ place. suc place) o) (rest found)
        ∙ ap (λ (b : Bool). place_with b (place_of (map group_value (xs ++ g ∷ [])) (denial_value q)))
        (sym same ∙ through g.denial q x.denial (back g.denial q ∙ h))
    by false (Some i) same found e rest = absurd cc

-- the places of all denials, after one more
pub places_more : (old new : Denial → Option ℕ) (items : List Group) (g : Group) (key : Denial) (place : ℕ)
    → ((q : Denial) → old q ≡ place_of (map group_value items) (denial_value q))
    → place_of (map group_value items) (denial_value g.denial) ≡ None → denial_value key ≡ denial_value g.denial
    → place ≡ length items
    → ((q : Denial) → new q ≡ cond (is_eq (denial_order.cmp-value.it key q)) (Some place) (old q))
    → (q : Denial) → new q ≡ place_of (map group_value (items ++ g ∷ [])) (denial_value q)
places_more old new items g key place were none copy is updates q =
    updates q
    ∙ ap (λ (b : Bool). cond b (Some place) (old q))
    (in_order key q ∙ ap (λ (v : DenialValue). is_same (denial_value q) v) copy ∙ back g.denial q)
    ∙ ap (λ (n : ℕ). cond (is_same (denial_value g.denial) (denial_value q)) (Some n) (old q)) is
    ∙ ap (λ (o : Option ℕ). cond (is_same (denial_value g.denial) (denial_value q)) (Some (length items)) o) (were q)
    ∙ by (is_same (denial_value g.denial) (denial_value q)) refl
  where
    by : (b : Bool) → is_same (denial_value g.denial) (denial_value q) ≡ b
        → cond b (Some (length items)) (place_of (map group_value items) (denial_value q))
        ≡ place_of (map group_value (items ++ g ∷ [])) (denial_value q)
    by true h = last_place g q h items none
    by false h = other_stays g q h items
