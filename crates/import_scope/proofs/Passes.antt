-- The pass over the heads and the pass over the paths find the first fault.
use Rattle.std.proofs.Common.{◌≡◌, ℕ, zero, suc, ◌+◌, ◌<◌, List, [], ◌∷◌, ◌++◌, length, map, drop, get_or, Option, Some, None, refl, sym}
use Rattle.std.proofs.Common.{ap, ap₂, ◌∙◌, subst, ◌⊎◌, inl, inr, ⊎_elim, arith}
use Rattle.std.specs.Prelude.{slice_get, option_and_then, option_map, unwrap_or, Ok, Err}
use Rattle.std.proofs.lemmas.List.{drop_more}
use Rattle.std.proofs.lemmas.Option.{slice_get_within}
use Rattle.apparmor_text.specs.declared.part.ItemKind.{ItemKind}
use Rattle.apparmor_text.specs.declared.part.ItemKind.TheVariants as items
use Rattle.apparmor_text.specs.Parts.{PartValue, ItemValue}
use Rattle.apparmor_rules.specs.RuleWords.{content, first_bytes, is_path}
use Rattle.apparmor_variables.specs.Variables.{Variable}
use Rattle.apparmor_variables.proofs.Places.{first_of_two}
use Rattle.import_scope.specs.declared.outline.Asked.{Asked}
use Rattle.import_scope.specs.FirstFaults.{Question, Counted, variables_within, question_of, Answers, IsPast, FirstFaultFrom, none_left}
use Rattle.import_scope.specs.FirstFaults.{at_head, at_path, later}
use Rattle.import_scope.specs.ItemWords.{bytes_before}
use Rattle.import_scope.specs.Scopes.{ScopeState, Head, Fault, first_number, behind, head_fault}
use Rattle.import_scope.specs.inner.Outlines.{AskedValue, asked_value, asks, last_state, head_stop, all_asked}
use Rattle.import_scope.specs.inner.Problems.{name_at, question_at, FirstProblem, all_answered, here, further}
use Rattle.import_scope.specs.laws.Extensions.{Extends, extends_both, extends_behind, extends_last, last_at}

-- ---- the questions, one by one

module _ (variables : List Variable) (profiles : List Head) (asked : List Asked) (i : ℕ) (d : Asked) (low : i < length asked) where
  cut : map asked_value (drop i asked) ≡ asked_value (get_or asked i d) ∷ map asked_value (drop (i + 1) asked)
  cut = ap (map asked_value) (drop_more asked i d low)

  pub fault_here : (c : Counted) (fault : Fault) → Answers c (question_at variables profiles (asked_value (get_or asked i d))) (Err fault)
      → FirstProblem variables profiles c (map asked_value (drop i asked)) (Some fault)
  fault_here c fault h =
      subst (λ (x : List AskedValue). FirstProblem variables profiles c x (Some fault)) (sym cut)
      (here c (asked_value (get_or asked i d)) (map asked_value (drop (i + 1) asked)) fault h)

  pub answered_here : (c next : Counted) (end : Option Fault) →
      Answers c (question_at variables profiles (asked_value (get_or asked i d))) (Ok next) →
      FirstProblem variables profiles next (map asked_value (drop (i + 1) asked)) end
      → FirstProblem variables profiles c (map asked_value (drop i asked)) end
  answered_here c next end h r =
      subst (λ (x : List AskedValue). FirstProblem variables profiles c x end) (sym cut)
      (further c next (asked_value (get_or asked i d)) (map asked_value (drop (i + 1) asked)) end h r)

-- ---- what the first pass notes is what is asked of the items

-- a head stays where it is
there_still : (heads more : List Head) (n : ℕ) (head : Head) → slice_get heads n ≡ Some head → slice_get (heads ++ more) n ≡ Some head
there_still [] more n head e = absurd cc
there_still (x ∷ heads) more zero head e = e
there_still (x ∷ heads) more (suc n) head e = there_still heads more n head e

abbrev pub option_list : {A : Type 0} → Option A → List A
option_list None = []
option_list (Some x) = x ∷ []

module _ (s f : ScopeState) (goes_on : Extends s f) where
  name_stays : (n : ℕ) (head : Head) → slice_get s.profiles n ≡ Some head → name_at f.profiles n ≡ head.name
  name_stays n head e =
      let there = ap (λ (x : List Head). slice_get x n) goes_on.profiles ∙ there_still s.profiles goes_on.more n head e in
      ap (λ (o : Option Head). elim o [ None ↦ [] | Some h ↦ h.name ]) there

  variables_stay : (n : ℕ) (head : Head) → slice_get s.profiles n ≡ Some head → f.declared ≡ s.declared
  variables_stay n head e = goes_on.declared (let h = slice_get_within s.profiles n head e in omega (arith, h))

  abbrev asked_at : List PartValue → Option ℕ → Option Head → List AskedValue
  asked_at parts number o = elim o [
    | None ↦ []
    | Some head ↦ elim number [
      | None ↦ []
      | Some n ↦ elim (first_bytes is_path parts) [
        | None ↦ []
        | Some bytes ↦ record { profile = n; path = content bytes; place = s.before + bytes_before is_path parts } ∷ []
      ]
    ]
  ]

  abbrev question_with : List PartValue → Option ℕ → Option Head → Option Question
  question_with parts number o = elim o [
    | None ↦ None
    | Some head ↦ option_map (λ bytes. record {
      profile = unwrap_or number 0;
      variables = variables_within s.declared head.name;
      path = content bytes;
      place = s.before + bytes_before is_path parts;
    }) (first_bytes is_path parts)
  ]

  same_question : (parts : List PartValue) (n : ℕ) (head : Head) → slice_get s.profiles n ≡ Some head
      → option_list (question_with parts (Some n) (Some head))
      ≡ map (question_at f.declared f.profiles) (asked_at parts (Some n) (Some head))
  same_question parts n head e = at (first_bytes is_path parts)
    where
      at : (o : Option (List ℕ)) →
          option_list (option_map (λ bytes. record {
            profile = n;
            variables = variables_within s.declared head.name;
            path = content bytes;
            place =
                s.before + bytes_before is_path parts;
          }) o)
          ≡ map (question_at f.declared f.profiles)
          (elim o [
            | None ↦ []
            | Some bytes ↦ record {
              profile = n;
              path = content bytes;
              place =
                  s.before + bytes_before is_path parts;
            } ∷ []
          ])
      at None = refl
      at (Some bytes) = ap₂ (λ (d : List Variable) (name : List ℕ). record {
        profile = n;
        variables = variables_within d name;
        path = content bytes;
        place = s.before + bytes_before is_path parts;
      } ∷ []) (sym (variables_stay n head e)) (sym (name_stays n head e))

  at_number : (parts : List PartValue) (number : Option ℕ)
      → option_list (question_with parts number (option_and_then (λ n. slice_get s.profiles n) number))
      ≡ map (question_at f.declared f.profiles)
      (asked_at parts number (option_and_then (λ n. slice_get s.profiles n) number))
  at_number parts None = refl
  at_number parts (Some n) =
      elim (slice_get s.profiles n) as (λ (o : Option Head). slice_get s.profiles n ≡ o → option_list (question_with parts (Some n) o)
      ≡ map (question_at f.declared f.profiles) (asked_at parts (Some n) o)) [
        | None ↦ λ e. refl
        | Some head ↦ λ e. same_question parts n head e
      ] refl

  pub questions_are : (kind : ItemKind) (parts : List PartValue) → option_list (question_of kind s parts)
      ≡ map (question_at f.declared f.profiles) (asks kind s parts)
  questions_are items.Assignment parts = refl
  questions_are items.Profile parts = refl
  questions_are items.Hat parts = refl
  questions_are items.Close parts = refl
  questions_are items.Blank parts = refl
  questions_are items.Statement parts = refl
  questions_are items.Rule parts = at_number parts (first_number s.within)

-- ---- both passes

-- the item's path has the first fault, or it has none and the others have the first
abbrev Cut : List Variable → List Head → Counted → Option Question → List AskedValue → Option Fault → Type 0
Cut variables profiles c o rest end =
    ((q : Question) × (fault : Fault) × (o ≡ Some q) × (end ≡ Some fault) × Answers c q (Err fault))
    ⊎ ((next : Counted) × IsPast c o next × FirstProblem variables profiles next rest end)

module _ (variables : List Variable) (profiles : List Head) where
  one_asked : (c : Counted) (a : AskedValue) (q : Question) (rest : List AskedValue) (end : Option Fault) →
      q ≡ question_at variables profiles a → FirstProblem variables profiles c (a ∷ rest) end → Cut variables profiles c (Some q) rest end
  one_asked c a q rest end e (here k b others fault h) =
      inl (q, fault, refl, refl, subst (λ (x : Question). Answers k x (Err fault)) (sym e) h)
  one_asked c a q rest end e (further k next b others last h r) =
      inr (next, subst (λ (x : Question). Answers k x (Ok next)) (sym e) h, r)

  cut_asked : (c : Counted) (o : Option Question) (first rest : List AskedValue) (end : Option Fault) → option_list o
      ≡ map (question_at variables profiles) first → FirstProblem variables profiles c (first ++ rest) end →
      Cut variables profiles c o rest end
  cut_asked c None [] rest end e h = inr (c, refl, h)
  cut_asked c (Some q) [] rest end e h = absurd cc
  cut_asked c None (a ∷ first) rest end e h = absurd cc
  cut_asked c (Some q) (a ∷ []) rest end e h = let same : q ≡ question_at variables profiles a = cc in one_asked c a q rest end same h
  cut_asked c (Some q) (a ∷ b ∷ first) rest end e h = absurd cc

abbrev asked_up_to : ScopeState → ItemValue → List ItemValue → Option Fault → List AskedValue
asked_up_to s item others o = elim o [ None ↦ asks item.kind s item.parts ++ all_asked (behind s item) others | Some fault ↦ [] ]

abbrev stop_of : ScopeState → ItemValue → List ItemValue → Option Fault → Option Fault
stop_of s item others o = elim o [ None ↦ head_stop (behind s item) others | Some fault ↦ Some fault ]

nothing_asked : (variables : List Variable) (profiles : List Head) (c : Counted) (end : Option Fault) →
    FirstProblem variables profiles c [] end → end ≡ None
nothing_asked variables profiles c end (all_answered k) = refl

pub both_passes : (s : ScopeState) (c : Counted) (all : List ItemValue) (end : Option Fault) → FirstProblem (last_state s all).declared
    (last_state s all).profiles c (all_asked s all) end → FirstFaultFrom s c all (first_of_two end (head_stop s all))
both_passes s c [] end h =
    subst (λ (x : Option Fault). FirstFaultFrom s c [] (first_of_two x None)) (sym (nothing_asked _ _ c end h)) (none_left s c)
both_passes s c (item ∷ others) end h =
    elim (head_fault item.kind s item.parts) as (λ (o : Option Fault). head_fault item.kind s item.parts ≡ o
    → FirstProblem (last_at s item others o).declared (last_at s item others o).profiles c (asked_up_to s item others o) end
    → FirstFaultFrom s c (item ∷ others) (first_of_two end (stop_of s item others o))) [
      | None ↦ λ e h.
          let f = last_state (behind s item) others in
          let on = extends_both s (behind s item) f (extends_behind s item e) (extends_last (behind s item) others) in
          ⊎_elim
          (λ p. subst (λ (x : Option Fault). FirstFaultFrom s c (item ∷ others) (first_of_two x (head_stop (behind s item) others)))
          (sym p.3) (at_path s c item others p.0 p.1 p.2 p.4))
          (λ a. later s c a.0 item others (first_of_two end (head_stop (behind s item) others)) e a.1
          (both_passes (behind s item) a.0 others end a.2))
          (cut_asked f.declared f.profiles c (question_of item.kind s item.parts) (asks item.kind s item.parts)
          (all_asked (behind s item) others) end (questions_are s f on item.kind item.parts) h)
      | Some fault ↦ λ e h.
          subst (λ (x : Option Fault). FirstFaultFrom s c (item ∷ others) (first_of_two x (Some fault))) (sym (nothing_asked _ _ c end h))
          (at_head s c item others fault e)
    ] refl h
