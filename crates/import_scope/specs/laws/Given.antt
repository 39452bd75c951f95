-- Values that are given beforehand and replace what a text says of their variables.
use Rattle.std.proofs.Common.{◌≡◌, ℕ, Bool, true, false, ◌&&◌, List, [], ◌∷◌, ◌++◌, Option, Some, None, refl, sym, ap, ◌∙◌}
use Rattle.std.specs.Prelude.{bytes_eq, find, if◌then◌else◌}
use Rattle.std.proofs.lemmas.Slice.Eq.{bytes_eq-Decides}
use Rattle.apparmor_text.specs.declared.part.ItemKind.{ItemKind}
use Rattle.apparmor_text.specs.declared.part.ItemKind.TheVariants as items
use Rattle.apparmor_text.specs.Parts.{PartValue, ItemValue}
use Rattle.import_scope.specs.declared.assigned.Define.{Define}
use Rattle.apparmor_variables.specs.Variables.{Variable}
use Rattle.import_scope.specs.ItemWords.{assigned_name, assigned_values, is_adding}
use Rattle.import_scope.specs.Overrides.{is_given, item_given, items_given, kind_given}
use Rattle.import_scope.specs.Scopes.{ScopeState, behind, behind_all, changed, with_values, with_variable}

-- ---- where nothing is replaced

never : (b : Bool) → (if b && false then items.Blank else items.Assignment) ≡ items.Assignment
never true = refl
never false = refl

none_given : (overrides : Bool) (kind : ItemKind) (parts : List PartValue) → kind_given overrides [] kind parts ≡ kind
none_given overrides items.Assignment parts = never overrides
none_given overrides items.Profile parts = refl
none_given overrides items.Hat parts = refl
none_given overrides items.Close parts = refl
none_given overrides items.Blank parts = refl
none_given overrides items.Statement parts = refl
none_given overrides items.Rule parts = refl

abbrev as_kind : List PartValue → ItemKind → ItemValue
as_kind parts kind = record { kind = kind; parts = parts }

-- where no value is given, the items are as they are
pub nothing_given : (overrides : Bool) (all : List ItemValue) → items_given overrides [] all ≡ all
nothing_given overrides [] = refl
nothing_given overrides (item ∷ all) =
    ap (λ (x : ItemValue). x ∷ items_given overrides [] all) (ap (as_kind item.parts) (none_given overrides item.kind item.parts))
    ∙ ap (λ (xs : List ItemValue). item ∷ xs) (nothing_given overrides all)

none_replaced : (defines : List Define) (kind : ItemKind) (parts : List PartValue) → kind_given false defines kind parts ≡ kind
none_replaced defines items.Assignment parts = refl
none_replaced defines items.Profile parts = refl
none_replaced defines items.Hat parts = refl
none_replaced defines items.Close parts = refl
none_replaced defines items.Blank parts = refl
none_replaced defines items.Statement parts = refl
none_replaced defines items.Rule parts = refl

-- and where given values only precede the text
pub nothing_replaced : (defines : List Define) (all : List ItemValue) → items_given false defines all ≡ all
nothing_replaced defines [] = refl
nothing_replaced defines (item ∷ all) =
    ap (λ (x : ItemValue). x ∷ items_given false defines all) (ap (as_kind item.parts) (none_replaced defines item.kind item.parts))
    ∙ ap (λ (xs : List ItemValue). item ∷ xs) (nothing_replaced defines all)

-- ---- where values are given

-- the variable with this name
abbrev pub found : List ℕ → List Variable → Option Variable
found name variables = find (λ v. bytes_eq v.name name) variables

-- another variable at the end
pub found_before : (name : List ℕ) (variables : List Variable) (v : Variable) → bytes_eq v.name name ≡ false →
    found name (variables ++ v ∷ []) ≡ found name variables
found_before name [] v e = ap (λ (b : Bool). if b then Some v else None) e
found_before name (x ∷ variables) v e = ap (λ (rest : Option Variable). if bytes_eq x.name name then Some x else rest)
    (found_before name variables v e)

-- more values for another variable
pub found_beside : (name other : List ℕ) (values : List (List ℕ)) (variables : List Variable) → bytes_eq other name ≡ false →
    found name (with_values variables other values) ≡ found name variables
found_beside name other values [] e = refl
found_beside name other values (x ∷ variables) e = at (found_beside name other values variables e) (bytes_eq x.name other) refl
  where
    more : Variable
    more = record { name = x.name; values = x.values ++ values }

    at : found name (with_values variables other values) ≡ found name variables → (b : Bool) → bytes_eq x.name other ≡ b →
        found name (if b then more ∷ variables else x ∷ with_values variables other values) ≡ found name (x ∷ variables)
    at rest true same =
        let is : x.name ≡ other = (bytes_eq-Decides x.name other).0 same in
        let isnt : bytes_eq x.name name ≡ false = ap (λ (n : List ℕ). bytes_eq n name) is ∙ e in
        ap (λ (b : Bool). if b then Some more else found name variables) isnt
        ∙ sym (ap (λ (b : Bool). if b then Some x else found name variables) isnt)
    at rest false same = ap (λ (v : Option Variable). if bytes_eq x.name name then Some x else v) rest

module _ (defines : List Define) (name : List ℕ) (given : is_given defines name ≡ true) where
  differs : (other : List ℕ) → is_given defines other ≡ false → bytes_eq other name ≡ false
  differs other isnt = at (bytes_eq other name) refl
    where
      at : (b : Bool) → bytes_eq other name ≡ b → b ≡ false
      at true same =
          let is : other ≡ name = (bytes_eq-Decides other name).0 same in
          sym given ∙ ap (is_given defines) (sym is) ∙ isnt
      at false same = refl

  past_assignment : (s : ScopeState) (parts : List PartValue) →
      found name (changed (kind_given true defines items.Assignment parts) s parts).declared ≡ found name s.declared
  past_assignment s parts = at (is_given defines (assigned_name parts)) refl
    where
      by_operator : (adding : Bool) → is_given defines (assigned_name parts) ≡ false →
          found name (if adding then with_values s.declared (assigned_name parts) (assigned_values parts)
          else with_variable s.declared (assigned_name parts) (assigned_values parts)) ≡ found name s.declared
      by_operator true isnt =
          found_beside name (assigned_name parts) (assigned_values parts) s.declared (differs (assigned_name parts) isnt)
      by_operator false isnt = found_before name s.declared _ (differs (assigned_name parts) isnt)

      at : (b : Bool) → is_given defines (assigned_name parts) ≡ b →
          found name (changed (if b then items.Blank else items.Assignment) s parts).declared ≡ found name s.declared
      at true is = refl
      at false isnt = by_operator (is_adding parts) isnt

  past_item : (s : ScopeState) (kind : ItemKind) (parts : List PartValue) →
      found name (changed (kind_given true defines kind parts) s parts).declared ≡ found name s.declared
  past_item s items.Assignment parts = past_assignment s parts
  past_item s items.Profile parts = refl
  past_item s items.Hat parts = refl
  past_item s items.Close parts = refl
  past_item s items.Blank parts = refl
  past_item s items.Statement parts = refl
  past_item s items.Rule parts = refl

  -- a variable that is given stays as it is
  pub given_stays : (s : ScopeState) (all : List ItemValue) →
      found name (behind_all s (items_given true defines all)).declared ≡ found name s.declared
  given_stays s [] = refl
  given_stays s (item ∷ all) = given_stays (behind s (item_given true defines item)) all ∙ past_item s item.kind item.parts
