-- The cells that a byte of a path, of a class and of a name is written with in a canonical text.
use Rattle.std.proofs.Common.{◌≡◌, ℕ, Bool, true, false, cond, List, [], ◌∷◌, ◌++◌, Option, refl, sym, ap, subst, ◌∙◌, inl, inr, ◌==◌}
use Rattle.std.specs.Prelude.{◌||◌, ◌&&◌, not, codes}
use Rattle.std.specs.List.{list_any, list_all}
use Rattle.std.proofs.lemmas.Bool.{eqb-true, eqb-false, ne_eqb, not-true, or_cases, or_parts, and_parts}
use Rattle.rule_writer.specs.Canonical.{escaped_among}
use Rattle.rule_reader.specs.GrammarPaths.{IsItem, IsClassCell, cell}
use Rattle.rule_reader.specs.GrammarWords.{Cell, plain, escaped, print_cell, print_cells, byte_of, is_plain, IsNameCell}
use Rattle.rule_globs.specs.Each.{Each}
use Rattle.rule_profile.specs.Readable.{can_stand, are_name_bytes}
use Rattle.rule_reader.specs.TextBytes.{is_escapable}

-- ---- bytes that are among the special ones, or not

abbrev pub is_special : List ℕ → ℕ → Bool
is_special special b = list_any (λ s. s == b) special

-- what all special ones pass is passed by one of them
pub special_passes : (test : ℕ → Bool) (special : List ℕ) (b : ℕ) → list_all test special ≡ true → is_special special b ≡ true →
    test b ≡ true
special_passes test [] b h e = absurd cc
special_passes test (s ∷ special) b h e =
    let p = and_parts (test s) (list_all test special) h in
    elim (or_cases (s == b) (is_special special b) e) [
      | inl f ↦ subst (λ x. test x ≡ true) (eqb-true s b f) p.0
      | inr f ↦ special_passes test special b p.1 f
    ]

-- the byte is none of them
abbrev pub NoneOf : List ℕ → ℕ → Type 0
NoneOf [] b = Unit {0}
NoneOf (s ∷ special) b = ((b == s) ≡ false) × NoneOf special b

pub none_of : (special : List ℕ) (b : ℕ) → is_special special b ≡ false → NoneOf special b
none_of [] b e = tt
none_of (s ∷ special) b e =
    let p = or_parts (s == b) (is_special special b) e in
    (ne_eqb b s (λ f. eqb-false s b p.0 (sym f)), none_of special b p.1)

-- neither byte 0 nor LF
pub stands : (b : ℕ) → can_stand b ≡ true → ((b == 0) ≡ false) × ((b == 10) ≡ false)
stands b h = or_parts (b == 0) (b == 10) (not-true (b == 0 || b == 10) h)

-- ---- the cell of a byte

abbrev pub cell_among : List ℕ → ℕ → Cell
cell_among special b = cond (is_special special b) (escaped b) (plain b)

pub print_cell_among : (special : List ℕ) (b : ℕ) → print_cell (cell_among special b) ≡ escaped_among special b
print_cell_among special b =
    elim (is_special special b) as (λ t. print_cell (cond t (escaped b) (plain b)) ≡ cond t (92 ∷ b ∷ []) (b ∷ []))
    [ true ↦ refl | false ↦ refl ]

pub byte_of_cell : (special : List ℕ) (b : ℕ) → byte_of (cell_among special b) ≡ b
byte_of_cell special b = elim (is_special special b) as (λ t. byte_of (cond t (escaped b) (plain b)) ≡ b) [ true ↦ refl | false ↦ refl ]

-- a cell of either kind
pub by_cell : (P : Cell → Type 0) (special : List ℕ) (b : ℕ) → (is_special special b ≡ true → P (escaped b)) →
    (is_special special b ≡ false → P (plain b)) → P (cell_among special b)
by_cell P special b in_it not_in =
    let Q : (t : Bool) → is_special special b ≡ t → P (cond t (escaped b) (plain b)) =
    λ t. elim t as (λ t. is_special special b ≡ t → P (cond t (escaped b) (plain b))) [ true ↦ in_it | false ↦ not_in ] in
    Q (is_special special b) refl

-- ---- of a path

abbrev pub path_cell : ℕ → Cell
path_cell b = cell_among (codes "*?[{},\\\"@]") b

pub path_cell_valid : (depth : ℕ) (next : Option ℕ) (b : ℕ) → can_stand b ≡ true → IsItem true depth next (cell (path_cell b))
path_cell_valid depth next b h =
    by_cell (λ c. IsItem true depth next (cell c)) (codes "*?[{},\\\"@]") b
    (λ e. special_passes is_escapable (codes "*?[{},\\\"@]") b refl e)
    (λ e.
    let c = stands b h in
    let n = none_of (codes "*?[{},\\\"@]") b e in
    rw (c.0, c.1, n.0, n.1.0, n.1.1.0, n.1.1.1.0, n.1.1.1.1.0, n.1.1.1.1.1.0, n.1.1.1.1.1.1.0, n.1.1.1.1.1.1.1.0, n.1.1.1.1.1.1.1.1.0)
    refl)

-- no such cell begins with a star
pub path_cell_no_star : (b : ℕ) (bytes : List ℕ) → (first : ℕ) × (rest : List ℕ) × (print_cell (path_cell b) ++ bytes ≡ first ∷ rest)
    × ((first == 42) ≡ false)
path_cell_no_star b bytes =
    by_cell (λ c. (first : ℕ) × (rest : List ℕ) × (print_cell c ++ bytes ≡ first ∷ rest) × ((first == 42) ≡ false))
    (codes "*?[{},\\\"@]") b
    (λ e. (92, b ∷ bytes, refl, refl))
    (λ e. (b, bytes, refl, (none_of (codes "*?[{},\\\"@]") b e).0))

-- ---- of a class

abbrev pub class_cell : ℕ → Cell
class_cell b = cell_among (codes "\\]^-\"") b

pub class_cell_valid : (b : ℕ) → can_stand b ≡ true → IsClassCell true (class_cell b)
class_cell_valid b h =
    by_cell (IsClassCell true) (codes "\\]^-\"") b
    (λ e. special_passes is_escapable (codes "\\]^-\"") b refl e)
    (λ e.
    let c = stands b h in
    let n = none_of (codes "\\]^-\"") b e in
    rw (c.0, c.1, n.1.1.1.1.0, n.1.0, n.0) refl)

-- none of these is a dash or a ^ by itself
pub class_cell_no_dash : (b : ℕ) → is_plain 45 (class_cell b) ≡ false
class_cell_no_dash b =
    by_cell (λ c. is_plain 45 c ≡ false) (codes "\\]^-\"") b (λ e. refl) (λ e. (none_of (codes "\\]^-\"") b e).1.1.1.0)

pub class_cell_no_caret : (b : ℕ) → is_plain 94 (class_cell b) ≡ false
class_cell_no_caret b =
    by_cell (λ c. is_plain 94 c ≡ false) (codes "\\]^-\"") b (λ e. refl) (λ e. (none_of (codes "\\]^-\"") b e).1.1.0)

-- ---- of a name

-- directly after a backslash or not
abbrev pub name_cells : Bool → List ℕ → List Cell
name_cells behind [] = []
name_cells true (b ∷ bytes) = escaped b ∷ name_cells false bytes
name_cells false (b ∷ bytes) = cond (b == 92) (name_cells true bytes) (plain b ∷ name_cells false bytes)

-- a backslash before these bytes
abbrev backslash : Bool → List ℕ → List ℕ
backslash behind bytes = cond behind (92 ∷ bytes) bytes

pub record NameCells (behind : Bool) (bytes : List ℕ) : Type 0 where
  pub valid : Each (IsNameCell true) (name_cells behind bytes)
  pub prints : print_cells (name_cells behind bytes) ≡ backslash behind bytes

-- the parts of the test of a name's bytes
name_parts : (behind : Bool) (b : ℕ) (bytes : List ℕ) → are_name_bytes behind (b ∷ bytes) ≡ true → (can_stand b ≡ true)
    × ((behind || not (b == 34)) ≡ true) × (are_name_bytes (not behind && b == 92) bytes ≡ true)
name_parts behind b bytes h =
    let p = and_parts (can_stand b && (behind || not (b == 34))) (are_name_bytes (not behind && b == 92) bytes) h in
    let q = and_parts (can_stand b) (behind || not (b == 34)) p.0 in
    (q.0, q.1, p.1)

pub name_cells_are : (behind : Bool) (bytes : List ℕ) → are_name_bytes behind bytes ≡ true → NameCells behind bytes
name_cells_are true [] h = absurd cc
name_cells_are false [] h = record { valid = tt; prints = refl }
name_cells_are true (b ∷ bytes) h =
    let p = name_parts true b bytes h in
    let more = name_cells_are false bytes p.2 in
    record { valid = (not-true (b == 0 || b == 10) p.0, more.valid); prints = ap (λ (x : List ℕ). 92 ∷ b ∷ x) more.prints }
name_cells_are false (b ∷ bytes) h =
    let p = name_parts false b bytes h in
    let after : (t : Bool) → (b == 92) ≡ t → are_name_bytes t bytes ≡ true = λ t e. subst (λ t. are_name_bytes t bytes ≡ true) e p.2 in
    let G : Bool → Type 0 = λ t. Each (IsNameCell true) (cond t (name_cells true bytes) (plain b ∷ name_cells false bytes))
    × (print_cells (cond t (name_cells true bytes) (plain b ∷ name_cells false bytes)) ≡ b ∷ bytes) in
    let P : (t : Bool) → (b == 92) ≡ t → G t = λ t. elim t as (λ t. (b == 92) ≡ t → G t) [
      | true ↦ λ e. let more = name_cells_are true bytes (after true e) in
          (more.valid, more.prints ∙ ap (λ (x : ℕ). x ∷ bytes) (sym (eqb-true b 92 e)))
      | false ↦ λ e.
          let more = name_cells_are false bytes (after false e) in
          let c = stands b p.0 in
          let q : (b == 34) ≡ false = not-true (b == 34) p.1 in
          let here : IsNameCell true (plain b) = rw (c.0, c.1, q, e) refl in
          ((here, more.valid), ap (λ (x : List ℕ). b ∷ x) more.prints)
    ] in
    let both = P (b == 92) refl in
    record { valid = both.0; prints = both.1 }
