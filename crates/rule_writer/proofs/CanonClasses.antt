-- The members of a class in a canonical text.
use Rattle.std.proofs.Common.{◌≡◌, ℕ, ◌≤◌, Bool, true, false, cond, ltb, leb, List, [], ◌∷◌, ◌++◌, length, Option, Some, refl, sym, ap}
use Rattle.std.proofs.Common.{subst, ◌∙◌, append_assoc, ◌==◌, arith}
use Rattle.std.specs.Prelude.{◌&&◌, ◌||◌, not, codes, option_map}
use Rattle.std.specs.List.{list_all, flat_map}
use Rattle.std.proofs.lemmas.Bool.{eqb-true, and_parts, leb-true, le-ltb, not-true}
use Rattle.rule_writer.specs.Canonical.{escaped_among, range_text, token_text}
use Rattle.rule_reader.specs.GrammarPaths.{members, WrittenClass, print_class, IsClassCell, IsBegun, IsClass}
use Rattle.rule_globs.specs.Glob.{range, single}
use Rattle.rule_reader.specs.GrammarWords.{Cell, plain, print_cell, print_cells, byte_of, is_plain}
use Rattle.rule_globs.specs.Each.{Each}
use Rattle.rule_profile.specs.Readable.{can_stand, is_range}
use Rattle.rule_globs.specs.Tokens.{bracket}
use Rattle.rule_globs.specs.declared.items.ByteRange.{ByteRange}
use Rattle.rule_writer.proofs.CanonCells.{class_cell, class_cell_valid, class_cell_no_dash, class_cell_no_caret, print_cell_among}
use Rattle.rule_writer.proofs.CanonCells.{byte_of_cell}

-- a range in front of other members
abbrev pub with_range : ByteRange → List Cell → List Cell
with_range r cells = cond (r.first == r.last) (class_cell r.first ∷ cells) (class_cell r.first ∷ plain 45 ∷ class_cell r.last ∷ cells)

abbrev pub class_cells : List ByteRange → List Cell
class_cells [] = []
class_cells (r ∷ ranges) = with_range r (class_cells ranges)

-- ---- their bytes

range_prints : (r : ByteRange) (cells : List Cell) → print_cells (with_range r cells) ≡ range_text r ++ print_cells cells
range_prints r cells =
    let first : print_cell (class_cell r.first) ≡ escaped_among (codes "\\]^-\"") r.first = print_cell_among (codes "\\]^-\"") r.first in
    let last : print_cell (class_cell r.last) ≡ escaped_among (codes "\\]^-\"") r.last = print_cell_among (codes "\\]^-\"") r.last in
    elim (r.first == r.last) as
    (λ t. print_cells (cond t (class_cell r.first ∷ cells) (class_cell r.first ∷ plain 45 ∷ class_cell r.last ∷ cells))
    ≡ cond t (escaped_among (codes "\\]^-\"") r.first) (escaped_among (codes "\\]^-\"") r.first
    ++ (codes "-" ++ escaped_among (codes "\\]^-\"") r.last)) ++ print_cells cells) [
      | true ↦ ap (λ (x : List ℕ). x ++ print_cells cells) first
      | false ↦ ap (λ (x : List ℕ). x ++ (45 ∷ (print_cell (class_cell r.last) ++ print_cells cells))) first
          ∙ ap (λ (x : List ℕ). escaped_among (codes "\\]^-\"") r.first ++ (45 ∷ (x ++ print_cells cells))) last
          ∙ sym (append_assoc (escaped_among (codes "\\]^-\"") r.first) (45 ∷ escaped_among (codes "\\]^-\"") r.last) (print_cells cells))
    ]

pub class_cells_print : (ranges : List ByteRange) → print_cells (class_cells ranges) ≡ flat_map range_text ranges
class_cells_print [] = refl
class_cells_print (r ∷ ranges) = range_prints r (class_cells ranges) ∙ ap (λ (x : List ℕ). range_text r ++ x) (class_cells_print ranges)

-- ---- they are valid

pub range_parts : (r : ByteRange) → is_range r ≡ true → (can_stand r.first ≡ true) × (can_stand r.last ≡ true) × (r.first ≤ r.last)
range_parts r h =
    let p = and_parts (can_stand r.first && can_stand r.last) (leb r.first r.last) h in
    let q = and_parts (can_stand r.first) (can_stand r.last) p.0 in
    (q.0, q.1, leb-true r.first r.last p.1)

pub class_cells_valid : (ranges : List ByteRange) → list_all is_range ranges ≡ true → Each (IsClassCell true) (class_cells ranges)
class_cells_valid [] h = tt
class_cells_valid (r ∷ ranges) h =
    let p = and_parts (is_range r) (list_all is_range ranges) h in
    let q = range_parts r p.0 in
    let more = class_cells_valid ranges p.1 in
    elim (r.first == r.last) as
    (λ t. Each (IsClassCell true) (cond t (class_cell r.first ∷ class_cells ranges)
    (class_cell r.first ∷ plain 45 ∷ class_cell r.last ∷ class_cells ranges))) [
      | true ↦ (class_cell_valid r.first q.0, more)
      | false ↦ (class_cell_valid r.first q.0, (refl, (class_cell_valid r.last q.1, more)))
    ]

-- the class doesn't begin with ^
pub class_cells_begun : (negated : Bool) (ranges : List ByteRange) → (length ranges == 0) ≡ false → IsBegun negated (class_cells ranges)
class_cells_begun negated [] h = absurd cc
class_cells_begun negated (r ∷ ranges) h =
    let first : (negated || not (is_plain 94 (class_cell r.first))) ≡ true = rw (class_cell_no_caret r.first)
    (elim negated as (λ t. (t || true) ≡ true) [ true ↦ refl | false ↦ refl ]) in
    elim (r.first == r.last) as
    (λ t. IsBegun negated (cond t (class_cell r.first ∷ class_cells ranges)
    (class_cell r.first ∷ plain 45 ∷ class_cell r.last ∷ class_cells ranges))) [ true ↦ first | false ↦ first ]

-- ---- they stand for the ranges

-- a member before one that is no dash by itself
member_first : (apart : Bool) (c d : Cell) (cells : List Cell) (ranges : List ByteRange) → is_plain 45 d ≡ false →
    members false (d ∷ cells) ≡ Some ranges → members apart (c ∷ d ∷ cells) ≡ Some (single (byte_of c) ∷ ranges)
unfolding members
member_first apart c d [] ranges h e = ap (λ (o : Option (List ByteRange)). option_map (λ others. single (byte_of c) ∷ others) o) e
member_first apart c d (f ∷ cells) ranges h e =
    let one : (((apart && is_plain 45 c) || not (is_plain 45 d)) ≡ true) =
    rw h (elim (apart && is_plain 45 c) as (λ t. (t || true) ≡ true) [ true ↦ refl | false ↦ refl ]) in
    rw one (ap (λ (o : Option (List ByteRange)). option_map (λ others. single (byte_of c) ∷ others) o) e)

-- a range of two before others
range_first : (apart : Bool) (c e : Cell) (cells : List Cell) (ranges : List ByteRange) → is_plain 45 c ≡ false → is_plain 45 e ≡ false →
    byte_of c ≤ byte_of e → members true cells ≡ Some ranges
    → members apart (c ∷ plain 45 ∷ e ∷ cells) ≡ Some (range (byte_of c) (byte_of e) ∷ ranges)
unfolding members
range_first apart c e cells ranges h g l m =
    let one : ((apart && is_plain 45 c) || false) ≡ false =
    rw h (elim apart as (λ t. ((t && false) || false) ≡ false) [ true ↦ refl | false ↦ refl ]) in
    let two : ltb (byte_of e) (byte_of c) ≡ false = le-ltb (byte_of e) (byte_of c) l in
    rw (one, g, two) (ap (λ (o : Option (List ByteRange)). option_map (λ others. range (byte_of c) (byte_of e) ∷ others) o) m)

-- members that begin with one that is no dash are the same directly after a range
class_cell_first : (b : ℕ) (ranges : List ByteRange) (cells : List Cell) (others : List ByteRange) (apart : Bool) →
    cells ≡ class_cells ranges → members false cells ≡ Some others
    → members apart (class_cell b ∷ cells) ≡ Some (single (byte_of (class_cell b)) ∷ others)
unfolding members
class_cell_first b [] cells others apart e h =
    let empty : members false [] ≡ Some others = subst (λ (x : List Cell). members false x ≡ Some others) e h in
    rw e (ap (λ (o : Option (List ByteRange)). option_map (λ others. single (byte_of (class_cell b)) ∷ others) o) empty)
class_cell_first b (r ∷ ranges) cells others apart e h =
    let G : List Cell → Type 0 = λ x. members false x ≡ Some others → members apart (class_cell b ∷ x)
    ≡ Some (single (byte_of (class_cell b)) ∷ others) in
    let at : G (with_range r (class_cells ranges)) =
    elim (r.first == r.last) as
    (λ t. G (cond t (class_cell r.first ∷ class_cells ranges)
    (class_cell r.first ∷ plain 45 ∷ class_cell r.last ∷ class_cells ranges))) [
      | true ↦ member_first apart (class_cell b) (class_cell r.first) (class_cells ranges) others (class_cell_no_dash r.first)
      | false ↦ member_first apart (class_cell b) (class_cell r.first) (plain 45 ∷ class_cell r.last ∷ class_cells ranges) others
          (class_cell_no_dash r.first)
    ] in
    subst G (sym e) at h

pub class_cells_mean : (apart : Bool) (ranges : List ByteRange) → list_all is_range ranges ≡ true →
    members apart (class_cells ranges) ≡ Some ranges
unfolding members
class_cells_mean apart [] h = refl
class_cells_mean apart (r ∷ ranges) h =
    let p = and_parts (is_range r) (list_all is_range ranges) h in
    let q = range_parts r p.0 in
    let first : byte_of (class_cell r.first) ≡ r.first = byte_of_cell (codes "\\]^-\"") r.first in
    let last : byte_of (class_cell r.last) ≡ r.last = byte_of_cell (codes "\\]^-\"") r.last in
    let G : Bool → Type 0 =
    λ t. members apart (cond t (class_cell r.first ∷ class_cells ranges)
    (class_cell r.first ∷ plain 45 ∷ class_cell r.last ∷ class_cells ranges)) ≡ Some (r ∷ ranges) in
    let P : (t : Bool) → (r.first == r.last) ≡ t → G t = λ t. elim t as (λ t. (r.first == r.last) ≡ t → G t) [
      | true ↦ λ e. class_cell_first r.first ranges (class_cells ranges) ranges apart refl (class_cells_mean false ranges p.1)
          ∙ ap (λ (x : ℕ). Some (range x x ∷ ranges)) first
          ∙ ap (λ (x : ℕ). Some (range r.first x ∷ ranges)) (eqb-true r.first r.last e)
      | false ↦ λ e. range_first apart (class_cell r.first) (class_cell r.last) (class_cells ranges) ranges (class_cell_no_dash r.first)
          (class_cell_no_dash r.last) (omega (arith, first, last, q.2)) (class_cells_mean true ranges p.1)
          ∙ ap (λ (x : ℕ). Some (range x (byte_of (class_cell r.last)) ∷ ranges)) first
          ∙ ap (λ (x : ℕ). Some (range r.first x ∷ ranges)) last
    ] in
    P (r.first == r.last) refl

-- ---- the class

abbrev pub canonical_class : Bool → List ByteRange → WrittenClass
canonical_class negated ranges = record { negated = negated; cells = class_cells ranges; ranges = ranges }

pub canonical_class_valid : (negated : Bool) (ranges : List ByteRange) → (not (length ranges == 0) && list_all is_range ranges) ≡ true →
    IsClass true (canonical_class negated ranges)
canonical_class_valid negated ranges h =
    let p = and_parts (not (length ranges == 0)) (list_all is_range ranges) h in
    record {
      cells = class_cells_valid ranges p.1;
      begun = class_cells_begun negated ranges (not-true (length ranges == 0) p.0);
      ranges = class_cells_mean true ranges p.1;
    }

pub canonical_class_prints : (negated : Bool) (ranges : List ByteRange) → print_class (canonical_class negated ranges)
    ≡ token_text (bracket negated ranges)
canonical_class_prints true ranges = ap (λ (x : List ℕ). 91 ∷ 94 ∷ (x ++ codes "]")) (class_cells_print ranges)
canonical_class_prints false ranges = ap (λ (x : List ℕ). 91 ∷ (x ++ codes "]")) (class_cells_print ranges)
