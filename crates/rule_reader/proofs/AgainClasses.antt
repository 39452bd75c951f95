-- A class that is written is read back: the ranges of its members, read one by one, are those of all of them.
use Rattle.std.proofs.Common.{◌≡◌, ℕ, Bool, true, false, cond, eqb, ltb, List, [], ◌∷◌, ◌++◌, length, Option, Some, None, Ok, refl, sym}
use Rattle.std.proofs.Common.{ap, subst, ◌∙◌, append_assoc, ◌⊎◌, inl, inr, ◌==◌, arith}
use Rattle.std.specs.Prelude.{◌||◌, not, codes, option_map, if◌then◌else◌}
use Rattle.std.specs.Char.{is_ascii_alphanumeric}
use Rattle.std.proofs.lemmas.Bool.{or_parts, and_parts, not-true, eqb-true, ne_eqb}
use Rattle.rule_globs.specs.declared.items.ByteRange.{ByteRange}
use Rattle.rule_reader.specs.declared.reader.class.ClassByte.TheVariants.{Member, Backslash}
use Rattle.rule_reader.specs.declared.reader.class.Pending.{Pending}
use Rattle.rule_reader.specs.declared.reader.class.Pending.TheVariants.{Start, AfterRange, AfterDash, Single, Dash, Dashes}
use Rattle.rule_reader.specs.ReadClasses.{class_byte, alone, with_member, is_reversed, at_end, members_at, class_at}
use Rattle.rule_globs.specs.Glob.{range, single}
use Rattle.rule_reader.specs.TextBytes.{is_quote, is_escapable}
use Rattle.rule_reader.specs.GrammarWords.{Cell, plain, escaped, print_cells, byte_of, is_plain, may_stand}
use Rattle.rule_globs.specs.Each.{Each}
use Rattle.rule_reader.specs.GrammarPaths.{members, WrittenClass, IsClassCell, IsBegun, IsClass}
use Rattle.rule_reader.proofs.ReadSteps.{chosen, some_is, none_some}
use Rattle.rule_reader.proofs.AgainWords.{may_parts}

-- ---- options

same_option : (o : Option (List ByteRange)) → option_map (λ (others : List ByteRange). others) o ≡ o
same_option None = refl
same_option (Some x) = refl

map_some : (f : List ByteRange → List ByteRange) (o : Option (List ByteRange)) (y : List ByteRange) → option_map f o ≡ Some y →
    (x : List ByteRange) × (o ≡ Some x) × (f x ≡ y)
map_some f None y e = absurd (none_some y e)
map_some f (Some x) y e = (x, refl, some_is (f x) y e)

-- ---- reading cell by cell

abbrev go : (Pending → Option (List ByteRange)) → Option (List ByteRange × Pending) → Option (List ByteRange)
go then_read None = None
go then_read (Some x) = option_map (λ others. x.0 ++ others) (then_read x.1)

-- the ranges that reading results in, with this pending
abbrev reading : Pending → List Cell → Option (List ByteRange)
reading p [] = at_end p
reading p (c ∷ cells) = go (λ q. reading q cells) (with_member p (is_plain 45 c) (byte_of c))

-- the bytes of a class
plain_of_class : (quoted : Bool) (b : ℕ) → IsClassCell quoted (plain b) → class_byte quoted false b ≡ Member
plain_of_class quoted b h =
    let p = and_parts (may_stand quoted b) (not (is_quote b || b == 93 || b == 92)) h in
    let q = or_parts (is_quote b || b == 93) (b == 92) (not-true _ p.1) in
    let r = or_parts (is_quote b) (b == 93) q.0 in
    let m = may_parts quoted b p.0 in
    rw (m.2, m.0, m.1, r.0, r.1, q.1) refl

backslash_of_class : (quoted : Bool) → class_byte quoted false 92 ≡ Backslash
backslash_of_class true = refl
backslash_of_class false = refl

escaped_of_class : (quoted : Bool) (b : ℕ) → is_escapable b ≡ true → class_byte quoted true b ≡ Member
escaped_of_class quoted b h =
    let p = or_parts (b == 0 || b == 10) (is_ascii_alphanumeric b) (not-true _ h) in
    let q = or_parts (b == 0) (b == 10) p.0 in
    rw (p.1, q.0, q.1) refl

-- a member is never read where what is pending is reversed
not_reversed : (p : Pending) (dash : Bool) (b : ℕ) (x : List ByteRange × Pending) → with_member p dash b ≡ Some x → is_reversed p ≡ false
not_reversed Start dash b x e = refl
not_reversed AfterRange dash b x e = refl
not_reversed AfterDash dash b x e = refl
not_reversed (Single d) dash b x e = refl
not_reversed (Dash d) dash b x e = refl
not_reversed (Dashes d) dash b x e =
    elim (chosen (ltb 45 d) None (Some (range d 45 ∷ (alone dash b).0, (alone dash b).1)) (Some x) e) [
      | inl h ↦ absurd (none_some x h.1)
      | inr h ↦ h.0
    ]

members_read : (quoted : Bool) (left : ℕ) (p : Pending) (cells : List Cell) (ranges : List ByteRange) (rest : List ℕ) →
    Each (IsClassCell quoted) cells → reading p cells ≡ Some ranges
    → members_at quoted left p false (print_cells cells ++ 93 ∷ rest) ≡ Ok (ranges, rest)
unfolding members_at
members_read quoted left p [] ranges rest h e = rw (e, members_at) refl
members_read quoted left p (plain b ∷ cells) ranges rest h e =
    let P : (o : Option (List ByteRange × Pending)) → with_member p (b == 45) b ≡ o → go (λ q. reading q cells) o ≡ Some ranges →
    members_at quoted left p false (b ∷ (print_cells cells ++ 93 ∷ rest)) ≡ Ok (ranges, rest) =
    λ o. elim o as (λ o. with_member p (b == 45) b ≡ o → go (λ q. reading q cells) o ≡ Some ranges → members_at quoted left p false
    (b ∷ (print_cells cells ++ 93 ∷ rest)) ≡ Ok (ranges, rest)) [
      | None ↦ λ a k. absurd (none_some ranges k)
      | Some x ↦ λ a k.
          let m = map_some (λ others. x.0 ++ others) (reading x.1 cells) ranges k in
          let more = members_read quoted left x.1 cells m.0 rest h.1 m.1 in
          rw (plain_of_class quoted b h.0, members_at, a, members_at, more, members_at) (ap (λ (y : List ByteRange). Ok (y, rest)) m.2)
    ] in
    P (with_member p (b == 45) b) refl e
members_read quoted left p (escaped b ∷ cells) ranges rest h e =
    let P : (o : Option (List ByteRange × Pending)) → with_member p false b ≡ o → go (λ q. reading q cells) o ≡ Some ranges →
    members_at quoted left p false (92 ∷ b ∷ (print_cells cells ++ 93 ∷ rest)) ≡ Ok (ranges, rest) =
    λ o. elim o as (λ o. with_member p false b ≡ o → go (λ q. reading q cells) o ≡ Some ranges → members_at quoted left p false
    (92 ∷ b ∷ (print_cells cells ++ 93 ∷ rest)) ≡ Ok (ranges, rest)) [
      | None ↦ λ a k. absurd (none_some ranges k)
      | Some x ↦ λ a k.
          let m = map_some (λ others. x.0 ++ others) (reading x.1 cells) ranges k in
          let more = members_read quoted left x.1 cells m.0 rest h.1 m.1 in
          rw (
            backslash_of_class quoted,
            members_at,
            not_reversed p false b x a,
            members_at,
            escaped_of_class quoted b
                h.0,
            members_at,
            a,
            members_at,
            more,
            members_at,
          ) (ap (λ (y : List ByteRange). Ok (y, rest)) m.2)
    ] in
    P (with_member p false b) refl e

-- ---- reading cell by cell and all members at once

-- the ranges of what is pending and of the cells after it
abbrev whole : Pending → List Cell → Option (List ByteRange)
whole Start [] = None
whole Start (c ∷ cells) = members true (c ∷ cells)
whole AfterRange cells = members true cells
whole AfterDash cells = members false cells
whole (Single d) cells = members false (plain d ∷ cells)
whole (Dash d) cells = members false (plain d ∷ plain 45 ∷ cells)
whole (Dashes d) cells = members false (plain d ∷ plain 45 ∷ plain 45 ∷ cells)

-- of the first of cells that are not apart, only its byte matters
byte_alone : (c : Cell) (cells : List Cell) → members false (plain (byte_of c) ∷ cells) ≡ members false (c ∷ cells)
unfolding members
byte_alone c [] = refl
byte_alone c (d ∷ []) = refl
byte_alone c (d ∷ e ∷ cells) = refl

-- the same where the first cell is apart and is no dash
apart_alone : (c : Cell) (cells : List Cell) → is_plain 45 c ≡ false → members false (plain (byte_of c) ∷ cells) ≡ members true (c ∷ cells)
unfolding members
apart_alone c [] h = refl
apart_alone c (d ∷ []) h = refl
apart_alone c (d ∷ e ∷ cells) h = rw h refl

dash_first : (cells : List Cell) → option_map (λ (others : List ByteRange). single 45 ∷ others) (members false cells)
    ≡ members true (plain 45 ∷ cells)
unfolding members
dash_first [] = refl
dash_first (c ∷ []) = refl
dash_first (c ∷ d ∷ cells) = refl

single_first : (d : ℕ) (c : Cell) (cells : List Cell) → is_plain 45 c ≡ false → option_map (λ (others : List ByteRange). single d ∷ others)
    (members false (plain (byte_of c) ∷ cells)) ≡ members false (plain d ∷ c ∷ cells)
unfolding members
single_first d c [] h = refl
single_first d c (e ∷ cells) h = rw (h) (ap (option_map (λ (others : List ByteRange). single d ∷ others)) (byte_alone c (e ∷ cells)))

-- one step of reading, with what reading gives after it
abbrev Step : List Cell → Type 0
Step cells = (p : Pending) → reading p cells ≡ whole p cells

alone_dash : (cells : List Cell) → Step cells → go (λ q. reading q cells) (Some (alone true 45)) ≡ members true (plain 45 ∷ cells)
alone_dash cells ih = ap (option_map (λ (others : List ByteRange). single 45 ∷ others)) (ih AfterDash) ∙ dash_first cells

alone_other : (c : Cell) (cells : List Cell) → is_plain 45 c ≡ false → Step cells →
    go (λ q. reading q cells) (Some (alone false (byte_of c))) ≡ members true (c ∷ cells)
alone_other c cells h ih = same_option _ ∙ ih (Single (byte_of c)) ∙ apart_alone c cells h

-- a range first
range_first : (d b : ℕ) (x : List ByteRange × Pending) (o : Option (List ByteRange)) (f : Pending → Option (List ByteRange)) →
    go f (Some x) ≡ o → go f (Some (range d b ∷ x.0, x.1)) ≡ option_map (λ (others : List ByteRange). range d b ∷ others) o
range_first d b x o f e =
    let P : (p : Option (List ByteRange)) → option_map (λ (others : List ByteRange). range d b ∷ (x.0 ++ others)) p
    ≡ option_map (λ (others : List ByteRange). range d b ∷ others) (option_map (λ (others : List ByteRange). x.0 ++ others) p) =
    λ p. elim p as (λ p. option_map (λ (others : List ByteRange). range d b ∷ (x.0 ++ others)) p
    ≡ option_map (λ (others : List ByteRange). range d b ∷ others) (option_map (λ (others : List ByteRange). x.0 ++ others) p))
    [ None ↦ refl | Some y ↦ refl ] in
    P (f x.1) ∙ ap (option_map (λ (others : List ByteRange). range d b ∷ others)) e

go_cond : (f : Pending → Option (List ByteRange)) (t : Bool) (x : List ByteRange × Pending) (o : Option (List ByteRange)) → go f (Some x)
    ≡ o → go f (cond t None (Some x)) ≡ cond t None o
go_cond f true x o e = refl
go_cond f false x o e = e

more_cells : (cells : List Cell) (c : Cell) → eqb (length (c ∷ cells)) 0 ≡ false
more_cells cells c = ne_eqb _ 0 (λ e. omega arith)

dash_step : (p : Pending) (cells : List Cell) → Step cells → reading p (plain 45 ∷ cells) ≡ whole p (plain 45 ∷ cells)
unfolding members
dash_step Start cells ih = alone_dash cells ih
dash_step AfterRange cells ih = alone_dash cells ih
dash_step AfterDash cells ih = same_option _ ∙ ih (Single 45)
dash_step (Single d) cells ih = same_option _ ∙ ih (Dash d)
dash_step (Dash d) cells ih = same_option _ ∙ ih (Dashes d)
dash_step (Dashes d) cells ih =
    rw (more_cells cells (plain 45)) (go_cond (λ q. reading q cells) (ltb 45 d) (range d 45 ∷ (alone true 45).0, (alone true 45).1) _
    (range_first d 45 (alone true 45) _ (λ q. reading q cells) (alone_dash cells ih)))

other_step : (p : Pending) (c : Cell) (cells : List Cell) → is_plain 45 c ≡ false → Step cells → reading p (c ∷ cells)
    ≡ whole p (c ∷ cells)
unfolding members
other_step Start c cells h ih = ap (λ t. go (λ q. reading q cells) (Some (alone t (byte_of c)))) h ∙ alone_other c cells h ih
other_step AfterRange c cells h ih = ap (λ t. go (λ q. reading q cells) (Some (alone t (byte_of c)))) h ∙ alone_other c cells h ih
other_step AfterDash c cells h ih = same_option _ ∙ ih (Single (byte_of c)) ∙ byte_alone c cells
other_step (Single d) c cells h ih =
    ap (λ t. go (λ q. reading q cells) (with_member (Single d) t (byte_of c))) h
    ∙ ap (option_map (λ (others : List ByteRange). single d ∷ others)) (ih (Single (byte_of c))) ∙ single_first d c cells h
other_step (Dash d) c cells h ih =
    rw h (go_cond (λ q. reading q cells) (ltb (byte_of c) d) (range d (byte_of c) ∷ [], AfterRange) _
    (ap (option_map (λ (others : List ByteRange). range d (byte_of c) ∷ others)) (ih AfterRange)))
other_step (Dashes d) c cells h ih =
    ap (λ t. go (λ q. reading q cells) (with_member (Dashes d) t (byte_of c))) h
    ∙ rw (more_cells cells c)
    (go_cond (λ q. reading q cells) (ltb 45 d) (range d 45 ∷ (alone false (byte_of c)).0, (alone false (byte_of c)).1) _
    (range_first d 45 (alone false (byte_of c)) _ (λ q. reading q cells) (alone_other c cells h ih)))

is_dash : (c : Cell) → (c ≡ plain 45) ⊎ (is_plain 45 c ≡ false)
is_dash (escaped b) = inr refl
is_dash (plain b) =
    let P : (t : Bool) → (b == 45) ≡ t → (plain b ≡ plain 45) ⊎ ((b == 45) ≡ false) =
    λ t. elim t as (λ t. (b == 45) ≡ t → (plain b ≡ plain 45) ⊎ ((b == 45) ≡ false)) [
      | true ↦ λ e. inl (ap (λ (x : ℕ). plain x) (eqb-true b 45 e))
      | false ↦ λ e. inr e
    ] in
    P (b == 45) refl

reading_is : (p : Pending) (cells : List Cell) → reading p cells ≡ whole p cells
unfolding members
reading_is Start [] = refl
reading_is AfterRange [] = refl
reading_is AfterDash [] = refl
reading_is (Single d) [] = refl
reading_is (Dash d) [] = refl
reading_is (Dashes d) [] = refl
reading_is p (c ∷ cells) =
    let ih : Step cells = λ q. reading_is q cells in
    elim (is_dash c) [
      | inl e ↦ subst (λ (x : Cell). reading p (x ∷ cells) ≡ whole p (x ∷ cells)) (sym e) (dash_step p cells ih)
      | inr h ↦ other_step p c cells h ih
    ]

-- ---- classes

members_again : (quoted : Bool) (left : ℕ) (negated : Bool) (cells : List Cell) (ranges : List ByteRange) (rest : List ℕ) →
    Each (IsClassCell quoted) cells → IsBegun negated cells → members true cells ≡ Some ranges
    → members_at quoted left Start false (print_cells cells ++ 93 ∷ rest) ≡ Ok (ranges, rest)
members_again quoted left negated [] ranges rest h b e = absurd b
members_again quoted left negated (c ∷ cells) ranges rest h b e = members_read quoted left Start (c ∷ cells) ranges rest h
    (reading_is Start (c ∷ cells) ∙ e)

class_bytes : (quoted : Bool) (left : ℕ) (negated : Bool) (cells : List Cell) (ranges : List ByteRange) (rest : List ℕ) →
    Each (IsClassCell quoted) cells → IsBegun negated cells → members true cells ≡ Some ranges
    → class_at quoted left ((if negated then codes "^" else []) ++ (print_cells cells ++ 93 ∷ rest)) ≡ Ok ((negated, ranges), rest)
unfolding class_at
class_bytes quoted left true cells ranges rest h b e = rw (members_again quoted left true cells ranges rest h b e) refl
class_bytes quoted left false [] ranges rest h b e = absurd b
class_bytes quoted left false (plain x ∷ cells) ranges rest h b e =
    rw (not-true _ b, members_again quoted left false (plain x ∷ cells) ranges rest h b e) refl
class_bytes quoted left false (escaped x ∷ cells) ranges rest h b e =
    rw (members_again quoted left false (escaped x ∷ cells) ranges rest h b e) refl

bracket_regrouped : (mark cells rest : List ℕ) → (mark ++ (cells ++ 93 ∷ [])) ++ rest ≡ mark ++ (cells ++ 93 ∷ rest)
bracket_regrouped mark cells rest = simp append_assoc

-- what follows the opening bracket
pub class_again : (quoted : Bool) (left : ℕ) (c : WrittenClass) (rest : List ℕ) → IsClass quoted c
    → class_at quoted left (((if c.negated then codes "^" else []) ++ (print_cells c.cells ++ codes "]")) ++ rest)
    ≡ Ok ((c.negated, c.ranges), rest)
class_again quoted left c rest h =
    ap (class_at quoted left) (bracket_regrouped (if c.negated then codes "^" else []) (print_cells c.cells) rest)
    ∙ class_bytes quoted left c.negated c.cells c.ranges rest h.cells h.begun h.ranges
