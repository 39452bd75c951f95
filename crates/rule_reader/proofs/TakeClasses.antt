-- Classes: what is read is in the grammar.
use Rattle.std.proofs.Common.{◌≡◌, ℕ, suc, Bool, true, false, cond, eqb, List, [], ◌∷◌, ◌++◌, length, drop, Option, Some, None, Result, Ok}
use Rattle.std.proofs.Common.{refl, sym, ap, subst, ◌∙◌, append_assoc, inl, inr, ◌==◌, option_map, arith}
use Rattle.std.specs.Prelude.{◌||◌, ◌&&◌, not, nat_lt, codes, if◌then◌else◌}
use Rattle.std.specs.Char.{is_ascii_alphanumeric}
use Rattle.std.proofs.lemmas.Bool.{eqb-true, ne_eqb, not_from_false}
use Rattle.rule_globs.specs.declared.items.ByteRange.{ByteRange}
use Rattle.rule_reader.specs.declared.reader.class.ClassByte.{ClassByte}
use Rattle.rule_reader.specs.declared.reader.class.ClassByte.TheVariants.{Member, End, PathEnd, Backslash, Code, Wrong}
use Rattle.rule_reader.specs.declared.reader.class.Pending.{Pending}
use Rattle.rule_reader.specs.declared.reader.class.Pending.TheVariants.{Start, AfterRange, AfterDash, Single, Dash, Dashes}
use Rattle.rule_reader.specs.declared.reader.local_fault.LocalFault.{LocalFault}
use Rattle.rule_reader.specs.declared.reader.local_fault.FaultKind.TheVariants as kinds
use Rattle.rule_reader.specs.GrammarWords.{Cell, plain, escaped, print_cells, byte_of, is_plain}
use Rattle.rule_globs.specs.Each.{Each}
use Rattle.rule_reader.specs.GrammarPaths.{members, WrittenClass, print_class, IsClassCell, IsBegun, IsClass}
use Rattle.rule_globs.specs.Glob.{range}
use Rattle.rule_reader.specs.ReadClasses.{class_byte, alone, with_member, is_reversed, at_end, members_at, class_at}
use Rattle.rule_reader.specs.ReadSteps.{◌>>=◌, fault_with_left, syntax}
use Rattle.rule_reader.specs.TextBytes.{begins, is_white, is_quote}
use Rattle.rule_reader.proofs.ReadSteps.{bind_ok, chosen, ok_is, not_ok, some_is, none_some}
use Rattle.rule_reader.proofs.TakeWords.{held, no_line_feed, begins_so}

-- ---- members: reading one byte after another agrees with the definition from left to right

-- what is pending as cells, but for how they are written
abbrev pub waiting : Pending → List Cell
waiting Start = []
waiting AfterRange = []
waiting AfterDash = []
waiting (Single d) = plain d ∷ []
waiting (Dash d) = plain d ∷ plain 45 ∷ []
waiting (Dashes d) = plain d ∷ plain 45 ∷ plain 45 ∷ []

-- a dash would be first, or directly after a range
abbrev pub is_apart : Pending → Bool
is_apart Start = true
is_apart AfterRange = true
is_apart AfterDash = false
is_apart (Single d) = false
is_apart (Dash d) = false
is_apart (Dashes d) = false

-- the members of what is pending and these cells
abbrev pub members_from : Pending → List Cell → Option (List ByteRange)
members_from pending cells = members (is_apart pending) (waiting pending ++ cells)

abbrev one : ℕ → List ByteRange → List ByteRange
one b others = range b b ∷ others

-- how the first cell is written matters only where a dash is apart
same_first : (c d : Cell) (cells : List Cell) → byte_of c ≡ byte_of d → members false (c ∷ cells) ≡ members false (d ∷ cells)
unfolding members
same_first c d [] h = ap (λ n. Some (one n [])) h
same_first c d (e ∷ []) h = ap (λ n. Some (one n (one (byte_of e) []))) h
same_first c d (e ∷ f ∷ cells) h =
    let go : ℕ → Option (List ByteRange) = λ n.
    cond (not (is_plain 45 e)) (option_map (one n) (members false (e ∷ f ∷ cells)))
    (cond (is_plain 45 f && (length cells == 0)) (Some (one n (one (byte_of e) (one (byte_of f) []))))
    (cond (nat_lt (byte_of f) n) None (option_map (λ (others : List ByteRange). range n (byte_of f) ∷ others) (members true cells)))) in
    ap go h

-- what is no dash by itself may be apart or not
no_dash_apart : (c : Cell) (cells : List Cell) → is_plain 45 c ≡ false → members true (c ∷ cells) ≡ members false (c ∷ cells)
unfolding members
no_dash_apart c [] h = refl
no_dash_apart c (e ∷ []) h = refl
no_dash_apart c (e ∷ f ∷ cells) h =
    let n : ℕ = byte_of c in
    let rest : Option (List ByteRange) =
    cond (is_plain 45 f && (length cells == 0)) (Some (one n (one (byte_of e) (one (byte_of f) []))))
    (cond (nat_lt (byte_of f) n) None (option_map (λ (others : List ByteRange). range n (byte_of f) ∷ others) (members true cells))) in
    ap (λ t. cond (t || not (is_plain 45 e)) (option_map (one n) (members false (e ∷ f ∷ cells))) rest) h

-- a dash that is apart is a member
dash_apart : (cells : List Cell) → members true (plain 45 ∷ cells) ≡ option_map (one 45) (members false cells)
unfolding members
dash_apart [] = refl
dash_apart (e ∷ []) = refl
dash_apart (e ∷ f ∷ cells) = refl

-- so is a member before anything but a dash
single_before : (b : ℕ) (c : Cell) (cells : List Cell) → is_plain 45 c ≡ false → members false (plain b ∷ c ∷ cells) ≡ option_map (one b)
    (members false (c ∷ cells))
unfolding members
single_before b c [] h = refl
single_before b c (e ∷ cells) h =
    let rest : Option (List ByteRange) =
    cond (is_plain 45 e && (length cells == 0)) (Some (one b (one (byte_of c) (one (byte_of e) []))))
    (cond (nat_lt (byte_of e) b) None (option_map (λ (others : List ByteRange). range b (byte_of e) ∷ others) (members true cells))) in
    ap (λ t. cond (not t) (option_map (one b) (members false (c ∷ e ∷ cells))) rest) h

-- a range whose end is no dash by itself
range_to : (d : ℕ) (c : Cell) (cells : List Cell) → is_plain 45 c ≡ false → nat_lt (byte_of c) d ≡ false
    → members false (plain d ∷ plain 45 ∷ c ∷ cells) ≡ option_map (λ (others : List ByteRange). range d (byte_of c) ∷ others)
    (members true cells)
unfolding members
range_to d c cells h g =
    let all : Option (List ByteRange) = option_map (λ (others : List ByteRange). range d (byte_of c) ∷ others) (members true cells) in
    ap (λ t. cond (t && (length cells == 0)) (Some (one d (one 45 (one (byte_of c) [])))) (cond (nat_lt (byte_of c) d) None all)) h
    ∙ ap (λ t. cond t None all) g

-- a range to a dash, with more after it
range_to_dash : (d : ℕ) (c : Cell) (cells : List Cell) → nat_lt 45 d ≡ false
    → members false (plain d ∷ plain 45 ∷ plain 45 ∷ c ∷ cells) ≡ option_map (λ (others : List ByteRange). range d 45 ∷ others)
    (members true (c ∷ cells))
unfolding members
range_to_dash d c cells g =
    let all : Option (List ByteRange) = option_map (λ (others : List ByteRange). range d 45 ∷ others) (members true (c ∷ cells)) in
    let more : eqb (length (c ∷ cells)) 0 ≡ false = ne_eqb (length (c ∷ cells)) 0 (λ h. omega arith) in
    ap (λ t. cond t (Some (one d (one 45 (one 45 [])))) (cond (nat_lt 45 d) None all)) more
    ∙ ap (λ t. cond t None all) g

plain_is : (k : ℕ) (c : Cell) → is_plain k c ≡ true → c ≡ plain k
plain_is k (plain b) h = ap (λ (x : ℕ). plain x) (eqb-true b k h)
plain_is k (escaped b) h = absurd cc

-- one more member
alone_step : (dash : Bool) (b : ℕ) (c : Cell) (cells : List Cell) (others : List ByteRange) → is_plain 45 c ≡ dash → byte_of c ≡ b →
    members_from (alone dash b).1 cells ≡ Some others
    → members true (c ∷ cells) ≡ Some ((alone dash b).0 ++ others)
alone_step true b c cells others h same more =
    ap (λ (x : Cell). members true (x ∷ cells)) (plain_is 45 c h) ∙ dash_apart cells
    ∙ ap (λ (o : Option (List ByteRange)). option_map (one 45) o) more
alone_step false b c cells others h same more = no_dash_apart c cells h ∙ same_first c (plain b) cells same ∙ more

member_step : (pending : Pending) (dash : Bool) (b : ℕ) (c : Cell) (cells : List Cell) (x : List ByteRange × Pending)
    (others : List ByteRange) → with_member pending dash b ≡ Some x → is_plain 45 c ≡ dash → byte_of c ≡ b →
    members_from x.1 cells ≡ Some others
    → members_from pending (c ∷ cells) ≡ Some (x.0 ++ others)
member_step Start dash b c cells x others e h same more =
    let P : List ByteRange × Pending → Type 0 = λ x. members_from x.1 cells ≡ Some others → members_from Start (c ∷ cells)
    ≡ Some (x.0 ++ others) in
    subst P (some_is (alone dash b) x e) (alone_step dash b c cells others h same) more
member_step AfterRange dash b c cells x others e h same more =
    let P : List ByteRange × Pending → Type 0 = λ x. members_from x.1 cells ≡ Some others → members_from AfterRange (c ∷ cells)
    ≡ Some (x.0 ++ others) in
    subst P (some_is (alone dash b) x e) (alone_step dash b c cells others h same) more
member_step AfterDash dash b c cells x others e h same more =
    let P : List ByteRange × Pending → Type 0 = λ x. members_from x.1 cells ≡ Some others → members_from AfterDash (c ∷ cells)
    ≡ Some (x.0 ++ others) in
    subst P (some_is ([], Single b) x e) (λ m. same_first c (plain b) cells same ∙ m) more
member_step (Single d) true b c cells x others e h same more =
    let P : List ByteRange × Pending → Type 0 = λ x. members_from x.1 cells ≡ Some others → members_from (Single d) (c ∷ cells)
    ≡ Some (x.0 ++ others) in
    subst P (some_is ([], Dash d) x e) (λ m. ap (λ (y : Cell). members false (plain d ∷ y ∷ cells)) (plain_is 45 c h) ∙ m) more
member_step (Single d) false b c cells x others e h same more =
    let P : List ByteRange × Pending → Type 0 = λ x. members_from x.1 cells ≡ Some others → members_from (Single d) (c ∷ cells)
    ≡ Some (x.0 ++ others) in
    subst P (some_is (range d d ∷ [], Single b) x e)
    (λ m. single_before d c cells h ∙ ap (λ (o : Option (List ByteRange)). option_map (one d) o) (same_first c (plain b) cells same ∙ m))
    more
member_step (Dash d) true b c cells x others e h same more =
    let P : List ByteRange × Pending → Type 0 = λ x. members_from x.1 cells ≡ Some others → members_from (Dash d) (c ∷ cells)
    ≡ Some (x.0 ++ others) in
    subst P (some_is ([], Dashes d) x e) (λ m. ap (λ (y : Cell). members false (plain d ∷ plain 45 ∷ y ∷ cells)) (plain_is 45 c h) ∙ m)
    more
member_step (Dash d) false b c cells x others e h same more =
    let P : List ByteRange × Pending → Type 0 = λ x. members_from x.1 cells ≡ Some others → members_from (Dash d) (c ∷ cells)
    ≡ Some (x.0 ++ others) in
    let found : Option (List ByteRange × Pending) = Some (range d b ∷ [], AfterRange) in
    elim (chosen (nat_lt b d) None found (Some x) e) [
      | inl g ↦ absurd (none_some x g.1)
      | inr g ↦ subst P (some_is (range d b ∷ [], AfterRange) x g.1)
          (λ m. range_to d c cells h (ap (λ (n : ℕ). nat_lt n d) same ∙ g.0)
          ∙ ap (λ (o : Option (List ByteRange)). option_map (λ (others : List ByteRange). range d (byte_of c) ∷ others) o) m
          ∙ ap (λ (n : ℕ). Some (range d n ∷ others)) same) more
    ]
member_step (Dashes d) dash b c cells x others e h same more =
    let P : List ByteRange × Pending → Type 0 = λ x. members_from x.1 cells ≡ Some others → members_from (Dashes d) (c ∷ cells)
    ≡ Some (x.0 ++ others) in
    let found : Option (List ByteRange × Pending) = Some (range d 45 ∷ (alone dash b).0, (alone dash b).1) in
    elim (chosen (nat_lt 45 d) None found (Some x) e) [
      | inl g ↦ absurd (none_some x g.1)
      | inr g ↦ subst P (some_is (range d 45 ∷ (alone dash b).0, (alone dash b).1) x g.1)
          (λ m. range_to_dash d c cells g.0
          ∙ ap (λ (o : Option (List ByteRange)). option_map (λ (others : List ByteRange). range d 45 ∷ others) o)
          (alone_step dash b c cells others h same m)) more
    ]

-- the class's end
end_step : (pending : Pending) (ranges : List ByteRange) → at_end pending ≡ Some ranges → members_from pending [] ≡ Some ranges
unfolding members
end_step Start ranges h = absurd (none_some ranges h)
end_step AfterRange ranges h = h
end_step AfterDash ranges h = h
end_step (Single d) ranges h = h
end_step (Dash d) ranges h = h
end_step (Dashes d) ranges h = h

-- ---- which bytes are members

plain_so : (quoted z l c q w s : Bool) → (z || (l && (quoted || false))) ≡ false → c ≡ false → (q || (not quoted && w)) ≡ false →
    s ≡ false → (w ≡ false → l ≡ false)
    → (not (z || l || (not quoted && w)) && not (q || c || s)) ≡ true
plain_so quoted z l true q w s e1 e2 e3 e4 e5 = absurd cc
plain_so quoted z l false q w true e1 e2 e3 e4 e5 = absurd cc
plain_so quoted true l false q w false e1 e2 e3 e4 e5 = absurd cc
plain_so quoted false l false true w false e1 e2 e3 e4 e5 = absurd cc
plain_so true false true false false w false e1 e2 e3 e4 e5 = absurd cc
plain_so true false false false false w false e1 e2 e3 e4 e5 = refl
plain_so false false l false false true false e1 e2 e3 e4 e5 = absurd cc
plain_so false false true false false false false e1 e2 e3 e4 e5 = let no = e5 refl in absurd cc
plain_so false false false false false false false e1 e2 e3 e4 e5 = refl

escaped_so : (quoted z l a : Bool) → (z || (l && (quoted || true))) ≡ false → a ≡ false → not (z || l || a) ≡ true
escaped_so quoted true l a e1 e2 = absurd cc
escaped_so true false true a e1 e2 = absurd cc
escaped_so false false true a e1 e2 = absurd cc
escaped_so quoted false false a e1 e2 = ap not e2

-- the cell of a byte
abbrev cell_of : Bool → ℕ → Cell
cell_of behind b = cond behind (escaped b) (plain b)

member_valid : (quoted behind : Bool) (b : ℕ) → class_byte quoted behind b ≡ Member → IsClassCell quoted (cell_of behind b)
member_valid quoted true b e =
    let second : ClassByte = cond (is_ascii_alphanumeric b) Code Member in
    elim (chosen (b == 0 || (b == 10 && (quoted || true))) Wrong second Member e) [
      | inl h ↦ absurd cc
      | inr h ↦ elim (chosen (is_ascii_alphanumeric b) Code Member Member h.1) [
        | inl g ↦ absurd cc
        | inr g ↦ escaped_so quoted (b == 0) (b == 10) (is_ascii_alphanumeric b) h.0 g.0
      ]
    ]
member_valid quoted false b e =
    let fourth : ClassByte = cond (b == 92) Backslash Member in
    let third : ClassByte = cond (is_quote b || (not quoted && is_white b)) PathEnd fourth in
    let second : ClassByte = cond (b == 93) End third in
    elim (chosen (b == 0 || (b == 10 && (quoted || false))) Wrong second Member e) [
      | inl h ↦ absurd cc
      | inr h ↦ elim (chosen (b == 93) End third Member h.1) [
        | inl g ↦ absurd cc
        | inr g ↦ elim (chosen (is_quote b || (not quoted && is_white b)) PathEnd fourth Member g.1) [
          | inl k ↦ absurd cc
          | inr k ↦ elim (chosen (b == 92) Backslash Member Member k.1) [
            | inl m ↦ absurd cc
            | inr m ↦ plain_so quoted (b == 0) (b == 10) (b == 93) (is_quote b) (is_white b) (b == 92) h.0 g.0 k.0 m.0 (no_line_feed b)
          ]
        ]
      ]
    ]

end_is : (quoted behind : Bool) (b : ℕ) → class_byte quoted behind b ≡ End → (behind ≡ false) × (b ≡ 93)
end_is quoted true b e =
    let second : ClassByte = cond (is_ascii_alphanumeric b) Code Member in
    elim (chosen (b == 0 || (b == 10 && (quoted || true))) Wrong second End e) [
      | inl h ↦ absurd cc
      | inr h ↦ elim (chosen (is_ascii_alphanumeric b) Code Member End h.1) [ inl g ↦ absurd cc | inr g ↦ absurd cc ]
    ]
end_is quoted false b e =
    let fourth : ClassByte = cond (b == 92) Backslash Member in
    let third : ClassByte = cond (is_quote b || (not quoted && is_white b)) PathEnd fourth in
    let second : ClassByte = cond (b == 93) End third in
    elim (chosen (b == 0 || (b == 10 && (quoted || false))) Wrong second End e) [
      | inl h ↦ absurd cc
      | inr h ↦ elim (chosen (b == 93) End third End h.1) [
        | inl g ↦ (refl, eqb-true b 93 g.0)
        | inr g ↦ elim (chosen (is_quote b || (not quoted && is_white b)) PathEnd fourth End g.1) [
          | inl k ↦ absurd cc
          | inr k ↦ elim (chosen (b == 92) Backslash Member End k.1) [ inl m ↦ absurd cc | inr m ↦ absurd cc ]
        ]
      ]
    ]

backslash_is : (quoted behind : Bool) (b : ℕ) → class_byte quoted behind b ≡ Backslash → (behind ≡ false) × (b ≡ 92)
backslash_is quoted true b e =
    let second : ClassByte = cond (is_ascii_alphanumeric b) Code Member in
    elim (chosen (b == 0 || (b == 10 && (quoted || true))) Wrong second Backslash e) [
      | inl h ↦ absurd cc
      | inr h ↦ elim (chosen (is_ascii_alphanumeric b) Code Member Backslash h.1) [ inl g ↦ absurd cc | inr g ↦ absurd cc ]
    ]
backslash_is quoted false b e =
    let fourth : ClassByte = cond (b == 92) Backslash Member in
    let third : ClassByte = cond (is_quote b || (not quoted && is_white b)) PathEnd fourth in
    let second : ClassByte = cond (b == 93) End third in
    elim (chosen (b == 0 || (b == 10 && (quoted || false))) Wrong second Backslash e) [
      | inl h ↦ absurd cc
      | inr h ↦ elim (chosen (b == 93) End third Backslash h.1) [
        | inl g ↦ absurd cc
        | inr g ↦ elim (chosen (is_quote b || (not quoted && is_white b)) PathEnd fourth Backslash g.1) [
          | inl k ↦ absurd cc
          | inr k ↦ elim (chosen (b == 92) Backslash Member Backslash k.1) [ inl m ↦ (refl, eqb-true b 92 m.0) | inr m ↦ absurd cc ]
        ]
      ]
    ]

-- ---- the members are in the grammar

pub record MembersTaken (quoted : Bool) (pending : Pending) (behind : Bool) (bytes : List ℕ) (ranges : List ByteRange)
    (rest : List ℕ) : Type 0 where
  pub cells : List Cell
  pub valid : Each (IsClassCell quoted) cells
  pub parts : held behind bytes ≡ print_cells cells ++ (93 ∷ rest)
  pub means : members_from pending cells ≡ Some ranges

that_class : (quoted : Bool) (pending : Pending) (behind : Bool) (bytes : List ℕ) (x y : List ByteRange × List ℕ) → x ≡ y →
    MembersTaken quoted pending behind bytes x.0 x.1 → MembersTaken quoted pending behind bytes y.0 y.1
that_class quoted pending behind bytes x y e h = subst (λ (z : List ByteRange × List ℕ). MembersTaken quoted pending behind bytes z.0 z.1)
    e h

more_members : (quoted : Bool) (pending : Pending) (behind : Bool) (b : ℕ) (bytes : List ℕ) (x : List ByteRange × Pending)
    (ranges : List ByteRange) (rest : List ℕ) → class_byte quoted behind b ≡ Member →
    with_member pending (not behind && b == 45) b ≡ Some x
    → MembersTaken quoted x.1 false bytes ranges rest → MembersTaken quoted pending behind (b ∷ bytes) (x.0 ++ ranges) rest
more_members quoted pending true b bytes x ranges rest c e more = record {
  cells = escaped b ∷ more.cells;
  valid = (member_valid quoted true b c, more.valid);
  parts = ap (λ (y : List ℕ). 92 ∷ b ∷ y) more.parts;
  means = member_step pending false b (escaped b) more.cells x ranges e refl refl more.means;
}
more_members quoted pending false b bytes x ranges rest c e more = record {
  cells = plain b ∷ more.cells;
  valid = (member_valid quoted false b c, more.valid);
  parts = ap (λ (y : List ℕ). b ∷ y) more.parts;
  means = member_step pending (b == 45) b (plain b) more.cells x ranges e refl refl more.means;
}

last_member : (quoted : Bool) (pending : Pending) (behind : Bool) (b : ℕ) (bytes : List ℕ) (ranges : List ByteRange) →
    class_byte quoted behind b ≡ End → at_end pending ≡ Some ranges → MembersTaken quoted pending behind (b ∷ bytes) ranges bytes
last_member quoted pending behind b bytes ranges c e =
    let is = end_is quoted behind b c in
    record {
      cells = [];
      valid = tt;
      parts = ap (λ t. held t (b ∷ bytes)) is.0 ∙ ap (λ (n : ℕ). n ∷ bytes) is.1;
      means =
          end_step pending ranges e;
    }

behind_backslash : (quoted : Bool) (pending : Pending) (behind : Bool) (b : ℕ) (bytes : List ℕ) (ranges : List ByteRange) (rest : List ℕ) →
    class_byte quoted behind b ≡ Backslash → MembersTaken quoted pending true bytes ranges rest → MembersTaken quoted pending behind
    (b ∷ bytes) ranges rest
behind_backslash quoted pending behind b bytes ranges rest c more =
    let is = backslash_is quoted behind b c in
    record {
      cells = more.cells;
      valid = more.valid;
      parts = ap (λ t. held t (b ∷ bytes)) is.0 ∙ ap (λ (n : ℕ). n ∷ bytes) is.1
          ∙ more.parts;
      means = more.means;
    }

pub members_take : (quoted : Bool) (bracket : ℕ) (pending : Pending) (behind : Bool) (bytes : List ℕ) (ranges : List ByteRange)
    (rest : List ℕ) → members_at quoted bracket pending behind bytes ≡ Ok (ranges, rest)
    → MembersTaken quoted pending behind bytes ranges rest
unfolding members_at
members_take true bracket pending behind [] ranges rest e = absurd (not_ok _ (ranges, rest) e)
members_take false bracket pending true [] ranges rest e = absurd (not_ok _ (ranges, rest) e)
members_take false bracket pending false [] ranges rest e = absurd (not_ok _ (ranges, rest) e)
members_take quoted bracket pending behind (b ∷ bytes) ranges rest e =
    let R : Type 0 = Result (List ByteRange × List ℕ) LocalFault in
    let G : Type 0 = MembersTaken quoted pending behind (b ∷ bytes) ranges rest in
    let wrong : R = fault_with_left kinds.Class bracket (b ∷ bytes) in
    let put : List ByteRange → List ByteRange × List ℕ → R = λ first others. Ok (first ++ others.0, others.1) in
    let one_more : Option (List ByteRange × Pending) → R =
    λ o. elim o [ None ↦ wrong | Some x ↦ members_at quoted bracket x.1 false bytes >>= put x.0 ] in
    let ended : Option (List ByteRange) → R = λ o. elim o [ None ↦ wrong | Some found ↦ Ok (found, bytes) ] in
    let escape : R = cond (is_reversed pending) wrong (members_at quoted bracket pending true bytes) in
    let go : ClassByte → R = λ c. elim c [
      | Member ↦ one_more (with_member pending (not behind && b == 45) b)
      | End ↦ ended (at_end pending)
      | PathEnd ↦ wrong
      | Backslash ↦ escape
      | Code ↦ fault_with_left (kinds.LeftOut 2) (suc (length (b ∷ bytes))) (b ∷ bytes)
      | Wrong ↦ syntax (b ∷ bytes)
    ] in
    let P : (c : ClassByte) → class_byte quoted behind b ≡ c → go c ≡ Ok (ranges, rest) → G =
    λ c. elim c as (λ c. class_byte quoted behind b ≡ c → go c ≡ Ok (ranges, rest) → G) [
      | Member ↦ λ a h.
          let Q : (o : Option (List ByteRange × Pending)) → with_member pending (not behind && b == 45) b ≡ o →
          one_more o ≡ Ok (ranges, rest) → G =
          λ o. elim o as (λ o. with_member pending (not behind && b == 45) b ≡ o → one_more o ≡ Ok (ranges, rest) → G) [
            | None ↦ λ i k. absurd (not_ok _ (ranges, rest) k)
            | Some x ↦ λ i k.
                let m = bind_ok (members_at quoted bracket x.1 false bytes) (put x.0) (ranges, rest) k in
                that_class quoted pending behind (b ∷ bytes) (x.0 ++ m.0.0, m.0.1) (ranges, rest)
                (ok_is (x.0 ++ m.0.0, m.0.1) (ranges, rest) m.2) (more_members quoted pending behind b bytes x m.0.0 m.0.1 a i
                (members_take quoted bracket x.1 false bytes m.0.0 m.0.1 m.1))
          ] in
          Q (with_member pending (not behind && b == 45) b) refl h
      | End ↦ λ a h.
          let Q : (o : Option (List ByteRange)) → at_end pending ≡ o → ended o ≡ Ok (ranges, rest) → G =
          λ o. elim o as (λ o. at_end pending ≡ o → ended o ≡ Ok (ranges, rest) → G) [
            | None ↦ λ i k. absurd (not_ok _ (ranges, rest) k)
            | Some found ↦ λ i k.
                that_class quoted pending behind (b ∷ bytes) (found, bytes) (ranges, rest) (ok_is (found, bytes) (ranges, rest) k)
                (last_member quoted pending behind b bytes found a i)
          ] in
          Q (at_end pending) refl h
      | PathEnd ↦ λ a h. absurd (not_ok _ (ranges, rest) h)
      | Backslash ↦ λ a h. elim (chosen (is_reversed pending) wrong (members_at quoted bracket pending true bytes) (Ok (ranges, rest)) h) [
        | inl k ↦ absurd (not_ok _ (ranges, rest) k.1)
        | inr k ↦ behind_backslash quoted pending behind b bytes ranges rest a
            (members_take quoted bracket pending true bytes ranges rest k.1)
      ]
      | Code ↦ λ a h. absurd (not_ok _ (ranges, rest) h)
      | Wrong ↦ λ a h. absurd (not_ok _ (ranges, rest) h)
    ] in
    P (class_byte quoted behind b) refl e

-- ---- a class is in the grammar

pub record ClassTaken (quoted : Bool) (bytes : List ℕ) (negated : Bool) (ranges : List ByteRange) (rest : List ℕ) : Type 0 where
  pub written : WrittenClass
  pub valid : IsClass quoted written
  pub parts : 91 ∷ bytes ≡ print_class written ++ rest
  pub same_negated : written.negated ≡ negated
  pub same_ranges : written.ranges ≡ ranges

abbrev is_caret : ℕ → Bool
is_caret b = b == 94

-- a class has members, and one that isn't negated doesn't begin with ^
begun : (quoted : Bool) (bracket : ℕ) (negated : Bool) (cells : List Cell) (bytes : List ℕ) (ranges : List ByteRange) (rest : List ℕ) →
    members_at quoted bracket Start false bytes ≡ Ok (ranges, rest)
    → bytes ≡ print_cells cells ++ (93 ∷ rest) → (negated || not (begins is_caret bytes)) ≡ true → IsBegun negated cells
unfolding members_at
begun quoted bracket negated [] bytes ranges rest e parts h =
    let again : members_at quoted bracket Start false (93 ∷ rest) ≡ Ok (ranges, rest) = ap (members_at quoted bracket Start false)
    (sym parts) ∙ e in
    absurd (not_ok _ (ranges, rest) again)
begun quoted bracket negated (plain b ∷ cells) bytes ranges rest e parts h = ap (λ (x : List ℕ). negated || not (begins is_caret x))
    (sym parts) ∙ h
begun quoted bracket negated (escaped b ∷ cells) bytes ranges rest e parts h = ap (λ (x : List ℕ). negated || not (begins is_caret x))
    (sym parts) ∙ h

regroup : (n c rest : List ℕ) → codes "[" ++ (n ++ (c ++ (93 ∷ rest))) ≡ (codes "[" ++ (n ++ (c ++ codes "]"))) ++ rest
regroup n c rest = simp append_assoc

class_of : (quoted : Bool) (bracket : ℕ) (negated : Bool) (bytes : List ℕ) (ranges : List ByteRange) (rest : List ℕ) →
    members_at quoted bracket Start false bytes ≡ Ok (ranges, rest) → (negated || not (begins is_caret bytes)) ≡ true
    → ClassTaken quoted ((if negated then codes "^" else []) ++ bytes) negated ranges rest
class_of quoted bracket negated bytes ranges rest e h =
    let t = members_take quoted bracket Start false bytes ranges rest e in
    record {
      written = record { negated = negated; cells = t.cells; ranges = ranges };
      valid = record { cells = t.valid; begun = begun quoted bracket negated t.cells bytes ranges rest e t.parts h; ranges = t.means };
      parts = ap (λ (x : List ℕ). codes "[" ++ ((if negated then codes "^" else []) ++ x)) t.parts
          ∙ regroup (if negated then codes "^" else []) (print_cells t.cells) rest;
      same_negated = refl;
      same_ranges = refl;
    }

abbrev ClassAs : Bool → List ℕ → (Bool × List ByteRange) × List ℕ → Type 0
ClassAs quoted bytes x = ClassTaken quoted bytes x.0.0 x.0.1 x.1

pub class_takes : (quoted : Bool) (bracket : ℕ) (bytes : List ℕ) (x : (Bool × List ByteRange) × List ℕ) → class_at quoted bracket bytes
    ≡ Ok x → ClassTaken quoted bytes x.0.0 x.0.1 x.1
unfolding class_at
class_takes quoted bracket bytes x e =
    let R : Type 0 = Result ((Bool × List ByteRange) × List ℕ) LocalFault in
    let put : Bool → List ByteRange × List ℕ → R = λ negated y. Ok ((negated, y.0), y.1) in
    let first : R = members_at quoted bracket Start false (drop 1 bytes) >>= put true in
    let second : R = members_at quoted bracket Start false bytes >>= put false in
    elim (chosen (begins (λ b. b == 94) bytes) first second (Ok x) e) [
      | inl h ↦
          let m = bind_ok (members_at quoted bracket Start false (drop 1 bytes)) (put true) x h.1 in
          subst (ClassAs quoted bytes) (ok_is ((true, m.0.0), m.0.1) x m.2)
          (subst (λ (y : List ℕ). ClassTaken quoted y true m.0.0 m.0.1) (sym (begins_so 94 bytes h.0))
          (class_of quoted bracket true (drop 1 bytes) m.0.0 m.0.1 m.1 refl))
      | inr h ↦
          let m = bind_ok (members_at quoted bracket Start false bytes) (put false) x h.1 in
          subst (ClassAs quoted bytes) (ok_is ((false, m.0.0), m.0.1) x m.2) (class_of quoted bracket false bytes m.0.0 m.0.1 m.1
          (not_from_false (begins is_caret bytes) h.0))
    ]
