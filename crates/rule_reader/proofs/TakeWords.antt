-- Blanks, words and names: what is read is in the grammar.
use Rattle.std.proofs.Common.{◌≡◌, ℕ, zero, suc, ◌≤◌, ◌<◌, Bool, true, false, cond, List, [], ◌∷◌, ◌++◌, length, drop, Option, Some, None}
use Rattle.std.proofs.Common.{Result, Ok, refl, sym, ap, subst, ◌∙◌, append_assoc, ◌⊎◌, inl, inr, ◌==◌, arith}
use Rattle.std.specs.Prelude.{◌||◌, ◌&&◌, not, nat_eq, codes}
use Rattle.std.specs.List.{starts_with}
use Rattle.std.proofs.lemmas.Bool.{eqb-true, and_parts, and_from, or_parts, or_from, false_from_ne_true}
use Rattle.std.proofs.lemmas.List.{append-nil}
use Rattle.std.proofs.lemmas.Slice.Eq.{bytes_eq-Decides}
use Rattle.rule_reader.specs.declared.reader.name.NameByte.{NameByte}
use Rattle.rule_reader.specs.declared.reader.name.NameByte.TheVariants.{OfName, Ends, Wrong}
use Rattle.rule_reader.specs.declared.reader.local_fault.LocalFault.{LocalFault}
use Rattle.rule_reader.specs.declared.reader.local_fault.FaultKind.TheVariants as kinds
use Rattle.rule_reader.specs.GrammarWords.{Cell, plain, escaped, print_cells, Piece, white, comment, print_blank, IsCommentByte, IsBlank}
use Rattle.rule_reader.specs.GrammarWords.{IsGap, Stands, print_last, IsLast, IsNameCell}
use Rattle.rule_globs.specs.Each.{Each}
use Rattle.rule_reader.specs.ReadSteps.{◌>>=◌, goes_on, fault_here, fault_with_left, syntax}
use Rattle.rule_reader.specs.ReadWords.{leading, blank_at, blank, gap, literal, word, after_word, is_word, name_byte, name_bytes}
use Rattle.rule_reader.specs.TextBytes.{begins, is_white, is_hash, opens_blank, is_include_mark, is_include, is_letter_byte, is_word_byte}
use Rattle.rule_reader.specs.TextBytes.{is_quote}
use Rattle.rule_reader.proofs.ReadSteps.{bind_ok, chosen, ok_is, not_ok}
use Rattle.rule_reader.specs.laws.ReadRuns.{leading_parts, white_stops}

-- ---- comments

starts_more : (p w more : List ℕ) → starts_with nat_eq w p ≡ true → starts_with nat_eq (w ++ more) p ≡ true
starts_more [] w more h = refl
starts_more (x ∷ p) [] more h = absurd cc
starts_more (x ∷ p) (b ∷ w) more h =
    let s = and_parts (nat_eq x b) (starts_with nat_eq w p) h in
    and_from (nat_eq x b) (starts_with nat_eq (w ++ more) p) s.0 (starts_more p w more s.1)

begins_more : (test : ℕ → Bool) (n : ℕ) (w more : List ℕ) → begins test (drop n w) ≡ true → begins test (drop n (w ++ more)) ≡ true
begins_more test zero [] more h = absurd cc
begins_more test zero (b ∷ w) more h = h
begins_more test (suc n) [] more h = absurd cc
begins_more test (suc n) (b ∷ w) more h = begins_more test n w more h

-- a front part has no #include where the whole has none
no_include : (w more : List ℕ) → is_include (w ++ more) ≡ false → is_include w ≡ false
no_include w more h = false_from_ne_true (is_include w) (λ e.
    let s = and_parts (starts_with nat_eq w (codes "#include")) (begins is_include_mark (drop 8 w)) e in
    let yes : is_include (w ++ more) ≡ true = and_from (starts_with nat_eq (w ++ more) (codes "#include"))
    (begins is_include_mark (drop 8 (w ++ more))) (starts_more (codes "#include") w more s.0)
    (begins_more is_include_mark 8 w more s.1) in
    absurd cc)

-- ---- blanks

-- a comment that isn't ended is at the text's end
abbrev pub AtEnd : Option (List ℕ) → List ℕ → Type 0
AtEnd None rest = Unit {0}
AtEnd (Some bytes) rest = rest ≡ []

pub record BlankTaken (bytes rest : List ℕ) : Type 0 where
  pub pieces : List Piece
  pub last : Option (List ℕ)
  pub valid : IsBlank pieces
  pub valid_last : IsLast last
  pub parts : bytes ≡ print_blank pieces ++ (print_last last ++ rest)
  pub at_end : AtEnd last rest
  pub stops : begins opens_blank rest ≡ false

-- after the # of a comment, which ends at the text's end or at LF
CommentTaken : List ℕ → List ℕ → Type 0
CommentTaken bytes rest =
    (Each IsCommentByte bytes × (rest ≡ [])) ⊎ ((inner : List ℕ) × (more : List ℕ) × Each IsCommentByte inner
    × (bytes ≡ inner ++ (10 ∷ more)) × BlankTaken more rest)

abbrev Taken : Bool → List ℕ → List ℕ → Type 0
Taken true bytes rest = CommentTaken bytes rest
Taken false bytes rest = BlankTaken bytes rest

one_more : (b : ℕ) (bytes rest : List ℕ) → (b == 0 || b == 10) ≡ false → CommentTaken bytes rest → CommentTaken (b ∷ bytes) rest
unfolding CommentTaken
one_more b bytes rest fine t =
    elim t [
      | inl h ↦ inl ((fine, h.0), h.1)
      | inr h ↦ inr (b ∷ h.0, h.1, (fine, h.2), ap (λ (x : List ℕ). b ∷ x) h.3, h.4)
    ]

regroup : (c d e f : List ℕ) → c ++ (10 ∷ (d ++ (e ++ f))) ≡ (c ++ (10 ∷ [])) ++ (d ++ (e ++ f))
regroup c d e f = simp append_assoc

opened : (bytes rest : List ℕ) → is_include (35 ∷ bytes) ≡ false → CommentTaken bytes rest → BlankTaken (35 ∷ bytes) rest
unfolding CommentTaken
opened bytes rest none t =
    elim t [
      | inl h ↦ record {
        pieces = [];
        last = Some bytes;
        valid = tt;
        valid_last = (h.0, none);
        parts = ap (λ (x : List ℕ). 35 ∷ x) (sym (append-nil bytes) ∙ ap (λ (x : List ℕ). bytes ++ x) (sym h.1));
        at_end = h.1;
        stops = ap (begins opens_blank) h.1;
      }
      | inr h ↦
          let inner : List ℕ = h.0 in
          let t : BlankTaken h.1 rest = h.4 in
          let whole : bytes ≡ (inner ++ (10 ∷ [])) ++ h.1 = h.3 ∙ sym (append_assoc inner (10 ∷ []) h.1) in
          record {
            pieces = comment inner ∷ t.pieces;
            last = t.last;
            valid = (
              (
                h.2,
                no_include (35 ∷ (inner ++ (10 ∷ []))) h.1
                    (subst (λ (x : List ℕ). is_include (35 ∷ x) ≡ false) whole none),
              ),
              t.valid,
            );
            valid_last = t.valid_last;
            parts = ap (λ (x : List ℕ). 35 ∷ x) (whole ∙ ap (λ (x : List ℕ). (inner ++ (10 ∷ [])) ++ x) t.parts
                ∙ sym (append_assoc (inner ++ (10 ∷ [])) (print_blank t.pieces) (print_last t.last ++ rest)));
            at_end = t.at_end;
            stops = t.stops;
          }
    ]

blank_take : (inside : Bool) (bytes rest : List ℕ) → blank_at inside bytes ≡ Ok rest → Taken inside bytes rest
unfolding CommentTaken
blank_take true [] rest e = inl (tt, sym (ok_is [] rest e))
blank_take false [] rest e = subst (BlankTaken []) (ok_is [] rest e)
    (record { pieces = []; last = None; valid = tt; valid_last = tt; parts = refl; at_end = tt; stops = refl })
blank_take true (b ∷ bytes) rest e =
    elim (chosen (b == 0) (syntax (b ∷ bytes)) (blank_at (not (b == 10)) bytes) (Ok rest) e) [
      | inl h ↦ absurd (not_ok _ rest h.1)
      | inr h ↦
          let P : (t : Bool) → (b == 10) ≡ t → blank_at (not t) bytes ≡ Ok rest → CommentTaken (b ∷ bytes) rest =
          λ t. elim t as (λ t. (b == 10) ≡ t → blank_at (not t) bytes ≡ Ok rest → CommentTaken (b ∷ bytes) rest) [
            | true ↦ λ a k. let same : b ≡ 10 = eqb-true b 10 a in
                inr ([], bytes, tt, ap (λ x. x ∷ bytes) same, blank_take false bytes rest k)
            | false ↦ λ a k. one_more b bytes rest (or_from (b == 0) (b == 10) h.0 a) (blank_take true bytes rest k)
          ] in
          P (b == 10) refl h.1
    ]
blank_take false (b ∷ bytes) rest e =
    let third : Result (List ℕ) LocalFault = cond (is_include (b ∷ bytes)) (fault_here (kinds.LeftOut 8) (b ∷ bytes))
    (blank_at true bytes) in
    let second : Result (List ℕ) LocalFault = cond (is_hash b) third (Ok (b ∷ bytes)) in
    elim (chosen (is_white b) (blank_at false bytes) second (Ok rest) e) [
      | inl h ↦
          let t : BlankTaken bytes rest = blank_take false bytes rest h.1 in
          record {
            pieces = white b ∷ t.pieces;
            last = t.last;
            valid = (h.0, t.valid);
            valid_last = t.valid_last;
            parts =
                ap (λ (x : List ℕ). b ∷ x) t.parts;
            at_end = t.at_end;
            stops = t.stops;
          }
      | inr h ↦ elim (chosen (is_hash b) third (Ok (b ∷ bytes)) (Ok rest) h.1) [
        | inl g ↦ elim (chosen (is_include (b ∷ bytes)) (fault_here (kinds.LeftOut 8) (b ∷ bytes)) (blank_at true bytes) (Ok rest) g.1) [
          | inl k ↦ absurd (not_ok _ rest k.1)
          | inr k ↦
              let same : b ≡ 35 = eqb-true b 35 g.0 in
              let inner : CommentTaken bytes rest = blank_take true bytes rest k.1 in
              subst (λ (x : ℕ). BlankTaken (x ∷ bytes) rest) (sym same)
              (opened bytes rest (subst (λ (x : ℕ). is_include (x ∷ bytes) ≡ false) same k.0) inner)
        ]
        | inr g ↦ subst (BlankTaken (b ∷ bytes)) (ok_is (b ∷ bytes) rest g.1)
            (record {
              pieces = [];
              last = None;
              valid = tt;
              valid_last = tt;
              parts = refl;
              at_end = tt;
              stops =
                  or_from (is_white b) (is_hash b) h.0 g.0;
            })
      ]
    ]

pub blank_takes : (bytes rest : List ℕ) → blank bytes ≡ Ok rest → BlankTaken bytes rest
blank_takes bytes rest e = blank_take false bytes rest e

-- before more of the text a comment is ended
abbrev pub MiddleBlank : List ℕ → List ℕ → Type 0
MiddleBlank bytes rest = (pieces : List Piece) × IsBlank pieces × (bytes ≡ print_blank pieces ++ rest)

pub middle_blank : (bytes rest : List ℕ) → blank bytes ≡ Ok rest → goes_on rest ≡ true → MiddleBlank bytes rest
middle_blank bytes rest e more =
    let t : BlankTaken bytes rest = blank_takes bytes rest e in
    let P : (last : Option (List ℕ)) → AtEnd last rest → bytes ≡ print_blank t.pieces ++ (print_last last ++ rest) →
    MiddleBlank bytes rest =
    λ last. elim last as (λ last. AtEnd last rest → bytes ≡ print_blank t.pieces ++ (print_last last ++ rest) → MiddleBlank bytes rest) [
      | None ↦ λ a parts. (t.pieces, t.valid, parts)
      | Some inner ↦ λ a parts. let no : goes_on rest ≡ false = ap goes_on a in absurd cc
    ] in
    P t.last t.at_end t.parts

-- ---- gaps

abbrev pub GapTaken : List ℕ → List ℕ → Type 0
GapTaken bytes rest = (pieces : List Piece) × IsGap pieces × (bytes ≡ print_blank pieces ++ rest)

pub gap_takes : (bytes rest : List ℕ) → gap bytes ≡ Ok rest → goes_on rest ≡ true → GapTaken bytes rest
gap_takes bytes rest e more =
    elim (chosen (begins opens_blank bytes) (blank bytes) (syntax bytes) (Ok rest) e) [
      | inr h ↦ absurd (not_ok _ rest h.1)
      | inl h ↦
          let stops : begins opens_blank rest ≡ false = (blank_takes bytes rest h.1).stops in
          let m : MiddleBlank bytes rest = middle_blank bytes rest h.1 more in
          let P : (pieces : List Piece) → IsBlank pieces → bytes ≡ print_blank pieces ++ rest → GapTaken bytes rest =
          λ pieces. elim pieces as (λ pieces. IsBlank pieces → bytes ≡ print_blank pieces ++ rest → GapTaken bytes rest) [
            | [] ↦ λ v parts. let same : begins opens_blank bytes ≡ begins opens_blank rest = ap (begins opens_blank) parts in absurd cc
            | p ∷ pieces ↦ λ v parts. (p ∷ pieces, v, parts)
          ] in
          P m.0 m.1 m.2
    ]

-- after a bare part there is no #
abbrev pub NoHash : Bool → List ℕ → Type 0
NoHash true rest = Unit {0}
NoHash false rest = begins is_hash rest ≡ false

pub stands : (quoted : Bool) (pieces : List Piece) (bytes rest : List ℕ) → NoHash quoted bytes → bytes ≡ print_blank pieces ++ rest →
    Stands quoted pieces
stands quoted [] bytes rest h e = tt
stands quoted (white b ∷ pieces) bytes rest h e = tt
stands true (comment inner ∷ pieces) bytes rest h e = refl
stands false (comment inner ∷ pieces) bytes rest h e =
    let same : begins is_hash bytes ≡ true = ap (begins is_hash) e in absurd cc

-- ---- words

pub begins_so : (k : ℕ) (bytes : List ℕ) → begins (λ b. b == k) bytes ≡ true → bytes ≡ k ∷ drop 1 bytes
begins_so k [] h = absurd cc
begins_so k (b ∷ bytes) h = ap (λ (x : ℕ). x ∷ bytes) (eqb-true b k h)

pub literal_takes : (word bytes rest : List ℕ) → literal word bytes ≡ Ok rest → bytes ≡ word ++ rest
literal_takes [] bytes rest e = ok_is _ _ e
literal_takes (w ∷ word) [] rest e = absurd (not_ok _ rest e)
literal_takes (w ∷ word) (b ∷ bytes) rest e =
    elim (chosen (b == w) (literal word bytes) (syntax (b ∷ bytes)) (Ok rest) e) [
      | inl h ↦ let same : b ≡ w = eqb-true b w h.0 in let tail = literal_takes word bytes rest h.1 in cc
      | inr h ↦ absurd (not_ok _ rest h.1)
    ]

-- a word is what comes before the bytes after it
pub word_takes : (bytes : List ℕ) → 0 < length (word bytes) → bytes ≡ word bytes ++ after_word bytes
word_takes bytes =
    elim (begins is_letter_byte bytes) as (λ t. 0 < length (cond t (leading is_word_byte bytes) []) →
    bytes ≡ cond t (leading is_word_byte bytes) [] ++ after_word bytes) [
      | true ↦ λ some. leading_parts is_word_byte bytes
      | false ↦ λ some. absurd (omega arith)
    ]

pub is_word_takes : (wanted bytes : List ℕ) → 0 < length wanted → is_word wanted bytes ≡ true → bytes ≡ wanted ++ after_word bytes
is_word_takes wanted bytes some e =
    let same : word bytes ≡ wanted = (bytes_eq-Decides (word bytes) wanted).0 e in
    let more : 0 < length (word bytes) = subst (λ (x : List ℕ). 0 < length x) (sym same) some in
    word_takes bytes more ∙ ap (λ (x : List ℕ). x ++ after_word bytes) same

-- ---- names

-- a bare name ends at the text's end or before white
abbrev pub NameEnds : Bool → List ℕ → Type 0
NameEnds true rest = Unit {0}
NameEnds false [] = Unit {0}
NameEnds false (b ∷ rest) = is_white b ≡ true

pub no_hash : (quoted : Bool) (rest : List ℕ) → NameEnds quoted rest → NoHash quoted rest
no_hash true rest h = tt
no_hash false [] h = refl
no_hash false (b ∷ rest) h = white_stops is_hash b refl refl refl refl h

-- directly after a backslash, that is the first byte of the cells
abbrev pub held : Bool → List ℕ → List ℕ
held behind bytes = cond behind (92 ∷ bytes) bytes

pub record NameTaken (quoted : Bool) (behind : Bool) (room : ℕ) (bytes name rest : List ℕ) : Type 0 where
  pub cells : List Cell
  pub valid : Each (IsNameCell quoted) cells
  pub means : print_cells cells ≡ held behind name
  pub parts : bytes ≡ name ++ rest
  pub fits : length name ≤ room
  pub ends : NameEnds quoted rest

-- LF is white
pub no_line_feed : (b : ℕ) → is_white b ≡ false → (b == 10) ≡ false
no_line_feed b h = (or_parts (b == 32 || b == 9) (b == 10) (or_parts (b == 32 || b == 9 || b == 10) (b == 13) h).0).1

-- which bytes are of a name, by the tests for byte 0, LF, a quote, white and a backslash
plain_so : (quoted z l q w n : Bool) → cond (z || (l && (quoted || false))) Wrong
    (cond q (cond quoted Ends Wrong) (cond (not quoted && w) Ends OfName)) ≡ OfName → (w ≡ false → l ≡ false) → n ≡ false
    → (not (z || l || (not quoted && w)) && not (q || n)) ≡ true
plain_so true true l q w n e f g = absurd cc
plain_so true false true q w n e f g = absurd cc
plain_so true false false true w n e f g = absurd cc
plain_so true false false false w n e f g = ap not g
plain_so false true l q w n e f g = absurd cc
plain_so false false true true w n e f g = absurd cc
plain_so false false true false true n e f g = absurd cc
plain_so false false true false false n e f g = let no = f refl in absurd cc
plain_so false false false true w n e f g = absurd cc
plain_so false false false false true n e f g = absurd cc
plain_so false false false false false n e f g = ap not g

plain_valid : (quoted : Bool) (b : ℕ) → name_byte quoted false b ≡ OfName → (b == 92) ≡ false → IsNameCell quoted (plain b)
plain_valid quoted b e other = plain_so quoted (b == 0) (b == 10) (is_quote b) (is_white b) (b == 92) e (no_line_feed b) other

escaped_so : (quoted z l : Bool) → cond (z || (l && (quoted || true))) Wrong OfName ≡ OfName → (z || l) ≡ false
escaped_so quoted true l e = absurd cc
escaped_so true false true e = absurd cc
escaped_so false false true e = absurd cc
escaped_so quoted false false e = refl

escaped_valid : (quoted : Bool) (b : ℕ) → name_byte quoted true b ≡ OfName → IsNameCell quoted (escaped b)
escaped_valid quoted b e = escaped_so quoted (b == 0) (b == 10) e

ends_so : (quoted behind z l q w : Bool) → cond (z || (l && (quoted || behind))) Wrong
    (cond behind OfName (cond q (cond quoted Ends Wrong) (cond (not quoted && w) Ends OfName))) ≡ Ends
    → (behind ≡ false) × (quoted ≡ false → w ≡ true)
ends_so quoted behind true l q w e = absurd cc
ends_so true behind false true q w e = absurd cc
ends_so false true false true q w e = absurd cc
ends_so quoted true false false q w e = absurd cc
ends_so true false false false q w e = (refl, λ h. absurd cc)
ends_so false false false true true w e = absurd cc
ends_so false false false true false true e = (refl, λ h. refl)
ends_so false false false true false false e = absurd cc
ends_so false false false false true w e = absurd cc
ends_so false false false false false true e = (refl, λ h. refl)
ends_so false false false false false false e = absurd cc

ends_white : (quoted behind : Bool) (b : ℕ) (rest : List ℕ) → name_byte quoted behind b ≡ Ends → (behind ≡ false)
    × NameEnds quoted (b ∷ rest)
ends_white true behind b rest e = ((ends_so true behind (b == 0) (b == 10) (is_quote b) (is_white b) e).0, tt)
ends_white false behind b rest e = let h = ends_so false behind (b == 0) (b == 10) (is_quote b) (is_white b) e in (h.0, h.1 refl)

no_name : (quoted behind : Bool) (room : ℕ) (rest : List ℕ) → behind ≡ false → NameEnds quoted rest →
    NameTaken quoted behind room rest [] rest
no_name quoted behind room rest e h = record {
  cells = [];
  valid = tt;
  means = ap (λ t. held t []) (sym e);
  parts = refl;
  fits =
      omega arith;
  ends = h;
}

more_name : (quoted behind : Bool) (room b : ℕ) (bytes name rest : List ℕ) → name_byte quoted behind b ≡ OfName →
    NameTaken quoted (not behind && b == 92) room bytes name rest → NameTaken quoted behind (suc room) (b ∷ bytes) (b ∷ name) rest
more_name quoted true room b bytes name rest of more = record {
  cells = escaped b ∷ more.cells;
  valid = (escaped_valid quoted b of, more.valid);
  means = ap (λ (x : List ℕ). 92 ∷ b ∷ x) more.means;
  parts = ap (λ (x : List ℕ). b ∷ x) more.parts;
  fits = omega (arith, more.fits);
  ends = more.ends;
}
more_name quoted false room b bytes name rest of more =
    let P : (t : Bool) → (b == 92) ≡ t → NameTaken quoted t room bytes name rest → NameTaken quoted false (suc room)
    (b ∷ bytes) (b ∷ name) rest =
    λ t. elim t as (λ t. (b == 92) ≡ t → NameTaken quoted t room bytes name rest → NameTaken quoted false (suc room)
    (b ∷ bytes) (b ∷ name) rest) [
      | true ↦ λ a m. record {
        cells = m.cells;
        valid = m.valid;
        means = m.means ∙ ap (λ (x : ℕ). x ∷ name) (sym (eqb-true b 92 a));
        parts = ap (λ (x : List ℕ). b ∷ x) m.parts;
        fits = omega (arith, m.fits);
        ends = m.ends;
      }
      | false ↦ λ a m. record {
        cells = plain b ∷ m.cells;
        valid = (plain_valid quoted b of a, m.valid);
        means = ap (λ (x : List ℕ). b ∷ x) m.means;
        parts = ap (λ (x : List ℕ). b ∷ x) m.parts;
        fits = omega (arith, m.fits);
        ends = m.ends;
      }
    ] in
    P (b == 92) refl more

that_name : (quoted behind : Bool) (room : ℕ) (bytes : List ℕ) (x y : List ℕ × List ℕ) → x ≡ y →
    NameTaken quoted behind room bytes x.0 x.1 → NameTaken quoted behind room bytes y.0 y.1
that_name quoted behind room bytes x y e h = subst (λ (z : List ℕ × List ℕ). NameTaken quoted behind room bytes z.0 z.1) e h

pub name_bytes_take : (quoted : Bool) (first : ℕ) (behind : Bool) (room : ℕ) (bytes name rest : List ℕ) →
    name_bytes quoted first behind room bytes ≡ Ok (name, rest) → NameTaken quoted behind room bytes name rest
unfolding name_bytes
name_bytes_take true first behind room [] name rest e = absurd (not_ok _ (name, rest) e)
name_bytes_take false first true room [] name rest e = absurd (not_ok _ (name, rest) e)
name_bytes_take false first false room [] name rest e = that_name false false room [] ([], []) (name, rest) (ok_is ([], []) (name, rest) e)
    (no_name false false room [] refl tt)
name_bytes_take quoted first behind zero (b ∷ bytes) name rest e =
    let go : NameByte → Result (List ℕ × List ℕ) LocalFault =
    λ n. elim n [ OfName ↦ fault_with_left kinds.Syntax first (b ∷ bytes) | Ends ↦ Ok ([], b ∷ bytes) | Wrong ↦ syntax (b ∷ bytes) ] in
    let P : (n : NameByte) → name_byte quoted behind b ≡ n → go n ≡ Ok (name, rest) → NameTaken quoted behind zero (b ∷ bytes) name rest =
    λ n. elim n as (λ n. name_byte quoted behind b ≡ n → go n ≡ Ok (name, rest) → NameTaken quoted behind zero (b ∷ bytes) name rest) [
      | OfName ↦ λ a h. absurd (not_ok _ (name, rest) h)
      | Ends ↦ λ a h.
          let w = ends_white quoted behind b bytes a in
          that_name quoted behind zero (b ∷ bytes) ([], b ∷ bytes) (name, rest) (ok_is ([], b ∷ bytes) (name, rest) h)
          (no_name quoted behind zero (b ∷ bytes) w.0 w.1)
      | Wrong ↦ λ a h. absurd (not_ok _ (name, rest) h)
    ] in
    P (name_byte quoted behind b) refl e
name_bytes_take quoted first behind (suc room) (b ∷ bytes) name rest e =
    let put : List ℕ × List ℕ → Result (List ℕ × List ℕ) LocalFault = λ x. Ok (b ∷ x.0, x.1) in
    let more : Result (List ℕ × List ℕ) LocalFault = name_bytes quoted first (not behind && b == 92) room bytes in
    let go : NameByte → Result (List ℕ × List ℕ) LocalFault =
    λ n. elim n [ OfName ↦ more >>= put | Ends ↦ Ok ([], b ∷ bytes) | Wrong ↦ syntax (b ∷ bytes) ] in
    let P : (n : NameByte) → name_byte quoted behind b ≡ n → go n ≡ Ok (name, rest) → NameTaken quoted behind (suc room)
    (b ∷ bytes) name rest =
    λ n. elim n as (λ n. name_byte quoted behind b ≡ n → go n ≡ Ok (name, rest)
    → NameTaken quoted behind (suc room) (b ∷ bytes) name rest) [
      | OfName ↦ λ a h.
          let k = bind_ok more put (name, rest) h in
          that_name quoted behind (suc room) (b ∷ bytes) (b ∷ k.0.0, k.0.1) (name, rest) (ok_is (b ∷ k.0.0, k.0.1) (name, rest) k.2)
          (more_name quoted behind room b bytes k.0.0 k.0.1 a
          (name_bytes_take quoted first (not behind && b == 92) room bytes k.0.0 k.0.1 k.1))
      | Ends ↦ λ a h.
          let w = ends_white quoted behind b bytes a in
          that_name quoted behind (suc room) (b ∷ bytes) ([], b ∷ bytes) (name, rest) (ok_is ([], b ∷ bytes) (name, rest) h)
          (no_name quoted behind (suc room) (b ∷ bytes) w.0 w.1)
      | Wrong ↦ λ a h. absurd (not_ok _ (name, rest) h)
    ] in
    P (name_byte quoted behind b) refl e
