-- What comes before the rules: what is read is in the grammar.
use Rattle.std.proofs.Common.{◌≡◌, ℕ, ◌≤◌, ◌<◌, Bool, true, false, cond, List, [], ◌∷◌, ◌++◌, length, drop, Option, Some, None, Result, Ok}
use Rattle.std.proofs.Common.{refl, sym, ap, subst, ◌∙◌, append_assoc, inl, inr, ◌==◌, arith}
use Rattle.std.specs.Prelude.{◌||◌, ◌&&◌, not, nat_eq, codes}
use Rattle.std.specs.List.{starts_with}
use Rattle.std.proofs.lemmas.Bool.{eqb-false, not_from_false}
use Rattle.rule_reader.specs.declared.reader.local_fault.LocalFault.{LocalFault}
use Rattle.rule_reader.specs.declared.reader.local_fault.FaultKind.TheVariants as kinds
use Rattle.rule_globs.specs.Glob.{is_slash}
use Rattle.rule_reader.specs.Grammar.{Attachment, WrittenHeader, named, by_path, print_attachment, print_header, IsAttachment, IsHeader}
use Rattle.rule_reader.specs.Grammar.{header_means}
use Rattle.rule_reader.specs.GrammarWords.{Cell, plain, escaped, print_cells, print_blank, WrittenName, in_quotes, print_name, name_means}
use Rattle.rule_reader.specs.GrammarWords.{IsNameCell, IsFirst, BeginsWithSlash}
use Rattle.rule_globs.specs.Each.{Each}
use Rattle.rule_reader.specs.ReadHeader.{slash_name_at, is_colon, begins_no_name, name_at, attachment_at, brace_at, named_header_at}
use Rattle.rule_reader.specs.ReadHeader.{slash_header_at, header_at}
use Rattle.rule_reader.specs.ReadSteps.{◌>>=◌, goes_on, fault_here, syntax}
use Rattle.rule_reader.specs.ReadWords.{gap, literal, word, after_word, is_word, word_left_out, name_bytes, name_in, quoted_name}
use Rattle.rule_reader.specs.TextBytes.{begins, is_quote, is_open_brace}
use Rattle.rule_reader.proofs.ReadSteps.{bind_ok, chosen, ok_is, not_ok}
use Rattle.rule_reader.proofs.TakeWords.{GapTaken, gap_takes, NoHash, no_hash, stands, begins_so, literal_takes, is_word_takes, NameTaken}
use Rattle.rule_reader.proofs.TakeWords.{name_bytes_take}
use Rattle.rule_reader.proofs.TakeRules.{goes_behind}

-- ---- names

-- a name of the bytes `inner`, which are in quotes or not
record NameRead (room : ℕ) (quoted : Bool) (bytes inner : List ℕ) (x : List ℕ × List ℕ) : Type 0 where
  cells : List Cell
  valid : Each (IsNameCell quoted) cells
  some : 0 < length cells
  means : print_cells cells ≡ x.0
  fits : length (print_cells cells) ≤ room
  parts : bytes ≡ in_quotes quoted (print_cells cells) ++ x.1
  stands : NoHash quoted x.1
  start : (test : ℕ → Bool) → begins test (print_cells cells) ≡ begins test inner

some_cells : (cells : List Cell) (name : List ℕ) → print_cells cells ≡ name → 0 < length name → 0 < length cells
some_cells [] name e h = let none : 0 ≡ length name = ap length e in absurd (omega arith)
some_cells (c ∷ cells) name e h = omega arith

same_start : (test : ℕ → Bool) (bytes name rest : List ℕ) → bytes ≡ name ++ rest → 0 < length name → begins test name ≡ begins test bytes
same_start test bytes [] rest e h = absurd (omega arith)
same_start test bytes (b ∷ name) rest e h = ap (begins test) (sym e)

abbrev InTaken : Bool → ℕ → List ℕ → List ℕ × List ℕ → Type 0
InTaken quoted room bytes x = NameTaken quoted false room bytes x.0 x.1 × (0 < length x.0)

name_in_takes : (quoted : Bool) (room : ℕ) (bytes : List ℕ) (x : List ℕ × List ℕ) → name_in quoted room bytes ≡ Ok x →
    InTaken quoted room bytes x
unfolding name_in
name_in_takes quoted room bytes x e =
    let R : Type 0 = Result (List ℕ × List ℕ) LocalFault in
    let go : List ℕ × List ℕ → R = λ y. cond (length y.0 == 0) (syntax y.1) (Ok y) in
    let k = bind_ok (name_bytes quoted (length bytes) false room bytes) go x e in
    elim (chosen (length k.0.0 == 0) (syntax k.0.1) (Ok k.0) (Ok x) k.2) [
      | inl h ↦ absurd (not_ok _ x h.1)
      | inr h ↦
          let none : length k.0.0 ≡ 0 → ⊥ = eqb-false (length k.0.0) 0 h.0 in
          let some : 0 < length k.0.0 = omega arith in
          subst (InTaken quoted room bytes) (ok_is k.0 x h.1)
          (name_bytes_take quoted (length bytes) false room bytes k.0.0 k.0.1 k.1, some)
    ]

bare_takes : (room : ℕ) (bytes : List ℕ) (x : List ℕ × List ℕ) → name_in false room bytes ≡ Ok x → NameRead room false bytes bytes x
bare_takes room bytes x e =
    let h = name_in_takes false room bytes x e in
    let t : NameTaken false false room bytes x.0 x.1 = h.0 in
    record {
      cells = t.cells;
      valid = t.valid;
      some = some_cells t.cells x.0 t.means h.1;
      means = t.means;
      fits = subst (λ (y : List ℕ). length y ≤ room) (sym t.means) t.fits;
      parts = t.parts ∙ ap (λ (y : List ℕ). y ++ x.1) (sym t.means);
      stands = no_hash false x.1 t.ends;
      start = λ test. ap (begins test) t.means ∙ same_start test bytes x.0 x.1 t.parts h.1;
    }

regroup : (inner c m rest : List ℕ) → inner ≡ c ++ m → m ≡ codes "\"" ++ rest → 34 ∷ inner ≡ (codes "\"" ++ (c ++ codes "\"")) ++ rest
regroup inner c m rest e1 e2 = rw (e1, e2) (simp append_assoc)

quoted_takes : (room : ℕ) (inner : List ℕ) (x : List ℕ × List ℕ) → quoted_name room inner ≡ Ok x → NameRead room true (34 ∷ inner) inner x
unfolding quoted_name
quoted_takes room inner x e =
    let R : Type 0 = Result (List ℕ × List ℕ) LocalFault in
    let put : List ℕ × List ℕ → R = λ name. literal (codes "\"") name.1 >>= λ rest. Ok (name.0, rest) in
    let k = bind_ok (name_in true room inner) put x e in
    let l = bind_ok (literal (codes "\"") k.0.1) (λ rest. Ok (k.0.0, rest)) x k.2 in
    let h = name_in_takes true room inner k.0 k.1 in
    let t : NameTaken true false room inner k.0.0 k.0.1 = h.0 in
    subst (NameRead room true (34 ∷ inner) inner) (ok_is (k.0.0, l.0) x l.2) (record {
      cells = t.cells;
      valid = t.valid;
      some = some_cells t.cells k.0.0 t.means h.1;
      means = t.means;
      fits = subst (λ (y : List ℕ). length y ≤ room) (sym t.means) t.fits;
      parts = regroup inner (print_cells t.cells) k.0.1 l.0 (t.parts ∙ ap (λ (y : List ℕ). y ++ k.0.1) (sym t.means))
          (literal_takes (codes "\"") k.0.1 l.0 l.1);
      stands = tt;
      start = λ test. ap (begins test) t.means ∙ same_start test inner k.0.0 k.0.1 t.parts h.1;
    })

-- a name whose cells begin so
pub record NamePart (Begins : Bool → List Cell → Type 0) (room : ℕ) (bytes : List ℕ) (x : List ℕ × List ℕ) : Type 0 where
  pub written : WrittenName
  pub valid : Each (IsNameCell written.quoted) written.cells
  pub begun : Begins written.quoted written.cells
  pub some : 0 < length written.cells
  pub fits : length (print_cells written.cells) ≤ room
  pub parts : bytes ≡ print_name written ++ x.1
  pub means : name_means written ≡ x.0
  pub stands : NoHash written.quoted x.1

part_of : (Begins : Bool → List Cell → Type 0) (room : ℕ) (quoted : Bool) (bytes inner : List ℕ) (x : List ℕ × List ℕ) →
    (r : NameRead room quoted bytes inner x) → Begins quoted r.cells → NamePart Begins room bytes x
part_of Begins room quoted bytes inner x r h = record {
  written = record { quoted = quoted; cells = r.cells };
  valid = r.valid;
  begun =
      h;
  some = r.some;
  fits = r.fits;
  parts = r.parts;
  means = r.means;
  stands = r.stands;
}

abbrev Slash : Bool → List Cell → Type 0
Slash quoted cells = BeginsWithSlash cells

slash_first : (cells : List Cell) → 0 < length cells → begins is_slash (print_cells cells) ≡ true → BeginsWithSlash cells
slash_first [] h e = absurd (omega arith)
slash_first (plain b ∷ cells) h e = e
slash_first (escaped b ∷ cells) h e = absurd cc

slash_name_takes : (room : ℕ) (bytes : List ℕ) (x : List ℕ × List ℕ) → slash_name_at room bytes ≡ Ok x → NamePart Slash room bytes x
unfolding slash_name_at
slash_name_takes room bytes x e =
    let R : Type 0 = Result (List ℕ × List ℕ) LocalFault in
    let inside : R = cond (begins is_slash (drop 1 bytes)) (quoted_name room (drop 1 bytes)) (syntax (drop 1 bytes)) in
    elim (chosen (begins is_slash bytes) (name_in false room bytes) (cond (begins is_quote bytes) inside (syntax bytes)) (Ok x) e) [
      | inl h ↦ let r = bare_takes room bytes x h.1 in part_of Slash room false bytes bytes x r
          (slash_first r.cells r.some (r.start is_slash ∙ h.0))
      | inr h ↦ elim (chosen (begins is_quote bytes) inside (syntax bytes) (Ok x) h.1) [
        | inr g ↦ absurd (not_ok _ x g.1)
        | inl g ↦ elim (chosen (begins is_slash (drop 1 bytes)) (quoted_name room (drop 1 bytes)) (syntax (drop 1 bytes)) (Ok x) g.1) [
          | inr k ↦ absurd (not_ok _ x k.1)
          | inl k ↦
              let r = quoted_takes room (drop 1 bytes) x k.1 in
              subst (λ (y : List ℕ). NamePart Slash room y x) (sym (begins_so 34 bytes g.0))
              (part_of Slash room true (34 ∷ drop 1 bytes) (drop 1 bytes) x r (slash_first r.cells r.some (r.start is_slash ∙ k.0)))
        ]
      ]
    ]

first_so : (quoted c n : Bool) → c ≡ false → (quoted || not n) ≡ true → not (c || (not quoted && n)) ≡ true
first_so quoted true n h e = absurd cc
first_so true false n h e = refl
first_so false false n h e = e

first_cell : (quoted : Bool) (cells : List Cell) → 0 < length cells → begins is_colon (print_cells cells) ≡ false →
    (quoted || not (begins begins_no_name (print_cells cells))) ≡ true → IsFirst quoted cells
first_cell quoted [] h e1 e2 = absurd (omega arith)
first_cell quoted (plain b ∷ cells) h e1 e2 = first_so quoted (b == 58) (b == 123 || b == 125 || b == 44 || b == 35) e1 e2
first_cell quoted (escaped b ∷ cells) h e1 e2 = refl

name_takes : (bytes : List ℕ) (x : List ℕ × List ℕ) → name_at bytes ≡ Ok x → NamePart IsFirst 255 bytes x
unfolding name_at
name_takes bytes x e =
    let R : Type 0 = Result (List ℕ × List ℕ) LocalFault in
    let inside : R = cond (begins is_colon (drop 1 bytes)) (fault_here (kinds.LeftOut 1) (drop 1 bytes))
    (quoted_name 255 (drop 1 bytes)) in
    let third : R = cond (begins begins_no_name bytes) (syntax bytes) (name_in false 255 bytes) in
    let second : R = cond (begins is_colon bytes) (fault_here (kinds.LeftOut 1) bytes) third in
    elim (chosen (begins is_quote bytes) inside second (Ok x) e) [
      | inl h ↦ elim (chosen (begins is_colon (drop 1 bytes)) (fault_here (kinds.LeftOut 1) (drop 1 bytes))
          (quoted_name 255 (drop 1 bytes)) (Ok x) h.1) [
            | inl g ↦ absurd (not_ok _ x g.1)
            | inr g ↦
                let r = quoted_takes 255 (drop 1 bytes) x g.1 in
                subst (λ (y : List ℕ). NamePart IsFirst 255 y x) (sym (begins_so 34 bytes h.0))
                (part_of IsFirst 255 true (34 ∷ drop 1 bytes) (drop 1 bytes) x r
                (first_cell true r.cells r.some (r.start is_colon ∙ g.0) refl))
          ]
      | inr h ↦ elim (chosen (begins is_colon bytes) (fault_here (kinds.LeftOut 1) bytes) third (Ok x) h.1) [
        | inl g ↦ absurd (not_ok _ x g.1)
        | inr g ↦ elim (chosen (begins begins_no_name bytes) (syntax bytes) (name_in false 255 bytes) (Ok x) g.1) [
          | inl k ↦ absurd (not_ok _ x k.1)
          | inr k ↦
              let r = bare_takes 255 bytes x k.1 in
              part_of IsFirst 255 false bytes bytes x r (first_cell false r.cells r.some (r.start is_colon ∙ g.0)
              (not_from_false (begins begins_no_name (print_cells r.cells)) (r.start begins_no_name ∙ k.0)))
        ]
      ]
    ]

-- a name has bytes
name_some : (bytes : List ℕ) (x : List ℕ × List ℕ) → name_at bytes ≡ Ok x → goes_on bytes ≡ true
unfolding name_at name_in name_bytes
name_some [] x e = absurd (not_ok _ x e)
name_some (b ∷ bytes) x e = refl

-- ---- attachments and the brace

brace_takes : (bytes rest : List ℕ) → brace_at bytes ≡ Ok rest → bytes ≡ 123 ∷ rest
unfolding brace_at
brace_takes bytes rest e =
    let R : Type 0 = Result (List ℕ) LocalFault in
    let s4 : R = cond (begins (λ b. b == 40) bytes) (fault_here (kinds.LeftOut 1) bytes) (syntax bytes) in
    let s3 : R = cond (starts_with nat_eq bytes (codes "xattrs=")) (fault_here (kinds.LeftOut 6) bytes) s4 in
    let s2 : R = cond (starts_with nat_eq bytes (codes "flags=")) (fault_here (kinds.LeftOut 5) bytes) s3 in
    elim (chosen (begins is_open_brace bytes) (Ok (drop 1 bytes)) s2 (Ok rest) e) [
      | inl h ↦ begins_so 123 bytes h.0 ∙ ap (λ (x : List ℕ). 123 ∷ x) (ok_is (drop 1 bytes) rest h.1)
      | inr h2 ↦ elim (chosen (starts_with nat_eq bytes (codes "flags=")) (fault_here (kinds.LeftOut 5) bytes) s3 (Ok rest) h2.1) [
        | inl h ↦ absurd (not_ok _ rest h.1)
        | inr h3 ↦ elim (chosen (starts_with nat_eq bytes (codes "xattrs=")) (fault_here (kinds.LeftOut 6) bytes) s4 (Ok rest) h3.1) [
          | inl h ↦ absurd (not_ok _ rest h.1)
          | inr h4 ↦ elim (chosen (begins (λ b. b == 40) bytes) (fault_here (kinds.LeftOut 1) bytes) (syntax bytes) (Ok rest) h4.1)
              [ inl h ↦ absurd (not_ok _ rest h.1) | inr h ↦ absurd (not_ok _ rest h.1) ]
        ]
      ]
    ]

brace_some : (bytes rest : List ℕ) → brace_at bytes ≡ Ok rest → goes_on bytes ≡ true
brace_some bytes rest e = ap goes_on (brace_takes bytes rest e)

abbrev AttachmentTaken : List ℕ → List ℕ → Type 0
AttachmentTaken bytes rest = (a : Option Attachment) × IsAttachment a × (bytes ≡ print_attachment a ++ rest)

two_parts : (a n b g rest : List ℕ) → a ≡ n ++ b → b ≡ g ++ rest → a ≡ (n ++ g) ++ rest
two_parts a n b g rest e1 e2 = rw (e1, e2) (simp append_assoc)

attachment_takes : (bytes rest : List ℕ) → attachment_at bytes ≡ Ok rest → goes_on rest ≡ true → AttachmentTaken bytes rest
unfolding attachment_at
attachment_takes bytes rest e more =
    let R : Type 0 = Result (List ℕ) LocalFault in
    let put : List ℕ × List ℕ → R = λ x. gap x.1 in
    elim (chosen (begins is_slash bytes || begins is_quote bytes) (slash_name_at (length bytes) bytes >>= put) (Ok bytes) (Ok rest) e) [
      | inl h ↦
          let k = bind_ok (slash_name_at (length bytes) bytes) put rest h.1 in
          let n : NamePart Slash (length bytes) bytes k.0 = slash_name_takes (length bytes) bytes k.0 k.1 in
          let g : GapTaken k.0.1 rest = gap_takes k.0.1 rest k.2 more in (
            Some (record { name = n.written; gap = g.0 }),
            (n.valid, n.begun, (g.1, stands n.written.quoted g.0 k.0.1 rest n.stands g.2)),
            two_parts bytes (print_name n.written) k.0.1 (print_blank g.0) rest n.parts g.2,
          )
      | inr h ↦ subst (AttachmentTaken bytes) (ok_is bytes rest h.1) (None, tt, refl)
    ]

-- ---- headers

pub record HeaderTaken (bytes : List ℕ) (x : List ℕ × List ℕ) : Type 0 where
  pub written : WrittenHeader
  pub valid : IsHeader written
  pub parts : bytes ≡ print_header written ++ (codes "{" ++ x.1)
  pub means : header_means written ≡ x.0

named_parts : (a k b g c n d h e t f z : List ℕ) → a ≡ k ++ b → b ≡ g ++ c → c ≡ n ++ d → d ≡ h ++ e → e ≡ t ++ f → f ≡ z →
    a ≡ (k ++ (g ++ (n ++ (h ++ t)))) ++ z
named_parts a k b g c n d h e t f z e1 e2 e3 e4 e5 e6 = rw (e1, e2, e3, e4, e5, e6) (simp append_assoc)

named_of : (bytes from : List ℕ) (name : List ℕ × List ℕ) (behind brace inside : List ℕ) → bytes ≡ codes "profile" ++ after_word bytes →
    GapTaken (after_word bytes) from → NamePart IsFirst 255 from name → GapTaken name.1 behind
    → AttachmentTaken behind brace → brace ≡ 123 ∷ inside → HeaderTaken bytes (name.0, inside)
named_of bytes from name behind brace inside start g n h t opened = record {
  written = named g.0 n.written h.0 t.0;
  valid = (
    g.1,
    record { cells = n.valid; some = n.some; fits = n.fits },
    n.begun,
    (
      h.1,
      stands n.written.quoted h.0 name.1
          behind n.stands h.2,
    ),
    t.1,
  );
  parts = named_parts bytes (codes "profile") (after_word bytes) (print_blank g.0) from (print_name n.written) name.1 (print_blank h.0)
      behind (print_attachment t.0) brace (123 ∷ inside) start g.2 n.parts h.2 t.2 opened;
  means = n.means;
}

behind_some : (behind brace inside : List ℕ) → AttachmentTaken behind brace → brace ≡ 123 ∷ inside → goes_on behind ≡ true
behind_some behind brace inside t opened = ap goes_on t.2 ∙ goes_behind (print_attachment t.0) brace (ap goes_on opened)

that_header : (bytes : List ℕ) (x y : List ℕ × List ℕ) → x ≡ y → HeaderTaken bytes x → HeaderTaken bytes y
that_header bytes x y e h = subst (HeaderTaken bytes) e h

named_header_takes : (bytes : List ℕ) (x : List ℕ × List ℕ) → bytes ≡ codes "profile" ++ after_word bytes → named_header_at bytes ≡ Ok x →
    HeaderTaken bytes x
unfolding named_header_at
named_header_takes bytes x start e =
    let R : Type 0 = Result (List ℕ × List ℕ) LocalFault in
    let s4 : List ℕ → List ℕ → R = λ name inside. Ok (name, inside) in
    let s3 : List ℕ → List ℕ → R = λ name brace. brace_at brace >>= s4 name in
    let s2 : List ℕ → List ℕ → R = λ name behind. attachment_at behind >>= s3 name in
    let s1 : List ℕ × List ℕ → R = λ name. gap name.1 >>= s2 name.0 in
    let s0 : List ℕ → R = λ from. name_at from >>= s1 in
    let a = bind_ok (gap (after_word bytes)) s0 x e in
    let b = bind_ok (name_at a.0) s1 x a.2 in
    let c = bind_ok (gap b.0.1) (s2 b.0.0) x b.2 in
    let d = bind_ok (attachment_at c.0) (s3 b.0.0) x c.2 in
    let f = bind_ok (brace_at d.0) (s4 b.0.0) x d.2 in
    let opened : d.0 ≡ 123 ∷ f.0 = brace_takes d.0 f.0 f.1 in
    let t : AttachmentTaken c.0 d.0 = attachment_takes c.0 d.0 d.1 (brace_some d.0 f.0 f.1) in
    that_header bytes (b.0.0, f.0) x (ok_is (b.0.0, f.0) x f.2)
    (named_of bytes a.0 b.0 c.0 d.0 f.0 start (gap_takes (after_word bytes) a.0 a.1 (name_some a.0 b.0 b.1)) (name_takes a.0 b.0 b.1)
    (gap_takes b.0.1 c.0 c.1 (behind_some c.0 d.0 f.0 t opened)) t opened)

by_path_of : (bytes : List ℕ) (name : List ℕ × List ℕ) (brace inside : List ℕ) → NamePart Slash 255 bytes name → GapTaken name.1 brace →
    brace ≡ 123 ∷ inside → HeaderTaken bytes (name.0, inside)
by_path_of bytes name brace inside n h opened = record {
  written = by_path n.written h.0;
  valid = (
    record { cells = n.valid; some = n.some; fits = n.fits },
    n.begun,
    (
      h.1,
      stands n.written.quoted h.0 name.1
          brace n.stands h.2,
    ),
  );
  parts = two_parts bytes (print_name n.written) name.1 (print_blank h.0) (123 ∷ inside) n.parts
      (h.2 ∙ ap (λ (y : List ℕ). print_blank h.0 ++ y) opened);
  means = n.means;
}

slash_header_takes : (bytes : List ℕ) (x : List ℕ × List ℕ) → slash_header_at bytes ≡ Ok x → HeaderTaken bytes x
unfolding slash_header_at
slash_header_takes bytes x e =
    let R : Type 0 = Result (List ℕ × List ℕ) LocalFault in
    let s2 : List ℕ → List ℕ → R = λ name inside. Ok (name, inside) in
    let s1 : List ℕ → List ℕ → R = λ name brace. brace_at brace >>= s2 name in
    let s0 : List ℕ × List ℕ → R = λ name. gap name.1 >>= s1 name.0 in
    let b = bind_ok (slash_name_at 255 bytes) s0 x e in
    let c = bind_ok (gap b.0.1) (s1 b.0.0) x b.2 in
    let f = bind_ok (brace_at c.0) (s2 b.0.0) x c.2 in
    let opened : c.0 ≡ 123 ∷ f.0 = brace_takes c.0 f.0 f.1 in
    that_header bytes (b.0.0, f.0) x (ok_is (b.0.0, f.0) x f.2)
    (by_path_of bytes b.0 c.0 f.0 (slash_name_takes 255 bytes b.0 b.1) (gap_takes b.0.1 c.0 c.1 (brace_some c.0 f.0 f.1)) opened)

pub header_takes : (bytes : List ℕ) (x : List ℕ × List ℕ) → header_at bytes ≡ Ok x → HeaderTaken bytes x
unfolding header_at
header_takes bytes x e =
    let R : Type 0 = Result (List ℕ × List ℕ) LocalFault in
    let no_word : R = cond (begins (λ b. b == 64) bytes) (fault_here (kinds.LeftOut 1) bytes) (syntax bytes) in
    let third : R = cond (length (word bytes) == 0) no_word (word_left_out bytes) in
    let second : R = cond (begins is_slash bytes || begins is_quote bytes) (slash_header_at bytes) third in
    elim (chosen (is_word (codes "profile") bytes) (named_header_at bytes) second (Ok x) e) [
      | inl h ↦ named_header_takes bytes x (is_word_takes (codes "profile") bytes (omega arith) h.0) h.1
      | inr h1 ↦ elim (chosen (begins is_slash bytes || begins is_quote bytes) (slash_header_at bytes) third (Ok x) h1.1) [
        | inl h ↦ slash_header_takes bytes x h.1
        | inr h2 ↦ elim (chosen (length (word bytes) == 0) no_word (word_left_out bytes) (Ok x) h2.1) [
          | inl h ↦ elim (chosen (begins (λ b. b == 64) bytes) (fault_here (kinds.LeftOut 1) bytes) (syntax bytes) (Ok x) h.1)
              [ inl m ↦ absurd (not_ok _ x m.1) | inr m ↦ absurd (not_ok _ x m.1) ]
          | inr h ↦ absurd (not_ok _ x h.1)
        ]
      ]
    ]

pub header_some : (bytes : List ℕ) (x : List ℕ × List ℕ) → header_at bytes ≡ Ok x → goes_on bytes ≡ true
header_some bytes x e =
    let t = header_takes bytes x e in
    ap goes_on t.parts ∙ goes_behind (print_header t.written) (codes "{" ++ x.1) refl
