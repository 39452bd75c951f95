-- Rules: what is read is in the grammar.
use Rattle.std.proofs.Common.{◌≡◌, ℕ, zero, suc, ◌≤◌, ◌<◌, Bool, true, false, cond, List, [], ◌∷◌, ◌++◌, length, drop, Option, Some, None}
use Rattle.std.proofs.Common.{Result, Ok, refl, sym, ap, subst, ◌∙◌, append_assoc, inl, inr, ◌==◌, arith, true≢false}
use Rattle.std.specs.Prelude.{◌||◌, codes, if◌then◌else◌}
use Rattle.std.specs.List.{list_all}
use Rattle.std.proofs.lemmas.Bool.{eqb-false}
use Rattle.std.proofs.lemmas.List.{length-append}
use Rattle.std.proofs.lemmas.Slice.Eq.{bytes_eq-Decides}
use Rattle.names.specs.declared.permissions.Perms.{Perms}
use Rattle.names.specs.Permissions.{perms_of, conflicts}
use Rattle.names.specs.declared.kind.RuleKind.{RuleKind}
use Rattle.names.specs.declared.kind.RuleKind.TheVariants.{Allow, Deny}
use Rattle.rule_reader.specs.declared.reader.local_fault.LocalFault.{LocalFault}
use Rattle.rule_reader.specs.declared.reader.local_fault.FaultKind.TheVariants as kinds
use Rattle.rule_globs.specs.Glob.{is_slash}
use Rattle.rule_reader.specs.Grammar.{Qualifier, none, allow, deny, print_qualifier, IsQualifier, kind_of, IsWord, WrittenRule, print_rule}
use Rattle.rule_reader.specs.Grammar.{CommaEnds, PathStands, BeginsNoAll, IsRule, rule_means, print_rules, AreRules, rules_mean}
use Rattle.rule_reader.specs.GrammarPaths.{WrittenPath, print_path, IsPath, path_means}
use Rattle.rule_reader.specs.GrammarWords.{Piece, print_blank, IsBlank, IsGap, Stands}
use Rattle.rule_profile.specs.Profile.{RuleValue}
use Rattle.rule_reader.specs.ReadPaths.{path_at, comma_ends}
use Rattle.rule_reader.specs.ReadSteps.{◌>>=◌, goes_on, fault_here, fault_with_left, syntax}
use Rattle.rule_reader.specs.ReadWords.{blank, gap, word, after_word, is_word, fault_of_word, word_left_out}
use Rattle.rule_reader.specs.ReadText.{is_mode, perms_at, perms_behind, first_word_at, qualifier_at, start_at, comma_at}
use Rattle.rule_reader.specs.ReadText.{body_at, rule_at, rule_begins, rules_at}
use Rattle.rule_reader.specs.TextBytes.{begins, is_quote, is_comma, is_close_brace, is_arrow}
use Rattle.rule_globs.specs.Tokens.{Token}
use Rattle.rule_reader.proofs.ReadSteps.{bind_ok, chosen, ok_is, not_ok, some_is, none_some}
use Rattle.rule_reader.proofs.TakeWords.{MiddleBlank, middle_blank, GapTaken, gap_takes, stands, begins_so, word_takes, is_word_takes}
use Rattle.rule_reader.proofs.TakePaths.{PathEnds, path_no_hash, comma_behind, PathTaken, path_takes, path_some}

-- ---- permissions

-- the letters here and their set, in which two may conflict
abbrev LettersTaken : List ℕ → Perms × List ℕ → Type 0
LettersTaken bytes x = (0 < length (word bytes)) × (perms_of (word bytes) ≡ Some x.0) × (bytes ≡ word bytes ++ x.1)

-- no two conflict
abbrev WordTaken : List ℕ → Perms × List ℕ → Type 0
WordTaken bytes x = IsWord (word bytes) x.0 × (bytes ≡ word bytes ++ x.1)

-- the word here, if it has a set
letters_so : (bytes : List ℕ) (perms : Perms) → (length (word bytes) == 0) ≡ false → perms_of (word bytes) ≡ Some perms →
    LettersTaken bytes (perms, after_word bytes)
letters_so bytes perms e h =
    let none_left : length (word bytes) ≡ 0 → ⊥ = eqb-false (length (word bytes)) 0 e in
    let some : 0 < length (word bytes) = omega arith in
    (some, h, word_takes bytes some)

word_so : (bytes : List ℕ) (x : Perms × List ℕ) → LettersTaken bytes x → conflicts x.0 ≡ false → WordTaken bytes x
word_so bytes x taken fine = ((taken.0, taken.1, fine), taken.2)

perms_take : (bytes : List ℕ) (x : Perms × List ℕ) → perms_at bytes ≡ Ok x → WordTaken bytes x
unfolding perms_at
perms_take bytes x e =
    let R : Type 0 = Result (Perms × List ℕ) LocalFault in
    let unknown : R = cond (list_all is_mode (word bytes)) (word_left_out bytes) (fault_of_word kinds.Permission bytes) in
    let conflict : R = fault_of_word kinds.Conflict bytes in
    let go : Option Perms → R = λ o. elim o [
      | Some perms ↦ cond (conflicts perms) conflict (Ok (perms, after_word bytes))
      | None ↦ unknown
    ] in
    let third : R = cond (length (word bytes) == 0) (syntax bytes) (go (perms_of (word bytes))) in
    let second : R = cond (is_arrow bytes) (fault_here (kinds.LeftOut 2) bytes) third in
    elim (chosen (begins is_comma bytes) (fault_here kinds.EmptyPermissions bytes) second (Ok x) e) [
      | inl h ↦ absurd (not_ok _ x h.1)
      | inr h1 ↦ elim (chosen (is_arrow bytes) (fault_here (kinds.LeftOut 2) bytes) third (Ok x) h1.1) [
        | inl h ↦ absurd (not_ok _ x h.1)
        | inr h2 ↦ elim (chosen (length (word bytes) == 0) (syntax bytes) (go (perms_of (word bytes))) (Ok x) h2.1) [
          | inl h ↦ absurd (not_ok _ x h.1)
          | inr h ↦
              let P : (o : Option Perms) → perms_of (word bytes) ≡ o → go o ≡ Ok x → WordTaken bytes x =
              λ o. elim o as (λ o. perms_of (word bytes) ≡ o → go o ≡ Ok x → WordTaken bytes x) [
                | Some perms ↦ λ a k. elim (chosen (conflicts perms) conflict (Ok (perms, after_word bytes)) (Ok x) k) [
                  | inl m ↦ absurd (not_ok _ x m.1)
                  | inr m ↦ subst (WordTaken bytes) (ok_is (perms, after_word bytes) x m.1)
                      (word_so bytes (perms, after_word bytes) (letters_so bytes perms h.0 a) m.0)
                ]
                | None ↦ λ a k. elim (chosen (list_all is_mode (word bytes)) (word_left_out bytes) (fault_of_word kinds.Permission bytes)
                    (Ok x) k) [ inl m ↦ absurd (not_ok _ x m.1) | inr m ↦ absurd (not_ok _ x m.1) ]
              ] in
              P (perms_of (word bytes)) refl h.1
        ]
      ]
    ]

perms_some : (bytes : List ℕ) (x : Perms × List ℕ) → perms_at bytes ≡ Ok x → goes_on bytes ≡ true
unfolding perms_at
perms_some [] x e = absurd (not_ok _ x e)
perms_some (b ∷ bytes) x e = refl

-- the gap and the permissions directly after a path
abbrev BehindTaken : List ℕ → Perms × List ℕ → Type 0
BehindTaken bytes x = (from : List ℕ) × GapTaken bytes from × WordTaken from x

perms_behind_take : (bytes : List ℕ) (x : Perms × List ℕ) → perms_behind bytes ≡ Ok x → BehindTaken bytes x
unfolding perms_behind
perms_behind_take bytes x e =
    elim (chosen (begins is_comma bytes) (fault_with_left kinds.EmptyPermissions (length bytes) (drop 1 bytes))
    (gap bytes >>= perms_at) (Ok x) e) [
      | inl h ↦ absurd (not_ok _ x h.1)
      | inr h ↦ let k = bind_ok (gap bytes) perms_at x h.1 in (k.0, gap_takes bytes k.0 k.1 (perms_some k.0 x k.2), perms_take k.0 x k.2)
    ]

-- ---- what a rule begins with

abbrev qualifier_word : RuleKind → List ℕ
qualifier_word Allow = codes "allow"
qualifier_word Deny = codes "deny"

-- the word of a qualifier, or another one than all
abbrev FirstTaken : List ℕ → Option (RuleKind × List ℕ) → Type 0
FirstTaken bytes (Some x) = bytes ≡ qualifier_word x.0 ++ x.1
FirstTaken bytes None = is_word (codes "all") bytes ≡ false

first_takes : (bytes : List ℕ) (o : Option (RuleKind × List ℕ)) → first_word_at bytes ≡ Ok o → FirstTaken bytes o
unfolding first_word_at
first_takes bytes o e =
    let R : Type 0 = Result (Option (RuleKind × List ℕ)) LocalFault in
    let allowed : Option (RuleKind × List ℕ) = Some (Allow, after_word bytes) in
    let denied : Option (RuleKind × List ℕ) = Some (Deny, after_word bytes) in
    let third : R = cond (is_word (codes "all") bytes) (word_left_out bytes) (Ok None) in
    let second : R = cond (is_word (codes "deny") bytes) (Ok denied) third in
    elim (chosen (is_word (codes "allow") bytes) (Ok allowed) second (Ok o) e) [
      | inl h ↦ subst (FirstTaken bytes) (ok_is allowed o h.1) (is_word_takes (codes "allow") bytes (omega arith) h.0)
      | inr h1 ↦ elim (chosen (is_word (codes "deny") bytes) (Ok denied) third (Ok o) h1.1) [
        | inl h ↦ subst (FirstTaken bytes) (ok_is denied o h.1) (is_word_takes (codes "deny") bytes (omega arith) h.0)
        | inr h2 ↦ elim (chosen (is_word (codes "all") bytes) (word_left_out bytes) (Ok None) (Ok o) h2.1) [
          | inl h ↦ absurd (not_ok _ o h.1)
          | inr h ↦ subst (FirstTaken bytes) (ok_is None o h.1) h.0
        ]
      ]
    ]

-- a rule without qualifier doesn't begin with the word all
abbrev NoAllHere : Qualifier → List ℕ → Type 0
NoAllHere none bytes = is_word (codes "all") bytes ≡ false
NoAllHere (allow gap) bytes = Unit {0}
NoAllHere (deny gap) bytes = Unit {0}

abbrev QualifierTaken : List ℕ → RuleKind × List ℕ → Type 0
QualifierTaken bytes x =
    (w : Qualifier) × IsQualifier w × (bytes ≡ print_qualifier w ++ x.1) × (kind_of w ≡ x.0) × NoAllHere w x.1

two_parts : (a w b g c : List ℕ) → a ≡ w ++ b → b ≡ g ++ c → a ≡ (w ++ g) ++ c
two_parts a w b g c e1 e2 = rw (e1, e2) (simp append_assoc)

-- a qualifier and the gap after it
with_gap : (kind : RuleKind) (bytes past from : List ℕ) → bytes ≡ qualifier_word kind ++ past → GapTaken past from →
    QualifierTaken bytes (kind, from)
with_gap Allow bytes past from e g = (allow g.0, g.1, two_parts bytes (codes "allow") past (print_blank g.0) from e g.2, refl, tt)
with_gap Deny bytes past from e g = (deny g.0, g.1, two_parts bytes (codes "deny") past (print_blank g.0) from e g.2, refl, tt)

qualifier_takes : (bytes : List ℕ) (x : RuleKind × List ℕ) → qualifier_at bytes ≡ Ok x → goes_on x.1 ≡ true → QualifierTaken bytes x
unfolding qualifier_at
qualifier_takes bytes x e more =
    let R : Type 0 = Result (RuleKind × List ℕ) LocalFault in
    let put : RuleKind → List ℕ → R = λ kind from. Ok (kind, from) in
    let go : Option (RuleKind × List ℕ) → R = λ first. elim first [ Some q ↦ gap q.1 >>= put q.0 | None ↦ Ok (Allow, bytes) ] in
    let k = bind_ok (first_word_at bytes) go x e in
    let P : (o : Option (RuleKind × List ℕ)) → FirstTaken bytes o → go o ≡ Ok x → QualifierTaken bytes x =
    λ o. elim o as (λ o. FirstTaken bytes o → go o ≡ Ok x → QualifierTaken bytes x) [
      | None ↦ λ other h. subst (QualifierTaken bytes) (ok_is (Allow, bytes) x h) (none, tt, refl, refl, other)
      | Some q ↦ λ parts h.
          let g = bind_ok (gap q.1) (put q.0) x h in
          let same : (q.0, g.0) ≡ x = ok_is (q.0, g.0) x g.2 in
          let taken = gap_takes q.1 g.0 g.1 (ap (λ (y : RuleKind × List ℕ). goes_on y.1) same ∙ more) in
          subst (QualifierTaken bytes) same (with_gap q.0 bytes q.1 g.0 parts taken)
    ] in
    P k.0 (first_takes bytes k.0 k.1) k.2

-- the permissions before a path, of which two may conflict
start_takes : (bytes : List ℕ) (x : Perms × List ℕ) → start_at bytes ≡ Ok (Some x) → LettersTaken bytes x
unfolding start_at
start_takes bytes x e =
    let R : Type 0 = Result (Option (Perms × List ℕ)) LocalFault in
    let go : Option Perms → R = λ o. elim o [ Some perms ↦ Ok (Some (perms, after_word bytes)) | None ↦ word_left_out bytes ] in
    let no_word : R = cond (begins (λ b. b == 64 || b == 94 || b == 36) bytes) (fault_here (kinds.LeftOut 1) bytes) (syntax bytes) in
    let second : R = cond (length (word bytes) == 0) no_word (go (perms_of (word bytes))) in
    elim (chosen (begins is_slash bytes || begins is_quote bytes) (Ok None) second (Ok (Some x)) e) [
      | inl h ↦ absurd (none_some x (ok_is None (Some x) h.1))
      | inr h1 ↦ elim (chosen (length (word bytes) == 0) no_word (go (perms_of (word bytes))) (Ok (Some x)) h1.1) [
        | inl h ↦ elim (chosen (begins (λ b. b == 64 || b == 94 || b == 36) bytes) (fault_here (kinds.LeftOut 1) bytes) (syntax bytes)
            (Ok (Some x)) h.1) [ inl m ↦ absurd (not_ok _ (Some x) m.1) | inr m ↦ absurd (not_ok _ (Some x) m.1) ]
        | inr h ↦
            let P : (o : Option Perms) → perms_of (word bytes) ≡ o → go o ≡ Ok (Some x) → LettersTaken bytes x =
            λ o. elim o as (λ o. perms_of (word bytes) ≡ o → go o ≡ Ok (Some x) → LettersTaken bytes x) [
              | Some perms ↦ λ a k. subst (LettersTaken bytes)
                  (some_is (perms, after_word bytes) x (ok_is (Some (perms, after_word bytes)) (Some x) k)) (letters_so bytes perms h.0 a)
              | None ↦ λ a k. absurd (not_ok _ (Some x) k)
            ] in
            P (perms_of (word bytes)) refl h.1
      ]
    ]

-- ---- path and permissions

-- what follows the path, if it is first and if it is last
abbrev BodyStands : Bool → Bool → List Piece → List ℕ → Type 0
BodyStands true quoted gap rest = Stands quoted gap
BodyStands false quoted gap rest = PathEnds quoted rest

-- if the path is last, the letters are the first word
abbrev BodyBegins : Bool → List ℕ → List ℕ → Type 0
BodyBegins true letters bytes = Unit {0}
BodyBegins false letters bytes = letters ≡ word bytes

record BodyTaken (bytes : List ℕ) (x : (Perms × List Token) × List ℕ) : Type 0 where
  path_first : Bool
  path : WrittenPath
  between : List Piece
  letters : List ℕ
  is_path : IsPath path
  is_gap : IsGap between
  is_word : IsWord letters x.0.0
  begins_so : BodyBegins path_first letters bytes
  means : path_means path ≡ x.0.1
  parts : bytes ≡ (if path_first then print_path path ++ (print_blank between ++ letters) else letters
      ++ (print_blank between ++ print_path path)) ++ x.1
  stands : BodyStands path_first path.quoted between x.1

three_parts : (a p b g c w d : List ℕ) → a ≡ p ++ b → b ≡ g ++ c → c ≡ w ++ d → a ≡ (p ++ (g ++ w)) ++ d
three_parts a p b g c w d e1 e2 e3 = rw (e1, e2, e3) (simp append_assoc)

path_is_first : (bytes : List ℕ) (path : List Token × List ℕ) (perms : Perms × List ℕ) → PathTaken bytes path → BehindTaken path.1 perms →
    BodyTaken bytes ((perms.0, path.0), perms.1)
path_is_first bytes path perms p h =
    let g : GapTaken path.1 h.0 = h.1 in
    let w : WordTaken h.0 perms = h.2 in
    record {
      path_first = true;
      path = p.written;
      between = g.0;
      letters = word h.0;
      is_path = p.valid;
      is_gap = g.1;
      is_word = w.0;
      begins_so = tt;
      means = p.means;
      parts = three_parts bytes (print_path p.written) path.1 (print_blank g.0) h.0 (word h.0) perms.1 p.parts g.2 w.1;
      stands = stands p.written.quoted g.0 path.1 h.0 (path_no_hash p.written.quoted path.1 p.ends) g.2;
    }

path_is_last : (bytes : List ℕ) (perms : Perms × List ℕ) (from : List ℕ) (path : List Token × List ℕ) → WordTaken bytes perms →
    GapTaken perms.1 from → PathTaken from path → BodyTaken bytes ((perms.0, path.0), path.1)
path_is_last bytes perms from path w g p = record {
  path_first = false;
  path = p.written;
  between = g.0;
  letters = word bytes;
  is_path = p.valid;
  is_gap = g.1;
  is_word = w.0;
  begins_so = refl;
  means = p.means;
  parts = three_parts bytes (word bytes) perms.1 (print_blank g.0) from (print_path p.written) path.1 w.1 g.2 p.parts;
  stands = p.ends;
}

body_takes : (bytes : List ℕ) (x : (Perms × List Token) × List ℕ) → body_at bytes ≡ Ok x → BodyTaken bytes x
unfolding body_at
body_takes bytes x e =
    let R : Type 0 = Result ((Perms × List Token) × List ℕ) LocalFault in
    let put_first : List Token × List ℕ → Perms × List ℕ → R = λ path perms. Ok ((perms.0, path.0), perms.1) in
    let put_last : Perms × List ℕ → List Token × List ℕ → R = λ perms path. Ok ((perms.0, path.0), path.1) in
    let conflict : Perms × List ℕ → R = λ perms. fault_with_left kinds.Conflict (length bytes) perms.1 in
    let go : Option (Perms × List ℕ) → R = λ start. elim start [
      | None ↦ path_at bytes >>= λ path. perms_behind path.1 >>= put_first path
      | Some perms ↦ cond (conflicts perms.0) (conflict perms) (gap perms.1 >>= λ from. path_at from >>= put_last perms)
    ] in
    let k = bind_ok (start_at bytes) go x e in
    let P : (start : Option (Perms × List ℕ)) → start_at bytes ≡ Ok start → go start ≡ Ok x → BodyTaken bytes x =
    λ start. elim start as (λ start. start_at bytes ≡ Ok start → go start ≡ Ok x → BodyTaken bytes x) [
      | None ↦ λ a h.
          let p = bind_ok (path_at bytes) (λ path. perms_behind path.1 >>= put_first path) x h in
          let w = bind_ok (perms_behind p.0.1) (put_first p.0) x p.2 in
          subst (BodyTaken bytes) (ok_is ((w.0.0, p.0.0), w.0.1) x w.2) (path_is_first bytes p.0 w.0 (path_takes bytes p.0 p.1)
          (perms_behind_take p.0.1 w.0 w.1))
      | Some perms ↦ λ a h. elim (chosen (conflicts perms.0) (conflict perms)
          (gap perms.1 >>= λ from. path_at from >>= put_last perms) (Ok x) h) [
            | inl m ↦ absurd (not_ok _ x m.1)
            | inr m ↦
                let g = bind_ok (gap perms.1) (λ from. path_at from >>= put_last perms) x m.1 in
                let p = bind_ok (path_at g.0) (put_last perms) x g.2 in
                let w = word_so bytes perms (start_takes bytes perms a) m.0 in
                subst (BodyTaken bytes) (ok_is ((perms.0, p.0.0), p.0.1) x p.2)
                (path_is_last bytes perms g.0 p.0 w (gap_takes perms.1 g.0 g.1 (path_some g.0 p.0 p.1)) (path_takes g.0 p.0 p.1))
          ]
    ] in
    P k.0 k.1 k.2

body_some : (bytes : List ℕ) (x : (Perms × List Token) × List ℕ) → body_at bytes ≡ Ok x → goes_on bytes ≡ true
unfolding body_at start_at
body_some [] x e = absurd (not_ok _ x e)
body_some (b ∷ bytes) x e = refl

-- ---- the comma

comma_takes : (bytes rest : List ℕ) → comma_at bytes ≡ Ok rest → MiddleBlank bytes (44 ∷ rest)
unfolding comma_at
comma_takes bytes rest e =
    let R : Type 0 = Result (List ℕ) LocalFault in
    let go : List ℕ → R = λ at. cond (begins is_comma at) (Ok (drop 1 at))
    (cond (is_arrow at) (fault_here (kinds.LeftOut 2) at) (syntax at)) in
    let k = bind_ok (blank bytes) go rest e in
    elim (chosen (begins is_comma k.0) (Ok (drop 1 k.0)) (cond (is_arrow k.0) (fault_here (kinds.LeftOut 2) k.0) (syntax k.0))
    (Ok rest) k.2) [
      | inl h ↦
          let same : k.0 ≡ 44 ∷ rest = begins_so 44 k.0 h.0 ∙ ap (λ (x : List ℕ). 44 ∷ x) (ok_is (drop 1 k.0) rest h.1) in
          subst (MiddleBlank bytes) same (middle_blank bytes k.0 k.1 (ap goes_on same))
      | inr h ↦ elim (chosen (is_arrow k.0) (fault_here (kinds.LeftOut 2) k.0) (syntax k.0) (Ok rest) h.1)
          [ inl m ↦ absurd (not_ok _ rest m.1) | inr m ↦ absurd (not_ok _ rest m.1) ]
    ]

-- directly after a bare path the comma ends it
comma_stands : (pieces : List Piece) (quoted : Bool) (bytes rest behind others : List ℕ) → PathEnds quoted bytes →
    bytes ≡ print_blank pieces ++ (44 ∷ rest) → rest ≡ behind ++ others → goes_on behind ≡ true → CommaEnds pieces quoted behind
comma_stands (p ∷ pieces) quoted bytes rest behind others ends e1 e2 more = tt
comma_stands [] true bytes rest behind others ends e1 e2 more = tt
comma_stands [] false bytes rest [] others ends e1 e2 more = absurd cc
comma_stands [] false bytes rest (b ∷ behind) others ends e1 e2 more =
    ap comma_ends (sym e2) ∙ comma_behind rest (subst (λ (x : List ℕ). PathEnds false x) e1 ends)

-- ---- a rule

-- the rule and the blank after it; `tail` is what follows that, up to the closing brace
pub record OneRule (bytes : List ℕ) (r : RuleValue) (from tail : List ℕ) : Type 0 where
  pub written : WrittenRule
  pub valid : IsRule (print_blank written.past ++ tail) written
  pub parts : bytes ≡ print_rule written ++ (print_blank written.past ++ from)
  pub means : rule_means written ≡ r

abbrev value_of : RuleKind → (Perms × List Token) × List ℕ → RuleValue
value_of kind body = record { kind = kind; perms = body.0.0; items = body.0.1 }

path_stands : (path_first : Bool) (r : WrittenRule) (bytes rest behind others : List ℕ) → BodyStands path_first r.path.quoted r.gap bytes →
    bytes ≡ print_blank r.before_comma ++ (44 ∷ rest) → rest ≡ behind ++ others → goes_on behind ≡ true
    → PathStands path_first r behind
path_stands true r bytes rest behind others h e1 e2 more = h
path_stands false r bytes rest behind others h e1 e2 more = (
  stands r.path.quoted r.before_comma bytes (44 ∷ rest) (path_no_hash r.path.quoted bytes h) e1,
  comma_stands r.before_comma
      r.path.quoted bytes rest behind others h e1 e2 more,
)

begins_no_all : (q : Qualifier) (path_first : Bool) (letters bytes : List ℕ) → NoAllHere q bytes → BodyBegins path_first letters bytes →
    BeginsNoAll q path_first letters
begins_no_all none true letters bytes other same = tt
begins_no_all none false letters bytes other same = λ is.
    true≢false (sym ((bytes_eq-Decides (word bytes) (codes "all")).1 (sym same ∙ is)) ∙ other)
begins_no_all (allow gap) path_first letters bytes other same = tt
begins_no_all (deny gap) path_first letters bytes other same = tt

pub goes_behind : (pieces tail : List ℕ) → goes_on tail ≡ true → goes_on (pieces ++ tail) ≡ true
goes_behind [] tail h = h
goes_behind (b ∷ pieces) tail h = refl

four_parts : (a q b p c w d z : List ℕ) → a ≡ q ++ b → b ≡ p ++ c → c ≡ w ++ (44 ∷ d) → d ≡ z → a ≡ (q ++ (p ++ (w ++ codes ","))) ++ z
four_parts a q b p c w d z e1 e2 e3 e4 = rw (e1, e2, e3, e4) (simp append_assoc)

whole_rule : (bytes : List ℕ) (kind : RuleKind × List ℕ) (body : (Perms × List Token) × List ℕ) (rest : List ℕ) (past : List Piece)
    (from tail others : List ℕ) → QualifierTaken bytes kind → BodyTaken kind.1 body → MiddleBlank body.1 (44 ∷ rest)
    → IsBlank past → rest ≡ print_blank past ++ from → from ≡ tail ++ others → goes_on tail ≡ true →
    OneRule bytes (value_of kind.0 body) from tail
whole_rule bytes kind body rest past from tail others q b c is_past e1 e2 more =
    let behind : List ℕ = print_blank past ++ tail in
    let there : rest ≡ behind ++ others = e1 ∙ ap (λ (x : List ℕ). print_blank past ++ x) e2
    ∙ sym (append_assoc (print_blank past) tail others) in
    let w : WrittenRule = record {
      qualifier = q.0;
      path_first = b.path_first;
      path = b.path;
      gap = b.between;
      letters = b.letters;
      perms =
          body.0.0;
      before_comma = c.0;
      past = past;
    } in
    record {
      written = w;
      valid = record {
        qualifier = q.1;
        path = b.is_path;
        gap = b.is_gap;
        word = b.is_word;
        first_word = begins_no_all q.0 b.path_first b.letters kind.1 q.4 b.begins_so;
        before_comma = c.1;
        past = is_past;
        stands = path_stands b.path_first w body.1 rest behind others b.stands c.2 there (goes_behind (print_blank past) tail more);
      };
      parts = four_parts bytes (print_qualifier q.0) kind.1 (if b.path_first then print_path b.path ++ (print_blank b.between ++ b.letters)
          else b.letters ++ (print_blank b.between ++ print_path b.path)) body.1 (print_blank c.0) rest (print_blank past ++ from)
          q.2 b.parts c.2 e1;
      means = (let x = q.3 in let y = b.means in cc);
    }

that_rule : (bytes : List ℕ) (x y : RuleValue × List ℕ) (past : List Piece) (from tail : List ℕ) → x ≡ y →
    (x.1 ≡ print_blank past ++ from → OneRule bytes x.0 from tail) → y.1 ≡ print_blank past ++ from → OneRule bytes y.0 from tail
that_rule bytes x y past from tail e h = subst (λ (z : RuleValue × List ℕ). z.1 ≡ print_blank past ++ from →
    OneRule bytes z.0 from tail) e h

rule_takes : (bytes : List ℕ) (x : RuleValue × List ℕ) (past : List Piece) (from tail others : List ℕ) → rule_at bytes ≡ Ok x →
    IsBlank past → x.1 ≡ print_blank past ++ from → from ≡ tail ++ others → goes_on tail ≡ true → OneRule bytes x.0 from tail
unfolding rule_at
rule_takes bytes x past from tail others e is_past e1 e2 more =
    let R : Type 0 = Result (RuleValue × List ℕ) LocalFault in
    let put : RuleKind → (Perms × List Token) × List ℕ → List ℕ → R = λ kind body past. Ok (value_of kind body, past) in
    let second : RuleKind → (Perms × List Token) × List ℕ → R = λ kind body. comma_at body.1 >>= put kind body in
    let first : RuleKind × List ℕ → R = λ kind. body_at kind.1 >>= second kind.0 in
    let q = bind_ok (qualifier_at bytes) first x e in
    let b = bind_ok (body_at q.0.1) (second q.0.0) x q.2 in
    let c = bind_ok (comma_at b.0.1) (put q.0.0 b.0) x b.2 in
    that_rule bytes (value_of q.0.0 b.0, c.0) x past from tail (ok_is (value_of q.0.0 b.0, c.0) x c.2)
    (λ e1. whole_rule bytes q.0 b.0 c.0 past from tail others (qualifier_takes bytes q.0 q.1 (body_some q.0.1 b.0 b.1))
    (body_takes q.0.1 b.0 b.1) (comma_takes b.0.1 c.0 c.1) is_past e1 e2 more) e1

some_parts : (q p w : List ℕ) → 0 < length (q ++ (p ++ (w ++ codes ",")))
some_parts q p w = omega (arith, length-append q (p ++ (w ++ codes ",")), length-append p (w ++ codes ","), length-append w (codes ","))

-- these are left after some bytes
abbrev pub IsBehind : List ℕ → List ℕ → Type 0
IsBehind bytes rest = (front : List ℕ) × (0 < length front) × (bytes ≡ front ++ rest)

behind_that : (bytes : List ℕ) (x y : RuleValue × List ℕ) → x ≡ y → IsBehind bytes x.1 → IsBehind bytes y.1
behind_that bytes x y e h = subst (λ (z : RuleValue × List ℕ). IsBehind bytes z.1) e h

-- a rule takes some bytes
pub rule_ends : (bytes : List ℕ) (x : RuleValue × List ℕ) → rule_at bytes ≡ Ok x → IsBehind bytes x.1
unfolding rule_at
rule_ends bytes x e =
    let R : Type 0 = Result (RuleValue × List ℕ) LocalFault in
    let put : RuleKind → (Perms × List Token) × List ℕ → List ℕ → R = λ kind body past. Ok (value_of kind body, past) in
    let second : RuleKind → (Perms × List Token) × List ℕ → R = λ kind body. comma_at body.1 >>= put kind body in
    let first : RuleKind × List ℕ → R = λ kind. body_at kind.1 >>= second kind.0 in
    let q = bind_ok (qualifier_at bytes) first x e in
    let b = bind_ok (body_at q.0.1) (second q.0.0) x q.2 in
    let c = bind_ok (comma_at b.0.1) (put q.0.0 b.0) x b.2 in
    let w = qualifier_takes bytes q.0 q.1 (body_some q.0.1 b.0 b.1) in
    let p = body_takes q.0.1 b.0 b.1 in
    let k = comma_takes b.0.1 c.0 c.1 in
    let inner : List ℕ = if p.path_first then print_path p.path ++ (print_blank p.between ++ p.letters) else p.letters
    ++ (print_blank p.between ++ print_path p.path) in
    behind_that bytes (value_of q.0.0 b.0, c.0) x (ok_is (value_of q.0.0 b.0, c.0) x c.2) (
      print_qualifier w.0 ++ (inner ++ (print_blank k.0 ++ codes ",")),
      some_parts (print_qualifier w.0) inner (print_blank k.0),
      four_parts bytes (print_qualifier w.0) q.0.1 inner b.0.1 (print_blank k.0) c.0 c.0 w.2 p.parts k.2 (refl {a = c.0}),
    )

-- ---- rules are in the grammar

pub record RulesTaken (room : ℕ) (bytes : List ℕ) (x : List RuleValue × List ℕ) : Type 0 where
  pub written : List WrittenRule
  pub valid : AreRules written
  pub parts : bytes ≡ print_rules written ++ (codes "}" ++ x.1)
  pub means : rules_mean written ≡ x.0
  pub few : length written ≤ room

abbrev done : List RuleValue × List ℕ → Result (List RuleValue × List ℕ) LocalFault
done x = Ok x

no_rules : (room : ℕ) (bytes : List ℕ) (x : List RuleValue × List ℕ) → begins is_close_brace bytes ≡ true → done ([], drop 1 bytes)
    ≡ Ok x → RulesTaken room bytes x
no_rules room bytes x h e = subst (RulesTaken room bytes) (ok_is ([], drop 1 bytes) x e)
    (record { written = []; valid = tt; parts = begins_so 125 bytes h; means = refl; few = omega arith })

next : (a r x b y z : List ℕ) → a ≡ r ++ (x ++ b) → b ≡ y ++ z → a ≡ (r ++ (x ++ y)) ++ z
next a r x b y z e1 e2 = rw (e1, e2) (simp append_assoc)

more_rules : (room : ℕ) (bytes : List ℕ) (first : RuleValue × List ℕ) (from : List ℕ) (others : List RuleValue × List ℕ) → rule_at bytes
    ≡ Ok first → blank first.1 ≡ Ok from → RulesTaken room from others → RulesTaken (suc room) bytes (first.0 ∷ others.0, others.1)
more_rules room bytes first from others e1 e2 more =
    let tail : List ℕ = print_rules more.written ++ codes "}" in
    let there : from ≡ tail ++ others.1 = more.parts ∙ sym (append_assoc (print_rules more.written) (codes "}") others.1) in
    let some : goes_on from ≡ true = ap goes_on more.parts ∙ goes_behind (print_rules more.written) (codes "}" ++ others.1) refl in
    let p : MiddleBlank first.1 from = middle_blank first.1 from e2 some in
    let r : OneRule bytes first.0 from tail = rule_takes bytes first p.0 from tail others.1 e1 p.1 p.2 there
    (goes_behind (print_rules more.written) (codes "}") refl) in
    record {
      written = r.written ∷ more.written;
      valid = (r.valid, more.valid);
      parts = next bytes (print_rule r.written) (print_blank r.written.past) from (print_rules more.written) (codes "}" ++ others.1)
          r.parts more.parts;
      means = (let p = r.means in let q = more.means in cc);
      few = omega (arith, more.few);
    }

that_rules : (room : ℕ) (bytes : List ℕ) (first : RuleValue) (others x : List RuleValue × List ℕ) → done (first ∷ others.0, others.1)
    ≡ Ok x → RulesTaken room bytes (first ∷ others.0, others.1) → RulesTaken room bytes x
that_rules room bytes first others x e h = subst (RulesTaken room bytes) (ok_is (first ∷ others.0, others.1) x e) h

pub rules_take : (room : ℕ) (bytes : List ℕ) (x : List RuleValue × List ℕ) → rules_at room bytes ≡ Ok x → RulesTaken room bytes x
unfolding rules_at
rules_take zero bytes x e =
    elim (chosen (begins is_close_brace bytes) (Ok ([], drop 1 bytes)) (rule_begins bytes >>= λ _. fault_here kinds.TooManyRules bytes)
    (Ok x) e) [
      | inl h ↦ no_rules zero bytes x h.0 h.1
      | inr h ↦ let k = bind_ok (rule_begins bytes) (λ _. fault_here kinds.TooManyRules bytes) x h.1 in absurd (not_ok _ x k.2)
    ]
rules_take (suc room) bytes x e =
    let R : Type 0 = Result (List RuleValue × List ℕ) LocalFault in
    let cons : RuleValue → List RuleValue × List ℕ → R = λ r others. Ok (r ∷ others.0, others.1) in
    let put : RuleValue × List ℕ → R = λ first. blank first.1 >>= λ from. rules_at room from >>= cons first.0 in
    elim (chosen (begins is_close_brace bytes) (Ok ([], drop 1 bytes)) (rule_at bytes >>= put) (Ok x) e) [
      | inl h ↦ no_rules (suc room) bytes x h.0 h.1
      | inr h ↦
          let f = bind_ok (rule_at bytes) put x h.1 in
          let g = bind_ok (blank f.0.1) (λ from. rules_at room from >>= cons f.0.0) x f.2 in
          let m = bind_ok (rules_at room g.0) (cons f.0.0) x g.2 in
          that_rules (suc room) bytes f.0.0 m.0 x m.2 (more_rules room bytes f.0 g.0 m.0 f.1 g.1 (rules_take room g.0 m.0 m.1))
    ]

pub rules_some : (room : ℕ) (bytes : List ℕ) (x : List RuleValue × List ℕ) → rules_at room bytes ≡ Ok x → goes_on bytes ≡ true
rules_some room bytes x e =
    let t = rules_take room bytes x e in
    ap goes_on t.parts ∙ goes_behind (print_rules t.written) (codes "}" ++ x.1) refl
