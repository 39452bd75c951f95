-- Rules that are written are read back.
use Rattle.std.proofs.Common.{◌≡◌, ◌≢◌, ℕ, zero, suc, ◌≤◌, Bool, true, false, eqb, List, [], ◌∷◌, ◌++◌, length, Some, None, Ok, refl}
use Rattle.std.proofs.Common.{sym, ap, subst, ◌∙◌, append_assoc, inl, inr, ◌==◌, arith, rules}
use Rattle.std.specs.Prelude.{◌||◌, codes, if◌then◌else◌}
use Rattle.std.specs.List.{list_all, list_any}
use Rattle.std.specs.Str.{bytes_eq}
use Rattle.std.proofs.lemmas.Bool.{or_right, and_parts, eqb-true, ne_eqb, false_from_ne_true}
use Rattle.std.proofs.lemmas.Slice.Eq.{bytes_eq-Decides}
use Rattle.names.specs.declared.permissions.Permission.{Permission}
use Rattle.names.specs.declared.permissions.Perms.{Perms}
use Rattle.names.specs.Permissions.{is_letter, perms_of, set_of, letter, conflicts}
use Rattle.names.specs.declared.kind.RuleKind.{RuleKind}
use Rattle.names.specs.declared.kind.RuleKind.TheVariants.{Allow, Deny}
use Rattle.rule_globs.specs.Glob.{is_slash}
use Rattle.rule_profile.specs.Profile.{RuleValue}
use Rattle.rule_reader.specs.ReadWords.{blank, gap, word, after_word}
use Rattle.rule_reader.specs.ReadPaths.{comma_ends, path_at}
use Rattle.rule_reader.specs.ReadText.{perms_at, perms_behind, first_word_at, qualifier_at, start_at, comma_at, body_at}
use Rattle.rule_reader.specs.ReadText.{rule_at, rules_at}
use Rattle.rule_reader.specs.TextBytes.{begins, opens_blank, is_quote, is_comma, is_arrow, is_close_brace, is_letter_byte, is_word_byte}
use Rattle.rule_reader.specs.TextBytes.{ends_behind_comma}
use Rattle.rule_globs.specs.Tokens.{Token}
use Rattle.rule_reader.specs.GrammarWords.{Piece, white, comment, print_blank, IsBlank, IsGap, Stands}
use Rattle.rule_reader.specs.GrammarPaths.{WrittenPath, print_path, IsPath, path_means}
use Rattle.rule_reader.specs.Grammar.{Qualifier, none, allow, deny, print_qualifier, IsQualifier, kind_of, IsWord, WrittenRule, print_body}
use Rattle.rule_reader.specs.Grammar.{print_rule, CommaEnds, PathStands, BeginsNoAll, IsRule, rule_means, print_rules, behind_rule}
use Rattle.rule_reader.specs.Grammar.{AreRules, rules_mean}
use Rattle.names.specs.laws.PermissionSets.{one_found}
use Rattle.rule_reader.proofs.ReadSteps.{chosen, none_some}
use Rattle.rule_reader.specs.laws.ReadRuns.{Passes}
use Rattle.rule_reader.proofs.AgainWords.{blank_again, gap_again, gap_stops, word_again, after_word_again}
use Rattle.rule_reader.proofs.AgainPaths.{PathEnds, path_again, path_begins}

-- ---- letters of permissions

-- each letter answers a test so
abbrev LettersAre : (ℕ → Bool) → Bool → Type 0
LettersAre test v = (p : Permission) → test (letter p) ≡ v

letter_is : (test : ℕ → Bool) (v : Bool) (b : ℕ) → LettersAre test v → is_letter b ≡ true → test b ≡ v
letter_is test v b each h =
    let one = one_found (λ p. letter p == b) h in
    subst (λ (x : ℕ). test x ≡ v) (eqb-true (letter one.0) b one.1) (each one.0)

-- letters are bytes of words, and begin nothing else
word_bytes : LettersAre is_word_byte true
word_bytes = search (rules, arith)

letter_bytes : LettersAre is_letter_byte true
letter_bytes = search (rules, arith)

no_commas : LettersAre is_comma false
no_commas = search (rules, arith)

no_dashes : LettersAre (λ x. 45 == x) false
no_dashes = search (rules, arith)

no_blanks : LettersAre opens_blank false
no_blanks = search (rules, arith)

no_paths : LettersAre (λ b. is_slash b || is_quote b) false
no_paths = search (rules, arith)

no_braces : LettersAre is_close_brace false
no_braces = search (rules, arith)

all_letters : (letters : List ℕ) (perms : Perms) → perms_of letters ≡ Some perms → list_all is_letter letters ≡ true
all_letters letters perms e =
    elim (chosen (list_all is_letter letters) (Some (set_of (λ p. list_any (λ b. letter p == b) letters))) None (Some perms) e) [
      | inl h ↦ h.0
      | inr h ↦ absurd (none_some perms h.1)
    ]

letters_pass : (letters : List ℕ) → list_all is_letter letters ≡ true → Passes is_word_byte letters
letters_pass [] h = tt
letters_pass (b ∷ letters) h =
    let p = and_parts (is_letter b) (list_all is_letter letters) h in
    (letter_is is_word_byte true b word_bytes p.0, letters_pass letters p.1)

-- the first letter of a word answers a test as each letter does
letters_begin : (test : ℕ → Bool) (v : Bool) (letters : List ℕ) (perms : Perms) (rest : List ℕ) → LettersAre test v →
    IsWord letters perms → begins test (letters ++ rest) ≡ v
letters_begin test v [] perms rest each h = absurd (omega (arith, h.0))
letters_begin test v (b ∷ letters) perms rest each h =
    letter_is test v b each (and_parts (is_letter b) (list_all is_letter letters) (all_letters (b ∷ letters) perms h.1)).0

some_letters : (letters : List ℕ) (perms : Perms) → IsWord letters perms → eqb (length letters) 0 ≡ false
some_letters letters perms h = ne_eqb (length letters) 0 (λ e. omega (arith, h.0))

letters_start : (letters : List ℕ) (perms : Perms) → IsWord letters perms → begins is_letter_byte letters ≡ true
letters_start [] perms h = absurd (omega (arith, h.0))
letters_start (b ∷ letters) perms h = letters_begin is_letter_byte true (b ∷ letters) perms [] letter_bytes h

letters_word : (letters : List ℕ) (perms : Perms) (rest : List ℕ) → IsWord letters perms → begins is_word_byte rest ≡ false →
    word (letters ++ rest) ≡ letters
letters_word letters perms rest h s = word_again letters rest (letters_pass letters (all_letters letters perms h.1))
    (letters_start letters perms h) s

letters_past : (letters : List ℕ) (perms : Perms) (rest : List ℕ) → IsWord letters perms → begins is_word_byte rest ≡ false →
    after_word (letters ++ rest) ≡ rest
letters_past letters perms rest h s = after_word_again letters rest (letters_pass letters (all_letters letters perms h.1)) s

other_word : (letters w : List ℕ) → letters ≢ w → bytes_eq letters w ≡ false
other_word letters w other = false_from_ne_true (bytes_eq letters w) (λ e. other ((bytes_eq-Decides letters w).0 e))

-- letters are none of the qualifiers
no_such_word : (letters w : List ℕ) (perms : Perms) → perms_of letters ≡ Some perms → perms_of w ≡ None → bytes_eq letters w ≡ false
no_such_word letters w perms h g =
    other_word letters w (λ same. none_some perms (sym g ∙ ap perms_of (sym same) ∙ h))

-- ---- permissions

arrow_stops : (bytes : List ℕ) → begins (λ x. 45 == x) bytes ≡ false → is_arrow bytes ≡ false
arrow_stops [] s = refl
arrow_stops (b ∷ bytes) s = rw s refl

perms_steps : (bytes w rest : List ℕ) (perms : Perms) → begins is_comma bytes ≡ false → is_arrow bytes ≡ false → word bytes ≡ w →
    eqb (length w) 0 ≡ false → perms_of w ≡ Some perms → conflicts perms ≡ false → after_word bytes ≡ rest → perms_at bytes
    ≡ Ok (perms, rest)
unfolding perms_at
perms_steps bytes w rest perms e1 e2 e3 e4 e5 e6 e7 = rw (e1, e2, e3, e4, e5, e6, e7) refl

perms_again : (letters : List ℕ) (perms : Perms) (rest : List ℕ) → IsWord letters perms → begins is_word_byte rest ≡ false →
    perms_at (letters ++ rest) ≡ Ok (perms, rest)
perms_again letters perms rest h s =
    perms_steps (letters ++ rest) letters rest perms (letters_begin is_comma false letters perms rest no_commas h)
    (arrow_stops (letters ++ rest) (letters_begin (λ x. 45 == x) false letters perms rest no_dashes h))
    (letters_word letters perms rest h s) (some_letters letters perms h) h.1 h.2 (letters_past letters perms rest h s)

behind_again : (pieces : List Piece) (letters : List ℕ) (perms : Perms) (rest : List ℕ) → IsGap pieces → IsWord letters perms →
    begins is_word_byte rest ≡ false → perms_behind (print_blank pieces ++ (letters ++ rest)) ≡ Ok (perms, rest)
unfolding perms_behind
behind_again pieces letters perms rest g h s =
    let tail : List ℕ = letters ++ rest in
    rw (
      gap_stops is_comma pieces tail refl refl refl refl refl g,
      gap_again pieces tail g (letters_begin opens_blank false letters perms rest no_blanks h),
    ) (perms_again letters perms rest h s)

-- ---- what begins a rule

both_tests : (f g : ℕ → Bool) (bytes : List ℕ) → (begins f bytes || begins g bytes) ≡ begins (λ b. f b || g b) bytes
both_tests f g [] = refl
both_tests f g (b ∷ bytes) = refl

slash_or_quote : (p : WrittenPath) (rest : List ℕ) → IsPath p →
    (begins is_slash (print_path p ++ rest) || begins is_quote (print_path p ++ rest)) ≡ true
slash_or_quote p rest h = both_tests is_slash is_quote (print_path p ++ rest) ∙ path_begins p rest (λ b. is_slash b || is_quote b) h refl

no_slash_or_quote : (letters : List ℕ) (perms : Perms) (rest : List ℕ) → IsWord letters perms →
    (begins is_slash (letters ++ rest) || begins is_quote (letters ++ rest)) ≡ false
no_slash_or_quote letters perms rest h = both_tests is_slash is_quote (letters ++ rest) ∙ letters_begin (λ b. is_slash b || is_quote b)
    false letters perms rest no_paths h

start_path_steps : (bytes : List ℕ) → (begins is_slash bytes || begins is_quote bytes) ≡ true → start_at bytes ≡ Ok None
unfolding start_at
start_path_steps bytes e = rw e refl

start_perms_steps : (bytes w rest : List ℕ) (perms : Perms) → (begins is_slash bytes || begins is_quote bytes) ≡ false → word bytes ≡ w →
    eqb (length w) 0 ≡ false → perms_of w ≡ Some perms → after_word bytes ≡ rest → start_at bytes ≡ Ok (Some (perms, rest))
unfolding start_at
start_perms_steps bytes w rest perms e1 e2 e3 e4 e5 = rw (e1, e2, e3, e4, e5) refl

-- ---- what follows a path

-- white ends a bare path
white_ends : (quoted : Bool) (pieces : List Piece) (rest : List ℕ) → IsGap pieces → Stands quoted pieces →
    PathEnds quoted (print_blank pieces ++ rest)
white_ends true pieces rest h s = tt
white_ends false [] rest h s = absurd h
white_ends false (white b ∷ pieces) rest h s = rw (h.0) (or_right (is_quote b) true refl)
white_ends false (comment bytes ∷ pieces) rest h s = absurd cc

comma_is_end : (behind more : List ℕ) → begins ends_behind_comma behind ≡ true → comma_ends (behind ++ more) ≡ true
comma_is_end [] more e = absurd cc
comma_is_end (b ∷ behind) more e = e

-- so does the rule's comma
rule_ends : (quoted : Bool) (pieces : List Piece) (behind more : List ℕ) → IsBlank pieces → Stands quoted pieces →
    CommaEnds pieces quoted behind → PathEnds quoted (print_blank pieces ++ 44 ∷ (behind ++ more))
rule_ends true pieces behind more h s e = tt
rule_ends false [] behind more h s e = comma_is_end behind more e
rule_ends false (p ∷ pieces) behind more h s e = white_ends false (p ∷ pieces) (44 ∷ (behind ++ more)) h s

-- a blank before a comma fails a test that white, # and a comma fail
comma_stops : (test : ℕ → Bool) (pieces : List Piece) (rest : List ℕ) → test 32 ≡ false → test 9 ≡ false → test 10 ≡ false →
    test 13 ≡ false → test 35 ≡ false → test 44 ≡ false → IsBlank pieces → begins test (print_blank pieces ++ 44 ∷ rest) ≡ false
comma_stops test [] rest h1 h2 h3 h4 h5 h6 h = h6
comma_stops test (p ∷ pieces) rest h1 h2 h3 h4 h5 h6 h = gap_stops test (p ∷ pieces) (44 ∷ rest) h1 h2 h3 h4 h5 h

comma_again : (pieces : List Piece) (rest : List ℕ) → IsBlank pieces → comma_at (print_blank pieces ++ 44 ∷ rest) ≡ Ok rest
unfolding comma_at
comma_again pieces rest h = rw (blank_again pieces (44 ∷ rest) h refl) refl

-- ---- a rule's body

body_path_steps : (bytes behind rest : List ℕ) (path : List Token) (perms : Perms) → start_at bytes ≡ Ok None → path_at bytes
    ≡ Ok (path, behind) → perms_behind behind ≡ Ok (perms, rest) → body_at bytes ≡ Ok ((perms, path), rest)
unfolding body_at
body_path_steps bytes behind rest path perms e1 e2 e3 = rw (e1, e2, e3) refl

body_perms_steps : (bytes behind from rest : List ℕ) (path : List Token) (perms : Perms) → start_at bytes ≡ Ok (Some (perms, behind)) →
    conflicts perms ≡ false → gap behind ≡ Ok from → path_at from ≡ Ok (path, rest) → body_at bytes ≡ Ok ((perms, path), rest)
unfolding body_at
body_perms_steps bytes behind from rest path perms e1 e2 e3 e4 = rw (e1, e2, e3, e4) refl

parts_regrouped : (a b c d : List ℕ) → (a ++ (b ++ c)) ++ d ≡ a ++ (b ++ (c ++ d))
parts_regrouped a b c d = simp append_assoc

abbrev body_bytes : Bool → WrittenRule → List ℕ
body_bytes first r = if first then print_path r.path ++ (print_blank r.gap ++ r.letters) else r.letters
    ++ (print_blank r.gap ++ print_path r.path)

-- the bytes after the body
abbrev past_body : WrittenRule → List ℕ → List ℕ
past_body r rest = print_blank r.before_comma ++ 44 ∷ rest

body_again : (first : Bool) (r : WrittenRule) (behind more : List ℕ) → IsPath r.path → IsGap r.gap → IsWord r.letters r.perms →
    IsBlank r.before_comma → PathStands first r behind
    → body_at (body_bytes first r ++ past_body r (behind ++ more)) ≡ Ok ((r.perms, path_means r.path), past_body r (behind ++ more))
body_again true r behind more p g w b s =
    let rest : List ℕ = past_body r (behind ++ more) in
    let t2 : List ℕ = r.letters ++ rest in
    let t1 : List ℕ = print_blank r.gap ++ t2 in
    ap body_at (parts_regrouped (print_path r.path) (print_blank r.gap) r.letters rest)
    ∙ body_path_steps (print_path r.path ++ t1) t1 rest (path_means r.path) r.perms
    (start_path_steps (print_path r.path ++ t1) (slash_or_quote r.path t1 p))
    (path_again r.path t1 p (white_ends r.path.quoted r.gap t2 g s))
    (behind_again r.gap r.letters r.perms rest g w (comma_stops is_word_byte r.before_comma (behind ++ more) refl refl
    refl refl refl refl b))
body_again false r behind more p g w b s =
    let rest : List ℕ = past_body r (behind ++ more) in
    let t2 : List ℕ = print_path r.path ++ rest in
    let t1 : List ℕ = print_blank r.gap ++ t2 in
    let stops : begins is_word_byte t1 ≡ false = gap_stops is_word_byte r.gap t2 refl refl refl refl refl g in
    ap body_at (parts_regrouped r.letters (print_blank r.gap) (print_path r.path) rest)
    ∙ body_perms_steps (r.letters ++ t1) t1 t2 rest (path_means r.path) r.perms
    (start_perms_steps (r.letters ++ t1) r.letters t1 r.perms (no_slash_or_quote r.letters r.perms t1 w)
    (letters_word r.letters r.perms t1 w stops) (some_letters r.letters r.perms w) w.1 (letters_past r.letters r.perms t1 w stops)) w.2
    (gap_again r.gap t2 g (path_begins r.path rest opens_blank p refl))
    (path_again r.path rest p (rule_ends r.path.quoted r.before_comma behind more b s.0 s.1))

-- the first byte of a body answers a test as a quote, a slash and the letters do
body_begins : (test : ℕ → Bool) (v : Bool) (first : Bool) (r : WrittenRule) (rest : List ℕ) → test 34 ≡ v → test 47 ≡ v →
    LettersAre test v → IsPath r.path → IsWord r.letters r.perms → begins test (body_bytes first r ++ rest) ≡ v
body_begins test v true r rest q s each p w =
    ap (begins test) (append_assoc (print_path r.path) (print_blank r.gap ++ r.letters) rest) ∙ path_begins r.path
    ((print_blank r.gap ++ r.letters) ++ rest) test p (q ∙ sym s) ∙ s
body_begins test v false r rest q s each p w =
    ap (begins test) (append_assoc r.letters (print_blank r.gap ++ print_path r.path) rest) ∙ letters_begin test v r.letters r.perms
    ((print_blank r.gap ++ print_path r.path) ++ rest) each w

-- ---- qualifiers

no_qualifier : (bytes w : List ℕ) → word bytes ≡ w → bytes_eq w (codes "allow") ≡ false → bytes_eq w (codes "deny") ≡ false →
    bytes_eq w (codes "all") ≡ false → qualifier_at bytes ≡ Ok (Allow, bytes)
unfolding qualifier_at first_word_at
no_qualifier bytes w e1 e2 e3 e4 = rw (e1, e2, e3, e4) refl

allow_steps : (bytes from : List ℕ) → word bytes ≡ codes "allow" → gap (after_word bytes) ≡ Ok from → qualifier_at bytes ≡ Ok (Allow, from)
unfolding qualifier_at first_word_at
allow_steps bytes from e1 e2 = rw (e1, e2) refl

deny_steps : (bytes from : List ℕ) → word bytes ≡ codes "deny" → gap (after_word bytes) ≡ Ok from → qualifier_at bytes ≡ Ok (Deny, from)
unfolding qualifier_at first_word_at
deny_steps bytes from e1 e2 = rw (e1, e2) refl

no_word : (bytes : List ℕ) → begins is_letter_byte bytes ≡ false → word bytes ≡ []
no_word bytes s = rw s refl

bare_again : (first : Bool) (r : WrittenRule) (rest : List ℕ) → IsPath r.path → IsGap r.gap → IsWord r.letters r.perms →
    BeginsNoAll none first r.letters → qualifier_at (body_bytes first r ++ rest) ≡ Ok (Allow, body_bytes first r ++ rest)
bare_again true r rest p g w other =
    let s : begins is_letter_byte (body_bytes true r ++ rest) ≡ false =
    ap (begins is_letter_byte) (append_assoc (print_path r.path) (print_blank r.gap ++ r.letters) rest) ∙ path_begins r.path
    ((print_blank r.gap ++ r.letters) ++ rest) is_letter_byte p refl in
    no_qualifier (body_bytes true r ++ rest) [] (no_word (body_bytes true r ++ rest) s) refl refl refl
bare_again false r rest p g w other =
    let t : List ℕ = print_blank r.gap ++ (print_path r.path ++ rest) in
    let s : begins is_word_byte t ≡ false = gap_stops is_word_byte r.gap (print_path r.path ++ rest) refl refl refl refl refl g in
    let e : word (body_bytes false r ++ rest) ≡ r.letters =
    ap word (parts_regrouped r.letters (print_blank r.gap) (print_path r.path) rest) ∙ letters_word r.letters r.perms t w s in
    no_qualifier (body_bytes false r ++ rest) r.letters e (no_such_word r.letters (codes "allow") r.perms w.1 refl)
    (no_such_word r.letters (codes "deny") r.perms w.1 refl) (other_word r.letters (codes "all") other)

qualifier_again : (q : Qualifier) (first : Bool) (r : WrittenRule) (rest : List ℕ) → IsQualifier q → IsPath r.path → IsGap r.gap →
    IsWord r.letters r.perms → BeginsNoAll q first r.letters
    → qualifier_at (print_qualifier q ++ (body_bytes first r ++ rest)) ≡ Ok (kind_of q, body_bytes first r ++ rest)
qualifier_again none first r rest h p g w other = bare_again first r rest p g w other
qualifier_again (allow pieces) first r rest h p g w other =
    let body : List ℕ = body_bytes first r ++ rest in
    let s : begins is_word_byte (print_blank pieces ++ body) ≡ false = gap_stops is_word_byte pieces body refl refl refl refl refl h in
    let e1 : word (codes "allow" ++ (print_blank pieces ++ body)) ≡ codes "allow" = word_again (codes "allow") (print_blank pieces ++ body)
    (refl, (refl, (refl, (refl, (refl, tt))))) refl s in
    let e2 : after_word (codes "allow" ++ (print_blank pieces ++ body)) ≡ print_blank pieces ++ body = after_word_again (codes "allow")
    (print_blank pieces ++ body) (refl, (refl, (refl, (refl, (refl, tt))))) s in
    let e3 : gap (print_blank pieces ++ body) ≡ Ok body =
    gap_again pieces body h (body_begins opens_blank false first r rest refl refl no_blanks p w) in
    ap qualifier_at (append_assoc (codes "allow") (print_blank pieces) body) ∙ allow_steps (codes "allow" ++ (print_blank pieces ++ body))
    body e1 (ap gap e2 ∙ e3)
qualifier_again (deny pieces) first r rest h p g w other =
    let body : List ℕ = body_bytes first r ++ rest in
    let s : begins is_word_byte (print_blank pieces ++ body) ≡ false = gap_stops is_word_byte pieces body refl refl refl refl refl h in
    let e1 : word (codes "deny" ++ (print_blank pieces ++ body)) ≡ codes "deny" = word_again (codes "deny") (print_blank pieces ++ body)
    (refl, (refl, (refl, (refl, tt)))) refl s in
    let e2 : after_word (codes "deny" ++ (print_blank pieces ++ body)) ≡ print_blank pieces ++ body = after_word_again (codes "deny")
    (print_blank pieces ++ body) (refl, (refl, (refl, (refl, tt)))) s in
    let e3 : gap (print_blank pieces ++ body) ≡ Ok body =
    gap_again pieces body h (body_begins opens_blank false first r rest refl refl no_blanks p w) in
    ap qualifier_at (append_assoc (codes "deny") (print_blank pieces) body) ∙ deny_steps (codes "deny" ++ (print_blank pieces ++ body))
    body e1 (ap gap e2 ∙ e3)

-- ---- a rule

rule_steps : (bytes body behind rest : List ℕ) (kind : RuleKind) (perms : Perms) (path : List Token) → qualifier_at bytes
    ≡ Ok (kind, body) → body_at body ≡ Ok ((perms, path), behind) → comma_at behind ≡ Ok rest
    → rule_at bytes ≡ Ok (record { kind = kind; perms = perms; items = path }, rest)
unfolding rule_at
rule_steps bytes body behind rest kind perms path e1 e2 e3 = rw (e1, e2, e3) refl

rule_regrouped : (q b c rest : List ℕ) → (q ++ (b ++ (c ++ 44 ∷ []))) ++ rest ≡ q ++ (b ++ (c ++ 44 ∷ rest))
rule_regrouped q b c rest = simp append_assoc

pub rule_again : (r : WrittenRule) (behind more : List ℕ) → IsRule behind r → rule_at (print_rule r ++ (behind ++ more))
    ≡ Ok (rule_means r, behind ++ more)
rule_again r behind more h =
    let t : List ℕ = past_body r (behind ++ more) in
    ap rule_at (rule_regrouped (print_qualifier r.qualifier) (print_body r) (print_blank r.before_comma) (behind ++ more))
    ∙ rule_steps (print_qualifier r.qualifier ++ (print_body r ++ t)) (print_body r ++ t) t (behind ++ more) (kind_of r.qualifier) r.perms
    (path_means r.path) (qualifier_again r.qualifier r.path_first r t h.qualifier h.path h.gap h.word h.first_word)
    (body_again r.path_first r behind more h.path h.gap h.word h.before_comma h.stands)
    (comma_again r.before_comma (behind ++ more) h.before_comma)

-- the first byte of a rule fails a test that those of qualifiers and bodies fail
qualifier_stops : (test : ℕ → Bool) (q : Qualifier) (rest : List ℕ) → test 97 ≡ false → test 100 ≡ false → begins test rest ≡ false →
    begins test (print_qualifier q ++ rest) ≡ false
qualifier_stops test none rest a d h = h
qualifier_stops test (allow pieces) rest a d h = a
qualifier_stops test (deny pieces) rest a d h = d

rule_stops : (test : ℕ → Bool) (r : WrittenRule) (behind rest : List ℕ) → test 97 ≡ false → test 100 ≡ false → test 34 ≡ false →
    test 47 ≡ false → LettersAre test false → IsRule behind r → begins test (print_rule r ++ rest) ≡ false
rule_stops test r behind rest a d q s each h =
    ap (begins test) (rule_regrouped (print_qualifier r.qualifier) (print_body r) (print_blank r.before_comma) rest)
    ∙ qualifier_stops test r.qualifier (print_body r ++ past_body r rest) a d (body_begins test false r.path_first r (past_body r rest) q s
    each h.path h.word)

-- ---- rules

brace_regrouped : (p x rest : List ℕ) → (p ++ (x ++ 125 ∷ [])) ++ rest ≡ p ++ (x ++ 125 ∷ rest)
brace_regrouped p x rest = simp append_assoc

-- no blank begins where a rule or the closing brace does
pub rules_no_blank : (rules : List WrittenRule) (rest : List ℕ) → AreRules rules → begins opens_blank (print_rules rules ++ 125 ∷ rest)
    ≡ false
rules_no_blank [] rest h = refl
rules_no_blank (r ∷ rules) rest h =
    ap (begins opens_blank) (append_assoc (print_rule r) (print_blank r.past ++ print_rules rules) (125 ∷ rest))
    ∙ rule_stops opens_blank r (behind_rule r rules) ((print_blank r.past ++ print_rules rules) ++ 125 ∷ rest)
    refl refl refl refl no_blanks h.0

rules_steps : (room : ℕ) (bytes behind from rest : List ℕ) (first : RuleValue) (others : List RuleValue) → begins is_close_brace bytes
    ≡ false → rule_at bytes ≡ Ok (first, behind) → blank behind ≡ Ok from → rules_at room from ≡ Ok (others, rest)
    → rules_at (suc room) bytes ≡ Ok (first ∷ others, rest)
unfolding rules_at
rules_steps room bytes behind from rest first others e1 e2 e3 e4 = rw (e1, e2, e3, e4) refl

pub rules_again : (room : ℕ) (rules : List WrittenRule) (rest : List ℕ) → AreRules rules → length rules ≤ room →
    rules_at room (print_rules rules ++ 125 ∷ rest) ≡ Ok (rules_mean rules, rest)
unfolding rules_at
rules_again zero [] rest h few = refl
rules_again zero (r ∷ rules) rest h few = absurd (omega arith)
rules_again (suc room) [] rest h few = refl
rules_again (suc room) (r ∷ rules) rest h few =
    let tail : List ℕ = print_rules rules ++ 125 ∷ rest in
    let behind : List ℕ = print_blank r.past ++ tail in
    let regrouped : behind_rule r rules ++ rest ≡ behind = brace_regrouped (print_blank r.past) (print_rules rules) rest in
    let first : rule_at (print_rule r ++ behind) ≡ Ok (rule_means r, behind) =
    subst (λ (x : List ℕ). rule_at (print_rule r ++ x) ≡ Ok (rule_means r, x)) regrouped
    (rule_again r (behind_rule r rules) rest h.0) in
    ap (rules_at (suc room)) (parts_regrouped (print_rule r) (print_blank r.past) (print_rules rules) (125 ∷ rest))
    ∙ rules_steps room (print_rule r ++ behind) behind tail rest (rule_means r) (rules_mean rules)
    (rule_stops is_close_brace r (behind_rule r rules) behind refl refl refl refl no_braces h.0) first
    (blank_again r.past tail h.0.past (rules_no_blank rules rest h.1)) (rules_again room rules rest h.1 (omega arith))
