-- Rules and whole items read on.
use Rattle.std.proofs.Common.{◌≡◌, ℕ, zero, suc, ◌<◌, ◌-◌, Bool, true, false, not, cond, List, [], ◌∷◌, length, drop}
use Rattle.std.proofs.Common.{Result, Ok, sym, subst, inl, inr, ◌==◌, arith}
use Rattle.std.specs.Prelude.{◌&&◌, codes}
use Rattle.std.specs.List.{list_any}
use Rattle.std.proofs.lemmas.Slice.Eq.{bytes_eq-Decides}
use Rattle.rule_reader.specs.TextBytes.{begins, is_arrow, is_comma, is_close_brace, opens_blank}
use Rattle.rule_reader.specs.ReadWords.{word, is_word}
use Rattle.apparmor_text.specs.declared.part.PartKind.{PartKind}
use Rattle.apparmor_text.specs.declared.part.PartKind.TheVariants as parts
use Rattle.apparmor_text.specs.declared.part.ItemKind.{ItemKind}
use Rattle.apparmor_text.specs.declared.part.ItemKind.TheVariants as items
use Rattle.apparmor_words.specs.declared.letters.Letters.{Letters}
use Rattle.apparmor_text.specs.declared.text.Position.{Position}
use Rattle.apparmor_words.specs.Steps.{Stop, permissions, left_out, syntax_here}
use Rattle.apparmor_text.specs.Readings.{Reading, taken, taken_to}
use Rattle.apparmor_words.specs.Words.{is_path, blank_at, word_end}
use Rattle.apparmor_text.specs.WordParts.{blank_part, gap_part, path_part}
use Rattle.apparmor_words.specs.Priorities.{past_priority, is_raised}
use Rattle.apparmor_words.specs.Statements.{is_statement}
use Rattle.apparmor_text.specs.Statements.{statement_part, boolean_part}
use Rattle.apparmor_text.specs.Headers.{named_head, profile_head, hat_head, caret_head}
use Rattle.apparmor_words.specs.Assignments.{is_assignment}
use Rattle.apparmor_text.specs.Assignments.{assignment_part}
use Rattle.apparmor_text.specs.Rules.{priority_part, optional_word, optional_choice, permissions_word, permissions_part, target_part}
use Rattle.apparmor_text.specs.Rules.{comma_part, rule_end}
use Rattle.apparmor_text.specs.Rules.{path_first, links_and_runs, permissions_first, begins_path_word, is_left_out_byte, body_part}
use Rattle.apparmor_text.specs.Rules.{is_all_rule, guarded_body, file_rule, link_rule, of_kind, unqualified_item}
use Rattle.apparmor_text.specs.Rules.{qualified_item, runs_apart, rule_item}
use Rattle.apparmor_text.specs.Texts.{inner_item, outer_item, item_at}
use Rattle.apparmor_words.specs.laws.Steps.{bind_ok, chosen, ok_is, not_ok}
use Rattle.apparmor_text.specs.laws.Progress.{Goes, going_stays, going_on, going_taken}
use Rattle.apparmor_text.specs.laws.GoingWords.{Shortens, shorter_on, on_shorter, shortens_taken, blank_goes, blank_shortens, gap_goes}
use Rattle.apparmor_text.specs.laws.GoingWords.{path_shortens, literal_goes}
use Rattle.apparmor_text.proofs.GoingItems.{statement_shortens, boolean_shortens, named_head_shortens, profile_head_shortens}
use Rattle.apparmor_text.proofs.GoingItems.{hat_head_shortens, caret_head_shortens, assignment_shortens}

-- ---- words

optional_goes : (kind : PartKind) → (kind ≡ parts.Blank → ⊥) → (name : List ℕ) (s t : Reading) →
    optional_word kind name s ≡ Ok t → Goes s t
optional_goes kind other name s t e =
    elim (chosen (is_word name s.rest) _ _ _ e) [
      | inl h ↦ going_on s (taken kind (length name) s) t (going_taken kind (length name) s (λ b. absurd (other b)))
          (blank_goes (taken kind (length name) s) t h.1)
      | inr h ↦ subst (λ u. Goes s u) (ok_is s t h.1) (going_stays s)
    ]

choice_goes : (kind other_kind : PartKind) → (kind ≡ parts.Blank → ⊥) → (other_kind ≡ parts.Blank → ⊥) →
    (name other_name : List ℕ) (s t : Reading)
    → optional_choice kind name other_kind other_name s ≡ Ok t → Goes s t
choice_goes kind other_kind h g name other_name s t e =
    elim (chosen (is_word name s.rest) _ _ _ e) [
      | inl k ↦ going_on s (taken kind (length name) s) t (going_taken kind (length name) s (λ b. absurd (h b)))
          (blank_goes (taken kind (length name) s) t k.1)
      | inr k ↦ optional_goes other_kind g other_name s t k.1
    ]

priority_goes : (s t : Reading) → priority_part s ≡ Ok t → Goes s t
priority_goes s t e =
    elim (chosen (is_word (codes "priority") s.rest) _ _ _ e) [
      | inl h ↦
          let p = bind_ok (past_priority s.rest) _ t h.1 in
          going_on s (taken_to parts.Priority p.0 s) t
          (going_taken parts.Priority (length s.rest - length p.0) s (λ b. absurd cc))
          (blank_goes (taken_to parts.Priority p.0 s) t p.2)
      | inr h ↦ subst (λ u. Goes s u) (ok_is s t h.1) (going_stays s)
    ]

target_goes : (s t : Reading) → target_part s ≡ Ok t → Goes s t
target_goes s t e =
    let a = bind_ok (blank_at false (drop 2 s.rest)) _ t e in
    let b = bind_ok (word_end a.0) _ t a.2 in
    let there = taken_to parts.Arrow b.0 s in
    going_on s there t (going_taken parts.Arrow (length s.rest - length b.0) s (λ b. absurd cc)) (blank_goes there t b.2)

comma_goes : (s t : Reading) → comma_part s ≡ Ok t → Goes s t
comma_goes s t e = literal_goes parts.Comma (λ b. absurd cc) (codes ",") s t e

rule_end_goes : (s t : Reading) → rule_end s ≡ Ok t → Goes s t
unfolding rule_end
rule_end_goes s t e =
    let a = bind_ok (blank_part s) _ t e in
    let b = bind_ok (cond (is_arrow a.0.rest) (target_part a.0) (Ok a.0)) (λ comma. comma_part comma) t a.2 in
    let arrow : Goes a.0 b.0 = elim (chosen (is_arrow a.0.rest) _ _ _ b.1) [
      | inl h ↦ target_goes a.0 b.0 h.1
      | inr h ↦ subst (λ u. Goes a.0 u) (ok_is a.0 b.0 h.1) (going_stays a.0)
    ] in
    going_on s a.0 t (blank_goes s a.0 a.1) (going_on a.0 b.0 t arrow (comma_goes b.0 t b.2))

permissions_go : (s : Reading) → Goes s (permissions_part s)
permissions_go s = going_taken parts.Permissions (length (word s.rest)) s (λ b. absurd cc)

-- what is no empty word is of bytes that are left
word_there : (bytes : List ℕ) → 0 < length (word bytes) → 0 < length bytes
word_there [] h = absurd (omega (arith, h))
word_there (b ∷ bytes) h = omega arith

pub some_length : (n : ℕ) → (n == 0) ≡ false → 0 < n
some_length zero e = absurd cc
some_length (suc n) e = omega arith

permissions_shorten : (denies : Bool) (stop : Stop) (s : Reading) (l : Letters) → permissions_word denies stop s.rest ≡ Ok l →
    Shortens s (permissions_part s)
permissions_shorten denies stop s l e =
    elim (chosen (length (word s.rest) == 0) _ _ _ e) [
      | inl h ↦ absurd (not_ok _ l h.1)
      | inr h ↦
          let some = some_length (length (word s.rest)) h.0 in
          shortens_taken parts.Permissions (length (word s.rest)) s (λ b. absurd cc) some (word_there s.rest some)
    ]

path_first_shortens : (denies : Bool) (s t : Reading) → path_first denies s ≡ Ok t → Shortens s t
unfolding path_first
path_first_shortens denies s t e =
    let a = bind_ok (path_part parts.Path s) _ t e in
    let b = bind_ok (blank_part a.0) _ t a.2 in
    let c = bind_ok (permissions_word denies (record { kind = permissions; left = length b.0.rest }) b.0.rest) _ t b.2 in
    shorter_on s a.0 t (path_shortens parts.Path (λ b. absurd cc) s a.0 a.1)
    (going_on a.0 b.0 t (blank_goes a.0 b.0 b.1)
    (going_on b.0 (permissions_part b.0) t (permissions_go b.0) (rule_end_goes (permissions_part b.0) t c.2)))

permissions_first_shortens : (denies : Bool) (s t : Reading) → permissions_first denies s ≡ Ok t → Shortens s t
unfolding permissions_first
permissions_first_shortens denies s t e =
    let stop : Stop = record { kind = left_out (word s.rest); left = length s.rest } in
    let a = bind_ok (permissions_word denies stop s.rest) _ t e in
    let b = bind_ok (gap_part (permissions_part s)) _ t a.2 in
    let c = bind_ok (optional_word parts.Subset (codes "subset") b.0) _ t b.2 in
    let d = bind_ok (path_part parts.Path c.0) _ t c.2 in
    let f = bind_ok (blank_part d.0) _ t d.2 in
    let last : Goes f.0 t = elim (chosen (is_arrow f.0.rest && links_and_runs a.0) _ _ _ f.2) [
      | inl h ↦ absurd (not_ok _ t h.1)
      | inr h ↦ rule_end_goes f.0 t h.1
    ] in
    shorter_on s (permissions_part s) t (permissions_shorten denies stop s a.0 a.1)
    (going_on (permissions_part s) b.0 t (gap_goes (permissions_part s) b.0 b.1)
    (going_on b.0 c.0 t (optional_goes parts.Subset (λ b. absurd cc) (codes "subset") b.0 c.0 c.1)
    (going_on c.0 d.0 t (path_shortens parts.Path (λ b. absurd cc) c.0 d.0 d.1).goes
    (going_on d.0 f.0 t (blank_goes d.0 f.0 f.1) last))))

body_shortens : (denies : Bool) (s t : Reading) → body_part denies s ≡ Ok t → Shortens s t
unfolding body_part
body_shortens denies s t e =
    elim (chosen (begins begins_path_word s.rest) _ _ _ e) [
      | inl h ↦ path_first_shortens denies s t h.1
      | inr h ↦ elim (chosen (is_all_rule s.rest) _ _ _ h.1) [
        | inl all ↦ absurd (not_ok _ t all.1)
        | inr other ↦ elim (chosen (not (length (word s.rest) == 0)) _ _ _ other.1) [
          | inl g ↦ permissions_first_shortens denies s t g.1
          | inr g ↦ elim (chosen (begins is_left_out_byte s.rest) _ _ _ g.1)
              [ inl k ↦ absurd (not_ok _ t k.1) | inr k ↦ absurd (not_ok _ t k.1) ]
        ]
      ]
    ]

guarded_shortens : (denies : Bool) (s t : Reading) → guarded_body denies s ≡ Ok t → Shortens s t
guarded_shortens denies s t e =
    let a = bind_ok (optional_choice parts.Safe (codes "safe") parts.Unsafe (codes "unsafe") s) _ t e in
    on_shorter s a.0 t (choice_goes parts.Safe parts.Unsafe (λ b. absurd cc) (λ b. absurd cc) (codes "safe") (codes "unsafe") s a.0 a.1)
    (body_shortens denies a.0 t a.2)

-- a word of some letters is here, so something is left
named_there : (name bytes : List ℕ) → 0 < length name → is_word name bytes ≡ true → 0 < length bytes
named_there name bytes some e =
    let same = (bytes_eq-Decides (word bytes) name).0 e in
    word_there bytes (subst (λ (w : List ℕ). 0 < length w) (sym same) some)

file_shortens : (denies : Bool) (start : ℕ) (s t : Reading) → 0 < length s.rest → file_rule denies start s ≡ Ok t → Shortens s t
unfolding file_rule
file_shortens denies start s t there e =
    let f = taken parts.File 4 s in
    let a = bind_ok (blank_part f) _ t e in
    let first = shortens_taken parts.File 4 s (λ b. absurd cc) (omega arith) there in
    let rest : Goes a.0 t = elim (chosen (begins is_comma a.0.rest) _ _ _ a.2) [
      | inl h ↦ elim (chosen denies _ _ _ h.1) [ inl g ↦ absurd (not_ok _ t g.1) | inr g ↦ comma_goes a.0 t g.1 ]
      | inr h ↦ (guarded_shortens denies a.0 t h.1).goes
    ] in
    shorter_on s f t first (going_on f a.0 t (blank_goes f a.0 a.1) rest)

link_shortens : (s t : Reading) → 0 < length s.rest → link_rule s ≡ Ok t → Shortens s t
unfolding link_rule
link_shortens s t there e =
    let f = taken parts.Link 4 s in
    let a = bind_ok (blank_part f) _ t e in
    let b = bind_ok (optional_word parts.Subset (codes "subset") a.0) _ t a.2 in
    let c = bind_ok (path_part parts.Path b.0) _ t b.2 in
    let d = bind_ok (blank_part c.0) _ t c.2 in
    let g = bind_ok (cond (is_arrow d.0.rest) (target_part d.0) (syntax_here d.0.rest)) (λ comma. comma_part comma) t d.2 in
    let arrow : Goes d.0 g.0 = elim (chosen (is_arrow d.0.rest) _ _ _ g.1) [
      | inl h ↦ target_goes d.0 g.0 h.1
      | inr h ↦ absurd
          (not_ok _ g.0 h.1)
    ] in
    shorter_on s f t (shortens_taken parts.Link 4 s (λ b. absurd cc) (omega arith) there)
    (going_on f a.0 t (blank_goes f a.0 a.1)
    (going_on a.0 b.0 t (optional_goes parts.Subset (λ b. absurd cc) (codes "subset") a.0 b.0 b.1)
    (going_on b.0 c.0 t (path_shortens parts.Path (λ b. absurd cc) b.0 c.0 c.1).goes
    (going_on c.0 d.0 t (blank_goes c.0 d.0 d.1)
    (going_on d.0 g.0 t arrow (comma_goes g.0 t g.2))))))

-- ---- items

abbrev Item : Type 0
Item = ItemKind × Reading

kind_shortens : (kind : ItemKind) (r : Result Reading Stop) (s : Reading) (i : Item) → of_kind kind r ≡ Ok i →
    ((t : Reading) → r ≡ Ok t → Shortens s t) → Shortens s i.1
kind_shortens kind r s i e h =
    let p = bind_ok r (λ t. Ok (kind, t)) i e in
    subst (λ (u : Item). Shortens s u.1) (ok_is (kind, p.0) i p.2) (h p.0 p.1)

unqualified_shortens : (denies : Bool) (start : ℕ) (s : Reading) (i : Item) → unqualified_item denies start s ≡ Ok i → Shortens s i.1
unfolding unqualified_item
unqualified_shortens denies start s i e =
    elim (chosen (is_word (codes "include") s.rest) _ _ _ e) [
      | inl h ↦ absurd (not_ok _ i h.1)
      | inr h ↦ elim (chosen (is_statement s.rest) _ _ _ h.1) [
        | inl g ↦ kind_shortens items.Statement (statement_part s) s i g.1 (statement_shortens s)
        | inr g ↦ kind_shortens items.Rule _ s i g.1 (λ t r. elim (chosen (is_word (codes "link") s.rest) _ _ _ r) [
          | inl k ↦ link_shortens s t (named_there (codes "link") s.rest (omega arith) k.0) k.1
          | inr k ↦ elim (chosen (is_word (codes "file") s.rest) _ _ _ k.1) [
            | inl m ↦ file_shortens denies start s t (named_there (codes "file") s.rest (omega arith) m.0) m.1
            | inr m ↦ guarded_shortens denies s t m.1
          ]
        ])
      ]
    ]

qualified_shortens : (s : Reading) (i : Item) → qualified_item s ≡ Ok i → Shortens s i.1
unfolding qualified_item
qualified_shortens s i e =
    let p = bind_ok (priority_part s) _ i e in
    let a = bind_ok (optional_word parts.Audit (codes "audit") p.0) _ i p.2 in
    let b = bind_ok (optional_choice parts.Allow (codes "allow") parts.Deny (codes "deny") a.0) _ i a.2 in
    let c = bind_ok (optional_choice parts.Owner (codes "owner") parts.Other (codes "other") b.0) _ i b.2 in
    on_shorter s p.0 i.1 (priority_goes s p.0 p.1)
    (on_shorter p.0 a.0 i.1 (optional_goes parts.Audit (λ b. absurd cc) (codes "audit") p.0 a.0 a.1)
    (on_shorter a.0 b.0 i.1 (choice_goes parts.Allow parts.Deny (λ b. absurd cc) (λ b. absurd cc) (codes "allow")
    (codes "deny") a.0 b.0 b.1)
    (on_shorter b.0 c.0 i.1 (choice_goes parts.Owner parts.Other (λ b. absurd cc) (λ b. absurd cc) (codes "owner")
    (codes "other") b.0 c.0 c.1)
    (unqualified_shortens (is_word (codes "deny") a.0.rest) (length a.0.rest) c.0 i c.2))))

rule_shortens : (s : Reading) (i : Item) → rule_item s ≡ Ok i → Shortens s i.1
unfolding rule_item
rule_shortens s i e =
    let p = bind_ok (qualified_item s) _ i e in
    elim (chosen (is_raised s.rest && list_any runs_apart p.0.1.parts) _ _ _ p.2) [
      | inl h ↦ absurd (not_ok _ i h.1)
      | inr h ↦ subst (λ (u : Item). Shortens s u.1) (ok_is p.0 i h.1) (qualified_shortens s p.0 p.1)
    ]

inner_shortens : (s : Reading) (i : Item) → 0 < length s.rest → inner_item s ≡ Ok i → Shortens s i.1
unfolding inner_item
inner_shortens s i there e =
    elim (chosen (begins is_close_brace s.rest) _ _ _ e) [
      | inl h ↦ subst (λ (u : Item). Shortens s u.1) (ok_is (items.Close, taken parts.Close 1 s) i h.1)
          (shortens_taken parts.Close 1 s (λ b. absurd cc) (omega arith) there)
      | inr h ↦ elim (chosen (begins (λ b. b == 94) s.rest) _ _ _ h.1) [
        | inl g ↦ kind_shortens items.Hat (caret_head s) s i g.1 (caret_head_shortens s)
        | inr g ↦ elim (chosen (is_word (codes "hat") s.rest) _ _ _ g.1) [
          | inl k ↦ kind_shortens items.Hat (hat_head s) s i k.1 (hat_head_shortens s)
          | inr k ↦ elim (chosen (is_word (codes "profile") s.rest) _ _ _ k.1) [
            | inl m ↦ kind_shortens items.Profile (profile_head s) s i m.1 (profile_head_shortens s)
            | inr m ↦ rule_shortens s i m.1
          ]
        ]
      ]
    ]

outer_shortens : (begun : Bool) (s : Reading) (i : Item) → 0 < length s.rest → outer_item begun s ≡ Ok i → Shortens s i.1
unfolding outer_item
outer_shortens begun s i there e =
    elim (chosen (is_assignment s.rest) _ _ _ e) [
      | inl h ↦ elim (chosen begun _ _ _ h.1) [
        | inl g ↦ absurd (not_ok _ i g.1)
        | inr g ↦ kind_shortens items.Assignment (assignment_part s) s i g.1 (assignment_shortens s)
      ]
      | inr h ↦ elim (chosen (is_path s.rest) _ _ _ h.1) [
        | inl g ↦ kind_shortens items.Profile (named_head s) s i g.1 (named_head_shortens s)
        | inr g ↦ elim (chosen (begins (λ b. b == 36) s.rest) _ _ _ g.1) [
          | inl k ↦ kind_shortens items.Statement (boolean_part s) s i k.1 (λ t. boolean_shortens s t there)
          | inr k ↦ elim (chosen (is_word (codes "include") s.rest) _ _ _ k.1) [
            | inl m ↦ absurd (not_ok _ i m.1)
            | inr m ↦ elim (chosen (is_word (codes "profile") s.rest) _ _ _ m.1) [
              | inl n ↦ kind_shortens items.Profile (profile_head s) s i n.1 (profile_head_shortens s)
              | inr n ↦ elim (chosen (is_word (codes "abi") s.rest) _ _ _ n.1) [
                | inl o ↦ kind_shortens items.Statement (statement_part s) s i o.1 (statement_shortens s)
                | inr o ↦ elim (chosen (length (word s.rest) == 0) _ _ _ o.1)
                    [ inl q ↦ absurd (not_ok _ i q.1) | inr q ↦ absurd (not_ok _ i q.1) ]
              ]
            ]
          ]
        ]
      ]
    ]

-- an item takes something from what is left, which is not nothing
pub item_shortens : (position : Position) (s : Reading) (i : Item) → 0 < length s.rest → item_at position s ≡ Ok i → Shortens s i.1
unfolding item_at
item_shortens position s i there e =
    elim (chosen (begins opens_blank s.rest) _ _ _ e) [
      | inl h ↦ kind_shortens items.Blank (blank_part s) s i h.1 (λ t r. blank_shortens s t h.0 r)
      | inr h ↦ elim (chosen (position.depth == 0) _ _ _ h.1) [
        | inl g ↦ outer_shortens position.begun s i there g.1
        | inr g ↦ inner_shortens s i there g.1
      ]
    ]
