-- A path's items and open groups as tokens, from one token to the next.
use Rattle.std.proofs.Common.{◌≡◌, ◌+◌, ℕ, IsTrue, Bool, true, false, not, ◌&&◌, ◌==◌, List, [], ◌∷◌, ◌++◌, length, Vec, Global, refl, ap}
use Rattle.std.proofs.Common.{◌∙◌, append_assoc, append-nil, arith, if◌then◌else◌}
use Rattle.std.specs.List.{flat_map, list_all}
use Rattle.std.proofs.lemmas.List.{length_push}
use Rattle.std.proofs.lemmas.Bool.{ne_eqb, and_parts, and_from}
use Rattle.std.proofs.lemmas.Grind.{flat_map-append}
use Rattle.std.proofs.lemmas.List.Folds.{list_all-append}
use Rattle.rule_reader.specs.inner.PartialPaths.{alternatives_tokens, group_tokens, tokens_so_far}
use Rattle.rule_globs.specs.Tokens.{Token, opening, between, closing, tokens, tokens_of, is_full, all_full}
use Rattle.rule_globs.specs.declared.items.Item.{Item}
use Rattle.rule_globs.specs.declared.items.Item.TheVariants as v
use Rattle.rule_reader.specs.declared.reader.builder.OpenGroup.{OpenGroup}
use Rattle.rule_globs.specs.laws.TokenItems.{alternatives_row, tokens-Group, some_full, full-Group}

-- ---- a group closes

row_step : (first last : Vec Item Global) (others : List (Vec Item Global)) →
    alternatives_row (first ∷ (others ++ last ∷ [])) ≡ tokens_of first.items ++ (between ∷ alternatives_row (others ++ last ∷ []))
row_step first last [] = refl
row_step first last (second ∷ others) = refl

row_more : (done : List (Vec Item Global)) (last : Vec Item Global) →
    alternatives_row (done ++ last ∷ []) ≡ alternatives_tokens done ++ tokens_of last.items
row_more [] last = refl
row_more (first ∷ others) last =
    row_step first last others ∙ ap (λ row. tokens_of first.items ++ (between ∷ row)) (row_more others last) ∙ simp append_assoc

regroup : (groups before done last : List Token) →
    groups ++ (before ++ ((opening ∷ ((done ++ last) ++ closing ∷ [])) ++ [])) ≡ ((groups ++ ((before ++ (opening ∷ done)) ++ [])) ++ last)
    ++ closing ∷ []
regroup groups before done last = simp (append_assoc, append-nil)

pub group_closes : (groups outer : List OpenGroup) (group : OpenGroup) (items before now : List Item) (last : Vec Item Global)
    (alternatives : Vec (Vec Item Global) Global) → groups ≡ outer ++ group ∷ [] → last.items ≡ items →
    alternatives.items ≡ group.alternatives.items ++ last ∷ [] → before ≡ group.before.items → now ≡ before ++ v.Group alternatives ∷ [] →
    tokens_so_far outer now ≡ tokens_so_far groups items ++ closing ∷ []
group_closes groups outer group items before now last alternatives eg el ea eb en =
    let left : tokens_of now ≡ tokens_of group.before.items ++ (tokens (v.Group alternatives) ++ []) =
    ap tokens_of (en ∙ ap (λ x. x ++ v.Group alternatives ∷ []) eb) ∙ flat_map-append tokens group.before.items
    (v.Group alternatives ∷ []) in
    let whole : tokens (v.Group alternatives) ≡ opening ∷ ((alternatives_tokens group.alternatives.items ++ tokens_of last.items)
    ++ closing ∷ []) =
    tokens-Group alternatives ∙ ap (λ row. opening ∷ (row ++ closing ∷ []))
    (ap alternatives_row ea ∙ row_more group.alternatives.items last) in
    let right : flat_map group_tokens groups ≡ flat_map group_tokens outer ++ (group_tokens group ++ []) =
    ap (flat_map group_tokens) eg ∙ flat_map-append group_tokens outer (group ∷ []) in
    let same : tokens_of last.items ≡ tokens_of items = ap tokens_of el in
    let regrouped = regroup (flat_map group_tokens outer) (tokens_of group.before.items) (alternatives_tokens group.alternatives.items)
    (tokens_of last.items) in
    cc

no_fewer : (n : ℕ) → not (n + 1 == 0) ≡ true
no_fewer n = rw (ne_eqb (n + 1) 0 (omega arith))

some_more : (done : List (Vec Item Global)) (last : Vec Item Global) → IsTrue (list_all (λ items. all_full items.items) done) →
    IsTrue (all_full last.items) → IsTrue (some_full (done ++ last ∷ []))
some_more done last whole here =
    let all : list_all (λ items. all_full items.items) (done ++ last ∷ []) ≡ true =
    list_all-append (λ items. all_full items.items) done (last ∷ []) ∙ and_from _ (all_full last.items && true) whole
    (and_from (all_full last.items) true here refl) in
    and_from _ _ (rw length_push (no_fewer (length done))) all

-- All is full with the group, or, where memory ran out, without it.
pub full_group : (group : OpenGroup) (items before now : List Item) (last : Vec Item Global) (alternatives : Vec (Vec Item Global) Global)
    (pushed : Bool) → last.items ≡ items → alternatives.items ≡ group.alternatives.items ++ last ∷ [] → before ≡ group.before.items →
    now ≡ (if pushed then before ++ v.Group alternatives ∷ [] else before) → IsTrue (all_full items) → IsTrue (all_full now)
full_group outer items start now last alternatives pushed el ea eb en here =
    let before = outer.before.items in
    let parts = and_parts (all_full before) (list_all (λ items. all_full items.items) outer.alternatives.items) outer.full in
    let group : is_full (v.Group alternatives) ≡ true =
    full-Group alternatives ∙ ap some_full ea ∙ some_more outer.alternatives.items last parts.1 (ap all_full el ∙ here) in
    let more : all_full (before ++ v.Group alternatives ∷ []) ≡ true =
    list_all-append is_full before (v.Group alternatives ∷ []) ∙ and_from (all_full before)
    (is_full (v.Group alternatives) && true) parts.0
    (and_from (is_full (v.Group alternatives)) true group refl) in
    let P : Bool → Type 0 = λ b. now ≡ (if b then before ++ v.Group alternatives ∷ [] else before) → IsTrue (all_full now) in
    let go : P pushed = elim pushed as P [ true ↦ λ e. ap all_full e ∙ more | false ↦ λ e. ap all_full e ∙ parts.0 ] in
    go (en ∙ ap (λ x. if pushed then x ++ v.Group alternatives ∷ [] else x) eb)
