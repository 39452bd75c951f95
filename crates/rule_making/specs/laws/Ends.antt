-- What items begin and end with, by their tokens.
use Rattle.std.proofs.Common.{◌≡◌, ℕ, suc, ◌-◌, ◌<◌, Bool, false, List, [], ◌∷◌, ◌++◌, length, get_or, Vec, Global, refl, sym, ap, subst}
use Rattle.std.proofs.Common.{◌∙◌, append-nil, length-append, arith}
use Rattle.rule_globs.specs.Tokens.{Token, opening, closing, tokens, tokens_of}
use Rattle.rule_globs.specs.declared.items.Item.{Item}
use Rattle.rule_globs.specs.declared.items.Item.TheVariants as v
use Rattle.rule_globs.specs.laws.TokenItems.{item_induction, alternatives_row, tokens-Byte, tokens-AnyByte, tokens-Class, tokens-Stars}
use Rattle.rule_globs.specs.laws.TokenItems.{tokens-Group}
use Rattle.rule_globs.specs.declared.items.Stars.{Stars}
use Rattle.rule_profile.specs.PathTokens.{is_plain_slash}
use Rattle.rule_profile.specs.Readable.{is_run, begins_with_slash}
use Rattle.rule_making.specs.Leads.{ends_with}

-- each item has a token
pub some_tokens : (item : Item) → 0 < length (tokens item)
some_tokens = item_induction (λ item. 0 < length (tokens item))
    (λ b. rw (tokens-Byte b) (omega arith))
    (rw tokens-AnyByte (omega arith))
    (λ c. rw (tokens-Class c) (omega arith))
    (λ s. rw (tokens-Stars s) (omega arith))
    (λ alternatives each. rw (tokens-Group alternatives) (omega arith))

pub ends-append : (kind : Token → Bool) (xs ys : List Token) → 0 < length ys → ends_with kind (xs ++ ys) ≡ ends_with kind ys
ends-append kind [] ys some = refl
ends-append kind (x ∷ []) [] some = absurd (omega arith)
ends-append kind (x ∷ []) (y ∷ ys) some = refl
ends-append kind (x ∷ z ∷ xs) ys some = ends-append kind (z ∷ xs) ys some

-- the last item ends as all items do
last_of : (kind : Token → Bool) (first : Item) (items : List Item) (last : Item) → last ≡ get_or (first ∷ items) (length items) last →
    ends_with kind (tokens_of (first ∷ items)) ≡ ends_with kind (tokens last)
last_of kind first [] last e =
    ap (ends_with kind) (append-nil (tokens first)) ∙ ap (λ x. ends_with kind (tokens x)) (sym e)
last_of kind first (second ∷ items) last e =
    let some : 0 < length (tokens_of (second ∷ items)) =
    omega (arith, some_tokens second, length-append (tokens second) (tokens_of items)) in
    ends-append kind (tokens first) (tokens_of (second ∷ items)) some ∙ last_of kind second items last e

pub ends_as_last : (kind : Token → Bool) (items : List Item) (last : Item) → 0 < length items →
    last ≡ get_or items (length items - 1) last →
    ends_with kind (tokens_of items) ≡ ends_with kind (tokens last)
ends_as_last kind [] last some e = absurd (omega arith)
ends_as_last kind (first ∷ items) last some e =
    let n : suc (length items) - 1 ≡ length items = omega arith in
    last_of kind first items last (subst (λ i. last ≡ get_or (first ∷ items) i last) n e)

-- a group ends with its brace
pub group_ends : (kind : Token → Bool) (item : Item) (alternatives : Vec (Vec Item Global) Global) → item ≡ v.Group alternatives →
    ends_with kind (tokens item) ≡ kind closing
group_ends kind item alternatives e =
    ap (λ x. ends_with kind (tokens x)) e ∙ ap (ends_with kind) (tokens-Group alternatives)
    ∙ ends-append kind (opening ∷ alternatives_row alternatives.items) (closing ∷ []) (omega arith)

first_of : (xs ys : List Token) → 0 < length xs → begins_with_slash (xs ++ ys) ≡ begins_with_slash xs
first_of [] ys some = absurd (omega arith)
first_of (x ∷ xs) ys some = refl

-- what follows some items says nothing of what they begin with
pub begins_as_items : (items : List Item) (follow : List Token) → 0 < length items →
    begins_with_slash (tokens_of items ++ follow) ≡ begins_with_slash (tokens_of items)
begins_as_items [] follow some = absurd (omega arith)
begins_as_items (item ∷ items) follow some =
    first_of (tokens_of (item ∷ items)) follow (omega (arith, some_tokens item, length-append (tokens item) (tokens_of items)))

-- an item of another kind ends with no run, or no slash
ends_else : (kind : Token → Bool) (item : Item) (t : Token) → tokens item ≡ t ∷ [] → kind t ≡ false → false ≡ ends_with kind (tokens item)
ends_else kind item t e n = sym (ap (ends_with kind) e ∙ n)

pub no_run : (item : Item) → ((s : Stars) → item ≡ v.Stars s → ⊥) → false ≡ ends_with is_run (tokens item)
no_run = item_induction (λ item. ((s : Stars) → item ≡ v.Stars s → ⊥) → false ≡ ends_with is_run (tokens item))
    (λ b h. ends_else is_run (v.Byte b) _ (tokens-Byte b) refl)
    (λ h. ends_else is_run v.AnyByte _ tokens-AnyByte refl)
    (λ c h. ends_else is_run (v.Class c) _ (tokens-Class c) refl)
    (λ s h. absurd (h s refl))
    (λ alternatives each h. sym (group_ends is_run (v.Group alternatives) alternatives refl))

pub no_slash : (item : Item) → ((b : ℕ) → item ≡ v.Byte b → ⊥) → false ≡ ends_with is_plain_slash (tokens item)
no_slash = item_induction (λ item. ((b : ℕ) → item ≡ v.Byte b → ⊥) → false ≡ ends_with is_plain_slash (tokens item))
    (λ b h. absurd (h b refl))
    (λ h. ends_else is_plain_slash v.AnyByte _ tokens-AnyByte refl)
    (λ c h. ends_else is_plain_slash (v.Class c) _ (tokens-Class c) refl)
    (λ s h. ends_else is_plain_slash (v.Stars s) _ (tokens-Stars s) refl)
    (λ alternatives each h. sym (group_ends is_plain_slash (v.Group alternatives) alternatives refl))
