-- What items stand for, one at a time, and how a drawing goes over them from the last to the first.
use Rattle.std.proofs.Common.{[], ◌≡◌, ℕ, ◌+◌, ◌<◌, List, ◌∷◌, ◌++◌, length, Vec, Global, sym, ap, ◌∙◌, subst, arith}
use Rattle.std.specs.Prelude.{Result, IfOk}
use Rattle.std.proofs.lemmas.List.{append_assoc, append-nil}
use Rattle.std.proofs.lemmas.Result.{IfOk-weaker}
use Rattle.std.proofs.lemmas.Simd.{map-map}
use Rattle.rule_globs.specs.Glob.{Glob, empty, one, run, cat, none, alt, ByteSet, exactly, not_slash}
use Rattle.rule_globs.specs.Meaning.{meaning, node_meaning, meaning_of, alt_all, alternatives_meaning}
use Rattle.rule_globs.specs.declared.items.Item.{Item, Item-F, fold-roll-Item}
use Rattle.rule_globs.specs.declared.items.Item.TheVariants as v
use Rattle.rule_globs.specs.declared.items.Item.TheVariants.{rolls-Byte, rolls-AnyByte, rolls-Group}
use Rattle.glob_automaton.specs.inner.Drawings.{TakesSet, IsKnown, IsDrawn}
use Rattle.glob_automaton.specs.declared.chart.Chart.{Chart}
use Rattle.glob_automaton.specs.declared.chart.Label.{Label}

-- The equations of `meaning`, for the items that the search doesn't unfold.
pub of_byte : (item : Item) (b : ℕ) → item ≡ v.Byte b → one (exactly b) ≡ meaning item
of_byte item b e = sym (ap meaning e ∙ ap meaning (sym (rolls-Byte b)) ∙ fold-roll-Item Glob node_meaning (Item-F.Byte b))

pub of_any_byte : (item : Item) → item ≡ v.AnyByte → one not_slash ≡ meaning item
of_any_byte item e = sym (ap meaning e ∙ ap meaning (sym rolls-AnyByte) ∙ fold-roll-Item Glob node_meaning Item-F.AnyByte)

pub of_group : (item : Item) (all : Vec (Vec Item Global) Global) (list : List (Vec Item Global)) → item ≡ v.Group all →
    list ≡ all.items → alternatives_meaning list ≡ meaning item
of_group item all list e f =
    ap alternatives_meaning f
    ∙ sym (ap meaning e ∙ ap meaning (sym (rolls-Group all)) ∙ fold-roll-Item Glob node_meaning (Item-F.Group all)
    ∙ ap alt_all (map-map _ _ all.items))

-- the size of a pattern: what drawing goes down by
abbrev pub weight : Glob → ℕ
weight empty = 0
weight (one set) = 0
weight (run set) = 0
weight (cat a b) = 1 + weight a + weight b
weight none = 0
weight (alt a b) = 1 + weight a + weight b

-- an item weighs less than items of which it is one
pub weight_item : (front back : List Item) (item : Item) → weight (meaning item) < weight (meaning_of (front ++ item ∷ back))
weight_item [] back item = omega arith
weight_item (x ∷ front) back item = omega (arith, weight_item front back item)

-- and so does an alternative
pub weight_alternative : (front back : List (Vec Item Global)) (one_of : Vec Item Global) →
    weight (meaning_of one_of.items) < weight (alternatives_meaning (front ++ one_of ∷ back))
weight_alternative [] back one_of = omega arith
weight_alternative (x ∷ front) back one_of = omega (arith, weight_alternative front back one_of)

-- the last element of what is left is the first of what is done
pub one_more_done : {X : Type 0} (all left rest back : List X) (x : X) → all ≡ left ++ back → left ≡ rest ++ x ∷ [] →
    all ≡ rest ++ x ∷ back
one_more_done all left rest back x e f = e ∙ ap (λ z. z ++ back) f ∙ append_assoc rest (x ∷ []) back

-- nothing is left: all is done
pub all_done : {X : Type 0} (all left back : List X) → all ≡ left ++ back → length left ≡ 0 → all ≡ back
all_done all [] back e f = e
all_done all (x ∷ left) back e f = absurd (omega (arith, f))

-- a place that takes one byte draws an item that does
pub item_of_one : {E : Type 0} (old new : Chart) (r : Result ℕ E) (taken : Label) (set : ByteSet) (behind : ℕ) (g : Glob) → one set ≡ g →
    IsKnown old taken → TakesSet old taken set →
    IfOk r (λ start. (any : ByteSet) → IsKnown old taken → TakesSet old taken any → IsDrawn old new (one any) behind start) →
    IfOk r (IsDrawn old new g behind)
item_of_one old new r taken set behind g e known takes h =
    IfOk-weaker r
    (λ start. (any : ByteSet) → IsKnown old taken → TakesSet old taken any → IsDrawn old new (one any) behind start)
    (IsDrawn old new g behind)
    (λ start drawn. subst (λ z. IsDrawn old new z behind start) e (drawn set known takes)) h

-- a drawing of the same pattern by another name
pub item_of : {E : Type 0} (old new : Chart) (r : Result ℕ E) (behind : ℕ) (f g : Glob) → f ≡ g →
    IfOk r (IsDrawn old new f behind) → IfOk r (IsDrawn old new g behind)
item_of old new r behind f g e h = subst (λ z. IfOk r (IsDrawn old new z behind)) e h

-- the same, of items that are such
pub lighter_item : (all front back : List Item) (item : Item) → all ≡ front ++ item ∷ back →
    weight (meaning item) < weight (meaning_of all)
lighter_item all front back item e = omega (arith, weight_item front back item, ap (λ z. weight (meaning_of z)) e)

-- and of alternatives
pub lighter_alternative : (all front back : List (Vec Item Global)) (one_of : Vec Item Global) (items : List Item) →
    all ≡ front ++ one_of ∷ back →
    items ≡ one_of.items → weight (meaning_of items) < weight (alternatives_meaning all)
lighter_alternative all front back one_of items e f =
    omega (arith, weight_alternative front back one_of, ap (λ z. weight (alternatives_meaning z)) e, ap (λ z. weight (meaning_of z)) f)

-- at first all is left
pub all_left : {X : Type 0} (all left : List X) → left ≡ all → all ≡ left ++ []
all_left all left e = sym (append-nil left ∙ e)
