use Rattle.std.proofs.Common.{◌≡◌, ℕ, ◌+◌, ◌<◌, List, [], ◌∷◌, ◌++◌, Bor, Vec, Global, length, map, take, get_or, sym, ap, ◌∙◌}
use Rattle.std.proofs.lemmas.List.{map-append, take_more}
use Rattle.test_script.proofs.line.slices.Goals as goal

abbrev bytes_of : Vec ℕ Global → List ℕ
bytes_of word = word.items

abbrev seen : Bor (List ℕ) → List ℕ
seen slice = slice.now

one_more : (texts : List (List ℕ)) (words : List (Vec ℕ Global)) (i : ℕ) (word : Vec ℕ Global) → i < length words →
    word ≡ get_or words i word → texts ≡ map bytes_of (take i words) → texts ++ bytes_of word ∷ [] ≡ map bytes_of (take (i + 1) words)
one_more texts words i word lt is e =
    ap (λ (l : List (List ℕ)). l ++ bytes_of word ∷ []) e
    ∙ ap (λ (x : Vec ℕ Global). map bytes_of (take i words) ++ bytes_of x ∷ []) is
    ∙ sym (map-append bytes_of (take i words) (get_or words i word ∷ [])) ∙ ap (map bytes_of) (sym (take_more words i word lt))

pub loop-word-preserved : goal.loop-word-preserved
loop-word-preserved c =
    let slices = c.loop-word.slices.items in
    ap (map seen) c.in_ok-push.ensures.items ∙ map-append seen slices (c.as_slice.result ∷ [])
    ∙ ap (λ (t : List ℕ). map seen slices ++ t ∷ []) c.as_slice.ensures.value
    ∙ one_more (map seen slices) c.args.words.now c.loop-word.word-index c.word-item.result c.loop-word-test.true c.word-item.is
    c.loop-word.invariant
