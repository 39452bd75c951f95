-- Parts that are written one after another: with one more of them, fewer are left.
use Rattle.std.proofs.Common.{◌≡◌, ℕ, suc, ◌+◌, ◌<◌, List, ◌++◌, length, get_or, drop, map, ap, sym, ◌∙◌, arith, add-one}
use Rattle.std.proofs.Common.{append_assoc}
use Rattle.std.specs.List.{flat_map}
use Rattle.std.proofs.Math.ListN.{get_or-map}
use Rattle.std.proofs.Math.Seq.{drop-cons}
use Rattle.std.proofs.lemmas.List.{length-map}
use Rattle.rule_profile.specs.declared.profile.Rule.{Rule}
use Rattle.rule_profile.specs.declared.profile.Span.{Span}
use Rattle.rule_profile.specs.RuleSpans.{rule_span}
use Rattle.import_origins.specs.Origins.{map_from, map_line}

-- the part of one more of the xs was added
pub part_added : {X A : Type 0} (f : X → List A) (xs : List X) (i : ℕ) (d : X) (old new all : List A) → i < length xs
    → new ≡ old ++ f (get_or xs i d) → old ++ flat_map f (drop i xs) ≡ all → new ++ flat_map f (drop (i + 1) xs) ≡ all
part_added f xs i d old new all within added so_far =
    ap (λ l. l ++ flat_map f (drop (i + 1) xs)) added
    ∙ (append_assoc old (f (get_or xs i d)) (flat_map f (drop (i + 1) xs))
    ∙ (ap (λ n. old ++ (f (get_or xs i d) ++ flat_map f (drop n xs))) (add-one i)
    ∙ (ap (λ ys. old ++ flat_map f ys) (sym (drop-cons xs i d within)) ∙ so_far)))

-- the line of one more of the spans was added
line_added : (text : List ℕ) (spans : List Span) (i : ℕ) (d : Span) (old new all : List ℕ) → i < length spans
    → new ≡ old ++ map_line text (i + 1) (get_or spans i d) → old ++ map_from text (i + 1) (drop i spans) ≡ all
    → new ++ map_from text (i + 1 + 1) (drop (i + 1) spans) ≡ all
line_added text spans i d old new all within added so_far =
    ap (λ l. l ++ map_from text (i + 1 + 1) (drop (i + 1) spans)) added
    ∙ (append_assoc old (map_line text (i + 1) (get_or spans i d)) (map_from text (i + 1 + 1) (drop (i + 1) spans))
    ∙ (ap (λ n. old ++ (map_line text (i + 1) (get_or spans i d) ++ map_from text n (drop (i + 1) spans))) (add-one (i + 1))
    ∙ (ap (λ n. old ++ (map_line text (i + 1) (get_or spans i d) ++ map_from text (suc (i + 1)) (drop n spans))) (add-one i)
    ∙ (ap (λ ss. old ++ map_from text (i + 1) ss) (sym (drop-cons spans i d within)) ∙ so_far))))

-- the line of one more of the rules was added
pub rule_added : (text places : List ℕ) (rules : List Rule) (spans : List Span) (rule : Rule) (span : Span) (i : ℕ) (old new all : List ℕ)
    → map rule_span rules ≡ spans → i < length rules → rule ≡ get_or rules i rule → span ≡ rule_span rule → places ≡ text
    → new ≡ old ++ map_line places (i + 1) span → old ++ map_from text (i + 1) (drop i spans) ≡ all
    → new ++ map_from text (i + 1 + 1) (drop (i + 1) spans) ≡ all
rule_added text places rules spans rule span i old new all are_spans within item is_span are_places added so_far =
    let here : get_or spans i span ≡ span = ap (λ ss. get_or ss i span) (sym are_spans)
    ∙ (ap (λ s. get_or (map rule_span rules) i s) is_span ∙ (get_or-map rule_span rules i rule
    ∙ (ap rule_span (sym item) ∙ sym is_span))) in
    let inside : i < length spans = omega (arith, ap length are_spans, length-map rules rule_span) in
    line_added text spans i span old new all inside
    (added ∙ (ap (λ p. old ++ map_line p (i + 1) span) are_places ∙ ap (λ s. old ++ map_line text (i + 1) s) (sym here))) so_far
