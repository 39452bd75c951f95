-- One step of the walk over two rows.
use Rattle.std.proofs.Common.{◌≡◌, ℕ, ◌<◌, ◌≤◌, List, min, sym, ap, ◌∙◌, arith}
use Rattle.automaton_rows.specs.Automata.{Automaton, target}
use Rattle.automaton_rows.specs.declared.range.TargetRange.{TargetRange}
use Rattle.automaton_rows.specs.Rows.{target_in}
use Rattle.automaton_products.specs.declared.pairs.Pair.{Pair}
use Rattle.automaton_products.specs.Products.{pair, next_pair}

-- each byte of both ranges leads to the pair of their targets
pub step_pair : (a b : Automaton) (p : Pair) (first second : List TargetRange) (from last : ℕ) (near far : TargetRange) (x y : ℕ) →
    ((c : ℕ) → c ≤ near.last → target_in first c ≡ near.target) → ((c : ℕ) → c ≤ far.last → target_in second c ≡ far.target) →
    ((c : ℕ) → from ≤ c → c < 256 → target_in first c ≡ target a p.one c) →
    ((c : ℕ) → from ≤ c → c < 256 → target_in second c ≡ target b p.other c) →
    last ≡ min near.last far.last → x ≡ near.target → y ≡ far.target →
    (c : ℕ) → from ≤ c → c ≤ last → c < 256 → pair x y ≡ next_pair a b p c
step_pair a b p first second from last near far x y one other in_first in_second least is_x is_y c le within small =
    ap (λ z. pair z y) (is_x ∙ sym (one c (omega (arith, least, within))) ∙ in_first c le small)
    ∙ ap (pair (target a p.one c)) (is_y ∙ sym (other c (omega (arith, least, within))) ∙ in_second c le small)
