-- No climb from a directory meets what lies below it.
use Rattle.std.proofs.Common.{◌≡◌, ℕ, zero, suc, ◌<◌, ◌==◌, ◌≢◌, Bool, true, false, List, Some, None, Option, sym, ap, ◌∙◌, subst, arith}
use Rattle.std.proofs.Common.{ne_eqb}
use Rattle.std.specs.Prelude.{if◌then◌else◌}
use Rattle.directory_tree.specs.Tree.{Tree, Entry, WellFormed, root, find, own_entry, is_below, is_directory}
use Rattle.directory_tree.specs.laws.Found.{found_at}
use Rattle.directory_tree.proofs.Depth.{Deep, deep, one_depth}
use Rattle.directory_tree.proofs.Presence.{placed_at}
use Rattle.directory_tree.proofs.Placement.{root_nowhere}

module _ (t : Tree) (well : WellFormed t) (low m : ℕ) (deep_low : Deep t.entries m low) where
  -- what this many steps up from the directory of an entry say
  abbrev climb : ℕ → Option Entry → Bool
  climb n o = elim o as (λ _. Bool) [ None ↦ false | Some e ↦ is_below t.entries n low e.of ]

  -- A directory of another depth is another directory.
  other_depth : (k x : ℕ) → k < m → Deep t.entries k x → (x == low) ≡ false
  other_depth k x less up = ne_eqb x low (λ p. let same = one_depth t.entries k m low (subst (Deep t.entries k) p up) deep_low in
      absurd (omega arith))

  -- A climb from a directory of less depth never reaches this one.
  not_met : (n k x : ℕ) → k < m → Deep t.entries k x → is_below t.entries n low x ≡ false
  not_met zero k x less up = other_depth k x less up
  not_met (suc n) zero x less up =
      ap (λ (b : Bool). if b then true else climb n (own_entry t.entries x)) (other_depth zero x less up)
      ∙ ap (climb n) (ap (own_entry t.entries) up ∙ root_nowhere t well)
  not_met (suc n) (suc k) x less (e, is, other, up) =
      ap (λ (b : Bool). if b then true else climb n (own_entry t.entries x)) (other_depth (suc k) x less (e, is, other, up))
      ∙ ap (climb n) is
      ∙ not_met n k e.of (omega arith) up

-- The directory that has a directory's entry doesn't lie below it.
pub never_below_itself : (t : Tree) (d : ℕ) (c : List ℕ) (e : Entry) (n : ℕ) → WellFormed t → find t.entries d c ≡ Some e →
    is_directory e.kind ≡ true → is_below t.entries n e.node d ≡ false
never_below_itself t d c e n well is directory =
    let (k, l) = well.rooted d c e is in
    let (m, less, up) = deep t.entries k d l in
    let past : e.node ≢ root = λ p. let low = (well.low d c e is).0 in absurd (omega arith) in
    let above : Deep t.entries m e.of = subst (Deep t.entries m) (sym (found_at t.entries d c e is).0) up in
    not_met t well e.node (suc m) (e, placed_at t well d c e is directory, past, above) n m d (omega arith) up
