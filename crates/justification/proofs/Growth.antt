-- The tree after a list of changes, where one of them is refused.
use Rattle.std.proofs.Common.{◌≡◌, ℕ, suc, ◌+◌, ◌<◌, List, [], ◌∷◌, ◌++◌, length, take, drop, get_or, refl, sym, ap, ◌∙◌, arith}
use Rattle.std.proofs.lemmas.List.{take-append-drop}
use Rattle.std.proofs.Math.Seq.{drop-cons}
use Rattle.std.specs.Prelude.{Ok, Err}
use Rattle.names.specs.declared.errors.Errno.{Errno}
use Rattle.names.specs.laws.Results.{err-ok}
use Rattle.directory_tree.specs.declared.change.Change.{Change}
use Rattle.directory_tree.specs.Tree.{Tree, root_alone}
use Rattle.directory_tree.specs.Apply.{Changed, and_then, apply_counted, after_from, tree_after}
use Rattle.directory_tree.specs.Plain.{Plain, tree_of, outcome}

-- some changes, and then others
pub after_append : (capacity count : ℕ) (t : Tree) (cs ds : List Change) (n : ℕ) → n ≡ count + length cs
    → after_from capacity count t (cs ++ ds) ≡ and_then (after_from capacity count t cs) (λ u. after_from capacity n u ds)
after_append capacity count t [] ds n is = let same : count ≡ n = omega arith in ap (λ (k : ℕ). after_from capacity k t ds) same
after_append capacity count t (c ∷ cs) ds n is =
    elim (apply_counted capacity count t c) as (λ (r : Changed). and_then r (λ u. after_from capacity (count + 1) u (cs ++ ds))
    ≡ and_then (and_then r (λ u. after_from capacity (count + 1) u cs)) (λ u. after_from capacity n u ds)) [
      | Ok u ↦ after_append capacity (count + 1) u cs ds n (omega arith)
      | Err e ↦ refl
    ]

-- a change that is refused leaves no tree
pub none_after : (p : Plain) (capacity : ℕ) (changes : List Change) (i : ℕ) (change : Change) (errno : Errno) → p.capacity ≡ capacity →
    p.history ≡ take i changes
    → tree_after p.capacity p.history ≡ Ok (tree_of p) → i < length changes → change ≡ get_or changes i change →
    outcome p change ≡ Err errno → (t : Tree) → tree_after capacity changes ≡ Ok t → ⊥
none_after p capacity changes i change errno room is made low here refused t whole =
    let rest : List Change = drop (suc i) changes in
    let split : changes ≡ p.history ++ change ∷ rest = sym (take-append-drop i changes)
    ∙ (λ j. sym is j ++ drop-cons changes i change low j) ∙ (λ j. p.history ++ sym here j ∷ rest) in
    let ended : tree_after capacity changes ≡ Err errno =
    (λ j. tree_after (sym room j) (split j))
    ∙ after_append p.capacity 0 root_alone p.history (change ∷ rest) (length p.history) (omega arith)
    ∙ ap (λ (r : Changed). and_then r (λ u. after_from p.capacity (length p.history) u (change ∷ rest))) made
    ∙ ap (λ (r : Changed). and_then r (λ u. after_from p.capacity (length p.history + 1) u rest)) refused in
    err-ok errno t (sym ended ∙ whole)
