-- Where an open ends in one tree after the other.
use Rattle.std.proofs.Common.{◌≡◌, ℕ, ◌+◌, ◌<◌, ◌≤◌, List, [], ◌∷◌, ◌++◌, length, take, get_or, sym, ap, ◌∙◌, subst, inl, inr, arith}
use Rattle.std.proofs.Common.{length-append}
use Rattle.std.proofs.Math.Nat.{eq-or-lt_of_le}
use Rattle.std.proofs.Math.Seq.{get_or-append_seam}
use Rattle.std.proofs.lemmas.List.{take-take, get_or-take, get_or_append_left, length-take, take_more}
use Rattle.std.specs.Prelude.{Ok, Err}
use Rattle.names.specs.declared.errors.Errno.{Errno}
use Rattle.names.specs.declared.permissions.Perms.{Perms}
use Rattle.directory_tree.specs.declared.change.Change.{Change}
use Rattle.directory_tree.specs.Tree.{Tree, root_alone}
use Rattle.directory_tree.specs.Apply.{Changed, and_then, after_from, tree_after}
use Rattle.directory_tree.specs.Plain.{Plain, tree_of, outcome, Accepted}
use Rattle.justification.proofs.Growth.{after_append, none_after}
use Rattle.justification.specs.Versions.{IsTreeAt}
use Rattle.justification.specs.declared.end.End.{End}
use Rattle.justification.specs.declared.end.End.TheVariants.{Failed, File}
use Rattle.justification.specs.inner.Ends.{IsEndIn, IsEnd}

-- a change that is refused has no tree, nor have those after it
pub none_later : (p : Plain) (changes : List Change) (i : ℕ) (change : Change) (errno : Errno) → p.capacity ≡ length changes →
    p.history ≡ take i changes
    → tree_after p.capacity p.history ≡ Ok (tree_of p) → i < length changes → change ≡ get_or changes i change →
    outcome p change ≡ Err errno → (version : ℕ) (t : Tree) → i < version → IsTreeAt changes version t → ⊥
none_later p changes i change errno room is made low here refused version t later at =
    let fits : version ≤ length changes = at.0 in
    let within : i < length (take version changes) = omega (arith, length-take version changes) in
    none_after p (length changes) (take version changes) i change errno room (is ∙ sym (take-take i version changes (omega arith))) made
    within (here ∙ sym (get_or-take version changes i change later)) refused t at.1

-- what the changes so far make, as the loop over them knows it
pub record HasMade (changes : List Change) (path : List ℕ) (ask : Perms) (p : Plain) (ends : List End) (i : ℕ) : Type 0 where
  pub capacity : p.capacity ≡ length changes
  pub history : p.history ≡ take i changes
  pub made : tree_after p.capacity p.history ≡ Ok (tree_of p)
  pub count : length ends ≡ i + 1
  pub each : (version : ℕ) (default : End) → version < length ends → IsEnd changes version path ask (get_or ends version default)

-- a change that is accepted, on the tree that the changes before it made
pub tree_next : (p q : Plain) (change : Change) (version : ℕ) → tree_after p.capacity p.history ≡ Ok (tree_of p) →
    Accepted p q change version
    → tree_after q.capacity q.history ≡ Ok (tree_of q)
tree_next p q change version made (is, after, count) =
    let next : Changed → Changed = λ r. and_then r (λ u. after_from p.capacity (length p.history) u (change ∷ [])) in
    ap (λ (x : Plain). tree_after x.capacity x.history) is
    ∙ after_append p.capacity 0 root_alone p.history (change ∷ []) (length p.history) (omega arith)
    ∙ ap next made
    ∙ ap (λ (r : Changed). and_then r Ok) after

module _ (changes : List Change) (path : List ℕ) (ask : Perms) where
  pub end_of : (version : ℕ) (t : Tree) (e : End) → IsTreeAt changes version t → IsEndIn t path ask e → IsEnd changes version path ask e
  end_of version t (Failed errno) at is = (t, at, is)
  end_of version t (File file) at is = (t, at, is)

  -- one more end, that of the next version
  pub one_more : (ends : List End) (e : End) → ((version : ℕ) (default : End) → version < length ends → IsEnd changes version path ask
      (get_or ends version default))
      → IsEnd changes (length ends) path ask e
      → (version : ℕ) (default : End) → version < length (ends ++ e ∷ []) → IsEnd changes version path ask
      (get_or (ends ++ e ∷ []) version default)
  one_more ends e each new version default low =
      let below : version ≤ length ends = omega (arith, length-append ends (e ∷ [])) in
      elim (eq-or-lt_of_le below) [
        | inl is ↦
            let P : ℕ → Type 0 = λ v. IsEnd changes v path ask (get_or (ends ++ e ∷ []) v default) in
            subst P (sym is) (subst (IsEnd changes (length ends) path ask) (sym (get_or-append_seam ends e [] default)) new)
        | inr less ↦ subst (IsEnd changes version path ask) (sym (get_or_append_left ends (e ∷ []) default version less))
            (each version default less)
      ]

  -- the next change is accepted, and one more end found
  pub goes_on : (p q r : Plain) (i : ℕ) (change : Change) (version : ℕ) (ends new : List End) (e : End) → HasMade changes path ask p ends i
      → i < length changes → change ≡ get_or changes i change → Accepted p q change version → r ≡ q → IsEndIn (tree_of q) path ask e →
      new ≡ ends ++ e ∷ [] → HasMade changes path ask r new (i + 1)
  goes_on p q r i change version ends new e had low here accepted kept is pushed =
      let made : tree_after q.capacity q.history ≡ Ok (tree_of q) = tree_next p q change version had.made accepted in
      let capacity : q.capacity ≡ length changes = ap (λ (x : Plain). x.capacity) accepted.0 ∙ had.capacity in
      let history : q.history ≡ take (i + 1) changes =
      ap (λ (x : Plain). x.history) accepted.0 ∙ ap (λ cs. cs ++ change ∷ []) had.history ∙ ap (λ c. take i changes ++ c ∷ []) here
      ∙ sym (take_more changes i change low) in
      let at : IsTreeAt changes (length ends) (tree_of q) = (
        (let n = had.count in omega arith),
        (λ j. tree_after (sym capacity j) (take (had.count j) changes)) ∙ ap (λ h. tree_after q.capacity h) (sym history) ∙ made,
      ) in
      let all = one_more ends e had.each (end_of (length ends) (tree_of q) e at is) in
      let Made : Plain → Type 0 = λ x. HasMade changes path ask x new (i + 1) in
      subst Made (sym kept) (record {
        capacity = capacity;
        history = history;
        made = made;
        count = ap length pushed ∙ length-append ends (e ∷ []) ∙ ap (λ n. n + 1) had.count;
        each = λ version default. rw pushed (all version default);
      })
