-- A keeper's state as a plain tree, before and after a change.
use Rattle.std.proofs.Common.{◌≡◌, ℕ, List, [], ◌∷◌, ◌++◌, length, sym, ap, ◌∙◌, subst, arith, inl, inr}
use Rattle.std.specs.Prelude.{Result, IsOk, Ok, Err, IfOk, OnOk, IfErr}
use Rattle.names.specs.declared.errors.Errno.{Errno}
use Rattle.directory_tree.specs.declared.change.Change.{Change}
use Rattle.directory_tree.specs.Tree.{Tree, root_alone}
use Rattle.directory_tree.specs.Apply.{Changed, tree_after}
use Rattle.directory_tree.specs.Plain.{Plain, tree_of, changed, outcome, Accepted, Refused}
use Rattle.directory_tree.specs.laws.OneMore.{after_more}
use Rattle.tree_row.specs.Worlds.{SeesBy}
use Rattle.dentry_cache.specs.Models.{Held, Makes, Hinders, SeesHistory, Accepts, Refuses}
use Rattle.path_session.specs.KeeperStates.{plain_of}

abbrev tree_in : Changed → Tree
tree_in r = elim r as (λ _. Tree) [ Ok t ↦ t | Err e ↦ root_alone ]

-- the tree of the history
pub tree_is : (h : Held) (seen : SeesHistory h) → tree_of (plain_of h) ≡ seen.world.tree
tree_is h seen = ap tree_in seen.made

-- a look at the row as it was left sees it
pub sees : (h left : Held) (seen : SeesHistory h) → left ≡ h → SeesBy left.capacity (λ (row : List ℕ). row ≡ left.cells) seen.world
sees h left seen same = subst (λ (x : Held). SeesBy x.capacity (λ (row : List ℕ). row ≡ x.cells) seen.world) (sym same) seen.seen

module _ (h : Held) (seen : SeesHistory h) (change : Change) where
  -- one more change results in the plain tree's outcome
  pub next : tree_after h.capacity (h.history ++ change ∷ []) ≡ outcome (plain_of h) change
  next = after_more h.capacity 0 root_alone (tree_of (plain_of h)) h.history change (length h.history) (omega arith)
      (seen.made ∙ ap Ok (sym (tree_is h seen)))

  pub accepted : (h' : Held) (version : ℕ) → Makes h change h' → version ≡ length h'.history →
      Accepted (plain_of h) (plain_of h') change version
  accepted h' version makes is =
      let same : plain_of h' ≡ changed (plain_of h) change = λ i. record { capacity = makes.capacity i; history = makes.history i } in
      let (t, made, encodes) = makes.encodes in
      let after : tree_after h'.capacity h'.history ≡ Ok t = ap (λ (n : ℕ). tree_after n h'.history) makes.capacity ∙ made in (
        same,
        sym next ∙ (ap (λ (p : Plain). tree_after p.capacity p.history) (sym same)
            ∙ (after ∙ ap (λ (r : Changed). Ok (tree_in r)) (sym after))),
        is,
      )

  pub refused : (h' : Held) (errno : Errno) → h' ≡ h → Hinders h change errno → Refused (plain_of h) (plain_of h') change errno
  refused h' errno same hinders = (
    ap plain_of same,
    elim hinders [
      | inl refuses ↦ inr (sym next ∙ refuses)
      | inr (memory, accepts) ↦ inl (memory, subst (λ (r : Changed). IsOk r) next accepts)
    ],
  )

  pub would : Accepts h change → IsOk (outcome (plain_of h) change)
  would accepts = subst (λ (r : Changed). IsOk r) next accepts

  pub would_not : (errno : Errno) → Refuses h change errno → outcome (plain_of h) change ≡ Err errno
  would_not errno refuses = sym next ∙ refuses

  -- the same for the answer of the keeper, which got its row back from a look
  module _ (left : Held) (same : left ≡ h) where
    pub accepted_where_ok : (h' : Held) (r : Result ℕ Errno) → IfOk r (λ version. Makes left change h' × (version ≡ length h'.history)) →
        IfOk r (λ version. Accepted (plain_of h) (plain_of h') change version)
    accepted_where_ok h' (Ok version) (makes, is) = accepted h' version (subst (λ (x : Held). Makes x change h') same makes) is
    accepted_where_ok h' (Err errno) told = tt

    pub refused_where_err : (h' : Held) (r : Result ℕ Errno) → IfErr r (λ _. h' ≡ left) → IfErr r (Hinders left change) →
        IfErr r (λ errno. Refused (plain_of h) (plain_of h') change errno)
    refused_where_err h' (Ok version) stays told = tt
    refused_where_err h' (Err errno) stays told = refused h' errno (stays ∙ same) (subst (λ (x : Held). Hinders x change errno) same told)

    pub would_where_ok : {T : Type 0} (r : Result T Errno) → OnOk r (Accepts left change) → OnOk r (IsOk (outcome (plain_of h) change))
    would_where_ok (Ok value) told = would (subst (λ (x : Held). Accepts x change) same told)
    would_where_ok (Err errno) told = tt

    pub would_not_where_err : {T : Type 0} (r : Result T Errno) → IfErr r (Refuses left change) →
        IfErr r (λ errno. outcome (plain_of h) change ≡ Err errno)
    would_not_where_err (Ok value) told = tt
    would_not_where_err (Err errno) told = would_not errno (subst (λ (x : Held). Refuses x change errno) same told)
