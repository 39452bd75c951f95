-- A judged link that the tree would accept, by what the earlier look reported.
use Rattle.std.proofs.Common.{◌≡◌, ℕ, Bool, true, false, List, [], length, subst, Option, Some, None, refl, sym, ap, ◌∙◌, true≢false}
use Rattle.std.specs.Prelude.{Result, Ok, Err, if◌then◌else◌, nat_lt, IsOk}
use Rattle.names.specs.declared.errors.Errno.{Errno}
use Rattle.names.specs.declared.errors.Errno.TheVariants.{EOVERFLOW}
use Rattle.names.specs.Paths.{path_fault}
use Rattle.directory_tree.specs.declared.change.Change.{Change}
use Rattle.directory_tree.specs.declared.change.Change.TheVariants.{Link}
use Rattle.directory_tree.specs.declared.node.Last.TheVariants.{Stay}
use Rattle.directory_tree.specs.Tree.{Tree, Entry, WellFormed}
use Rattle.directory_tree.specs.Walk.{Walked, walk}
use Rattle.directory_tree.specs.Walk.{Held}
use Rattle.directory_tree.specs.Name.{judged_name}
use Rattle.directory_tree.specs.Place.{named_place}
use Rattle.directory_tree.specs.Apply.{Changed, and_then, apply, has_room, most_changes}
use Rattle.directory_tree.specs.Plain.{Plain, tree_of, outcome}
use Rattle.mediation.specs.Judge.{Judge}
use Rattle.mediation.specs.Opens.{path_of}
use Rattle.mediation.specs.Links.{JudgedLink, name_at, judged_by_name, link_judged}

path_good : (text : List ℕ) → path_fault text ≡ None → path_of text ≡ Ok text
path_good text good = ap (λ (o : Option Errno). elim o as (λ _. Result (List ℕ) Errno) [ None ↦ Ok text | Some errno ↦ Err errno ]) good

err_is_ok : {X Y : Type 0} (e : Y) (x : X) → Err e ≡ Ok x → ⊥
err_is_ok e x h = absurd (cc h)

-- what a plain tree makes of a change is what its tree makes of it
applied : (plain : Plain) (old new : List ℕ) (u : Tree) → outcome plain (Link old new) ≡ Ok u →
    apply (tree_of plain) (has_room plain.capacity (tree_of plain)) (Link old new) ≡ Ok u
applied plain old new u h = by (nat_lt (length plain.history) most_changes) h
  where
    by : (few : Bool) → (if few then apply (tree_of plain) (has_room plain.capacity (tree_of plain)) (Link old new) else Err EOVERFLOW)
        ≡ Ok u
        → apply (tree_of plain) (has_room plain.capacity (tree_of plain)) (Link old new) ≡ Ok u
    by true is = is
    by false is = absurd (err_is_ok EOVERFLOW u is)

-- a change that is accepted makes some tree
accepted_tree : (r : Changed) → IsOk r → (u : Tree) × (r ≡ Ok u)
accepted_tree (Ok u) is = (u, refl)
accepted_tree (Err errno) is = absurd (true≢false (sym is))

-- the law of links that were made: the new path then leads to the new entry, which has the name of its place
abbrev pub LinksAreFound : Type 0
LinksAreFound = (t u : Tree) (room : Bool) (old new : List ℕ) → WellFormed t → apply t room (Link old new) ≡ Ok u →
    (from to : Entry) × (walk t Stay old ≡ Ok (Held from)) × (walk u Stay new ≡ Ok (Held to)) × (to.node ≡ from.node)
    × (judged_name u (Held to) ≡ named_place t new)

-- what the look reported is the answer
pub link_comes : LinksAreFound → (plain : Plain) (judge : Judge) (old new : List ℕ) (r : Result JudgedLink Errno) →
    WellFormed (tree_of plain)
    → path_fault old ≡ None → path_fault new ≡ None → IsOk (outcome plain (Link old new))
    → judged_by_name judge (tree_of plain) old (named_place (tree_of plain) new) ≡ r → link_judged plain judge old new ≡ r
link_comes found plain judge old new r well good_old good_new ok told =
    let (u, is) = accepted_tree (outcome plain (Link old new)) ok in
    let (from, to, leads, leads_new, same, named) = found (tree_of plain) u (has_room plain.capacity (tree_of plain)) old new well
    (applied plain old new u is) in
    ap (λ (a : Result (List ℕ) Errno). and_then a
    (λ o. and_then (path_of new)
    (λ n. and_then (outcome plain (Link o n)) (λ v. judged_by_name judge (tree_of plain) o (name_at v n))))) (path_good old good_old)
    ∙ ap (λ (a : Result (List ℕ) Errno). and_then a
    (λ n. and_then (outcome plain (Link old n)) (λ v. judged_by_name judge (tree_of plain) old (name_at v n))))
    (path_good new good_new)
    ∙ ap (λ (a : Changed). and_then a (λ v. judged_by_name judge (tree_of plain) old (name_at v new))) is
    ∙ ap (judged_by_name judge (tree_of plain) old) (ap (λ (w : Walked). and_then w (judged_name u)) leads_new ∙ named)
    ∙ told

abbrev old_of : Change → List ℕ
old_of (Link old new) = old
old_of _ = []

abbrev new_of : Change → List ℕ
new_of (Link old new) = new
new_of _ = []

-- the same, for the paths as checked (a and b) and as taken out of the change again (c and d), and for the tree as it was left
pub link_told : LinksAreFound → (plain left : Plain) (judge : Judge) (old new a b c d : List ℕ) (r : Result JudgedLink Errno) →
    WellFormed (tree_of plain)
    → left ≡ plain → a ≡ old → path_fault a ≡ None → b ≡ new → path_fault b ≡ None → Link a b ≡ Link c d → IsOk (outcome plain (Link a b))
    → judged_by_name judge (tree_of left) c (named_place (tree_of left) d) ≡ r → link_judged plain judge old new ≡ r
link_told found plain left judge old new a b c d r well same is_old good_old is_new good_new is ok told =
    let first : c ≡ old = sym (ap old_of is) ∙ is_old in
    let second : d ≡ new = sym (ap new_of is) ∙ is_new in
    link_comes found plain judge old new r well
    (ap path_fault (sym is_old) ∙ good_old)
    (ap path_fault (sym is_new) ∙ good_new)
    (subst (λ (change : Change). IsOk (outcome plain change)) (λ i. Link (is_old i) (is_new i)) ok)
    ((λ i. judged_by_name judge (tree_of (sym same i)) (sym first i) (named_place (tree_of (sym same i)) (sym second i))) ∙ told)
