-- The name of the place that a path names.
use Rattle.std.proofs.Common.{◌≡◌, ℕ, suc, Bool, true, false, List, [], ◌∷◌, ◌++◌, length, sym, refl, ap, ◌∙◌, append_assoc, arith}
use Rattle.std.proofs.Common.{length-append}
use Rattle.std.specs.Prelude.{if◌then◌else◌, Result, Ok, Err, nat_lt}
use Rattle.std.proofs.lemmas.Bool.Decides.{nat_tests}
use Rattle.names.specs.declared.errors.Errno.{Errno}
use Rattle.names.specs.declared.errors.Errno.TheVariants.{ENAMETOOLONG}
use Rattle.path_lookup.specs.declared.fault.WalkFault.{WalkFault}
use Rattle.path_lookup.specs.declared.fault.WalkFault.TheVariants.{Refused, Torn}
use Rattle.directory_tree.specs.declared.node.Kind.TheVariants as kind
use Rattle.directory_tree.specs.declared.node.NodeKind.{NodeKind}
use Rattle.directory_tree.specs.declared.node.NodeKind.TheVariants.{Directory, File, Link}
use Rattle.directory_tree.specs.declared.node.Last.TheVariants.{Follow}
use Rattle.path_lookup.specs.declared.target.EndSlash.TheVariants as slash_end
use Rattle.path_lookup.specs.declared.target.SplitPath.{SplitPath}
use Rattle.directory_tree.specs.Components.{Step, slash}
use Rattle.directory_tree.specs.Tree.{Tree, WellFormed, root, is_directory}
use Rattle.directory_tree.specs.Walk.{Spot, walk, resolve, max_links}
use Rattle.directory_tree.specs.Walk.Spot.{Root, Held}
use Rattle.directory_tree.specs.Spots.{Stands, shape_of, node_at, kind_at}
use Rattle.path_lookup.specs.World.{World}
use Rattle.path_lookup.specs.WalkFaults.{IsFault}
use Rattle.directory_tree.specs.Name.{directory_name, name_of, judged, longest_path}
use Rattle.directory_tree.specs.Apply.{Target, and_then, parent_of, directory_at}
use Rattle.path_lookup.specs.Target.{IsSplit}
use Rattle.directory_tree.specs.Place.{place_name, named_place}
use Rattle.names.specs.laws.Results.{err-ok, same_Ok}
use Rattle.directory_tree.proofs.Depth.{Deep, deep}
use Rattle.directory_tree.proofs.Presence.{placed_at}
use Rattle.path_lookup.proofs.NameParts.{stem, name_split, closing_directory, stem_spot}
use Rattle.path_lookup.proofs.Arrivals.{directory_stands}

-- the two tests agree
shape_directory : (k : NodeKind) → shape_of k ≡ kind.Directory → is_directory k ≡ true
shape_directory Directory h = refl
shape_directory File h = absurd (cc h)
shape_directory (Link text) h = absurd (cc h)

-- some number of steps lead up from a directory to the root
directory_deep : (t : Tree) → WellFormed t → (s : Spot) → Stands t s → shape_of (kind_at s) ≡ kind.Directory →
    (m : ℕ) × Deep t.entries m (node_at s)
directory_deep t well Root stands h = (0, refl)
directory_deep t well (Held e) stands h =
    let (n, l) = well.rooted e.of e.component e stands in
    let (m, low, up) = deep t.entries n e.of l in (
      suc m,
      (
        e,
        placed_at t well e.of e.component e stands (shape_directory e.kind h),
        (λ p. let k =
            (well.low e.of e.component e stands).0 in absurd (omega arith)),
        up,
      ),
    )

-- a directory's name is that of its number, and a slash
pub name_directory : (t : Tree) → WellFormed t → (s : Spot) → Stands t s → shape_of (kind_at s) ≡ kind.Directory →
    name_of t s ≡ directory_name t (node_at s) ++ slash ∷ []
name_directory t well s stands h =
    let (m, up) = directory_deep t well s stands h in
    name_split t s
    ∙ ap (λ (z : List ℕ). stem t s ++ z) (closing_directory s h)
    ∙ ap (λ (z : List ℕ). z ++ slash ∷ []) (sym (stem_spot t m (node_at s) up ∙ ap (stem t) (directory_stands t well s stands h)))

-- the name of a directory, with its slash, and a component after it
pub place_behind : (t : Tree) → WellFormed t → (s : Spot) → Stands t s → shape_of (kind_at s) ≡ kind.Directory → (component : List ℕ) →
    name_of t s ++ component ≡ place_name t (node_at s) component
place_behind t well s stands h component =
    ap (λ (z : List ℕ). z ++ component) (name_directory t well s stands h) ∙ append_assoc (directory_name t (node_at s))
    (slash ∷ []) component

-- what can be judged is the name itself
pub judged_is : (name text : List ℕ) → judged name ≡ Ok text → name ≡ text
judged_is name text h = elim (nat_lt longest_path (length name)) as (λ (b : Bool). (if b then Err ENAMETOOLONG else Ok name) ≡ Ok text →
    name ≡ text) [
      | true ↦ λ q. absurd (err-ok ENAMETOOLONG text q)
      | false ↦ λ q. same_Ok name text q
    ] h

-- where a name is too long, a longer one is
pub judged_more : (name more : List ℕ) (errno : Errno) → judged name ≡ Err errno → judged (name ++ more) ≡ Err errno
judged_more name more errno h = elim (nat_lt longest_path (length name)) as (λ (b : Bool). nat_lt longest_path (length name) ≡ b →
    (if b then Err ENAMETOOLONG else Ok name) ≡ Err errno → judged (name ++ more) ≡ Err errno) [
      | true ↦ λ long q. ap (λ (b : Bool). if b then Err ENAMETOOLONG else Ok (name ++ more)) (longer long) ∙ q
      | false ↦ λ short q. absurd (err-ok errno name (sym q))
    ] refl h
  where
    longer : nat_lt longest_path (length name) ≡ true → nat_lt longest_path (length (name ++ more)) ≡ true
    longer long = let whole = length-append name more in grind (arith, nat_tests)

-- the directory decides, and the last component
pub named_by : (t : Tree) (path : List ℕ) (parts : SplitPath) → IsSplit slash_end.Refused path parts
    → named_place t path ≡ and_then (and_then (walk t Follow parts.before.now) directory_at) (λ d. judged (place_name t d parts.last.now))
named_by t path parts split =
    ap (λ (r : Result Target Errno). and_then r (λ a. and_then (parent_of t a) (λ d. judged (place_name t d a.last)))) split.target
    ∙ ap (λ (xs : List Step). and_then (and_then (resolve t Follow max_links root xs) directory_at)
    (λ d. judged (place_name t d parts.last.now))) (sym split.steps)

-- its directory was found
pub named_at : (t : Tree) (path : List ℕ) (parts : SplitPath) (d : ℕ) → IsSplit slash_end.Refused path parts
    → and_then (walk t Follow parts.before.now) directory_at ≡ Ok d → named_place t path ≡ judged (place_name t d parts.last.now)
named_at t path parts d split h =
    named_by t path parts split ∙ ap (λ (r : Result ℕ Errno). and_then r (λ d. judged (place_name t d parts.last.now))) h

-- the name of the place is the directory's name and the last component
pub named_behind : (t : Tree) → WellFormed t → (path : List ℕ) (parts : SplitPath) (s : Spot) → IsSplit slash_end.Refused path parts →
    Stands t s → shape_of (kind_at s) ≡ kind.Directory
    → and_then (walk t Follow parts.before.now) directory_at ≡ Ok (node_at s) → named_place t path ≡ judged (name_of t s ++ parts.last.now)
named_behind t well path parts s split stands h found =
    named_at t path parts (node_at s) split found ∙ ap judged (sym (place_behind t well s stands h parts.last.now))

-- a fault is one of every question that is refused with it
pub fault_through : {X Y : Type 0} (lacks : Type 0) (sees : World → Type 0) (f : World → Result X Errno) (g : World → Result Y Errno)
    (fault : WalkFault)
    → ((w : World) (errno : Errno) → sees w → f w ≡ Err errno → g w ≡ Err errno) → IsFault lacks sees f fault → IsFault lacks sees g fault
fault_through lacks sees f g (Refused errno) on h = λ w seen. on w errno seen (h w seen)
fault_through lacks sees f g Torn on h = h
