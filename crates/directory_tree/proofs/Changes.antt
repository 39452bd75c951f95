-- An accepted change keeps a tree well-formed.
use Rattle.std.proofs.Common.{◌≡◌, ℕ, suc, ◌+◌, ◌==◌, ◌||◌, Bool, true, false, List, [], ◌∷◌, map, Some, None, Option, sym, refl, ap, ◌∙◌}
use Rattle.std.proofs.Common.{subst, arith, eq-eqb, ne_eqb, cond}
use Rattle.std.specs.Prelude.{if◌then◌else◌, Result, Ok, Err, filter, not, nat_lt, bytes_eq}
use Rattle.std.specs.List.{list_any, slice_split, onto_first}
use Rattle.names.specs.declared.errors.Errno.{Errno}
use Rattle.names.specs.declared.errors.Errno.TheVariants.{EBUSY, ENOTDIR, EINVAL, EOVERFLOW}
use Rattle.directory_tree.specs.declared.node.NodeKind.{NodeKind}
use Rattle.directory_tree.specs.declared.node.NodeKind.TheVariants.{Directory, File, Link}
use Rattle.directory_tree.specs.declared.node.Last.TheVariants.{Follow}
use Rattle.directory_tree.specs.declared.change.Change.{Change}
use Rattle.directory_tree.specs.declared.change.Change.TheVariants as change
use Rattle.names.specs.Paths.{is_slash, is_empty, filled_parts, ends_with_slash}
use Rattle.directory_tree.specs.Components.{IsComponent, slash, is_filled, step_of, dot, dot_dot}
use Rattle.directory_tree.specs.Tree.{Tree, Entry, WellFormed, root, root_alone, own_entry, leads, is_directory}
use Rattle.directory_tree.specs.Walk.{Spot, resolve, max_links}
use Rattle.directory_tree.specs.Walk.Spot.{Root, Held}
use Rattle.directory_tree.specs.Apply.{Changed, Target, and_then, make, link, unlink, rmdir, rename, target_from, is_dots, tested}
use Rattle.directory_tree.specs.Apply.{target_of, directory_target, other_target, directory_at, parent_of, at_one, at_two, text_of, apply}
use Rattle.directory_tree.specs.Apply.{apply_counted, most_changes, has_room, after_from, tree_after}
use Rattle.std.proofs.lemmas.Option.{none-some}
use Rattle.names.specs.laws.Results.{err-ok, same_Ok}
use Rattle.std.proofs.lemmas.Bool.{or_parts}
use Rattle.directory_tree.proofs.Texts.{filled_is}
use Rattle.directory_tree.proofs.Presence.{Stands, placed_at, resolve_stands}
use Rattle.directory_tree.proofs.Kept.{make_keeps, link_keeps}
use Rattle.directory_tree.proofs.Drops.{unlink_keeps, rmdir_keeps}
use Rattle.directory_tree.proofs.Renames.{rename_keeps}

pub and_then_inv : {X Y : Type 0} (r : Result X Errno) (next : X → Result Y Errno) (y : Y) → and_then r next ≡ Ok y →
    (x : X) × (r ≡ Ok x) × (next x ≡ Ok y)
and_then_inv (Err e) next y h = absurd (err-ok e y h)
and_then_inv (Ok x) next y h = (x, refl, h)

abbrev Each : (List ℕ → Type 0) → List (List ℕ) → Type 0
Each P [] = Unit {0}
Each P (c ∷ cs) = P c × Each P cs

abbrev NoSlash : List ℕ → Type 0
NoSlash c = list_any (λ b. b == slash) c ≡ false

abbrev Plain : List ℕ → Type 0
Plain c = (is_filled c ≡ true) × NoSlash c

onto_plain : (b : ℕ) (ps : List (List ℕ)) → (b == slash) ≡ false → Each NoSlash ps → Each NoSlash (onto_first b ps)
onto_plain b [] h each = (ap (λ (k : Bool). k || false) h, tt)
onto_plain b (p ∷ ps) h each = ((λ i. h i || each.0 i), each.1)

parts_plain : (text : List ℕ) → Each NoSlash (slice_split is_slash text)
parts_plain [] = (refl, tt)
parts_plain (b ∷ text) = elim (b == slash) as (λ (k : Bool). (b == slash) ≡ k →
    Each NoSlash (if k then [] ∷ slice_split is_slash text else onto_first b (slice_split is_slash text))) [
      | true ↦ λ q. (refl, parts_plain text)
      | false ↦ λ q. onto_plain b (slice_split is_slash text) q (parts_plain text)
    ] refl

filter_plain : (ps : List (List ℕ)) → Each NoSlash ps → Each Plain (filter (λ part. not (is_empty part)) ps)
filter_plain [] h = tt
filter_plain (p ∷ ps) h = elim (not (is_empty p)) as (λ (k : Bool). not (is_empty p) ≡ k →
    Each Plain (cond k (p ∷ filter (λ part. not (is_empty part)) ps) (filter (λ part. not (is_empty part)) ps))) [
      | true ↦ λ q. ((sym (filled_is p) ∙ q, h.0), filter_plain ps h.1)
      | false ↦ λ q. filter_plain ps h.1
    ] refl

target_plain : (c : List ℕ) (cs : List (List ℕ)) → Plain c → Each Plain cs → Plain (target_from c cs).last
target_plain c [] h each = h
target_plain c (d ∷ ds) h each = target_plain d ds each.0 each.1

target_good : (refused : Bool) (cs : List (List ℕ)) (a : Target) → Each Plain cs → target_of refused cs ≡ Ok a → IsComponent a.last
target_good refused [] a each h = absurd (err-ok EBUSY a h)
target_good refused (c ∷ cs) a each h = elim refused as (λ (k : Bool). (if k then Err EINVAL else tested (target_from c cs)) ≡ Ok a →
    IsComponent a.last) [
      | true ↦ λ q. absurd (err-ok EINVAL a q)
      | false ↦ λ q. elim (is_dots (target_from c cs).last) as (λ (k : Bool). is_dots (target_from c cs).last ≡ k →
          (if k then Err EINVAL else Ok (target_from c cs)) ≡ Ok a → IsComponent a.last) [
            | true ↦ λ dots r. absurd (err-ok EINVAL a r)
            | false ↦ λ dots r.
                let plain = target_plain c cs each.0 each.1 in
                let none = or_parts (bytes_eq (target_from c cs).last dot) (bytes_eq (target_from c cs).last dot_dot) dots in
                subst (λ (x : Target). IsComponent x.last) (same_Ok (target_from c cs) a r) record {
                  filled = plain.0;
                  no_slash = plain.1;
                  no_dot =
                      none.0;
                  no_dot_dot = none.1;
                }
          ] refl q
    ] h

abbrev Good : Result Target Errno → Type 0
Good target = (a : Target) → target ≡ Ok a → IsComponent a.last

directory_good : (path : List ℕ) → Good (directory_target path)
directory_good path a h = target_good false (filled_parts path) a (filter_plain (slice_split is_slash path) (parts_plain path)) h

pub other_good : (path : List ℕ) → Good (other_target path)
other_good path a h = target_good (ends_with_slash path) (filled_parts path) a
    (filter_plain (slice_split is_slash path) (parts_plain path)) h

module _ (t : Tree) (well : WellFormed t) where
  directory_leads : (s : Spot) (d : ℕ) → Stands t s → directory_at s ≡ Ok d → (n : ℕ) × (leads t.entries n d ≡ true)
  unfolding Stands
  directory_leads Root d stands h = (0, eq-eqb d root (sym (same_Ok root d h)))
  directory_leads (Held e) d stands h = elim (is_directory e.kind) as (λ (k : Bool). is_directory e.kind ≡ k →
      (if k then Ok e.node else Err ENOTDIR) ≡ Ok d → (n : ℕ) × (leads t.entries n d ≡ true)) [
        | true ↦ λ directory q.
            let (n, l) = well.rooted e.of e.component e stands in (
              suc n,
              subst (λ (x : ℕ). leads t.entries (suc n) x ≡ true) (same_Ok e.node d q)
                  (ap (λ (b : Bool). if b then true else elim (own_entry t.entries e.node) as (λ _. Bool)
                  [ None ↦ false | Some z ↦ leads t.entries n z.of ])
                  (ne_eqb e.node root (λ p. let k = (well.low e.of e.component e stands).0 in absurd (omega arith)))
                  ∙ ap (λ (o : Option Entry). elim o as (λ _. Bool) [ None ↦ false | Some z ↦ leads t.entries n z.of ])
                  (placed_at t well e.of e.component e stands directory)
                  ∙ l),
            )
        | false ↦ λ directory q. absurd (err-ok ENOTDIR d q)
      ] refl h

  pub parent_leads : (a : Target) (d : ℕ) → parent_of t a ≡ Ok d → (n : ℕ) × (leads t.entries n d ≡ true)
  parent_leads a d h =
      let (s, is, at) = and_then_inv (resolve t Follow max_links root (map step_of a.before)) directory_at d h in
      directory_leads s d (resolve_stands t Follow well max_links root (map step_of a.before) s is) at

  one_keeps : (u : Tree) (target : Result Target Errno) (act : ℕ → List ℕ → Changed) → Good target
      → ((d n : ℕ) (c : List ℕ) → leads t.entries n d ≡ true → IsComponent c → act d c ≡ Ok u → WellFormed u)
      → at_one t target act ≡ Ok u → WellFormed u
  one_keeps u target act good keeps h =
      let (a, is, more) = and_then_inv target (λ (a : Target). and_then (parent_of t a) (λ d. act d a.last)) u h in
      let (d, at, done) = and_then_inv (parent_of t a) (λ (d : ℕ). act d a.last) u more in
      let (n, l) = parent_leads a d at in
      keeps d n a.last l (good a is) done

  two_keeps : (u : Tree) (old new : Result Target Errno) (act : ℕ → List ℕ → ℕ → List ℕ → Changed) → Good new
      → ((d : ℕ) (c : List ℕ) (into n : ℕ) (name : List ℕ) → leads t.entries n into ≡ true → IsComponent name → act d c into name ≡ Ok u →
      WellFormed u)
      → at_two t old new act ≡ Ok u → WellFormed u
  two_keeps u old new act good keeps h =
      let (a, is_a, more) =
      and_then_inv old (λ (a : Target). and_then new
      (λ b. and_then (parent_of t a) (λ d. and_then (parent_of t b) (λ into. act d a.last into b.last)))) u h in
      let (b, is_b, rest) =
      and_then_inv new (λ (b : Target). and_then (parent_of t a) (λ d. and_then (parent_of t b) (λ into. act d a.last into b.last)))
      u more in
      let (d, at_d, last) = and_then_inv (parent_of t a) (λ (d : ℕ). and_then (parent_of t b) (λ into. act d a.last into b.last)) u rest in
      let (into, at_into, done) = and_then_inv (parent_of t b) (λ (into : ℕ). act d a.last into b.last) u last in
      let (n, l) = parent_leads b into at_into in
      keeps d a.last into n b.last l (good b is_b) done

  make_one : (u : Tree) (room : Bool) (kind : NodeKind) (target : Result Target Errno) → Good target → at_one t target (make t room kind)
      ≡ Ok u → WellFormed u
  make_one u room kind target good h = one_keeps u target (make t room kind) good
      (λ d n c l proper q. make_keeps t u room kind d c n well l proper q) h

pub apply_keeps : (t u : Tree) (room : Bool) (c : Change) → WellFormed t → apply t room c ≡ Ok u → WellFormed u
apply_keeps t u room (change.Mkdir path) well h = make_one t well u room Directory (directory_target path) (directory_good path) h
apply_keeps t u room (change.Create path) well h = make_one t well u room File (other_target path) (other_good path) h
apply_keeps t u room (change.Symlink text path) well h =
    let (bytes, is, more) = and_then_inv (text_of text) (λ (bytes : List ℕ). at_one t (other_target path) (make t room (Link bytes)))
    u h in
    make_one t well u room (Link bytes) (other_target path) (other_good path) more
apply_keeps t u room (change.Link old new) well h =
    two_keeps t well u (other_target old) (other_target new) (link t room) (other_good new)
    (λ d c into n name l proper q. link_keeps t u room d c into name n well l proper q) h
apply_keeps t u room (change.Unlink path) well h = one_keeps t well u (other_target path) (unlink t) (other_good path)
    (λ d n c l proper q. unlink_keeps t u d c well q) h
apply_keeps t u room (change.Rmdir path) well h = one_keeps t well u (directory_target path) (rmdir t) (directory_good path)
    (λ d n c l proper q. rmdir_keeps t u d c well q) h
apply_keeps t u room (change.Rename old new) well h =
    two_keeps t well u (other_target old) (other_target new) (rename t) (other_good new)
    (λ d c into n name l proper q. rename_keeps t u d c into name n well l proper q) h

after_keeps : (capacity count : ℕ) (cs : List Change) (t u : Tree) → WellFormed t → after_from capacity count t cs ≡ Ok u → WellFormed u
after_keeps capacity count [] t u well h = subst WellFormed (same_Ok t u h) well
after_keeps capacity count (c ∷ cs) t u well h =
    let (v, is, rest) = and_then_inv (apply_counted capacity count t c) (λ (v : Tree). after_from capacity (count + 1) v cs) u h in
    after_keeps capacity (count + 1) cs v u
    (elim (nat_lt count most_changes) as (λ (k : Bool). (if k then apply t (has_room capacity t) c else Err EOVERFLOW) ≡ Ok v →
    WellFormed v) [
      | true ↦ λ q. apply_keeps t v (has_room capacity t) c well q
      | false ↦ λ q. absurd (err-ok EOVERFLOW v q)
    ] is) rest

pub root_well : WellFormed root_alone
root_well = record {
  distinct = tt;
  past_root = omega arith;
  low = λ d c e h. absurd (none-some e h);
  one_kind = λ d c d' c' e e' h h' same. absurd (none-some e h);
  one_entry = λ d c d' c' e e' h h' same directory. absurd (none-some e h);
  rooted = λ d c e h. absurd (none-some e h);
  named = λ d c e h. absurd (none-some e h);
}

pub tree_after_well : (capacity : ℕ) (cs : List Change) (t : Tree) → tree_after capacity cs ≡ Ok t → WellFormed t
tree_after_well capacity cs t h = after_keeps capacity 0 cs root_alone t root_well h
