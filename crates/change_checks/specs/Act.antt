-- What a change that passed its tests does to a tree.
use Rattle.std.specs.Prelude.{◌≡◌, ◌≢◌, ℕ, ◌+◌, ◌≤◌, true, length, Some, None, IfSome}
use Rattle.std.specs.Option.{option_map}
use Rattle.names.specs.declared.limits.TheConstants.{LONGEST_COMPONENT}
use Rattle.directory_tree.specs.declared.node.Kind.TheVariants as kind
use Rattle.directory_tree.specs.declared.node.NodeKind.{NodeKind}
use Rattle.directory_tree.specs.declared.node.NodeKind.TheVariants.{Directory, File, Link}
use Rattle.directory_tree.specs.Tree.{Tree, find, is_empty}
use Rattle.directory_tree.specs.Walk.{Spot}
use Rattle.directory_tree.specs.Spots.{shape_of, node_at, kind_at, child_of}
use Rattle.directory_tree.specs.Apply.{entry, with_entry, dropped, moved, has_room, longest_link_text}
use Rattle.change_checks.specs.declared.place.Place.{Place}
use Rattle.change_checks.specs.declared.act.NewNode.{NewNode}
use Rattle.change_checks.specs.declared.act.NewNode.TheVariants as new
use Rattle.change_checks.specs.declared.act.Move.{Move}
use Rattle.change_checks.specs.declared.act.Act.{Act}
use Rattle.change_checks.specs.declared.act.Act.TheVariants as act

abbrev pub kind_of_new : NewNode → NodeKind
kind_of_new new.Directory = Directory
kind_of_new new.File = File
kind_of_new (new.Link text) = Link text.now

module _ {E : Type 0} (means : E → Spot) (t : Tree) where
  -- the number of a place's directory
  abbrev pub number_in : Place E → ℕ
  number_in place = node_at (means place.directory)

  -- the tree after it
  abbrev pub acted : Act E → Tree
  acted (act.Make place node) = with_entry t (entry (number_in place) place.component.now t.next (kind_of_new node)) (t.next + 1)
  acted (act.Link file place) = with_entry t (entry (number_in place) place.component.now (node_at (means file)) File) t.next
  acted (act.Remove place e) = dropped t (number_in place) place.component.now
  acted (act.Move m) = moved t (number_in m.from) m.from.component.now (number_in m.to) m.to.component.now
  acted act.Nothing = t

  -- a directory has no entry
  abbrev pub IsEmptied : E → Type 0
  IsEmptied e = shape_of (kind_at (means e)) ≡ kind.Directory → is_empty t.entries (node_at (means e)) ≡ true

  -- an entry may be added at this place, where there is none
  pub record IsVacant (capacity : ℕ) (place : Place E) : Type 0 where
    pub free : find t.entries (number_in place) place.component.now ≡ None
    pub directory : shape_of (kind_at (means place.directory)) ≡ kind.Directory
    pub room : has_room capacity t ≡ true

  -- the entry is at this place, and may be removed
  pub record MayGo (place : Place E) (e : E) : Type 0 where
    pub there : child_of t (means place.directory) place.component.now ≡ Some (means e)
    pub empty : IsEmptied e

  -- the entry may move: what is at the new place is of another node, and may be removed
  pub record MayMove (m : Move E) : Type 0 where
    pub there : child_of t (means m.from.directory) m.from.component.now ≡ Some (means m.entry)
    pub onto : child_of t (means m.to.directory) m.to.component.now ≡ option_map means m.replaced
    pub other : IfSome m.replaced (λ e. node_at (means e) ≢ node_at (means m.entry))
    pub empty : IfSome m.replaced IsEmptied
    pub directory : shape_of (kind_at (means m.to.directory)) ≡ kind.Directory

  -- what the tests found out about the tree
  abbrev pub IsTested : ℕ → Act E → Type 0
  IsTested capacity (act.Make place node) = IsVacant capacity place
  IsTested capacity (act.Link file place) = IsVacant capacity place × (kind_at (means file) ≡ File)
  IsTested capacity (act.Remove place e) = MayGo place e
  IsTested capacity (act.Move m) = MayMove m
  IsTested capacity act.Nothing = Unit {0}

-- P holds for the entries that an act names
abbrev pub NamesOnly : {E : Type 0} → (E → Type 0) → Act E → Type 0
NamesOnly P (act.Make place node) = P place.directory
NamesOnly P (act.Link file place) = P file × P place.directory
NamesOnly P (act.Remove place e) = P place.directory × P e
NamesOnly P (act.Move m) = P m.from.directory × P m.entry × P m.to.directory × IfSome m.replaced P
NamesOnly P act.Nothing = Unit {0}

abbrev pub FitsNode : NewNode → Type 0
FitsNode new.Directory = Unit {0}
FitsNode new.File = Unit {0}
FitsNode (new.Link text) = length text.now ≤ longest_link_text

-- a new entry's component, and the text of a new link, are short
abbrev pub Fits : {E : Type 0} → Act E → Type 0
Fits (act.Make place node) = (length place.component.now ≤ LONGEST_COMPONENT) × FitsNode node
Fits (act.Link file place) = length place.component.now ≤ LONGEST_COMPONENT
Fits (act.Remove place e) = Unit {0}
Fits (act.Move m) = length m.to.component.now ≤ LONGEST_COMPONENT
Fits act.Nothing = Unit {0}
