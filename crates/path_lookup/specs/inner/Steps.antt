-- How far a walk has come.
use Rattle.std.specs.Prelude.{◌≡◌, ◌≢◌, ℕ, zero, suc, ◌+◌, ◌*◌, ◌<◌, ◌≤◌, List, ◌∷◌, ◌++◌, true, false, length, bytes_eq, Ok, Err}
use Rattle.std.specs.Prelude.{if◌then◌else◌}
use Rattle.names.specs.declared.errors.Errno.TheVariants.{ELOOP}
use Rattle.names.specs.Paths.{begins_with_slash, components}
use Rattle.path_lookup.specs.declared.arrival.Arrival.{Arrival}
use Rattle.path_lookup.specs.declared.arrival.Arrival.TheVariants as arrival
use Rattle.directory_tree.specs.declared.node.Last.{Last}
use Rattle.directory_tree.specs.declared.node.NodeKind.TheVariants.{Link}
use Rattle.path_lookup.specs.declared.direct.Course.{Course}
use Rattle.path_lookup.specs.declared.direct.Course.TheVariants as course
use Rattle.path_lookup.specs.declared.walk.Progress.{Progress}
use Rattle.path_lookup.specs.declared.walk.Progress.TheVariants as progress
use Rattle.directory_tree.specs.Components.{Step, slash, dot, dot_dot, steps_of}
use Rattle.directory_tree.specs.Apply.{longest_link_text}
use Rattle.directory_tree.specs.Tree.{Tree}
use Rattle.directory_tree.specs.Name.{name_of}
use Rattle.directory_tree.specs.Walk.{Spot, Walked, max_links, is_last, spot_of, start_of, resolve, walk}
use Rattle.directory_tree.specs.Walk.Spot.{Root}
use Rattle.directory_tree.specs.declared.node.Kind.TheVariants as kind
use Rattle.directory_tree.specs.Spots.{shape_of, node_at, kind_at}
use Rattle.path_lookup.specs.World.{World}

-- the spot is a directory's
abbrev pub IsDirectory : Tree → Spot → Type 0
IsDirectory t spot = spot_of t (node_at spot) ≡ spot

-- the answer of a walk that has reached this directory, with this many links and this text left
abbrev pub onward_from : World → Last → ℕ → Spot → List ℕ → Walked
onward_from w last links directory left = resolve w.tree last links (node_at directory) (steps_of left)

-- the answer after a link was met, with this many links left before it
abbrev pub after_link : Tree → Last → ℕ → ℕ → List Step → Walked
after_link t last zero d xs = Err ELOOP
after_link t last (suc links) d xs = resolve t last links d xs

-- where the text of a link begins
abbrev pub start_at : List ℕ → Spot → Spot
start_at text directory = if begins_with_slash text then Root else directory

module _ {E : Type 0} (means : E → World → Spot) (w : World) (last : Last) where
  -- what a component of this directory led to gives this answer, with this many links left and these steps after it
  abbrev pub ArrivesAt : ℕ → ℕ → List Step → Walked → Arrival E → Type 0
  ArrivesAt links d xs answer (arrival.Directory e) = (answer ≡ resolve w.tree last links (node_at (means e w)) xs)
      × IsDirectory w.tree (means e w)
  ArrivesAt links d xs answer (arrival.Link e) = (text : List ℕ) × (kind_at (means e w) ≡ Link text)
      × (answer ≡ after_link w.tree last links (start_of text d) (steps_of text ++ xs))
  ArrivesAt links d xs answer (arrival.End e) = (answer ≡ Ok (means e w)) × (shape_of (kind_at (means e w)) ≢ kind.Directory)
      × (is_last xs ≡ true)

  -- the walk that has come so far, with this text left, gives this answer
  abbrev pub ComesTo : List ℕ → Walked → Progress E → Type 0
  ComesTo left answer (progress.At e links) = (answer ≡ onward_from w last links (means e w) left) × IsDirectory w.tree (means e w)
  ComesTo left answer (progress.Done e) = answer ≡ Ok (means e w)

-- the entry that it leads to
abbrev pub arrival_entry : {E : Type 0} → Arrival E → E
arrival_entry (arrival.Directory e) = e
arrival_entry (arrival.Link e) = e
arrival_entry (arrival.End e) = e

abbrev pub progress_entry : {E : Type 0} → Progress E → E
progress_entry (progress.At e links) = e
progress_entry (progress.Done e) = e

-- the most bytes that are left of a path and the texts of links
abbrev pub most_left : ℕ
most_left = 45015

-- there is room for the texts of the links that are left
abbrev pub HasRoom : ℕ → ℕ → Type 0
HasRoom left links = left + longest_link_text * links ≤ most_left

-- each step takes a byte, or a link whose text is shorter than what it counts
abbrev pub work_left : ℕ → ℕ → ℕ
work_left left links = left + 1024 * links

abbrev pub GoesOn : {E : Type 0} → ℕ → ℕ → ℕ → Progress E → Type 0
GoesOn before after links (progress.At e links_left) = HasRoom after links_left × (work_left after links_left < work_left before links)
GoesOn before after links (progress.Done e) = Unit {0}

-- where the walk along a text has come: to an entry whose name the text is, to a link in a directory, or to a directory from which
-- it continues along what is left
module _ {E : Type 0} (means : E → World → Spot) (w : World) (last : Last) (text : List ℕ) where
  abbrev pub LeadsTo : Course E → Type 0
  LeadsTo (course.Named e) = (walk w.tree last text ≡ Ok (means e w)) × (name_of w.tree (means e w) ≡ text)
  LeadsTo (course.Link d e left) = ArrivesAt means w last max_links (node_at (means d w)) (steps_of left.now)
      (walk w.tree last text) (arrival.Link e) × IsDirectory w.tree (means d w)
  LeadsTo (course.Left e left) = (walk w.tree last text ≡ onward_from w last max_links (means e w) left.now)
      × IsDirectory w.tree (means e w)

abbrev pub IsKnown : {E : Type 0} → (E → Type 0) → Course E → Type 0
IsKnown knows (course.Named e) = knows e
IsKnown knows (course.Link d e left) = knows d × knows e
IsKnown knows (course.Left e left) = knows e

-- no more is left than there was
abbrev pub IsLeftOf : {E : Type 0} → List ℕ → Course E → Type 0
IsLeftOf text (course.Named e) = Unit {0}
IsLeftOf text (course.Link d e left) = (length left.now ≤ length text) × (0 < length left.now → begins_with_slash left.now ≡ true)
IsLeftOf text (course.Left e left) = length left.now ≤ length text

-- text that begins with a slash and a component, which an entry may have, and the text after it
pub record IsOwnComponent (left component rest : List ℕ) : Type 0 where
  pub whole : left ≡ slash ∷ (component ++ rest)
  pub first : components left ≡ component ∷ components rest
  pub no_dot : bytes_eq component dot ≡ false
  pub no_dot_dot : bytes_eq component dot_dot ≡ false
  pub slash_after : 0 < length rest → begins_with_slash rest ≡ true
