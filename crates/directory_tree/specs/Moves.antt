-- What a move (rename(2)) does to the names of a tree.
use Rattle.std.specs.Prelude.{◌≡◌, ◌≢◌, ◌⊎◌, ℕ, true, List, length, IfSome}
use Rattle.directory_tree.specs.Tree.{Tree, Entry, find, is_directory, is_below}

-- the entry is the one that moves, or lies in the directory that moves or below it
abbrev pub IsWithin : Tree → Entry → Entry → Type 0
IsWithin t old e = (e ≡ old) ⊎ ((is_directory old.kind ≡ true) × (is_below t.entries (length t.entries) old.node e.of ≡ true))

-- no entry of the node that moves is at the new place: if one is, a rename does nothing
abbrev pub IsMove : Tree → Entry → ℕ → List ℕ → Type 0
IsMove t old into name = IfSome (find t.entries into name) (λ new. new.node ≢ old.node)

-- the entry is at this place
abbrev pub StandsAt : ℕ → List ℕ → Entry → Type 0
StandsAt d c e = (e.of ≡ d) × (e.component ≡ c)
