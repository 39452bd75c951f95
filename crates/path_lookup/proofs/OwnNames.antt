-- A text that begins with a slash and a component.
use Rattle.std.proofs.Common.{◌≡◌, ℕ, ◌<◌, ◌≢◌, true, false, Some, None, Option, List, [], ◌∷◌, ◌++◌, length, get_or, drop, sym}
use Rattle.std.proofs.Common.{refl, ap, ◌==◌, ◌∙◌, arith, ne_eqb, take-append-drop, true≢false}
use Rattle.std.specs.Prelude.{bytes_eq, slice_index}
use Rattle.std.specs.Option.{option_map}
use Rattle.std.specs.List.{prefix_len, position_or_len, before_first}
use Rattle.std.proofs.lemmas.List.{length-take, get_or-drop}
use Rattle.std.proofs.lemmas.List.Sums.{prefix_len_passes, prefix_len_stops, prefix_len-le-length, fails_before_first}
use mathlib.Core.Logic.{dite}
use native.Mathlib.Decide.{ℕ_discrete}
use Rattle.names.specs.Paths.{is_slash}
use Rattle.names.specs.laws.PathLemmas.{step_at_part, left_slash}
use Rattle.directory_tree.specs.Components.{slash, dot, dot_dot}
use Rattle.directory_tree.specs.Tree.{Tree, Entry, WellFormed, find}
use Rattle.directory_tree.specs.Walk.{Spot, spot_of}
use Rattle.directory_tree.specs.Walk.Spot.{Held}
use Rattle.directory_tree.specs.Spots.{Stands, child_of, node_at, component_at, directory_of}
use Rattle.std.proofs.lemmas.Option.{none-some, same_Some}
use Rattle.directory_tree.specs.laws.Found.{found_at}
use Rattle.path_lookup.specs.inner.Steps.{IsDirectory, IsOwnComponent}
use Rattle.path_lookup.proofs.NameParts.{stem, stem_up}

module _ (left : List ℕ) (begins : slice_index left 0 ≡ slash) (some : 0 < length left) where
  abbrev body : List ℕ
  body = drop 1 left

  split_first : (xs : List ℕ) → 0 < length xs → slice_index xs 0 ≡ slash → xs ≡ slash ∷ drop 1 xs
  split_first [] l h = absurd (omega arith)
  split_first (b ∷ bytes) l h = ap (λ (z : ℕ). z ∷ bytes) h

  -- one slash is before the component
  one_slash : 0 < position_or_len is_slash body → prefix_len is_slash left ≡ 1
  one_slash filled =
      let most = prefix_len-le-length is_slash left in
      let not_none : prefix_len is_slash left ≢ 0 = λ e. true≢false (sym (ap is_slash begins)
      ∙ ap (λ (z : ℕ). is_slash (get_or left z 0)) (sym e) ∙ prefix_len_stops is_slash left 0 (omega arith)) in
      dite (ℕ_discrete (prefix_len is_slash left) 1)
      (λ e. e)
      (λ other. absurd (true≢false (sym (prefix_len_passes is_slash left 1 0 (omega arith))
      ∙ ap is_slash (sym (get_or-drop 1 left 0 0)) ∙ fails_before_first is_slash body 0 0 filled)))

  pub own : (component rest : List ℕ) → component ≡ before_first is_slash body → rest ≡ drop (position_or_len is_slash body) body →
      0 < length component → bytes_eq component dot ≡ false → bytes_eq component dot_dot ≡ false → IsOwnComponent left component rest
  own component rest is after filled no_dot no_dot_dot =
      let n = position_or_len is_slash body in
      let size = length-take n body in
      let long = ap length is in
      let one = one_slash (omega arith) in
      let at : drop (prefix_len is_slash left) left ≡ body = ap (λ (z : ℕ). drop z left) one in
      record {
        whole = split_first left some begins ∙ ap (λ (z : List ℕ). slash ∷ z) (sym (take-append-drop n body)
            ∙ (λ i. sym is i ++ sym after i));
        first = step_at_part left component rest (is ∙ ap (before_first is_slash) (sym at))
            (after ∙ ap (λ (z : List ℕ). drop (position_or_len is_slash z) z) (sym at)) filled;
        no_dot = no_dot;
        no_dot_dot = no_dot_dot;
        slash_after = left_slash left rest (after ∙ ap (λ (z : List ℕ). drop (position_or_len is_slash z) z) (sym at));
      }

pub no_rest : (rest : List ℕ) → (length rest == 0) ≡ true → rest ≡ []
no_rest [] h = refl
no_rest (b ∷ rest) h = absurd (true≢false (sym h ∙ ne_eqb (length (b ∷ rest)) 0 (λ e. omega arith)))

-- the name of an entry is that of its directory, a slash and its component
pub stem_down : (t : Tree) → WellFormed t → (directory spot : Spot) → Stands t spot → IsDirectory t directory → (component : List ℕ) →
    child_of t directory component ≡ Some spot → (rest : List ℕ) →
    stem t spot ++ rest ≡ stem t directory ++ slash ∷ (component ++ rest)
stem_down t well directory spot stands is component child rest =
    elim (find t.entries (node_at directory) component) as (λ (o : Option Entry). find t.entries (node_at directory) component ≡ o →
    option_map Held o ≡ Some spot → stem t spot ++ rest ≡ stem t directory ++ slash ∷ (component ++ rest)) [
      | None ↦ λ at h. absurd (none-some spot h)
      | Some e ↦ λ at h.
          let key = found_at t.entries (node_at directory) component e at in
          let held : Held e ≡ spot = same_Some (Held e) spot h in
          stem_up t well spot directory stands (ap (directory_of t) (sym held) ∙ ap Some (ap (spot_of t) key.0 ∙ is)) rest
          ∙ ap (λ (z : List ℕ). stem t directory ++ slash ∷ (z ++ rest)) (ap component_at (sym held) ∙ key.1)
    ] refl child
