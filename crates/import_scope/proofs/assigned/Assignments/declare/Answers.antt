use Rattle.std.proofs.Common.{◌≡◌, ℕ, List, [], ◌∷◌, ◌++◌, Some, length, map, cond, sym, ap, ◌∙◌}
use Rattle.std.specs.Prelude.{bytes_eq}
use Rattle.std.specs.BTreeMap.{get_by}
use Rattle.std.specs.Cmp.Lexicographic.{slice_cmp}
use Rattle.std.specs.Ordering.{nat_cmp}
use Rattle.apparmor_pieces.specs.Pieces.{Text}
use Rattle.apparmor_variables.specs.Variables.{Variable}
use Rattle.apparmor_variables.specs.inner.Known.{place_of}
use Rattle.names.specs.laws.ByteKeys.{updates_bytes}
use Rattle.import_scope.specs.Scopes.{is_declared}
use Rattle.import_scope.proofs.VariablePlaces.{place_of_one_more}
use Rattle.import_scope.proofs.assigned.Assignments.declare.Goals as goal

pub invariant_of-self-in-Ok : goal.invariant_of-self-in-Ok
invariant_of-self-in-Ok c = λ q.
    let old = c.self.inside.places in
    let vs = c.self.inside.variables.items in
    let name = c.args.name.now in
    let v : Variable = record { name = name; values = map (λ value. value.now) c.args.values.items } in
    let key : c.in_ok-key.key.items ≡ name = c.in_ok-key.ensures.items in
    let place : c.len-place.result ≡ length vs = c.len-place.ensures ∙ c.self.inside.variables.ok.0 in
    let more : c.push.new.self.items ≡ vs ++ v ∷ [] = c.in_ok-push.ensures.items in
    place_of_one_more (λ (n : Text). get_by (λ k. slice_cmp nat_cmp n k.items) old)
    (λ (n : Text). get_by (λ k. slice_cmp nat_cmp n k.items) c.insert.new.self) vs v c.self.invariant
    (ap (λ (x : List Variable). is_declared x name) c.self.view_is ∙ c.requires)
    (λ n. updates_bytes c.in_ok-key.key.items old c.insert.new.self (Some c.len-place.result) c.in-Ok.ensures.updates n
    ∙ ap (λ (k : Text). cond (bytes_eq k n) (Some c.len-place.result) (get_by (λ k. slice_cmp nat_cmp n k.items) old)) key
    ∙ ap (λ (i : ℕ). cond (bytes_eq name n) (Some i) (get_by (λ k. slice_cmp nat_cmp n k.items) old)) place)
    q
    ∙ ap (λ (x : List Variable). place_of x q) (sym more)
