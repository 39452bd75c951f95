use Rattle.std.proofs.Common.{◌≡◌, ◌+◌, ◌<◌, ℕ, List, sym, ap, subst, rules}
use mathlib.Core.Logic.{◌⊎◌, inl, inr}
use Rattle.path_lookup.specs.World.{World}
use Rattle.tree_row.specs.Search.{TellsFound, EncodesNone}
use Rattle.tree_row.specs.Worlds.{SeesBy}
use Rattle.tree_row.proofs.SeenSlots.{known_after, found_known, found_seen, missing_seen, none_seen}
use Rattle.tree_row.proofs.look.RowLookLook.child.Goals as goal

torn_or : (unknown : Type 0) (capacity after : ℕ) (may : List ℕ → Type 0) → after ≡ capacity → unknown ⊎ EncodesNone capacity may →
    unknown ⊎ ((w : World) → ¬ (SeesBy after may w))
torn_or unknown capacity after may same why = elim why [
  | inl lacks ↦ inl lacks
  | inr none ↦ inr (none_seen capacity after may same none)
]

pub returns-in_err-found-clause-keeps : goal.returns-in_err-found-clause-keeps
returns-in_err-found-clause-keeps g c e = known_after _ _ _ _
    (ap g.C.Cells.capacity_of c.find_child.ensures.kept) c.find_child.ensures.fewer e.slot

pub returns-in_err-found-clause-torn : goal.returns-in_err-found-clause-torn
returns-in_err-found-clause-torn g c =
    let why : (g.C.Cells.unknown c.find_child.new.cells) ⊎ ((w : World) → ¬
    (SeesBy (g.C.Cells.capacity_of (g.C.Cells.kept c.find_child.new.cells)) (g.C.Cells.may c.find_child.new.cells) w)) =
    torn_or (g.C.Cells.unknown c.find_child.new.cells) (g.C.Cells.capacity_of (g.C.Cells.kept c.args.self.now.cells))
    (g.C.Cells.capacity_of (g.C.Cells.kept c.find_child.new.cells)) (g.C.Cells.may c.find_child.new.cells)
    (ap g.C.Cells.capacity_of c.find_child.ensures.kept) c.in_err-found.ensures.err in
    search rules

pub returns-in-Some-clause-keeps : goal.returns-in-Some-clause-keeps
returns-in-Some-clause-keeps g c e = known_after _ _ _ _
    (ap g.C.Cells.capacity_of c.find_child.ensures.kept) c.find_child.ensures.fewer e.slot

pub returns-in-Some-clause-known : goal.returns-in-Some-clause-known
returns-in-Some-clause-known g c =
    let told = subst (TellsFound (g.C.Cells.capacity_of (g.C.Cells.kept c.args.self.now.cells))
    (g.C.Cells.may c.find_child.new.cells) c.args.directory.slot c.args.component.now) c.in-Some.is c.in_ok-found.ensures.ok in
    found_known _ _ _ _ _ _ (ap g.C.Cells.capacity_of c.find_child.ensures.kept)
    (subst (λ (z : ℕ). c.in-Some.slot < z + 1) (sym (ap g.C.Cells.capacity_of c.find_child.ensures.kept)) told.0) told.1

pub returns-in-Some-clause-answer : goal.returns-in-Some-clause-answer
returns-in-Some-clause-answer g c =
    let told = subst (TellsFound (g.C.Cells.capacity_of (g.C.Cells.kept c.args.self.now.cells))
    (g.C.Cells.may c.find_child.new.cells) c.args.directory.slot c.args.component.now) c.in-Some.is c.in_ok-found.ensures.ok in
    found_seen _ _ _ _ _ _ (ap g.C.Cells.capacity_of c.find_child.ensures.kept) told.1

pub returns-in-None-clause-keeps : goal.returns-in-None-clause-keeps
returns-in-None-clause-keeps g c e = known_after _ _ _ _
    (ap g.C.Cells.capacity_of c.find_child.ensures.kept) c.find_child.ensures.fewer e.slot

pub returns-in-None-clause-answer : goal.returns-in-None-clause-answer
returns-in-None-clause-answer g c =
    let told = subst (TellsFound (g.C.Cells.capacity_of (g.C.Cells.kept c.args.self.now.cells))
    (g.C.Cells.may c.find_child.new.cells) c.args.directory.slot c.args.component.now) c.in-None.is c.in_ok-found.ensures.ok in
    missing_seen _ _ _ _ _ _ (ap g.C.Cells.capacity_of c.find_child.ensures.kept) c.find_child.ensures.fewer c.requires told
