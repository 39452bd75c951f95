-- There is a place for each variable so far, and nothing is made.
use Rattle.std.proofs.Common.{◌≡◌, ℕ, false, length, None}
use Rattle.apparmor_variables.specs.inner.Known.{list_made, is_marked}
use Rattle.apparmor_variables.proofs.made_lists.Made.nothing.Given as goal

abbrev pub invariant-loop-place : goal.invariant-loop-place
invariant-loop-place l = record {
  lists : length l.lists.items ≡ l.place;
  met : length l.met.items ≡ l.place;
  marks : length l.needs_first.items ≡ l.place;
  nothing : (k : ℕ) → list_made l.lists.items k ≡ None;
  unmarked : (k : ℕ) → is_marked l.needs_first.items k ≡ false;
}
