-- Names that can be said in a canonical text, and the heads of a text that have them.
use Rattle.std.proofs.Common.{◌≡◌, ℕ, zero, suc, Bool, true, false, not, List, [], ◌∷◌, Option}
use Rattle.std.proofs.Common.{Some, None, refl, ap, ◌∙◌, subst}
use Rattle.std.specs.Prelude.{slice_get}
use Rattle.apparmor_text.specs.Parts.{ItemValue}
use Rattle.import_scope.specs.FirstFaults.{Counted, nothing_counted, FirstFaultFrom, FirstFault, none_left, at_head, at_path, later}
use Rattle.import_scope.specs.Scopes.{ScopeState, Head, Fault, behind, behind_all, can_be_said}
use Rattle.import_scope.specs.inner.Outlines.{head_stop}
use Rattle.import_scope.specs.laws.Extensions.{AreNamed, named_last, last_is_behind}

pub unless : (b : Bool) → not b ≡ true → b ≡ false
unless true h = absurd cc
unless false h = refl

-- ---- heads

no_stop : (s : ScopeState) (c : Counted) (all : List ItemValue) (end : Option Fault) → FirstFaultFrom s c all end → end ≡ None →
    head_stop s all ≡ None
no_stop s c all end (none_left t k) e = refl
no_stop s c all end (at_head t k item others fault h) e = absurd cc
no_stop s c all end (at_path t k item others q fault h g) e = absurd cc
no_stop s c all end (later t k next item others last h a r) e =
    ap (λ (o : Option Fault). elim o [ None ↦ head_stop (behind t item) others | Some fault ↦ Some fault ]) h
    ∙ no_stop (behind t item) next others last r e

-- if no fault is found, each head has a name that can be said
pub all_named : (s : ScopeState) (all : List ItemValue) → FirstFault s all None → AreNamed s.profiles →
    AreNamed (behind_all s all).profiles
all_named s all first h =
    subst (λ (t : ScopeState). AreNamed t.profiles) (last_is_behind s all (no_stop s nothing_counted all None first refl))
    (named_last s all h)

pub named_at : (heads : List Head) (n : ℕ) (head : Head) → slice_get heads n ≡ Some head → AreNamed heads → can_be_said head.name ≡ true
named_at [] n head e h = absurd cc
named_at (x ∷ heads) zero head e h = let same : x ≡ head = cc in subst (λ (y : Head). can_be_said y.name ≡ true) same h.0
named_at (x ∷ heads) (suc n) head e h = named_at heads n head e h.1
