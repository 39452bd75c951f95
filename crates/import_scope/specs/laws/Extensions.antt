-- What items with correct declarations and names leave as it was.
use Rattle.std.proofs.Common.{◌≡◌, ℕ, ◌+◌, ◌<◌, ◌==◌, Bool, true, false, not, cond, List, [], ◌∷◌, ◌++◌, length, Option, Some, None, refl}
use Rattle.std.proofs.Common.{sym, ap, ◌∙◌, append_assoc, arith}
use Rattle.std.specs.Prelude.{◌||◌, IsTrue}
use Rattle.std.proofs.lemmas.List.{append-nil, length-append}
use Rattle.std.proofs.lemmas.Bool.Decides.{nat_tests}
use Rattle.rule_globs.specs.Each.{Each}
use Rattle.apparmor_text.specs.declared.part.ItemKind.{ItemKind}
use Rattle.apparmor_text.specs.declared.part.ItemKind.TheVariants as items
use Rattle.apparmor_text.specs.Parts.{PartValue, ItemValue}
use Rattle.import_scope.specs.Scopes.{ScopeState, Head, Fault, changed, behind, behind_all, head_fault, full_name, innermost, can_be_said}
use Rattle.import_scope.specs.ItemWords.{own_name}
use Rattle.import_scope.specs.inner.Outlines.{last_state, head_stop}

-- the second state follows the first: it has more heads, and once there is a head no more variables are declared
pub record Extends (s t : ScopeState) : Type 0 where
  pub more : List Head
  pub profiles : t.profiles ≡ s.profiles ++ more
  pub declared : 0 < length s.profiles → t.declared ≡ s.declared

pub extends_itself : (s : ScopeState) → Extends s s
extends_itself s = record { more = []; profiles = sym (append-nil s.profiles); declared = λ h. refl }

pub extends_both : (s t u : ScopeState) → Extends s t → Extends t u → Extends s u
extends_both s t u a b = record {
  more = a.more ++ b.more;
  profiles = b.profiles ∙ ap (λ (x : List Head). x ++ b.more) a.profiles ∙ append_assoc s.profiles a.more b.more;
  declared = λ h. b.declared (let n : length t.profiles ≡ length s.profiles + length a.more = ap length a.profiles
      ∙ length-append s.profiles a.more in omega (arith, n, h)) ∙ a.declared h;
}

not_zero : (n : ℕ) → 0 < n → (n == 0) ≡ false
not_zero n h = grind (arith, nat_tests)

none_begun : (heads : List Head) (rest : Bool) (fault : Fault) (more : Option Fault) →
    cond (not (length heads == 0) || rest) (Some fault) more ≡ None → 0 < length heads → ⊥
none_begun heads rest fault more e h = at (length heads == 0) (not_zero (length heads) h) e
  where
    at : (b : Bool) → b ≡ false → cond (not b || rest) (Some fault) more ≡ None → ⊥
    at true is e = absurd cc
    at false is e = absurd cc

pub extends_changed : (kind : ItemKind) (s : ScopeState) (parts : List PartValue) → head_fault kind s parts ≡ None →
    Extends s (changed kind s parts)
extends_changed items.Assignment s parts e = record {
  more = [];
  profiles = sym (append-nil s.profiles);
  declared =
      λ h. absurd (none_begun s.profiles _ _ _ e h);
}
extends_changed items.Profile s parts e = record { more = _; profiles = refl; declared = λ h. refl }
extends_changed items.Hat s parts e = record { more = _; profiles = refl; declared = λ h. refl }
extends_changed items.Close s parts e = record { more = []; profiles = sym (append-nil s.profiles); declared = λ h. refl }
extends_changed items.Blank s parts e = extends_itself s
extends_changed items.Statement s parts e = extends_itself s
extends_changed items.Rule s parts e = extends_itself s

pub extends_behind : (s : ScopeState) (item : ItemValue) → head_fault item.kind s item.parts ≡ None → Extends s (behind s item)
extends_behind s item e =
    let x = extends_changed item.kind s item.parts e in
    record { more = x.more; profiles = x.profiles; declared = x.declared }

abbrev pub last_at : ScopeState → ItemValue → List ItemValue → Option Fault → ScopeState
last_at s item others o = elim o [ None ↦ last_state (behind s item) others | Some fault ↦ s ]

pub extends_last : (s : ScopeState) (all : List ItemValue) → Extends s (last_state s all)
extends_last s [] = extends_itself s
extends_last s (item ∷ others) =
    elim (head_fault item.kind s item.parts) as (λ (o : Option Fault). head_fault item.kind s item.parts ≡ o →
    Extends s (last_at s item others o)) [
      | None ↦ λ e. extends_both s (behind s item) (last_state (behind s item) others) (extends_behind s item e)
          (extends_last (behind s item) others)
      | Some fault ↦ λ e. extends_itself s
    ] refl

-- where no item has such a fault, all are passed
abbrev stop_at : ScopeState → ItemValue → List ItemValue → Option Fault → Option Fault
stop_at s item others o = elim o [ None ↦ head_stop (behind s item) others | Some fault ↦ Some fault ]

pub last_is_behind : (s : ScopeState) (all : List ItemValue) → head_stop s all ≡ None → last_state s all ≡ behind_all s all
last_is_behind s [] e = refl
last_is_behind s (item ∷ others) e =
    let P : (o : Option Fault) → stop_at s item others o ≡ None → last_at s item others o ≡ behind_all (behind s item) others = λ o.
    elim o as (λ o. stop_at s item others o ≡ None → last_at s item others o ≡ behind_all (behind s item) others) [
      | None ↦ λ h. last_is_behind (behind s item) others h
      | Some fault ↦ λ h. absurd cc
    ] in
    P (head_fault item.kind s item.parts) e

-- ---- names

abbrev pub AreNamed : List Head → Type 0
AreNamed heads = Each (λ head. IsTrue (can_be_said head.name)) heads

one_more : (heads : List Head) (head : Head) → AreNamed heads → can_be_said head.name ≡ true → AreNamed (heads ++ head ∷ [])
one_more [] head h e = (e, tt)
one_more (x ∷ heads) head h e = (h.0, one_more heads head h.1 e)

is_named : (b : Bool) (fault : Fault) → cond b None (Some fault) ≡ None → b ≡ true
is_named true fault e = refl
is_named false fault e = absurd cc

named_changed : (kind : ItemKind) (s : ScopeState) (parts : List PartValue) → head_fault kind s parts ≡ None → AreNamed s.profiles →
    AreNamed (changed kind s parts).profiles
named_changed items.Assignment s parts e h = h
named_changed items.Profile s parts e h = one_more s.profiles _ h (is_named (can_be_said (full_name (innermost s) (own_name parts))) _ e)
named_changed items.Hat s parts e h = one_more s.profiles _ h (is_named (can_be_said (full_name (innermost s) (own_name parts))) _ e)
named_changed items.Close s parts e h = h
named_changed items.Blank s parts e h = h
named_changed items.Statement s parts e h = h
named_changed items.Rule s parts e h = h

pub named_last : (s : ScopeState) (all : List ItemValue) → AreNamed s.profiles → AreNamed (last_state s all).profiles
named_last s [] h = h
named_last s (item ∷ others) h =
    elim (head_fault item.kind s item.parts) as (λ (o : Option Fault). head_fault item.kind s item.parts ≡ o →
    AreNamed (last_at s item others o).profiles) [
      | None ↦ λ e. named_last (behind s item) others (named_changed item.kind s item.parts e h)
      | Some fault ↦ λ e. h
    ] refl
