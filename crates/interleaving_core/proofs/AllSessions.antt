-- Sessions one of which was set.
use Rattle.std.proofs.Common.{◌≡◌, ℕ, ◌==◌, Bool, true, false, sym, refl, ap, ◌∙◌, subst, eqb-true, eq-eqb}
use Rattle.std.specs.Prelude.{if◌then◌else◌}
use Rattle.event_machine.specs.Machine.{Session, with_session}

abbrev pub All_of : Type 0
All_of = ℕ → Session

pub own_is : (f : All_of) (s : ℕ) (x : Session) → with_session f s x s ≡ x
own_is f s x = subst (λ (b : Bool). (if b then x else f s) ≡ x) (sym (eq-eqb s s refl)) refl

one_of : (b : Bool) (x y : Session) → (b ≡ true → x ≡ y) → (if b then x else y) ≡ y
one_of true x y same = same refl
one_of false x y same = refl

last_of : (b : Bool) (x y z : Session) → (if b then x else (if b then y else z)) ≡ (if b then x else z)
last_of true x y z = refl
last_of false x y z = refl

-- setting a session to its old value changes nothing
pub set_same : (f : All_of) (s : ℕ) (x : Session) → x ≡ f s → with_session f s x ≡ f
set_same f s x same = λ i n. one_of (s == n) x (f n) (λ own. same ∙ ap f (eqb-true s n own)) i

-- if a session is set twice, the last value stays
pub set_again : (f : All_of) (s : ℕ) (x y : Session) → with_session (with_session f s y) s x ≡ with_session f s x
set_again f s x y = λ i n. last_of (s == n) x y (f n) i
