-- One session of a table is replaced: what that is of all sessions, and what stays.
use Rattle.std.proofs.Common.{◌≡◌, ℕ, ◌==◌, Bool, true, false, cond, List, Some, None, Option, sym, refl, ap, ◌∙◌, subst, inl, inr, ne_eqb}
use Rattle.std.proofs.Common.{eqb-true, IfSome, IsSome, OnErr, OnOk, IfOk, IfErr}
use Rattle.std.specs.Prelude.{if◌then◌else◌, Result, Ok, Err}
use Rattle.std.specs.Map.{lookup}
use Rattle.std.specs.BTreeMap.{BTreeMap, WritesThrough, UpdatesBy, Updates, IsUnchanged}
use Rattle.std.specs.Ordering.{is_eq, nat_cmp}
use Rattle.std.specs.declared.cmp.Ordering.{Ordering}
use Rattle.std.specs.declared.cmp.Ordering.TheVariants.{Less, Equal, Greater}
use Rattle.std.specs.Cmp.{nat_cmp_is}
use Rattle.std.proofs.lemmas.Bool.{false≢true, eq-eqb}
use Rattle.std.proofs.lemmas.Map.Lookups.{exact_unsigned}
use Rattle.event_machine.specs.Machine.{Session, new_session, with_session}
use Rattle.open_session.specs.Steps.{ReadsCell, MayStep, MayTell}
use Rattle.open_session.specs.Turns.{IsReading, IsAnswerable}
use Rattle.interleaving_core.specs.Table.{or_new, session_in, StepsIn}
use Rattle.interleaving_core.specs.inner.SharedParts.{ShareCapacity}

abbrev pub found : ℕ → List (ℕ × (ℕ × Session)) → Option (ℕ × Session)
found number entries = lookup (λ key. is_eq (nat_cmp number key)) entries

-- a look-up finds its own number and no other
is_equal : (o : Ordering) → is_eq o ≡ true → o ≡ Equal
is_equal Less is = absurd (false≢true is)
is_equal Equal is = refl
is_equal Greater is = absurd (false≢true is)

key_is : (number key : ℕ) → is_eq (nat_cmp number key) ≡ true → number ≡ key
key_is number key is = exact_unsigned number key (is_equal (nat_cmp number key) is)

found_here : (number key : ℕ) → number ≡ key → is_eq (nat_cmp number key) ≡ true
found_here number key same = ap is_eq (sym (nat_cmp_is number key Equal same))

-- what was found has the capacity that all share
pub own_capacity : (capacity number : ℕ) (entries : List (ℕ × (ℕ × Session))) (kept : ℕ × Session) → ShareCapacity capacity entries →
    Some kept ≡ found number entries → kept.0 ≡ capacity
own_capacity capacity number entries kept share is = subst (λ (o : Option (ℕ × Session)). IfSome o (λ k. k.0 ≡ capacity))
    (sym is) (share number)

module _ (number : ℕ) (es fs : List (ℕ × (ℕ × Session))) (now : ℕ × Session) (puts : (q : ℕ) → found q fs ≡ cond (is_eq (nat_cmp number q))
    (Some now) (found q es)) where
  share_after : (capacity : ℕ) → ShareCapacity capacity es → now.0 ≡ capacity → ShareCapacity capacity fs
  share_after capacity share own = λ q.
      subst (λ (o : Option (ℕ × Session)). IfSome o (λ k. k.0 ≡ capacity)) (sym (puts q))
      (elim (is_eq (nat_cmp number q)) as (λ (b : Bool). IfSome (cond b (Some now) (found q es)) (λ k. k.0 ≡ capacity))
      [ true ↦ own | false ↦ share q ])

  -- nothing changes, if what was found is put back
  same_at : Some now ≡ found number es → (q : ℕ) → found q fs ≡ found q es
  same_at is q = puts q ∙ elim (is_eq (nat_cmp number q)) as (λ (b : Bool). is_eq (nat_cmp number q) ≡ b →
      cond b (Some now) (found q es) ≡ found q es) [
        | true ↦ λ here. is ∙ ap (λ (n : ℕ). found n es) (key_is number q here)
        | false ↦ λ other. refl
      ] refl

  -- the sessions are the old ones with this one
  with_at : (a b q : ℕ) → session_in (a, fs) q ≡ with_session (session_in (b, es)) number now.1 q
  with_at a b q = ap or_new (puts q) ∙ elim (is_eq (nat_cmp number q)) as (λ (c : Bool). is_eq (nat_cmp number q) ≡ c →
      or_new (cond c (Some now) (found q es)) ≡ with_session (session_in (b, es)) number now.1 q) [
        | true ↦ λ here. ap (λ (c : Bool). if c then now.1 else session_in (b, es) q) (sym (eq-eqb number q (key_is number q here)))
        | false ↦ λ other. ap (λ (c : Bool). if c then now.1 else session_in (b, es) q)
            (sym (ne_eqb number q (λ same. false≢true (sym other ∙ found_here number q same))))
      ] refl

-- a session is put in, unless memory runs out
pub share_inserted : {A E : Type 0} (r : Result A E) (number : ℕ) (m n : BTreeMap ℕ (ℕ × Session)) (now : ℕ × Session) →
    OnOk r (Updates nat_cmp m n number (Some now)) → OnErr r (IsUnchanged m n)
    → (capacity : ℕ) → ShareCapacity capacity m.entries → now.0 ≡ capacity → ShareCapacity capacity n.entries
share_inserted (Ok x) number m n now ok err capacity share own = share_after number m.entries n.entries now ok.0 capacity share own
share_inserted (Err e) number m n now ok err capacity share own = subst (ShareCapacity capacity) (sym err) share

-- A session is found in a table.
module _ (table : ℕ × List (ℕ × (ℕ × Session))) (capacity number : ℕ) (m : BTreeMap ℕ (ℕ × Session))
    (view_is : (capacity, m.entries) ≡ table) (share : ShareCapacity capacity m.entries)
    (was : ℕ × Session) (is : Some was ≡ found number m.entries) where
  pub found_capacity : was.0 ≡ table.0
  found_capacity = own_capacity capacity number m.entries was share is ∙ ap (λ (t : ℕ × List (ℕ × (ℕ × Session))). t.0) view_is

  pub found_session : was.1 ≡ session_in table number
  found_session = ap or_new is ∙ ap (λ (t : ℕ × List (ℕ × (ℕ × Session))). session_in t number) view_is

  -- what holds of it holds of the table's session, and vice versa
  pub of_found : (P : ℕ → Session → Type 0) → P was.0 was.1 → P table.0 (session_in table number)
  of_found P p = subst (λ (k : ℕ). P k (session_in table number)) found_capacity (subst (λ (s : Session). P was.0 s) found_session p)

  pub to_found : (P : ℕ → Session → Type 0) → P table.0 (session_in table number) → P was.0 was.1
  to_found P p = subst (λ (k : ℕ). P k was.1) (sym found_capacity) (subst (λ (s : Session). P table.0 s) (sym found_session) p)

-- It isn't found, and the table stays as it is.
pub stays : (table : ℕ × List (ℕ × (ℕ × Session))) (capacity : ℕ) (m n : BTreeMap ℕ (ℕ × Session)) → (capacity, m.entries) ≡ table →
    n ≡ m → session_in (capacity, n.entries) ≡ session_in table
stays table capacity m n view_is same = ap (λ (b : BTreeMap ℕ (ℕ × Session)). session_in (capacity, b.entries)) same
    ∙ ap session_in view_is

pub share_stays : (capacity : ℕ) (m n : BTreeMap ℕ (ℕ × Session)) → ShareCapacity capacity m.entries → n ≡ m →
    ShareCapacity capacity n.entries
share_stays capacity m n share same = subst (λ (b : BTreeMap ℕ (ℕ × Session)). ShareCapacity capacity b.entries) (sym same) share

pub not_there : (table : ℕ × List (ℕ × (ℕ × Session))) (capacity number : ℕ) (m : BTreeMap ℕ (ℕ × Session)) → (capacity, m.entries)
    ≡ table → None ≡ found number m.entries → new_session ≡ session_in table number
not_there table capacity number m view_is none = ap or_new none ∙ ap (λ (t : ℕ × List (ℕ × (ℕ × Session))). session_in t number) view_is

pub still_new : (capacity number : ℕ) (m n : BTreeMap ℕ (ℕ × Session)) → None ≡ found number m.entries → n ≡ m →
    new_session ≡ session_in (capacity, n.entries) number
still_new capacity number m n none same = ap or_new none ∙ ap (λ (b : BTreeMap ℕ (ℕ × Session)). session_in (capacity, b.entries) number)
    (sym same)

-- A session that never began a call reads no cell and answers nothing.
pub no_cell_yet : (capacity : ℕ) (cells : List ℕ) → ¬ (MayStep (ReadsCell capacity cells) new_session)
no_cell_yet capacity cells (new, (p, w, place, word, next, at, stands, may, is)) = cc at

pub no_reading_yet : ¬ (IsReading new_session.stage)
no_reading_yet (p, w, place, at) = cc at

pub no_tale : (capacity : ℕ) → ¬ (MayTell capacity new_session)
no_tale capacity (told, new, (name, never, is)) = never

pub no_answer_yet : ¬ (IsAnswerable new_session.stage)
no_answer_yet answerable = elim answerable [ inl (call, version, at) ↦ cc at | inr (p, w, at) ↦ cc at ]

same_of : (b : Bool) (x y : Session) → (b ≡ true → x ≡ y) → y ≡ (if b then x else y)
same_of true x y same = sym (same refl)
same_of false x y same = refl

-- no step at all
pub none_steps : (table : ℕ × List (ℕ × (ℕ × Session))) (number : ℕ) (f : ℕ → Session) → f ≡ session_in table →
    StepsIn (λ old new. new ≡ old) number (session_in table) f
none_steps table number f same = (
  session_in table number,
  refl,
  same ∙ (λ i n. same_of (number == n) (session_in table number) (session_in table n)
      (λ own. ap (session_in table) (eqb-true number n own)) i),
)

-- It is written.
module _ (table : ℕ × List (ℕ × (ℕ × Session))) (capacity number : ℕ) (m : BTreeMap ℕ (ℕ × Session))
    (view_is : (capacity, m.entries) ≡ table) (share : ShareCapacity capacity m.entries)
    (was : ℕ × Session) (is : Some was ≡ found number m.entries) (now : ℕ × Session) (n : BTreeMap ℕ (ℕ × Session))
    (writes : WritesThrough nat_cmp (nat_cmp number) m now n) where
  updated : UpdatesBy nat_cmp (nat_cmp number) m n (Some now)
  updated = writes.3 (subst IsSome is refl)

  pub written_shares : now.0 ≡ was.0 → ShareCapacity capacity n.entries
  written_shares own = share_after number m.entries n.entries now updated.0 capacity share
      (own ∙ own_capacity capacity number m.entries was share is)

  pub written_same : now ≡ was → session_in (capacity, n.entries) ≡ session_in table
  written_same same = (λ i q. or_new (same_at number m.entries n.entries now updated.0 (ap Some same ∙ is) q i)) ∙ ap session_in view_is

  pub written_steps : (Step : ℕ → Session → Session → Type 0) → Step was.0 was.1 now.1 → StepsIn (Step table.0) number (session_in table)
      (session_in (capacity, n.entries))
  written_steps Step step = (
    now.1,
    of_found table capacity number m view_is share was is (λ k s. Step k s now.1) step,
    (λ i q. with_at number m.entries n.entries now updated.0 capacity capacity q i)
        ∙ ap (λ (t : ℕ × List (ℕ × (ℕ × Session))). with_session (session_in t) number now.1) view_is,
  )

  -- what then holds of it holds of the table's session
  pub of_written : (P : ℕ → Session → Type 0) → P was.0 now.1 → P table.0 (session_in (capacity, n.entries) number)
  of_written P p = subst (λ (k : ℕ). P k (session_in (capacity, n.entries) number))
      (found_capacity table capacity number m view_is share was is)
      (subst (λ (s : Session). P was.0 s) (sym (ap or_new updated.1)) p)

pub on_err_map : {A E : Type 0} {P Q : Type 0} (r : Result A E) → OnErr r P → (P → Q) → OnErr r Q
on_err_map (Ok x) p f = tt
on_err_map (Err e) p f = f p

pub on_ok_map : {A E : Type 0} {P Q : Type 0} (r : Result A E) → OnOk r P → (P → Q) → OnOk r Q
on_ok_map (Ok x) p f = f p
on_ok_map (Err e) p f = tt

pub if_ok_map : {A E : Type 0} {P Q : A → Type 0} (r : Result A E) → IfOk r P → ((x : A) → P x → Q x) → IfOk r Q
if_ok_map (Ok x) p f = f x p
if_ok_map (Err e) p f = tt

pub if_err_map : {A E : Type 0} {P Q : E → Type 0} (r : Result A E) → IfErr r P → ((e : E) → P e → Q e) → IfErr r Q
if_err_map (Ok x) p f = tt
if_err_map (Err e) p f = f e p
