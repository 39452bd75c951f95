-- What holds after all tries of a session.
use Rattle.std.proofs.Common.{◌≡◌, ◌⊎◌, ◌+◌, ◌++◌, ℕ, List, zero, suc, inl, inr}
use Rattle.std.proofs.Common.{rules, arith, ap, sym, subst, append_assoc, ◌∙◌}
use mathlib.Core.List.{IsPrefix}
use Rattle.names.specs.declared.permissions.Perms.{Perms}
use Rattle.justification.specs.declared.answer.Answer.{Answer}
use Rattle.justification.specs.declared.answer.Answer.TheVariants.{Judged, Failed, NoProfile, Busy, NoEntry}
use Rattle.justification.specs.Justified.{Justified}
use Rattle.mediation.specs.Deeds.{policy_after}
use Rattle.path_session.specs.Sessions.{Sitting, HasReadPolicy, IsByPublished, CountsRefusals}
use Rattle.guarded_row.specs.Opens.{IsNotBusy, HasAsked, HasLooked}
use Rattle.guarded_row.specs.Tries.{IsBusy, IsTriedUpTo}
use Rattle.guarded_row.specs.inner.Tries.{IsTryOfSession, HasOpened, CountsTries}

prefix_of_more : {A : Type 0} (xs ys zs : List A) → IsPrefix xs ys → IsPrefix ys zs → IsPrefix xs zs
prefix_of_more xs ys zs p q = (p.0 ++ q.0, sym (append_assoc xs p.0 q.0) ∙ ap (λ front. front ++ q.0) p.1 ∙ q.1)

asked_once : (a c : Sitting) (x : Answer) → HasReadPolicy a c x → HasAsked a c x
asked_once a c (Judged verdict node tree policy) e = omega (arith, e)
asked_once a c (Failed errno tree) e = omega (arith, e)
asked_once a c (NoProfile policy) e = omega (arith, e)
asked_once a c (Busy began ended) e = omega (arith, e)
asked_once a c NoEntry (inl (seen, e)) = omega (arith, e)
asked_once a c NoEntry (inr (e, there)) = omega (arith, e)

one : (left : ℕ) (a c : Sitting) (path : List ℕ) (ask : Perms) (x : Answer) → IsTryOfSession a c path ask x →
    (IsNotBusy x) ⊎ (left ≡ 0) → HasOpened (suc left) a c path ask x
one left a c path ask x t end = search (rules, asked_once)

asked : (left : ℕ) (a b c : Sitting) (x : Answer) → b.reading.entries ≡ a.reading.entries + 1 → HasAsked b c x → HasAsked a c x
asked left a b c (Judged verdict node tree policy) e h = omega (arith, e, h)
asked left a b c (Failed errno tree) e h = omega (arith, e, h)
asked left a b c (NoProfile policy) e h = omega (arith, e, h)
asked left a b c (Busy began ended) e h = omega (arith, e, h)
asked left a b c NoEntry e h = omega (arith, e, h)

counts : (left : ℕ) (a b c : Sitting) (x : Answer) → b.reading.entries ≡ a.reading.entries + 1 → CountsTries left b c x →
    CountsTries (suc left) a c x
counts left a b c (Judged verdict node tree policy) e h = omega (arith, e, h)
counts left a b c (Failed errno tree) e h = omega (arith, e, h)
counts left a b c (NoProfile policy) e h = omega (arith, e, h)
counts left a b c (Busy began ended) e h = omega (arith, e, h)
counts left a b c NoEntry e h = omega (arith, e, h)

looked : (a b c : Sitting) (x : Answer) → b.walk.view.count_reads ≡ a.walk.view.count_reads + 2 → b.meetings ≡ a.meetings →
    HasLooked b c x → HasLooked a c x
looked a b c (Judged verdict node tree policy) e m h = search rules
looked a b c (Failed errno tree) e m h = search rules
looked a b c (NoProfile policy) e m h = h
looked a b c (Busy began ended) e m h = omega (arith, e, h)
looked a b c NoEntry e m h = h

refused : (a b c : Sitting) (x : Answer) → b.reading.refused ≡ a.reading.refused → CountsRefusals b c x → CountsRefusals a c x
refused a b c (Judged verdict node tree policy) e h = h ∙ e
refused a b c (Failed errno tree) e h = h ∙ e
refused a b c (NoProfile policy) e h = h ∙ e
refused a b c (Busy began ended) e h = h ∙ e
refused a b c NoEntry e h = h ∙ ap (λ n. n + 1) e

more : (left : ℕ) (a b c : Sitting) (path : List ℕ) (ask : Perms) (busy x : Answer) → IsTryOfSession a b path ask busy →
    IsBusy busy → HasOpened left b c path ask x → HasOpened (suc left) a c path ask x
more left a b c path ask (Judged verdict node tree policy) x t is rest = absurd (is tt)
more left a b c path ask (Failed errno tree) x t is rest = absurd (is tt)
more left a b c path ask (NoProfile policy) x t is rest = absurd (is tt)
more left a b c path ask (Busy began ended) x t is rest = record {
  same = (rest.same.0 ∙ t.same.0, rest.same.1 ∙ t.same.1, rest.same.2 ∙ t.same.2);
  meetings = rest.meetings ∙ t.meetings;
  history = (prefix_of_more _ _ _ t.history.0 rest.history.0, prefix_of_more _ _ _ t.history.1 rest.history.1);
  asked = asked left a b c x t.policy_read rest.asked;
  looked = looked a b c x t.count_reads t.meetings rest.looked;
  counts = counts left a b c x t.policy_read rest.counts;
  versions = rest.versions;
  justified = subst (λ p. Justified p path ask c.walk.view.seen c.reading.seen x) t.same.2 rest.justified;
  name = rest.name;
  published = subst (λ p. IsByPublished (policy_after c.reading.seen p) x) t.same.2 rest.published;
  refused = refused a b c x t.refused rest.refused;
}
more left a b c path ask NoEntry x t is rest = absurd (is tt)

pub opened : (most : ℕ) (a c : Sitting) (path : List ℕ) (ask : Perms) (x : Answer) →
    IsTriedUpTo (λ before now answer. IsTryOfSession before now path ask answer) most a c x → HasOpened most a c path ask x
unfolding IsTriedUpTo
opened zero a c path ask x tried = absurd tried
opened (suc left) a c path ask x tried = elim tried [
  | inl tell ↦ one left a c path ask x tell.0 tell.1
  | inr others ↦ more left a others.0 c path ask others.1 x others.2 others.3 (opened left others.0 c path ask x others.4)
]
