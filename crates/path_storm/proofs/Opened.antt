-- A session that opened once more.
use Rattle.std.proofs.Common.{◌≡◌, ◌+◌, ◌≤◌, ◌++◌, ℕ, List, [], ◌∷◌, arith, ap, ◌∙◌}
use Rattle.std.specs.Prelude.{All}
use Rattle.std.proofs.lemmas.List.Elements.{All-nil, All-cons, All-head, All-tail, All-push}
use Rattle.std.specs.declared.vec.Vec.{Vec}
use Rattle.std.specs.declared.alloc.Global.{Global}
use Rattle.names.specs.declared.permissions.Perms.{Perms}
use Rattle.justification.specs.laws.Later.{justified_stays}
use Rattle.justification.specs.Justified.{Justified}
use Rattle.justification.specs.declared.answer.Answer.{Answer}
use Rattle.justification.specs.declared.answer.Answer.TheVariants.{Judged, Failed, NoProfile, Busy, NoEntry}
use Rattle.path_session.specs.Sessions.{Sitting, IsSameSession, HasSeenMore, CountsRefusals}
use Rattle.guarded_row.specs.Opens.{HasAsked}
use Rattle.path_storm.specs.Counts.{IsCountOfOthers}
use Rattle.path_storm.specs.Logs.{HasEntry, IsOpenedBy}
use Rattle.path_storm.specs.declared.setup.TheConstants.{FILE, PROFILE}
use Rattle.path_storm.specs.declared.log.SessionLog.{SessionLog}
use Rattle.path_storm.specs.declared.worker.Opens.{Opens}
use Rattle.path_storm.proofs.Counts.{one_holds, one_other}
use Rattle.path_storm.proofs.Pushed.{none_yet, one_more}

each_stays : (P Q : Answer → Type 0) (answers : List Answer) → ((answer : Answer) → P answer → Q answer) → All P answers → All Q answers
each_stays P Q [] stays all = All-nil Q
each_stays P Q (x ∷ answers) stays all = All-cons Q x answers (stays x (All-head P x answers all))
    (each_stays P Q answers stays (All-tail P x answers all))

entries_more : (n : ℕ) (before now : Sitting) (answer : Answer) → HasAsked before now answer → CountsRefusals before now answer →
    n ≤ before.reading.entries + before.reading.refused → n + 1 ≤ now.reading.entries + now.reading.refused
entries_more n before now (Judged verdict node tree policy) asked same enough = omega (arith, asked, same, enough)
entries_more n before now (Failed errno tree) asked same enough = omega (arith, asked, same, enough)
entries_more n before now (NoProfile policy) asked same enough = omega (arith, asked, same, enough)
entries_more n before now (Busy began ended) asked same enough = omega (arith, asked, same, enough)
entries_more n before now NoEntry asked more enough = omega (arith, asked, more, enough)

refused_more : (answers : List Answer) (before now : Sitting) (answer : Answer) → CountsRefusals before now answer →
    IsCountOfOthers HasEntry answers before.reading.refused → IsCountOfOthers HasEntry (answers ++ answer ∷ []) now.reading.refused
refused_more answers before now (Judged verdict node tree policy) same counted =
    rw same (one_holds HasEntry answers (Judged verdict node tree policy) before.reading.refused counted tt)
refused_more answers before now (Failed errno tree) same counted =
    rw same (one_holds HasEntry answers (Failed errno tree) before.reading.refused counted tt)
refused_more answers before now (NoProfile policy) same counted =
    rw same (one_holds HasEntry answers (NoProfile policy) before.reading.refused counted tt)
refused_more answers before now (Busy began ended) same counted =
    rw same (one_holds HasEntry answers (Busy began ended) before.reading.refused counted tt)
refused_more answers before now NoEntry more counted =
    rw more (one_other HasEntry answers NoEntry before.reading.refused counted (λ entry. entry))

pub opened_none : (ask : Perms) (session : Sitting) (answers : Vec Answer Global) → session.profile ≡ PROFILE.now
    → session.reading.refused ≡ 0 → answers.items ≡ []
    → IsOpenedBy ask 0 (record { session = session; answers = answers })
opened_none ask session answers profile refused is = record {
  profile = profile;
  answers = none_yet answers is;
  refused = rw is refused;
  entries = omega arith;
  justified =
      rw is (All-nil (Justified PROFILE.now FILE.now ask session.walk.view.seen session.reading.seen));
}

pub opened_more : (ask : Perms) (n : ℕ) (before now : Sitting) (answers more : Vec Answer Global) (answer : Answer)
    → more.items ≡ answers.items ++ answer ∷ []
    → IsSameSession before now → HasSeenMore before now → HasAsked before now answer → CountsRefusals before now answer
    → Justified before.profile FILE.now ask now.walk.view.seen now.reading.seen answer
    → IsOpenedBy ask n (record { session = before; answers = answers })
    → IsOpenedBy ask (n + 1) (record { session = now; answers = more })
opened_more ask n before now answers more answer is same seen asked refused justified so_far =
    let Right : Sitting → Answer → Type 0 = λ s. Justified PROFILE.now FILE.now ask s.walk.view.seen s.reading.seen in
    let stays : (a : Answer) → Right before a → Right now a = λ a. justified_stays PROFILE.now FILE.now ask before.walk.view.seen
    now.walk.view.seen before.reading.seen now.reading.seen a seen.0 seen.1 in
    let right : Right now answer = rw so_far.profile at justified in
    let kept : All (Right now) answers.items = each_stays (Right before) (Right now) answers.items stays so_far.justified in
    let all = All-push (Right now) answers.items answer kept right in
    record {
      profile = same.2 ∙ so_far.profile;
      answers = one_more answers more answer is ∙ ap (λ m. m + 1) so_far.answers;
      refused = rw is (refused_more answers.items before now answer refused so_far.refused);
      entries = entries_more n before now answer asked refused so_far.entries;
      justified = rw is all;
    }

pub joined_more : (opens promise : Opens) (before now : Vec SessionLog Global) (own : SessionLog) → promise ≡ opens
    → IsOpenedBy promise.ask promise.times own → now.items ≡ before.items ++ own ∷ []
    → All (IsOpenedBy opens.ask opens.times) before.items → All (IsOpenedBy opens.ask opens.times) now.items
joined_more opens promise before now own same opened is all =
    rw is (All-push (IsOpenedBy opens.ask opens.times) before.items own all (rw same at opened))
