-- How counts grow.
use Rattle.std.proofs.Common.{◌≡◌, ℕ, ◌+◌, ◌*◌, ◌<◌, List, [], ◌∷◌, ◌++◌, length, take, get_or, refl, sym, ap, ◌∙◌, subst, inl, inr, arith}
use Rattle.std.proofs.Common.{length-append, All}
use Rattle.std.proofs.Math.Nat.{suc-mul, zero-mul}
use Rattle.std.proofs.lemmas.Grind.{flat_map-append}
use Rattle.std.proofs.lemmas.List.{append-nil, take_more}
use Rattle.std.proofs.lemmas.List.Elements.{All-nil, All-cons, All-head, All-tail}
use Rattle.std.specs.Prelude.{false, IsTrue, Result, Ok, Err, IfOk, map, vec_len}
use Rattle.names.specs.declared.permissions.Perms.{Perms}
use Rattle.directory_tree.specs.declared.change.Change.{Change}
use Rattle.matcher.specs.declared.profiles.PolicyChange.{PolicyChange}
use Rattle.mediation.specs.PolicyChanges.{deed_of}
use Rattle.justification.specs.Justified.{Justified}
use Rattle.justification.specs.Opens.{Opens}
use Rattle.path_storm.specs.declared.fault.StormFault.{StormFault}
use Rattle.path_storm.specs.declared.log.SessionLog.{SessionLog}
use Rattle.path_storm.specs.declared.plan.StormReport.{StormReport}
use Rattle.justification.specs.declared.answer.Answer.{Answer}
use Rattle.path_storm.specs.Counts.{answers_of, IsCountOfOthers}
use Rattle.path_storm.specs.Logs.{IsOpenedBy}

pub answers_more : (all : List SessionLog) (i : ℕ) (own : SessionLog) → i < length all → own ≡ get_or all i own
    → answers_of (take (i + 1) all) ≡ answers_of (take i all) ++ own.answers.items
answers_more all i own low here =
    let taken : take (i + 1) all ≡ take i all ++ own ∷ [] = take_more all i own low ∙ ap (λ (v : SessionLog). take i all ++ v ∷ [])
    (sym here) in
    ap answers_of taken ∙ flat_map-append (λ (v : SessionLog). v.answers.items) (take i all) (own ∷ [])
    ∙ ap (λ answers. answers_of (take i all) ++ answers) (append-nil own.answers.items)

-- lists of `opens` answers each
pub all_answers : (opens : ℕ) (all : List SessionLog) → All (λ own. vec_len own.answers ≡ opens) all → length (answers_of all)
    ≡ length all * opens
all_answers opens [] full = sym (zero-mul opens)
all_answers opens (own ∷ all) full =
    let P : SessionLog → Type 0 = λ v. vec_len v.answers ≡ opens in
    let first : length own.answers.items ≡ opens = sym own.answers.ok.0 ∙ All-head P own all full in
    let rest : length (answers_of all) ≡ length all * opens = all_answers opens all (All-tail P own all full) in
    length-append own.answers.items (answers_of all) ∙ omega (arith, first, rest, suc-mul (length all) opens)

pub each_answered : (ask : Perms) (opens : ℕ) (all : List SessionLog) → All (IsOpenedBy ask opens) all →
    All (λ own. vec_len own.answers ≡ opens) all
each_answered ask opens [] opened = All-nil (λ own. vec_len own.answers ≡ opens)
each_answered ask opens (own ∷ all) opened =
    let P : SessionLog → Type 0 = λ v. vec_len v.answers ≡ opens in
    All-cons P own all (All-head (IsOpenedBy ask opens) own all opened).answers
    (each_answered ask opens all (All-tail (IsOpenedBy ask opens) own all opened))

module _ (Holds : Answer → Type 0) where
  pub one_holds : (answers : List Answer) (answer : Answer) (count : ℕ) → IsCountOfOthers Holds answers count → Holds answer
      → IsCountOfOthers Holds (answers ++ answer ∷ []) count
  one_holds [] answer count none holds = inl (holds, none)
  one_holds (first ∷ answers) answer count (inl (is, rest)) holds = inl (is, one_holds answers answer count rest holds)
  one_holds (first ∷ answers) answer count (inr (other, less, is, rest)) holds =
      inr (other, less, is, one_holds answers answer less rest holds)

  pub one_other : (answers : List Answer) (answer : Answer) (count : ℕ) → IsCountOfOthers Holds answers count → ¬ (Holds answer)
      → IsCountOfOthers Holds (answers ++ answer ∷ []) (count + 1)
  one_other [] answer count none not = inr (not, count, refl, none)
  one_other (first ∷ answers) answer count (inl (is, rest)) not = inl (is, one_other answers answer count rest not)
  one_other (first ∷ answers) answer count (inr (other, less, is, rest)) not =
      inr (other, less + 1, ap (λ n. n + 1) is, one_other answers answer less rest not)

  both : (answers more : List Answer) (count added : ℕ) → IsCountOfOthers Holds answers count → IsCountOfOthers Holds more added
      → IsCountOfOthers Holds (answers ++ more) (count + added)
  both [] more count added none rest = let same : added ≡ count + added = omega (arith, none) in
      subst (IsCountOfOthers Holds more) same rest
  both (first ∷ answers) more count added (inl (is, counted)) rest = inl (is, both answers more count added counted rest)
  both (first ∷ answers) more count added (inr (other, less, is, counted)) rest =
      inr (other, less + added, omega (arith, is), both answers more less added counted rest)

  -- the answers of one more session
  pub one_session : (all : List SessionLog) (i : ℕ) (own : SessionLog) (count added : ℕ) → i < length all →
      own ≡ get_or all i own
      → IsCountOfOthers Holds (answers_of (take i all)) count → IsCountOfOthers Holds own.answers.items added
      → IsCountOfOthers Holds (answers_of (take (i + 1) all)) (count + added)
  one_session all i own count added low here so_far rest =
      let Counted : List Answer → Type 0 = λ answers. IsCountOfOthers Holds answers (count + added) in
      subst Counted (sym (answers_more all i own low here)) (both (answers_of (take i all)) own.answers.items count added so_far rest)

  pub next_holds : (answers : List Answer) (i : ℕ) (default : Answer) (count : ℕ) → i < length answers →
      IsCountOfOthers Holds (take i answers) count → Holds (get_or answers i default)
      → IsCountOfOthers Holds (take (i + 1) answers) count
  next_holds answers i default count low so_far holds =
      subst (λ these. IsCountOfOthers Holds these count) (sym (take_more answers i default low))
      (one_holds (take i answers) (get_or answers i default) count so_far holds)

  pub next_other : (answers : List Answer) (i : ℕ) (default : Answer) (count : ℕ) → i < length answers →
      IsCountOfOthers Holds (take i answers) count → (Holds (get_or answers i default) → IsTrue false)
      → IsCountOfOthers Holds (take (i + 1) answers) (count + 1)
  next_other answers i default count low so_far told =
      let not : ¬ (Holds (get_or answers i default)) = λ holds. let e = told holds in cc in
      subst (λ these. IsCountOfOthers Holds these (count + 1)) (sym (take_more answers i default low))
      (one_other (take i answers) (get_or answers i default) count so_far not)

-- the count by a trail is the count by what it follows
pub by_followed : (profile path : List ℕ) (ask : Perms) (trail : Opens) (changes all : List Change) (policy done : List PolicyChange)
    (answers own : List Answer) (count : ℕ)
    → trail ≡ record { path = path; ask = ask; changes = changes } → changes ≡ all → policy ≡ done → answers ≡ own
    → IsCountOfOthers (Justified profile trail.path trail.ask trail.changes (map deed_of policy)) answers count
    → IsCountOfOthers (Justified profile path ask all (map deed_of done)) own count
by_followed profile path ask trail changes all policy done answers own count follows is are these counted =
    let Counted : Opens → List PolicyChange → List Answer → Type 0 =
    λ o p a. IsCountOfOthers (Justified profile o.path o.ask o.changes (map deed_of p)) a count in
    let Opened : List Change → Opens = λ c. record { path = path; ask = ask; changes = c } in
    subst (λ a. Counted (Opened all) done a) these (subst (λ p. Counted (Opened all) p answers) are
    (subst (λ c. Counted (Opened c) policy answers) is (subst (λ o. Counted o policy answers) follows counted)))

pub told_by : (r : Result StormReport StormFault) (n m : ℕ) → n ≡ m → IfOk r (λ report. report.answers ≡ n) →
    IfOk r (λ report. report.answers ≡ m)
told_by (Ok report) n m is told = told ∙ is
told_by (Err fault) n m is told = tt
