-- Reversed rules have as many sets of live places.
use Rattle.std.proofs.Common.{◌≡◌, ℕ, ◌+◌, ◌-◌, ◌≤◌, Result, Ok, Err, IfErr, List, [], length, reverse, get_or, sym, subst, arith}
use Rattle.std.proofs.lemmas.List.{reverse-reverse}
use Rattle.std.specs.Result.{IsErrAnd}
use Rattle.rule_globs.specs.Rules.{RuleValue}
use Rattle.rule_globs.specs.Verdict.{IsRuleAt}
use Rattle.automaton_rows.specs.declared.fault.CompileFault.{CompileFault}
use Rattle.automaton_rows.specs.declared.fault.CompileFault.TheVariants.{TooManyStates, NoMemory}
use Rattle.profile_questions.specs.declared.fault.QuestionFault.{QuestionFault}
use Rattle.profile_questions.specs.declared.fault.QuestionFault.TheVariants as searching
use Rattle.profile_questions.specs.Faults.{IsQuestionFault}
use Rattle.glob_automaton.specs.Automata.{IsCompileFault}
use Rattle.glob_automaton.specs.Sets.{IsLive, NoneLive, SameSet}
use Rattle.rule_influence.specs.laws.HitLaws.{rule_back, rule_reversed}

module _ (rules : List RuleValue) where
  live_there : (bytes : List ℕ) (n p : ℕ) → IsLive (reverse rules) bytes n p → IsLive rules bytes (length rules + 1 - n) p
  live_there bytes n p live = (live.0, rule_reversed rules n live.0 live.1, live.2)

  live_back : (bytes : List ℕ) (n p : ℕ) → IsLive rules bytes n p → IsLive (reverse rules) bytes (length rules + 1 - n) p
  live_back bytes n p live =
      let e : length rules + 1 - (length rules + 1 - n) ≡ n = omega (arith, live.1.0, live.1.1) in (
        live.0,
        rule_back rules (length rules + 1 - n) live.0 (omega (arith, live.1.1)) (omega (arith, live.1.0))
            (subst (λ z. IsRuleAt rules z live.0) (sym e) live.1),
        live.2,
      )

  again : (bytes : List ℕ) (n p : ℕ) → 1 ≤ n → n ≤ length rules → IsLive (reverse rules) bytes (length rules + 1 - n) p →
      IsLive rules bytes n p
  again bytes n p ge le live =
      let e : length rules + 1 - (length rules + 1 - n) ≡ n = omega (arith, ge, le) in
      subst (λ z. IsLive rules bytes z p) e (live_there bytes (length rules + 1 - n) p live)

  pub same_reversed : (x y : List ℕ) → SameSet (reverse rules) x y → SameSet rules x y
  same_reversed x y same n p = (
    λ h. again y n p h.1.0 h.1.1 ((same (length rules + 1 - n) p).0 (live_back x n p h)),
    λ h. again x n p h.1.0 h.1.1 ((same (length rules + 1 - n) p).1 (live_back y n p h)),
  )

  none_reversed : (bytes : List ℕ) → NoneLive rules bytes → NoneLive (reverse rules) bytes
  none_reversed bytes none n p live = none (length rules + 1 - n) p (live_there bytes n p live)

back_same : (rules : List RuleValue) (x y : List ℕ) → SameSet rules x y → SameSet (reverse rules) x y
back_same rules x y same =
    same_reversed (reverse rules) x y (subst (λ z. SameSet z x y) (sym (reverse-reverse rules)) same)

pub reversed_fault : (rules : List RuleValue) (fault : CompileFault) → IsCompileFault (reverse rules) fault → IsCompileFault rules fault
reversed_fault rules TooManyStates many = (
  many.0,
  record {
    prefixes_of_names = many.1.prefixes_of_names;
    some_live = λ i d lt none. many.1.some_live i d lt (none_reversed rules (get_or many.0 i d) none);
    different = λ i j less lt same. many.1.different i j less lt (back_same rules _ _ same);
  },
  many.2,
)
reversed_fault rules NoMemory h = h

-- a fault that is passed on
pub passed_on : {T E : Type 0} (r : Result T E) (e : E) (P : E → Type 0) → IsErrAnd r (λ y. y ≡ e) → P e → IfErr r P
passed_on {T} {E} (Ok x) e P is h = absurd is
passed_on {T} {E} (Err y) e P is h = subst P (sym is) h

-- names that differ in no more than these rules differ in them, too
alone_fault : (rules : List RuleValue) (fault : QuestionFault) → IsQuestionFault rules (reverse rules) rules fault →
    IsQuestionFault rules [] [] fault
alone_fault rules searching.TooManyStates many = (
  many.0,
  record {
    named = many.1.named;
    apart = λ i j name other lt at there same.
        many.1.apart i j name other lt at there (same.0, back_same rules name other same.0, same.0);
  },
  many.2,
)
alone_fault rules searching.NoMemory h = h

pub pair_fault : (rules one two three : List RuleValue) (fault : QuestionFault) → one ≡ rules → two ≡ reverse rules → three ≡ rules →
    IsQuestionFault one two three fault → IsQuestionFault rules [] [] fault
pair_fault rules one two three fault first second third h = alone_fault rules fault
    (subst (λ z. IsQuestionFault z (reverse rules) rules fault) first
    (subst (λ z. IsQuestionFault one z rules fault) second
    (subst (λ z. IsQuestionFault one two z fault) third h)))

-- the way back: names that differ in these rules differ in more lists
pub pair_answer : (rules one two three : List RuleValue) → one ≡ rules →
    ¬ (IsQuestionFault one two three searching.TooManyStates) → ¬ (IsQuestionFault rules [] [] searching.TooManyStates)
pair_answer rules one two three first none many =
    none (subst (λ z. IsQuestionFault z two three searching.TooManyStates) (sym first) (
      many.0,
      record {
        named = many.1.named;
        apart = λ i j name other lt at there same. many.1.apart i j name other lt at there (same.0, none_live, none_live);
      },
      many.2,
    ))
  where
    none_live : {x y : List ℕ} → SameSet [] x y
    none_live {x} {y} n p = (λ live. absurd (omega (arith, live.1.0, live.1.1)), λ live. absurd (omega (arith, live.1.0, live.1.1)))
