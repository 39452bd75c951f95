-- The outcomes of publications, in terms of script lines.
use Rattle.std.proofs.Common.{◌≡◌, ◌⊎◌, ℕ, List, [], ◌∷◌, ◌++◌, Bool, true, false, length, MatchBool, Option, Some, None, Result, Ok, Err}
use Rattle.std.proofs.Common.{Vec, Global, codes, decimal, refl, sym, ap, subst, inl, inr}
use Rattle.glob_automaton.specs.Automata.{StateLimit, most_sets}
use Rattle.glob_automaton.specs.Sets.{AreMoreThan}
use Rattle.justification.specs.declared.answer.Answer.{Answer}
use Rattle.matcher.specs.declared.fault.MakeFault.{MakeFault}
use Rattle.matcher.specs.declared.fault.MakeFault.TheVariants.{NoMemory, TooManyStates}
use Rattle.matcher.specs.MakeFaults.{IsMakeFault}
use Rattle.mediation.specs.Deeds.{Deed, published_rules}
use Rattle.rule_reader.specs.declared.fault.ReadFault.{ReadFault}
use Rattle.rule_reader.specs.declared.fault.ReadFault.TheVariants as reading
use Rattle.rule_profile.specs.Profile.{ProfileValue}
use Rattle.event_machine.specs.Machine.{Machine}
use Rattle.event_machine.specs.Machine.Event.{publish}
use Rattle.event_machine.specs.Takes.{Takes}
use Rattle.event_machine.specs.Lawful.{IsLawful}
use Rattle.trace_report.specs.Output.{refusal, compile_refusal}
use Rattle.trace_script.specs.declared.stop.Stop.{Stop}
use Rattle.trace_steps.specs.inner.Actions.{HasLine}
use Rattle.trace_steps.specs.StepLines.{Lines, Publishes, PublishesText, OnlyPrints, not_now}

pub published_so : (old new : Machine) (deed : Deed) (start : List ℕ) (told : Option Answer) (version : ℕ) →
    Takes old (publish (deed ∷ [])) told new → version ≡ length new.deeds
    → Publishes old deed start ((start ++ decimal version) ∷ []) new
published_so old new deed start None version takes is = inl (takes, ap (λ (n : ℕ). (start ++ decimal n) ∷ []) is)
published_so old new deed start (Some told) version (own, event, answers) is = cc

pub published_not : (old new : Machine) (deed : Deed) (start : List ℕ) → ¬ (IsLawful old (publish (deed ∷ []))) → new ≡ old →
    Publishes old deed start (not_now ∷ []) new
published_not old new deed start other same = inr (other, (refl, same))

-- a line of a publication, with equal terms for what is published and for what the line begins with
pub published_line : (old new : Machine) (deed wanted : Deed) (start begins : List ℕ) (result : Result (Vec ℕ Global) Stop) →
    deed ≡ wanted → start ≡ begins
    → HasLine (λ lines. Publishes old deed start lines new) result → HasLine (λ lines. Publishes old wanted begins lines new) result
published_line old new deed wanted start begins result same is h =
    subst (λ (s : List ℕ). HasLine (λ lines. Publishes old wanted s lines new) result) is
    (subst (λ (d : Deed). HasLine (λ lines. Publishes old d start lines new) result) same h)

-- ---- profiles

module _ (limit : StateLimit) (old new : Machine) where
  -- a text, by the outcome of reading it
  pub read_so : (outcome told : Result ProfileValue ReadFault) (lines : Lines) → outcome ≡ told → PublishesText limit old told lines new →
      PublishesText limit old outcome lines new
  read_so outcome told lines is h = subst (λ (r : Result ProfileValue ReadFault). PublishesText limit old r lines new) (sym is) h

  pub read_not : (outcome : Result ProfileValue ReadFault) (fault : ReadFault) → (fault ≡ reading.NoMemory → ⊥) →
      (fault ≡ reading.NoMemory) ⊎ (outcome ≡ Err fault) → new ≡ old
      → PublishesText limit old outcome ((codes "policy " ++ refusal fault) ∷ []) new
  read_not outcome fault other (inl refused) same = absurd (other refused)
  read_not outcome fault other (inr is) same = read_so outcome (Err fault) ((codes "policy " ++ refusal fault) ∷ []) is (refl, same)

  pub made_so : (profile : ProfileValue) (lines : Lines) → ¬ (AreMoreThan most_sets profile.rules) →
      Publishes old (published_rules profile) (codes "policy " ++ profile.name ++ codes " version ") lines new
      → PublishesText limit old (Ok profile) lines new
  made_so profile lines few publishes = by (limit.is_over profile.rules) refl
    where
      by : (over : Bool) → limit.is_over profile.rules ≡ over →
          MatchBool over (OnlyPrints (codes "policy " ++ compile_refusal TooManyStates) old lines new)
          (Publishes old (published_rules profile) (codes "policy " ++ profile.name ++ codes " version ") lines new)
      by true is = absurd (few ((limit.right profile.rules).0 is))
      by false is = publishes

  pub made_not : (profile : ProfileValue) (fault : MakeFault) → (fault ≡ NoMemory → ⊥) → IsMakeFault profile.rules fault → new ≡ old
      → PublishesText limit old (Ok profile) ((codes "policy " ++ compile_refusal fault) ∷ []) new
  made_not profile NoMemory other many same = absurd (other refl)
  made_not profile TooManyStates other many same = by (limit.is_over profile.rules) ((limit.right profile.rules).1 many)
    where
      by : (over : Bool) → over ≡ true → MatchBool over (OnlyPrints (codes "policy " ++ compile_refusal TooManyStates) old
          ((codes "policy " ++ compile_refusal TooManyStates) ∷ []) new)
          (Publishes old (published_rules profile) (codes "policy " ++ profile.name ++ codes " version ")
          ((codes "policy " ++ compile_refusal TooManyStates) ∷ []) new)
      by true is = (refl, same)
      by false is = cc
