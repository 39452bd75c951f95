-- The first question that has a fault.
use Rattle.std.specs.Prelude.{◌≡◌, ◌⊎◌, ◌<◌, ◌≤◌, ◌+◌, ℕ, List, [], ◌∷◌, length, Ok, Err, Option, Some, None}
use Rattle.std.specs.Prelude.{slice_get, Bool, true, false}
use Rattle.import_scope.specs.declared.asked_paths.Seen.{Seen}
use Rattle.apparmor_variables.specs.PathTexts.{IsSubstituted, PathProblem}
use Rattle.apparmor_variables.specs.Problems.{Problem}
use Rattle.apparmor_variables.specs.Variables.{Variable}
use Rattle.import_scope.specs.FirstFaults.{Question, Counted, most_together, CountBefore, variables_within, Answers}
use Rattle.import_scope.specs.Scopes.{Head, Fault, in_path, too_much}
use Rattle.import_scope.specs.inner.Outlines.{AskedValue}

-- the full name of the profile with this number
abbrev pub name_at : List Head → ℕ → List ℕ
name_at profiles n = elim (slice_get profiles n) [ None ↦ [] | Some head ↦ head.name ]

abbrev pub question_at : List Variable → List Head → AskedValue → Question
question_at variables profiles a = record {
  profile = a.profile;
  variables = variables_within variables (name_at profiles a.profile);
  path = a.path;
  place = a.place;
}

-- ---- what was counted

abbrev pub counted_of : Seen → Counted
counted_of s = record { bytes = s.bytes; profile = s.profile }

-- The variables were counted before a path, by whether the last path was in its profile; or that is too much together.
abbrev pub CountsLists : Bool → List Variable → ℕ → ℕ → Bool → Type 0
CountsLists last variables old new true = (n : ℕ) × CountBefore last variables n × (new ≡ old + n) × (new ≤ most_together)
CountsLists last variables old new false = (n : ℕ) × CountBefore last variables n × (most_together < old + n)

-- A text of this many bytes was counted; or that is too much together.
abbrev pub CountsText : Bool → ℕ → ℕ → ℕ → Type 0
CountsText true bytes old new = (new ≡ old + bytes) × (new ≤ most_together)
CountsText false bytes old new = most_together < old + bytes

-- a path has no text with these variables in place, and this is its fault
pub record IsPathFault (variables : List Variable) (path : List ℕ) (place : ℕ) (fault : Fault) : Type 0 where
  pub problem : Problem
  pub has : PathProblem variables path problem
  pub told : fault ≡ record { kind = in_path problem; place = place }

-- a path has a text that is too much together, and this is its fault
pub record IsTextTooMuch (variables : List Variable) (path : List ℕ) (place old : ℕ) (fault : Fault) : Type 0 where
  pub text : List ℕ
  pub is : IsSubstituted variables path text
  pub more : most_together < old + length text
  pub told : fault ≡ record { kind = too_much; place = place }

-- The text of a path, which has this fault, was counted.
abbrev pub Places : List Variable → List ℕ → ℕ → Option Fault → ℕ → ℕ → Type 0
Places variables path place None old new =
    (text : List ℕ) × IsSubstituted variables path text × (new ≡ old + length text) × (new ≤ most_together)
Places variables path place (Some fault) old new =
    IsPathFault variables path place fault ⊎ IsTextTooMuch variables path place old fault

-- ---- the questions, in order

-- a question has this fault, or this was counted with it
abbrev pub AnswersAs : Counted → Question → Option Fault → Counted → Type 0
AnswersAs c q None next = Answers c q (Ok next)
AnswersAs c q (Some fault) next = Answers c q (Err fault)

pub data FirstProblem (variables : List Variable) (profiles : List Head) : Counted → List AskedValue → Option Fault → Type 0 where
  all_answered : (c : Counted) → FirstProblem variables profiles c [] None
  here : (c : Counted) (a : AskedValue) (others : List AskedValue) (fault : Fault) →
      Answers c (question_at variables profiles a) (Err fault) → FirstProblem variables profiles c (a ∷ others) (Some fault)
  further : (c next : Counted) (a : AskedValue) (others : List AskedValue) (end : Option Fault) →
      Answers c (question_at variables profiles a) (Ok next) → FirstProblem variables profiles next others end →
      FirstProblem variables profiles c (a ∷ others) end
