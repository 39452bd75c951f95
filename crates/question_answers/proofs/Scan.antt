-- The pass over the representatives, by the causes that were noted.
use Rattle.std.proofs.Common.{◌≡◌, ◌⊎◌, ◌↔◌, inl, inr, ⊎_elim, ℕ, ◌+◌, ◌≤◌, Bool, true, false, true≢false, List, [], ◌∷◌, ◌++◌, length}
use Rattle.std.proofs.Common.{Option, Vec, Global, sym, ap, ◌∙◌, arith}
use Rattle.std.proofs.lemmas.List.{map-append}
use Rattle.std.proofs.lemmas.Option.{none-some}
use Rattle.names.specs.declared.permissions.Perms.{Perms}
use Rattle.profile_questions.specs.Names.{AreRepresentatives, ComparisonValue}
use Rattle.rule_globs.specs.Tokens.{Token}
use Rattle.question_answers.specs.Below.{is_given, rules_below}
use Rattle.question_answers.specs.LeastNames.{AreLeastNames, listed}
use Rattle.question_answers.specs.declared.cause.Causes.{Causes}
use Rattle.question_answers.specs.declared.least.Wanted.{Wanted}
use Rattle.question_answers.specs.inner.Causes.{AreNoted, HasCauses, HasNoted, IsIn}
use Rattle.question_answers.specs.inner.Wants.{wanted_of}
use Rattle.question_answers.proofs.BelowLaws.{PatternLaw}
use Rattle.question_answers.proofs.CauseLaws.{OneReason, causes_by_hits, represented}
use Rattle.question_answers.proofs.Noted.{noted_as}
use Rattle.question_answers.proofs.Passes.{IsKnown, Within, all_passed, last, later, none_within, nothing_new, one_new, split}

-- one more name, as it is kept
pub listed_more : (names more : List (Vec ℕ Global)) (name : Vec ℕ Global) (here : List ℕ) → more ≡ names ++ name ∷ [] →
    name.items ≡ here → listed more ≡ listed names ++ here ∷ []
listed_more names more name here e is =
    ap listed e ∙ map-append (λ (v : Vec ℕ Global). v.items) names (name ∷ []) ∙ ap (λ (z : List ℕ). listed names ++ z ∷ []) is

-- the causes of the representatives before the index are noted, and the names that were the first with some of them are kept
pub record ArePassed (below : Option (List Token)) (c : ComparisonValue) (w : Wanted) (ask : Perms) (index : ℕ) (seen : List Causes)
    (names : List (List ℕ)) : Type 0 where
  pub noted : (k : Causes) → IsIn seen k ↔ ((name : List ℕ) × Within (HasCauses below c w ask) c.names index k name)
  pub least : AreLeastNames (Within (HasCauses below c w ask) c.names index) names

module _ (below : Option (List Token)) (c : ComparisonValue) (w : Wanted) (ask : Perms) where
  abbrev pub Has : Causes → List ℕ → Type 0
  Has = HasCauses below c w ask

  pub passed_first : ArePassed below c w ask 0 [] []
  passed_first = record {
    noted = λ k. (
      λ at. absurd (none-some k at.1),
      λ one. absurd (omega (arith, one.1.1)),
    );
    least = none_within Has c.names;
  }

  module _ (law : PatternLaw) (one : OneReason) (restricted : Bool) (third : c.third ≡ rules_below below)
      (given : restricted ≡ is_given below) (are : AreRepresentatives c) where
    pub passed_last : (index : ℕ) (seen : List Causes) (names : List (List ℕ)) → length c.names ≤ index →
        ArePassed below c w ask index seen names → AreLeastNames Has names
    passed_last index seen names past passed =
        all_passed Has c.names (represented law c w below restricted ask third given are) index past names passed.least

    module _ (in_or_not : (keys : List Causes) (k : Causes) → IsIn keys k ⊎ ¬ (IsIn keys k)) (index : ℕ) (old new : List Causes)
        (is_new : Bool) (h : HasNoted c index (wanted_of w restricted) ask old new is_new) (names : List (List ℕ))
        (so_far : ArePassed below c w ask index old names) where
      abbrev pub here : List ℕ
      here = h.0

      noted : AreNoted old new is_new (λ k. Has k here)
      noted = noted_as old new is_new _ (λ k. Has k here)
          (causes_by_hits law c w below restricted ask third given one here (are.named index here h.2) h.1 h.3) h.4

      known : (k : Causes) → IsKnown Has c.names index k
      known k = ⊎_elim
          (λ at. inl ((so_far.noted k).0 at))
          (λ not_at. inr (λ name within. not_at ((so_far.noted k).1 (name, within))))
          (in_or_not old k)

      all_noted : (k : Causes) → IsIn new k ↔ ((name : List ℕ) × Within Has c.names (index + 1) k name)
      all_noted k = (
        λ at. ⊎_elim
            (λ was. let before = (so_far.noted k).0 was in
            (before.0, later Has c.names are.ascending index here h.2 k before.0 before.1))
            (λ has. (here, last Has c.names are.ascending index here h.2 k has))
            ((noted.noted k).0 at),
        λ within. (noted.noted k).1 (⊎_elim
            (λ before. inl ((so_far.noted k).1 (within.0, before)))
            (λ next. inr next.1)
            (split Has c.names are.ascending index here h.2 k within.0 within.1)),
      )

      pub passed_old : is_new ≡ false → ArePassed below c w ask (index + 1) new names
      passed_old none = record {
        noted = all_noted;
        least = nothing_new Has c.names are.ascending index here h.2 names so_far.least
            (λ k has. ⊎_elim
            (λ at. (so_far.noted k).0 at)
            (λ not_at. absurd (true≢false (sym (noted.news.1 (k, has, not_at)) ∙ none)))
            (in_or_not old k));
      }

      pub passed_new : is_new ≡ true → ArePassed below c w ask (index + 1) new (names ++ here ∷ [])
      passed_new met =
          let fresh = noted.news.0 met in record {
            noted = all_noted;
            least = one_new Has c.names are.ascending index here h.2 names so_far.least known fresh.0 fresh.1
                (λ name within. fresh.2 ((so_far.noted fresh.0).1 (name, within)));
          }
