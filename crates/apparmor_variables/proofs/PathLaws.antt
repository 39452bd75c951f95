-- A path has one text with its variables in place or one problem, and not both.
use Rattle.std.proofs.Common.{◌≡◌, ℕ, ◌+◌, List, [], ◌∷◌, ◌++◌, length, Some, refl, sym, ap, ◌∙◌, subst, ◌⊎◌, inl, inr, ⊎_elim, arith}
use Rattle.std.specs.Prelude.{is_some}
use Rattle.std.proofs.lemmas.Bool.{cases_lt}
use Rattle.apparmor_pieces.specs.Pieces.{Text, Piece, byte, escaped, use_of, pieces, names_in, used_names}
use Rattle.apparmor_variables.specs.Variables.{Variable, Known, list_at, most_bytes}
use Rattle.apparmor_variables.specs.Problems.{Problem, too_long, AreListed, HasProblem}
use Rattle.apparmor_variables.specs.PathTexts.{text_of, path_text, IsSubstituted, PathProblem, OfUse, TextTooLong}
use Rattle.apparmor_variables.specs.inner.Way.{AreKnown}
use Rattle.apparmor_variables.proofs.KnownLists.{both_steps, levels, are_listed}
use Rattle.apparmor_variables.proofs.PathSteps.{further, gone_on, text_more, there_is_a_text}
use Rattle.apparmor_variables.proofs.ProblemLaws.{none_on, same_use, listed_middle, problem_excludes, one_problem}
use Rattle.apparmor_variables.proofs.ProblemLaws.{each_in_turn, levels_for}
use Rattle.apparmor_variables.proofs.ProblemLaws.{some_outcome}

-- ---- what a text needs

text_needs : (known : Known) (so_far : Text) (ps : List Piece) (text : Text) → text_of known so_far ps ≡ Some text →
    AreKnown known (names_in ps)
text_needs known so_far [] text e = tt
text_needs known so_far (byte b ∷ ps) text e = text_needs known (further so_far ps ((b ∷ []) ∷ [])) ps text e
text_needs known so_far (escaped b ∷ ps) text e = text_needs known (further so_far ps ((92 ∷ b ∷ []) ∷ [])) ps text e
text_needs known so_far (use_of name ∷ ps) text e =
    let a = both_steps (gone_on known so_far ps) (known name) text e in
    (ap is_some a.1, text_needs known (further so_far ps a.0) ps text a.2)

all_listed : (variables : List Variable) (n : ℕ) (path text : Text) → path_text (list_at n variables) path ≡ Some text →
    AreListed variables (used_names path)
all_listed variables n path text e =
    are_listed variables (list_at n variables) n (λ name list h. h) (used_names path)
    (text_needs (list_at n variables) [] (pieces path) text e)

same_text : (variables : List Variable) (path one other : Text) (n m : ℕ) → path_text (list_at n variables) path ≡ Some one →
    path_text (list_at m variables) path ≡ Some other → one ≡ other
same_text variables path one other n m e f =
    let all = n + m in
    let a : path_text (list_at all variables) path ≡ Some one = text_more (list_at n variables) (list_at all variables)
    (levels variables m n all (omega arith)) [] (pieces path) one e in
    let b : path_text (list_at all variables) path ≡ Some other = text_more (list_at m variables) (list_at all variables)
    (levels variables n m all refl) [] (pieces path) other f in
    cc

pub one_text : (variables : List Variable) (path one other : Text) → IsSubstituted variables path one →
    IsSubstituted variables path other → one ≡ other
one_text variables path one other a b = same_text variables path one other a.levels b.levels a.is b.is

-- ---- a problem excludes a text

use_excludes : (variables : List Variable) (path text : Text) (n : ℕ) (before after : List Text) (name : Text) (problem : Problem) →
    path_text (list_at n variables) path ≡ Some text
    → used_names path ≡ before ++ name ∷ after → HasProblem variables [] name problem → ⊥
use_excludes variables path text n before after name problem e needs has =
    problem_excludes variables [] name problem (none_on variables) has
    (listed_middle variables before after name (subst (AreListed variables) needs (all_listed variables n path text e)))

pub text_excludes : (variables : List Variable) (path text : Text) (problem : Problem) → IsSubstituted variables path text →
    PathProblem variables path problem → ⊥
text_excludes variables path text _ a (OfUse before after name problem needs listed has) = use_excludes variables path text a.levels before
    after name problem a.is needs has
text_excludes variables path text _ a (TextTooLong n other is long) =
    let same : length text ≡ length other = ap length (same_text variables path text other a.levels n a.is is) in
    let short = a.short in
    omega (arith, same, short, long)

use_only : (variables : List Variable) (path : Text) (before after : List Text) (name : Text) (problem other : Problem) → used_names path
    ≡ before ++ name ∷ after → AreListed variables before
    → HasProblem variables [] name problem → PathProblem variables path other → problem ≡ other
use_only variables path before after name problem _ needs listed has (OfUse before' after' name' problem' needs' listed' has') =
    let free = none_on variables in
    let same : name ≡ name' = same_use variables before after before' after' name name' (sym needs ∙ needs') listed listed'
    (problem_excludes variables [] name problem free has) (problem_excludes variables [] name' problem' free has') in
    one_problem variables [] name problem free has problem' (subst (λ (x : Text). HasProblem variables [] x problem') (sym same) has')
use_only variables path before after name problem _ needs listed has (TextTooLong n text is long) =
    absurd (use_excludes variables path text n before after name problem is needs has)

long_only : (variables : List Variable) (path text : Text) (n : ℕ) (other : Problem) → path_text (list_at n variables) path ≡ Some text →
    PathProblem variables path other → too_long ≡ other
long_only variables path text n _ is (OfUse before after name problem needs listed has) =
    absurd (use_excludes variables path text n before after name problem is needs has)
long_only variables path text n _ is (TextTooLong m other is' long) = refl

pub one_path_problem : (variables : List Variable) (path : Text) (one other : Problem) → PathProblem variables path one →
    PathProblem variables path other → one ≡ other
one_path_problem variables path _ other (OfUse before after name problem needs listed has) b = use_only variables path before after name
    problem other needs listed has b
one_path_problem variables path _ other (TextTooLong n text is long) b = long_only variables path text n other is b

-- ---- a text or a problem

abbrev Outcome : List Variable → Text → Type 0
Outcome variables path = ((text : Text) × IsSubstituted variables path text) ⊎ ((problem : Problem) × PathProblem variables path problem)

pub some_text : (variables : List Variable) (path : Text) → Outcome variables path
some_text variables path =
    ⊎_elim
    (λ all.
    let n = levels_for variables (used_names path) all in
    let t = there_is_a_text (list_at n.0 variables) [] (pieces path) n.1 in
    ⊎_elim (λ long. inr (too_long, TextTooLong n.0 t.0 t.1 long)) (λ short. inl (t.0, record { levels = n.0; is = t.1; short = short }))
    (cases_lt most_bytes (length t.0)))
    (λ first. inr (first.problem, OfUse first.before first.after first.used first.problem first.needs first.listed first.has))
    (each_in_turn variables [] (used_names path) (some_outcome variables))
