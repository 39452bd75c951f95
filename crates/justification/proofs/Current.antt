-- A verdict that is justified at the current versions is what the definition answers.
use Rattle.std.proofs.Common.{◌≡◌, ℕ, List, length, Some, Option, refl, sym, ap, ◌∙◌}
use Rattle.std.proofs.Math.Seq.{take-length}
use Rattle.std.specs.Prelude.{Result, Ok, Err}
use Rattle.names.specs.declared.errors.Errno.{Errno}
use Rattle.names.specs.declared.permissions.Perms.{Perms}
use Rattle.names.specs.declared.verdict.Verdict.{Verdict}
use Rattle.directory_tree.specs.Plain.{tree_of}
use Rattle.directory_tree.specs.Tree.{Tree}
use Rattle.directory_tree.specs.Apply.{and_then}
use Rattle.names.specs.laws.Results.{same_Ok}
use Rattle.mediation.specs.Deeds.{Deed, policy_after}
use Rattle.mediation.specs.History.{History, open_answer}
use Rattle.mediation.specs.Judge.{Judge}
use Rattle.mediation.specs.Opens.{Reached, Answered, judged, failed, reached, answered_by, judged_file}
use Rattle.justification.proofs.Agreement.{one_reach}
use Rattle.justification.specs.declared.answer.Answer.TheVariants.{Judged}
use Rattle.justification.specs.Justified.{Justified}
use Rattle.justification.specs.Versions.{IsTreeAt}

-- the answer by a tree in which the file is reached
answer_at : (t : Tree) (tree policy : ℕ) (path : List ℕ) (ask : Perms) (judge : Judge) (published : Option Judge) (file : Reached) →
    published ≡ Some judge → reached t path ask ≡ Ok file
    → answered_by t tree policy path ask published ≡ judged (judged_file judge ask file) tree policy
answer_at t tree policy path ask judge published file is reaches =
    ap (answered_by t tree policy path ask) is
    ∙ ap (λ (r : Result Reached Errno). elim (and_then r (λ x. Ok (judged_file judge ask x))) as (λ _. Answered)
    [ Ok j ↦ judged j tree policy | Err errno ↦ failed errno tree ]) reaches

module _ (h : History) (profile path : List ℕ) (ask : Perms) (verdict : Verdict) (node : ℕ) (name : List ℕ) where
  abbrev changes : ℕ
  changes = length h.tree.history

  pub current_judgment : IsTreeAt h.tree.history changes (tree_of h.tree)
      → Justified profile path ask h.tree.history h.deeds (Judged verdict node changes (length h.deeds))
      → (t : Tree) × (file : Reached) × IsTreeAt h.tree.history changes t × (reached t path ask ≡ Ok file) × (file.name ≡ name)
      → open_answer h profile path ask ≡ judged (record { name = name; node = node; verdict = verdict }) changes (length h.deeds)
  current_judgment now (t, file, judge, at, is, published, (node_is, verdict_is)) (u, found, there, are, name_is) =
      let reaches : Ok file ≡ reached (tree_of h.tree) path ask =
      one_reach h.tree.history changes path ask t (tree_of h.tree) (Ok file) (reached (tree_of h.tree) path ask) at now is refl in
      let same : file ≡ found = same_Ok file found (one_reach h.tree.history changes path ask t u (Ok file) (Ok found) at there is are) in
      let named : file.name ≡ name = ap (λ (x : Reached). x.name) same ∙ name_is in
      let all : policy_after h.deeds profile ≡ Some judge =
      ap (λ (deeds : List Deed). policy_after deeds profile) (sym (take-length h.deeds)) ∙ published.1 in
      answer_at (tree_of h.tree) changes (length h.deeds) path ask judge (policy_after h.deeds profile) file all (sym reaches)
      ∙ (λ i. judged (record { name = named i; node = node_is i; verdict = verdict_is i }) changes (length h.deeds))
