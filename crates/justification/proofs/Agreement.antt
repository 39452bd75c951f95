-- Two findings on one version agree.
use Rattle.std.proofs.Common.{◌≡◌, ℕ, List, sym, ap, ◌∙◌}
use Rattle.std.specs.Prelude.{Result, Ok, Err}
use Rattle.names.specs.laws.Results.{err-ok, same_Ok}
use Rattle.std.proofs.lemmas.Option.{same_Some}
use Rattle.directory_tree.specs.declared.change.Change.{Change}
use Rattle.directory_tree.specs.Tree.{Tree}
use Rattle.names.specs.declared.errors.Errno.{Errno}
use Rattle.names.specs.declared.permissions.Perms.{Perms}
use Rattle.names.specs.declared.verdict.Verdict.{Verdict}
use Rattle.mediation.specs.Deeds.{Deed}
use Rattle.mediation.specs.Judge.{verdict_by}
use Rattle.mediation.specs.Opens.{Reached, reached}
use Rattle.justification.specs.declared.answer.Answer.TheVariants.{Judged, Failed}
use Rattle.justification.specs.Justified.{Justified}
use Rattle.justification.specs.Versions.{IsTreeAt}

-- there is one tree of a version
pub one_tree : (changes : List Change) (version : ℕ) (t u : Tree) → IsTreeAt changes version t → IsTreeAt changes version u → t ≡ u
one_tree changes version t u at there = same_Ok t u (sym at.1 ∙ there.1)

-- and in it an open has one outcome
pub one_reach : (changes : List Change) (version : ℕ) (path : List ℕ) (ask : Perms) (t u : Tree) (one other : Result Reached Errno)
    → IsTreeAt changes version t → IsTreeAt changes version u → reached t path ask ≡ one → reached u path ask ≡ other → one ≡ other
one_reach changes version path ask t u one other at there is are =
    sym is ∙ ap (λ (x : Tree). reached x path ask) (one_tree changes version t u at there) ∙ are

module _ (profile path : List ℕ) (ask : Perms) (changes : List Change) (deeds : List Deed) where
  pub not_failed : (v : Verdict) (n tree policy : ℕ) (errno : Errno)
      → Justified profile path ask changes deeds (Judged v n tree policy) → Justified profile path ask changes deeds (Failed errno tree) →
      ⊥
  not_failed v n tree policy errno (t, file, judge, at, is, published, says) (u, there, are) =
      err-ok errno file (one_reach changes tree path ask u t (Err errno) (Ok file) there at are is)

  pub one_verdict : (v w : Verdict) (n m tree policy : ℕ)
      → Justified profile path ask changes deeds (Judged v n tree policy) → Justified profile path ask changes deeds
      (Judged w m tree policy) → (v ≡ w) × (n ≡ m)
  one_verdict v w n m tree policy (t, file, judge, at, is, published, (node_is, verdict_is))
      (u, found, other, there, are, too, (other_node_is, other_verdict_is)) =
      let same : file ≡ found = same_Ok file found (one_reach changes tree path ask t u (Ok file) (Ok found) at there is are) in
      let alike : judge ≡ other = same_Some judge other (sym published.1 ∙ too.1) in (
        sym verdict_is ∙ (λ i. verdict_by (alike i) (same i).name ask) ∙ other_verdict_is,
        sym node_is ∙ ap (λ (x : Reached). x.node) same ∙ other_node_is,
      )
