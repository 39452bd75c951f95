-- What a table says of names, by what it is made of.
use Rattle.std.proofs.Common.{◌≡◌, ℕ, List, sym, ◌∙◌, ap, subst, Some}
use Rattle.std.proofs.lemmas.Option.{same_Some}
use Rattle.names.specs.declared.permissions.Perms.{Perms}
use Rattle.names.specs.declared.record.Record.{Record}
use Rattle.glob_automaton.specs.Automata.{Automaton, IsAutomatonOf}
use Rattle.glob_automaton.specs.Least.{IsLeastRecord}
use Rattle.names.specs.Records.{IsTold}
use Rattle.matcher.specs.TableVerdicts.{TellsLeastHits, TellsVerdicts}
use Rattle.rule_globs.specs.PlainVerdict.{verdict}
use Rattle.rule_profile.specs.Profile.{RuleValue}
use Rattle.rule_globs.specs.Verdict.{IsVerdict}
use Rattle.names.specs.declared.verdict.Verdict.{Verdict}
use Rattle.table_image.specs.PackedTables.{IsTableOf}
use Rattle.tables.specs.Tables.{Table}

-- the table of an automaton of rules leads to their least hits
pub tells_least : ((rules : List RuleValue) (name : List ℕ) (first second : Record) → IsLeastRecord rules name first →
    IsLeastRecord rules name second → first ≡ second)
    → (rules : List RuleValue) (a : Automaton) (t : Table) → IsAutomatonOf rules a → IsTableOf a t → TellsLeastHits rules t
tells_least one rules a t is made name r bytes least =
    let w = is.least name bytes in
    made.same name bytes ∙ w.1 ∙ ap (λ (x : Record). Some x) (one rules name w.0 r w.2 least)

-- and so gives their verdicts
pub tells_verdicts : ((rules : List RuleValue) (name : List ℕ) (r : Record) (ask : Perms) (v : Verdict) → IsLeastRecord rules name r →
    IsTold r ask v → IsVerdict rules name ask v)
    → ((rules : List RuleValue) (name : List ℕ) → (r : Record) × IsLeastRecord rules name r)
    → ((rules : List RuleValue) (name : List ℕ) (ask : Perms) → IsVerdict rules name ask (verdict rules name ask))
    → ((rules : List RuleValue) (name : List ℕ) (ask : Perms) (first second : Verdict) → IsVerdict rules name ask first →
    IsVerdict rules name ask second → first ≡ second)
    → (rules : List RuleValue) (t : Table) → TellsLeastHits rules t → TellsVerdicts rules t
tells_verdicts right least some one rules t tells name r ask v bytes there told =
    let w = least rules name in
    let same : w.0 ≡ r = same_Some w.0 r (sym (tells name w.0 bytes w.1) ∙ there) in
    one rules name ask v (verdict rules name ask) (right rules name r ask v (subst (IsLeastRecord rules name) same w.1) told)
    (some rules name ask)
