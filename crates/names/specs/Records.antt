-- The verdict of a record: the least deny number over what is asked; else what has no allow number; else allowed.
use Rattle.std.specs.Prelude.{◌≡◌, ◌≢◌, ◌↔◌, ℕ, IsTrue}
use Rattle.names.specs.declared.permissions.Permission.{Permission}
use Rattle.names.specs.declared.permissions.Perms.{Perms}
use Rattle.names.specs.Permissions.{has}
use Rattle.names.specs.declared.verdict.Verdict.{Verdict}
use Rattle.names.specs.declared.verdict.Verdict.TheVariants.{Denied, NoRule, Allowed}
use Rattle.names.specs.declared.record.Record.{Record}
use Rattle.names.specs.Least.{IsLeast, hits_of}

-- n is the deny number of something that is asked
abbrev pub ToldDenied : Record → Perms → ℕ → Type 0
ToldDenied r ask n = (n ≢ 0) × ((p : Permission) × IsTrue (has ask p) × ((hits_of r p).deny ≡ n))

-- p is asked and has no allow number
abbrev pub ToldMissing : Record → Perms → Permission → Type 0
ToldMissing r ask p = IsTrue (has ask p) × ((hits_of r p).allow ≡ 0)

abbrev pub NothingToldDenied : Record → Perms → Type 0
NothingToldDenied r ask = (n : ℕ) → ¬ (ToldDenied r ask n)

abbrev pub IsTold : Record → Perms → Verdict → Type 0
IsTold r ask (Denied n) = IsLeast (ToldDenied r ask) n
IsTold r ask (NoRule missing) =
    NothingToldDenied r ask × ((p : Permission) × IsTrue (has missing p))
    × ((p : Permission) → IsTrue (has missing p) ↔ ToldMissing r ask p)
IsTold r ask Allowed = NothingToldDenied r ask × ((p : Permission) → ¬ (ToldMissing r ask p))
