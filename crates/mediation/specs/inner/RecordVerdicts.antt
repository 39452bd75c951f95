-- Records that give a profile's verdicts on a name.
use Rattle.std.specs.Prelude.{◌≡◌, ℕ, List}
use Rattle.names.specs.Records.{IsTold}
use Rattle.names.specs.declared.record.Record.{Record}
use Rattle.names.specs.declared.permissions.Perms.{Perms}
use Rattle.names.specs.declared.verdict.Verdict.{Verdict}
use Rattle.mediation.specs.Judge.{Judge, verdict_by}

-- whatever is asked, the record's verdict is the verdict on the name
abbrev pub Tells : Judge → List ℕ → Record → Type 0
Tells judge name r = (ask : Perms) (v : Verdict) → IsTold r ask v → v ≡ verdict_by judge name ask
