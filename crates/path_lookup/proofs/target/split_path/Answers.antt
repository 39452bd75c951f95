use Rattle.std.proofs.Common.{List, ℕ, subst}
use Rattle.std.proofs.lemmas.Result.{IfOk-weaker}
use Rattle.path_lookup.specs.Target.{IsSplit, AreShort}
use Rattle.path_lookup.specs.declared.target.SplitPath.{SplitPath}
use Rattle.path_lookup.proofs.ShortParts.{parts_short}
use Rattle.path_lookup.proofs.target.split_path.Goals as goal

pub returns-clause-ok : goal.returns-clause-ok
returns-clause-ok c =
    let slash = c.args.slash in
    let path = c.args.path.now in
    IfOk-weaker c.split_text.result (λ (parts : SplitPath). IsSplit slash c.as_bytes.result.now parts)
    (λ (parts : SplitPath). IsSplit slash path parts × AreShort parts) (λ parts is. let split : IsSplit slash path parts =
    subst (λ (text : List ℕ). IsSplit slash text parts) c.as_bytes.ensures.bytes is in
    (split, parts_short slash path parts c.as_bytes.ensures.checked split))
    c.split_text.ensures.ok
