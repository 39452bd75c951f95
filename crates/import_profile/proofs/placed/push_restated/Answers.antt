use Rattle.std.proofs.Common.{List, suc, subst, All, IsTrue, rules, arith}
use Rattle.rule_globs.specs.Tokens.{Token}
use Rattle.rule_profile.specs.Readable.{is_path}
use Rattle.import_profile.proofs.Gathers.{pushed_more}
use Rattle.import_profile.proofs.placed.push_restated.Goals as goal

pub loop-path-preserved : goal.loop-path-preserved
loop-path-preserved c =
    let left = subst (λ (paths : List (List Token)). All (λ path. IsTrue (is_path path)) paths) c.in-Some.ensures.steps.0
    c.loop-path.invariant.readable in
    record {
      pushed = pushed_more _ _ _ _ _ _ c.loop-path.invariant.pushed (search rules);
      readable = λ k d low. left (suc k) d (omega arith);
    }
