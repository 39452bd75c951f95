use Rattle.std.proofs.Common.{refl, arith}
use Rattle.std.proofs.lemmas.List.{get_or-replicate}
use Rattle.rule_globs.proofs.block.Block.new.Goals as goal

pub invariant_of-result : goal.invariant_of-result
invariant_of-result c = (omega arith, λ wanted lt. get_or-replicate 256 wanted 0 0 lt, refl, refl)
