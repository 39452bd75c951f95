-- Each word gets the bit of the byte.
use Rattle.std.proofs.Common.{◌≡◌, ◌+◌, ◌<◌, ◌++◌, ◌∷◌, [], ℕ, List, length, get_or, take, set, sym, ap, ◌∙◌, subst, arith}
use Rattle.std.proofs.Common.{length-take}
use Rattle.std.proofs.lemmas.List.{take_more_set}
use Rattle.rule_globs.specs.Glob.{exactly, not_slash, every_byte}
use Rattle.rule_globs.specs.inner.Blocks.{taken}
use Rattle.rule_globs.proofs.Blocks.{words_more}
use Rattle.rule_globs.proofs.block.Block.push.Goals as goal

pub invariant_of-self : goal.invariant_of-self
invariant_of-self c =
    let old : List ℕ = take c.self.inside.count c.self.inside.bytes in
    let before : length old < 64 = omega (arith, c.requires, ap length c.self.view_is) in
    let full : length c.self.inside.bytes ≡ 64 = omega arith in
    let count : length old ≡ c.self.inside.count =
    omega (arith, length-take c.self.inside.count c.self.inside.bytes, c.self.invariant.0) in
    let more : take (c.self.inside.count + 1) (set c.self.inside.bytes c.self.inside.count c.args.byte) ≡ old ++ c.args.byte ∷ [] =
    take_more_set c.self.inside.bytes c.self.inside.count c.args.byte (omega (arith, before, count, full)) in
    let at : c.from-at.result ≡ c.args.byte = c.from-at.ensures in
    let word : c.with_flag.result ≡ taken (exactly c.args.byte) (old ++ c.args.byte ∷ []) =
    c.with_flag.ensures (exactly c.args.byte) old c.args.byte count
    (ap (λ z. get_or c.self.inside.written z 0) at ∙ c.self.invariant.1 c.args.byte (omega (arith, c.ranges.byte)))
    c.is_written.ensures in (
      omega (arith, before, count),
      λ wanted lt. subst (λ z. get_or (set c.self.inside.written z c.with_flag.result) wanted 0
          ≡ taken (exactly wanted) (take (c.self.inside.count + 1) (set c.self.inside.bytes c.self.inside.count c.args.byte))) (sym at)
          (words_more c.self.inside.written old wanted c.args.byte c.with_flag.result (c.self.invariant.1 wanted lt) word (omega arith)
          ∙ ap (taken (exactly wanted)) (sym more)),
      c.with_flag-self-inside.ensures not_slash old c.args.byte count c.self.invariant.2 c.is_in_component.ensures
          ∙ ap (taken not_slash) (sym more),
      c.with_flag-self-inside-2.ensures every_byte old c.args.byte count c.self.invariant.3 c.is_in_name.ensures
          ∙ ap (taken every_byte) (sym more),
    )
