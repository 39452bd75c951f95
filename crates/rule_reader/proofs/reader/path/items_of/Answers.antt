use Rattle.std.proofs.Common.{ℕ, ◌∷◌, [], ◌+◌, length, ap, ◌∙◌, arith}
use Rattle.std.proofs.lemmas.List.{length-append}
use Rattle.std.proofs.lemmas.Result.{err_from_is_err_and}
use Rattle.rule_reader.specs.inner.PartialPaths.{tokens_in, braces_in, token_value}
use Rattle.rule_reader.proofs.ReadLoops.{front_done, front_fails, tokens_none, tokens_full, tokens_fault, tokens_step, tokens_end}
use Rattle.rule_reader.proofs.ReadCodePaths.{stands_in}
use Rattle.rule_reader.proofs.reader.path.items_of.Goals as goal

pub returns-in_err-goes_on-clause-gives : goal.returns-in_err-goes_on-clause-gives
returns-in_err-goes_on-clause-gives c =
    let p = err_from_is_err_and c.from_residual.result c.from_residual.ensures.1 in
    rw (p.1, p.2) (front_fails c.in_err-goes_on.field-0.0 (tokens_in c.loop-builder.builder) _ _ c.loop-builder.invariant.so_far
    (tokens_none c.in_err-goes_on.field-0.0 c.args.quoted _ (braces_in c.loop-builder.builder) c.loop-builder.after_slash
    c.loop-builder.rest.now (rw c.depth.ensures at c.in_err-goes_on.ensures)))

pub returns-then-count-eq-MOST_ITEMS-clause-gives : goal.returns-then-count-eq-MOST_ITEMS-clause-gives
returns-then-count-eq-MOST_ITEMS-clause-gives c =
    let more = rw (c.depth.ensures, c.if-branch.true) at c.in_ok-goes_on.ensures in
    front_fails c.fault_here.result (tokens_in c.loop-builder.builder) _ _ c.loop-builder.invariant.so_far
    (rw c.fault_here.ensures (tokens_full c.args.quoted c.loop-builder.count (braces_in c.loop-builder.builder) c.loop-builder.after_slash
    c.loop-builder.rest.now (omega arith) more))

pub returns-in_err-lexeme-clause-gives : goal.returns-in_err-lexeme-clause-gives
returns-in_err-lexeme-clause-gives c =
    let more = rw (c.depth.ensures, c.if-branch.true) at c.in_ok-goes_on.ensures in
    let p = err_from_is_err_and c.from_residual-in_err-lexeme.result c.from_residual-in_err-lexeme.ensures.1 in
    rw (p.1, p.2) (front_fails c.in_err-lexeme.field-0.0 (tokens_in c.loop-builder.builder) _ _ c.loop-builder.invariant.so_far
    (tokens_fault c.in_err-lexeme.field-0.0 c.args.quoted c.loop-builder.count (braces_in c.loop-builder.builder)
    c.loop-builder.after_slash c.loop-builder.rest.now (omega arith) more (rw c.depth-in-loop-builder.ensures at c.in_err-lexeme.ensures)))

pub loop-builder-preserved : goal.loop-builder-preserved
loop-builder-preserved c =
    let front = tokens_in c.loop-builder.builder in
    let braces = braces_in c.loop-builder.builder in
    let t = token_value c.in_ok-lexeme.lexeme in
    let more = rw (c.depth.ensures, c.if-branch.true) at c.in_ok-goes_on.ensures in
    let one = rw c.depth-in-loop-builder.ensures at c.in_ok-lexeme.ensures in
    let added = c.in_ok-add.ensures.tokens (stands_in c.args.quoted braces c.loop-builder.after_slash c.loop-builder.rest.now
    c.in_ok-lexeme.more.now t more one) in
    let step = tokens_step c.args.quoted front c.loop-builder.count braces c.loop-builder.after_slash c.loop-builder.rest.now t
    c.in_ok-lexeme.more.now _ (omega arith) more one c.loop-builder.invariant.so_far in
    record {
      few = omega arith;
      counted = ap length added ∙ length-append front (t ∷ []) ∙ ap (λ (n : ℕ). n + 1) c.loop-builder.invariant.counted;
      so_far = rw (added, c.in_ok-add.ensures.braces, c.is_plain_slash-after_slash.ensures) step;
    }

pub returns-in_err-items-clause-gives : goal.returns-in_err-items-clause-gives
returns-in_err-items-clause-gives c =
    let over = rw (c.depth.ensures, c.if-branch.false) at c.in_ok-goes_on.ensures in
    let p = err_from_is_err_and c.from_residual-in_err-items.result c.from_residual-in_err-items.ensures.1 in
    rw (p.1, p.2) (front_fails c.in_err-items.field-0.0 (tokens_in c.loop-builder.builder) _ _ c.loop-builder.invariant.so_far
    (rw (tokens_end c.args.quoted _ (braces_in c.loop-builder.builder) c.loop-builder.after_slash c.loop-builder.rest.now over)
    c.in_err-items.ensures.closed))

pub returns-clause-gives : goal.returns-clause-gives
returns-clause-gives c =
    let over = rw (c.depth.ensures, c.if-branch.false) at c.in_ok-goes_on.ensures in
    rw c.in_ok-items.ensures.tokens (front_done (tokens_in c.loop-builder.builder) _ _ c.loop-builder.rest.now
    c.loop-builder.invariant.so_far (tokens_end c.args.quoted _ (braces_in c.loop-builder.builder) c.loop-builder.after_slash
    c.loop-builder.rest.now over ∙ c.in_ok-items.ensures.closed))
