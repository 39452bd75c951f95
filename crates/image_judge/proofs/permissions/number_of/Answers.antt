-- The sum so far is no more than that of all permissions, which is small.
use Rattle.std.proofs.Common.{◌+◌, ◌^◌, ◌<◌, take, take_all, sym, ap, ◌∙◌, arith}
use Rattle.std.specs.List.{sum_by}
use Rattle.std.proofs.lemmas.List.Sums.{sum_by_more}
use Rattle.names.specs.Permissions.{all_permissions, permission_count}
use Rattle.image_judge.specs.Sets.{number_in}
use Rattle.image_judge.proofs.Sums.{sum_so_far_low}
use Rattle.image_judge.proofs.permissions.number_of.Goals as goal

pub overflow_add-number : goal.overflow_add-number
overflow_add-number c =
    let low : c.loop-permission.number + c.number_in-number.result < 2 ^ permission_count =
    sum_so_far_low c.args.perms c.loop-permission.permission-index _ _ _ c.loop-permission-test.true c.loop-permission.invariant
    c.number_in-number.ensures in
    omega (arith, low)

pub loop-permission-preserved : goal.loop-permission-preserved
loop-permission-preserved c =
    let s = c.args.perms in
    let i = c.loop-permission.permission-index in
    ap (λ n. n + c.number_in-number.result) c.loop-permission.invariant
    ∙ ap (λ n. sum_by (number_in s) (take i all_permissions) + n) c.number_in-number.ensures
    ∙ sym (sum_by_more (number_in s) all_permissions i _ c.loop-permission-test.true)

pub returns : goal.returns
returns c = c.loop-permission.invariant ∙ ap (sum_by (number_in c.args.perms))
    (take_all c.loop-permission.permission-index all_permissions c.loop-permission-test.false)
