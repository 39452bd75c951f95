use Rattle.std.proofs.Common.{◌≡◌, ◌-◌, ℕ, List, ◌++◌, Bor, length, take, drop, ap}
use Rattle.trace_report.specs.laws.Fronts.{front_moved, Appends-more, Appends-kept}
use Rattle.trace_report.proofs.reports.write_through.Goals as goal
use Rattle.trace_report.proofs.reports.write_through.Goals.{in-Ok, in-Err+else-ne}

pub loop-preserved : goal.loop-preserved
loop-preserved g c =
    let (front, split, appended) = c.loop.invariant in
    let left : List ℕ = c.loop.left.now in
    elim c.match-write.branch [
      | in-Ok w ↦
          let n : ℕ = w.in-Ok.count in
          let rest : c.match-write.left.now ≡ take (length left - n) (drop n left) = ap (λ (r : Bor (List ℕ)). r.now) w.left-is in
          (front ++ take n left, front_moved _ front left _ n split rest, Appends-more _ _ _ front _ appended w.in-Ok.ensures.bytes)
      | in-Err+else-ne w ↦
          let same : c.match-write.left.now ≡ left = ap (λ (r : Bor (List ℕ)). r.now) w.left-is in
          (front, rw same split, Appends-kept _ _ _ front appended w.in-Err.ensures.bytes)
    ]
