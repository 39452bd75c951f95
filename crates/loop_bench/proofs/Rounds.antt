-- How many steps rounds take.
use Rattle.std.proofs.Common.{ℕ, ◌+◌, ◌*◌, ◌^◌, ◌<◌, ◌≤◌, List, length, arith}
use Rattle.std.proofs.Math.Nat.{mul-div-le}
use Rattle.std.proofs.lemmas.Nat.{mul-le}
use Rattle.loop_bench.specs.Walks.{steps_of_round}

-- a round takes no more steps than there are bytes
pub few : (names states : List ℕ) → steps_of_round names states ≤ length names
few names states = mul-div-le (length names) (length states)

-- where a count has room for all rounds, it has room for one more than are done
pub room : (done rounds bytes taken : ℕ) → done < rounds → taken ≤ bytes → rounds * bytes < 2 ^ 64 → done * taken + bytes < 2 ^ 64
room done rounds bytes taken more below fits =
    let all : (done + 1) * bytes ≤ rounds * bytes = mul-le (done + 1) bytes rounds bytes (omega arith) (omega arith) in
    let so_far : done * taken ≤ done * bytes = mul-le done taken done bytes (omega arith) below in
    omega (arith, all, so_far, fits)
