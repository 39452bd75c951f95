-- The first line of some bytes.
use Rattle.std.proofs.Common.{◌≡◌, ℕ, ◌<◌, ◌≤◌, true, false, List, length, get_or, take, sym, ap}
use Rattle.std.specs.List.{before_first, position_or_len}
use Rattle.std.proofs.lemmas.List.Sums.{position_or_len_is}
use Rattle.rule_explain.specs.Places.{is_line_feed}

pub first_is : (bytes : List ℕ) (n : ℕ) → n ≤ length bytes → ((k : ℕ) → k < n → is_line_feed (get_or bytes k 0) ≡ false) →
    (n < length bytes → is_line_feed (get_or bytes n 0) ≡ true)
    → take n bytes ≡ before_first is_line_feed bytes
first_is bytes n within before here =
    let e : position_or_len is_line_feed bytes ≡ n = position_or_len_is is_line_feed bytes n 0 within before here in
    ap (λ i. take i bytes) (sym e)
