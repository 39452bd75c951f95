-- The first line of some bytes, and the last.
use Rattle.std.proofs.Common.{◌≡◌, ℕ, ◌-◌, ◌<◌, ◌≤◌, true, false, List, length, get_or, take, drop, sym, ap, ◌∙◌, arith}
use Rattle.std.specs.Prelude.{not}
use Rattle.std.specs.List.{after_last, before_first, position_or_len, suffix_len}
use Rattle.std.proofs.lemmas.List.{take_rest}
use Rattle.std.proofs.lemmas.List.Sums.{position_or_len_is, suffix_len_is}
use Rattle.rule_explain.specs.Places.{is_line_feed}

pub first_is : (bytes : List ℕ) (n : ℕ) → n ≤ length bytes → ((k : ℕ) → k < n → is_line_feed (get_or bytes k 0) ≡ false) →
    (n < length bytes → is_line_feed (get_or bytes n 0) ≡ true)
    → take n bytes ≡ before_first is_line_feed bytes
first_is bytes n within before here =
    let e : position_or_len is_line_feed bytes ≡ n = position_or_len_is is_line_feed bytes n 0 within before here in
    ap (λ i. take i bytes) (sym e)

pub last_is : (bytes : List ℕ) (n : ℕ) → n ≤ length bytes → ((k : ℕ) → n ≤ k → k < length bytes → not (is_line_feed (get_or bytes k 0))
    ≡ true) → (0 < n → not (is_line_feed (get_or bytes (n - 1) 0)) ≡ false)
    → take (length bytes - n) (drop n bytes) ≡ after_last is_line_feed bytes
last_is bytes n within behind here =
    let e : suffix_len (λ b. not (is_line_feed b)) bytes ≡ length bytes - n = suffix_len_is (λ b. not (is_line_feed b)) bytes
    n 0 within behind here in
    let k : n ≡ length bytes - suffix_len (λ b. not (is_line_feed b)) bytes = omega (arith, e, within) in
    take_rest bytes n ∙ ap (λ i. drop i bytes) k
