-- Sums of permissions' numbers, and the sets that they stand for.
use Rattle.std.proofs.Common.{◌≡◌, ◌≢◌, ℕ, zero, suc, ◌+◌, ◌*◌, ◌/◌, ◌%◌, ◌^◌, ◌<◌, ◌≤◌, ◌==◌, nat_lt, Bool, true, false, List, [], ◌∷◌}
use Rattle.std.proofs.Common.{Some, get_or, length, map, take, if◌then◌else◌, refl, sym, ap, ◌∙◌, arith}
use Rattle.std.specs.List.{sum_by}
use Rattle.std.proofs.Math.Nat.{div-div-eq-div-mul, mul_assoc, mul-add, mul-one, mul-zero, pow-suc, pow-succ', zero-div}
use Rattle.std.proofs.lemmas.Bool.{lt-ltb, ne_eqb}
use Rattle.std.proofs.lemmas.List.{get_or-map}
use Rattle.std.proofs.lemmas.List.Sums.{sum_by-cons, sum_by-le, sum_by_more_le}
use Rattle.names.specs.declared.permissions.Permission.{Permission}
use Rattle.names.specs.declared.permissions.Perms.{Perms}
use Rattle.names.specs.Permissions.{all_permissions, has, index, permission_count, set_of}
use Rattle.names.specs.Grounds.{HasNone}
use Rattle.names.specs.laws.PermissionSets.{has-set_of, same_perms}
use Rattle.names.specs.laws.Positions.{place_below, place_is, stands_there}
use Rattle.image_judge.specs.Sets.{number_in, number_of, set_of_number}

-- a number in its limits stands for the set of the permissions whose numbers are in it
pub set_there : (n : ℕ) → n ≢ 0 → n < 2 ^ permission_count → set_of_number n ≡ Some (set_of (λ p. n / 2 ^ index p % 2 == 1))
set_there n some low =
    let not_none : (n == 0) ≡ false = ne_eqb n 0 some in
    let below : nat_lt n (2 ^ permission_count) ≡ true = lt-ltb n (2 ^ permission_count) low in
    rw (not_none, below) refl

abbrev digit : Bool → ℕ
digit b = if b then 1 else 0

-- the number with these digits, the lowest first
abbrev number_by : List Bool → ℕ
number_by [] = 0
number_by (b ∷ bits) = digit b + 2 * number_by bits

digit_low : (b : Bool) → digit b ≤ 1
digit_low true = omega arith
digit_low false = omega arith

is_digit : (b : Bool) (n : ℕ) → n ≡ digit b → (n == 1) ≡ b
is_digit true n e = ap (λ k. k == 1) e
is_digit false n e = ap (λ k. k == 1) e

number_low : (bits : List Bool) → number_by bits < 2 ^ length bits
number_low [] = omega arith
number_low (b ∷ bits) = omega (arith, number_low bits, digit_low b, pow-succ' 2 (length bits))

digit_at : (bits : List Bool) (k : ℕ) (d : Bool) → k < length bits → number_by bits / 2 ^ k % 2 ≡ digit (get_or bits k d)
digit_at [] k d lt = absurd (omega (arith, lt))
digit_at (b ∷ bits) zero d lt = omega (arith, digit_low b)
digit_at (b ∷ bits) (suc k) d lt =
    let n : ℕ = number_by bits in
    let half : (digit b + 2 * n) / 2 ≡ n = omega (arith, digit_low b) in
    ap (λ m. (digit b + 2 * n) / m % 2) (pow-succ' 2 k)
    ∙ ap (λ m. m % 2) (sym (div-div-eq-div-mul (digit b + 2 * n) 2 (2 ^ k)))
    ∙ ap (λ m. m / 2 ^ k % 2) half
    ∙ digit_at bits k d (omega (arith, lt))

scaled : (b : Bool) (k n : ℕ) → (if b then 2 ^ k else 0) + 2 ^ suc k * n ≡ 2 ^ k * (digit b + 2 * n)
scaled b k n =
    let power : 2 ^ suc k ≡ 2 ^ k * 2 = pow-suc 2 k in
    let moved : 2 ^ suc k * n ≡ 2 ^ k * (2 * n) = ap (λ m. m * n) power ∙ mul_assoc (2 ^ k) 2 n in
    let first : (if b then 2 ^ k else 0) ≡ 2 ^ k * digit b = by b in
    ap (λ m. m + 2 ^ suc k * n) first ∙ ap (λ m. 2 ^ k * digit b + m) moved ∙ sym (mul-add (2 ^ k) (digit b) (2 * n))
  where
    by : (b : Bool) → (if b then 2 ^ k else 0) ≡ 2 ^ k * digit b
    by true = sym (mul-one (2 ^ k))
    by false = sym (mul-zero (2 ^ k))

module _ (s : Perms) where
  -- permissions whose places follow one another
  summed : (ps : List Permission) (first : ℕ) → ((k : ℕ) (d : Permission) → k < length ps → index (get_or ps k d) ≡ first + k) →
      sum_by (number_in s) ps ≡ 2 ^ first * number_by (map (has s) ps)
  summed [] first at = sym (mul-zero (2 ^ first))
  summed (p ∷ ps) first at =
      let rest : sum_by (number_in s) ps ≡ 2 ^ suc first * number_by (map (has s) ps) =
      summed ps (suc first) (λ k d lt. at (suc k) d (omega (arith, lt)) ∙ omega arith) in
      let here : index p ≡ first = at 0 p (omega arith) ∙ omega arith in
      sum_by-cons (number_in s) p ps
      ∙ ap (λ n. number_in s p + n) rest
      ∙ ap (λ k. (if has s p then 2 ^ k else 0) + 2 ^ suc first * number_by (map (has s) ps)) here
      ∙ scaled (has s p) first (number_by (map (has s) ps))

  by_digits : number_of s ≡ number_by (map (has s) all_permissions)
  by_digits = summed all_permissions 0 (λ k d lt. place_is k d lt ∙ omega arith) ∙ omega arith

  pub sum_low : number_of s < 2 ^ permission_count
  sum_low = omega (arith, by_digits, number_low (map (has s) all_permissions))

  -- the numbers of the permissions before a place, and of the one there
  pub sum_so_far_low : (i : ℕ) (d : Permission) (n m : ℕ) → i < permission_count → n ≡ sum_by (number_in s) (take i all_permissions) →
      m ≡ number_in s (get_or all_permissions i d) → n + m < 2 ^ permission_count
  sum_so_far_low i d n m lt front here = omega (arith, front, here, sum_by_more_le (number_in s) all_permissions i d lt, sum_low)

  there : (p : Permission) → (number_of s / 2 ^ index p % 2 == 1) ≡ has s p
  there p = is_digit (has s p) (number_of s / 2 ^ index p % 2)
      (ap (λ n. n / 2 ^ index p % 2) by_digits
      ∙ digit_at (map (has s) all_permissions) (index p) (has s p) (place_below p)
      ∙ ap digit (get_or-map (has s) all_permissions (index p) p (has s p) (place_below p) ∙ ap (has s) (stands_there p p)))

  pub sums_are_sets : number_of s ≢ 0 → set_of_number (number_of s) ≡ Some s
  sums_are_sets some = set_there (number_of s) some sum_low ∙ ap Some (same_perms _ s (λ p.
      has-set_of (λ q. number_of s / 2 ^ index q % 2 == 1) p ∙ there p))

  -- a set whose number is 0 has nothing
  pub none_of_zero : number_of s ≡ 0 → HasNone s
  none_of_zero is p = sym (there p) ∙ ap (λ n. n / 2 ^ index p % 2 == 1) is ∙ zero_has_none
    where
      zero_has_none : (0 / 2 ^ index p % 2 == 1) ≡ false
      zero_has_none = ap (λ n. n % 2 == 1) (zero-div (2 ^ index p))

  -- and one that has nothing has the number 0
  pub zero_of_none : HasNone s → number_of s ≡ 0
  zero_of_none none =
      let most = sum_by-le (number_in s) 0 all_permissions (λ k d lt.
      let p = get_or all_permissions k d in
      omega (arith, ap (λ (b : Bool). if b then 2 ^ index p else 0) (none p))) in
      omega (arith, most)
