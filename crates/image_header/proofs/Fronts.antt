-- What an image has of its header, and what it has of the bytes that follow it.
use Rattle.std.proofs.Common.{◌≡◌, ◌≢◌, ℕ, ◌+◌, ◌≤◌, List, ◌++◌, length, take, drop, refl, sym, ap, ◌∙◌, subst, ⊎_elim}
use Rattle.std.proofs.Common.{◌-◌, arith, append_assoc, length-append, length-drop, length-take, take-append-drop}
use Rattle.std.specs.Prelude.{codes}
use Rattle.std.proofs.Math.ListN.{replicate}
use Rattle.std.proofs.lemmas.List.{drop-append-le, length-replicate, take-append-le}
use Rattle.byteorder.specs.Endian.{little_number}
use Rattle.byteorder.specs.Numbers.{little_from-take}
use Rattle.image_header.specs.Headers.{IsFaultOfAll, IsLengthOfAll, longest_image}
use Rattle.tables.specs.Bounds.{InLimits, fault_number}
use Rattle.tables.specs.Images.{HasImageFault, HasVersion, IsFirstImageFault, IsWhole, short_at, told_length}
use Rattle.tables.specs.Images.{version_number, word_at}
use Rattle.tables.specs.declared.fault.ImageFault.{ImageFault}
use Rattle.tables.specs.declared.fault.ImageFault.TheVariants as fault
use Rattle.tables.specs.declared.header.Version.{Version}
use Rattle.tables.specs.declared.header.Version.TheVariants.{First, Second}
use Rattle.tables.specs.laws.Decisions.{decided_equal, decided_limits, decided_list}

-- a number in the first bytes
number_same : (n i : ℕ) (xs ys : List ℕ) → i + n ≤ length xs → little_number n (drop i (xs ++ ys)) ≡ little_number n (drop i xs)
number_same n i xs ys h =
    let low : i ≤ length xs = omega arith in
    let left : n ≤ length (drop i xs) = omega (arith, length-drop {A = ℕ}) in
    ap (little_number n) (drop-append-le i xs ys low) ∙ sym (little_from-take 0 n n (drop i xs ++ ys) (omega arith))
    ∙ ap (little_number n) (take-append-le n (drop i xs) ys left) ∙ little_from-take 0 n n (drop i xs) (omega arith)

module _ (header more : List ℕ) (long : length header ≡ 20) where
  magic_same : take 4 (header ++ more) ≡ take 4 header
  magic_same = take-append-le 4 header more (omega arith)

  short_same : (i : ℕ) → i + 2 ≤ 20 → short_at (header ++ more) i ≡ short_at header i
  short_same i h = number_same 2 i header more (omega arith)

  word_same : (i : ℕ) → i + 4 ≤ 20 → word_at (header ++ more) i ≡ word_at header i
  word_same i h = number_same 4 i header more (omega arith)

  long_still : 20 ≤ length (header ++ more)
  long_still = omega (arith, length-append header more)

  told_same : (v : Version) → told_length v (header ++ more) ≡ told_length v header
  told_same v = rw (word_same 8 (omega arith), word_same 12 (omega arith), word_same 16 (omega arith)) refl

  version_there : (v : Version) → HasVersion header v → HasVersion (header ++ more) v
  version_there v is = short_same 4 (omega arith) ∙ is

  version_here : (v : Version) → HasVersion (header ++ more) v → HasVersion header v
  version_here v is = sym (short_same 4 (omega arith)) ∙ is

  -- the header has the fault that the image has
  front_fault : (k : ℕ) → ((g : ImageFault) → HasImageFault header g → k ≤ fault_number g) → k ≤ 6 → (g : ImageFault)
      → HasImageFault (header ++ more) g → k ≤ fault_number g
  front_fault k first low fault.Short h = let far = long_still in omega (arith, far, h)
  front_fault k first low fault.Magic h = first fault.Magic (λ e. h (magic_same ∙ e))
  front_fault k first low fault.Version h = first fault.Version (λ v is. h v (version_there v is))
  front_fault k first low fault.Reserved h =
      first fault.Reserved (version_here First h.0, λ e. h.1 (short_same 6 (omega arith) ∙ e))
  front_fault k first low fault.Counts h = first fault.Counts (λ e. h (limits_still e))
    where
      limits_still : InLimits (word_at header 8) (word_at header 12) (word_at header 16)
          → InLimits (word_at (header ++ more) 8) (word_at (header ++ more) 12) (word_at (header ++ more) 16)
      limits_still e = rw (word_same 8 (omega arith), word_same 12 (omega arith), word_same 16 (omega arith)) e
  front_fault k first low fault.Length h = low
  front_fault k first low (fault.Default s) h = absurd h
  front_fault k first low (fault.Base s) h = absurd h
  front_fault k first low (fault.Accept s) h = absurd h
  front_fault k first low (fault.Next c) h = absurd h
  front_fault k first low fault.NoMemory h = absurd h
  front_fault k first low (fault.Depth s) h = absurd h

  -- a fault of the header but its length is a fault of the image
  has_fault : (f : ImageFault) → HasImageFault header f → f ≢ fault.Length → HasImageFault (header ++ more) f × (fault_number f ≤ 6)
  has_fault fault.Short h other = absurd (omega (arith, h))
  has_fault fault.Magic h other = (λ e. h (sym magic_same ∙ e), omega arith)
  has_fault fault.Version h other = (λ v is. h v (version_here v is), omega arith)
  has_fault fault.Reserved h other =
      ((version_there First h.0, λ e. h.1 (sym (short_same 6 (omega arith)) ∙ e)), omega arith)
  has_fault fault.Counts h other = (λ e. h (limits_there e), omega arith)
    where
      limits_there : InLimits (word_at (header ++ more) 8) (word_at (header ++ more) 12) (word_at (header ++ more) 16)
          → InLimits (word_at header 8) (word_at header 12) (word_at header 16)
      limits_there e = rw (word_same 8 (omega arith), word_same 12 (omega arith), word_same 16 (omega arith)) at e
  has_fault fault.Length h other = absurd (other refl)
  has_fault (fault.Default s) h other = absurd h
  has_fault (fault.Base s) h other = absurd h
  has_fault (fault.Accept s) h other = absurd h
  has_fault (fault.Next c) h other = absurd h
  has_fault fault.NoMemory h other = absurd h
  has_fault (fault.Depth s) h other = absurd h

  fault_still : (f : ImageFault) → IsFirstImageFault header f → f ≢ fault.Length → IsFirstImageFault (header ++ more) f
  fault_still f first other =
      let there = has_fault f first.has other in
      record { has = there.0; first = front_fault (fault_number f) first.first there.1 }

  -- of a header with no other fault, images have no other fault either
  module _ (v : Version) (version : HasVersion header v) (first : IsFirstImageFault header fault.Length) where
    length_still : length (header ++ more) ≢ told_length v header → IsFirstImageFault (header ++ more) fault.Length
    length_still other = record {
      has = (v, version_there v version, λ e. other (e ∙ told_same v));
      first = front_fault 6 first.first (omega arith);
    }

    whole_still : length (header ++ more) ≡ told_length v header → IsWhole (header ++ more)
    whole_still same =
        let none : (g : ImageFault) → HasImageFault (header ++ more) g → 6 ≤ fault_number g = front_fault 6 first.first (omega arith) in (
          v,
          record {
            header = long_still;
            magic = ⊎_elim (λ yes. yes) (λ no. let far = none fault.Magic no in absurd (omega (arith, far)))
                (decided_list (take 4 (header ++ more)) (codes "PTAB"));
            version = version_there v version;
            reserved = λ is. ⊎_elim (λ yes. yes)
                (λ no. let far = none fault.Reserved (subst (HasVersion (header ++ more)) is (version_there v version), no) in
                absurd (omega (arith, far)))
                (decided_equal (short_at (header ++ more) 6) 0);
            limits = ⊎_elim (λ yes. yes) (λ no. let far = none fault.Counts no in absurd (omega (arith, far)))
                (decided_limits (word_at (header ++ more) 8) (word_at (header ++ more) 12) (word_at (header ++ more) 16));
            whole = same ∙ sym (told_same v);
          },
        )

-- the limits bound the length
most_by_limits : (v : Version) (bytes : List ℕ) → InLimits (word_at bytes 8) (word_at bytes 12) (word_at bytes 16) →
    told_length v bytes ≤ longest_image
most_by_limits First bytes limits =
    let states = limits.states_fit in
    let cells = limits.cells_fit in
    let records = limits.records_fit in
    omega (arith, states, cells, records)
most_by_limits Second bytes limits =
    let states = limits.states_fit in
    let cells = limits.cells_fit in
    let records = limits.records_fit in
    omega (arith, states, cells, records)

most_length : (v : Version) (header : List ℕ) → IsFirstImageFault header fault.Length → told_length v header ≤ longest_image
most_length v header first = ⊎_elim
    (λ limits. most_by_limits v header limits)
    (λ no. let far = first.first fault.Counts no in absurd (omega (arith, far)))
    (decided_limits (word_at header 8) (word_at header 12) (word_at header 16))

module _ (front : List ℕ) (long : 20 ≤ length front) where
  header_long : length (take 20 front) ≡ 20
  header_long = omega (arith, length-take {A = ℕ})

  -- what follows the header, and then what follows the front
  split : (more : List ℕ) → take 20 front ++ (drop 20 front ++ more) ≡ front ++ more
  split more = sym (append_assoc (take 20 front) (drop 20 front) more) ∙ ap (λ l. l ++ more) (take-append-drop 20 front)

  pub fault_of_front : (f : ImageFault) → IsFirstImageFault (take 20 front) f → f ≢ fault.Length → IsFaultOfAll front f
  fault_of_front f first other more = subst (λ l. IsFirstImageFault l f) (split more)
      (fault_still (take 20 front) (drop 20 front ++ more) header_long f first other)

  pub length_of_front : (v : Version) (n : ℕ) → HasVersion (take 20 front) v → IsFirstImageFault (take 20 front) fault.Length →
      n ≡ told_length v (take 20 front) → IsLengthOfAll front n
  length_of_front v n version first is =
      let whole : take 20 front ++ drop 20 front ≡ front = take-append-drop 20 front in
      record {
        is = (
          v,
          subst (λ l. HasVersion l v) whole (version_there (take 20 front) (drop 20 front) header_long v version),
          is ∙ sym (told_same (take 20 front) (drop 20 front) header_long v) ∙ ap (told_length v) whole,
        );
        most = rw is (most_length v (take 20 front) first);
        same = λ more e. subst IsWhole (split more)
            (whole_still (take 20 front) (drop 20 front ++ more) header_long v version first (ap length (split more) ∙ e ∙ is));
        other = λ more no. subst (λ l. IsFirstImageFault l fault.Length) (split more)
            (length_still (take 20 front) (drop 20 front ++ more) header_long v version first
            (λ e. no (sym (ap length (split more)) ∙ e ∙ sym is)));
      }

-- a header has one version
one_version : (v w : Version) → version_number v ≡ version_number w → v ≡ w
one_version First First e = refl
one_version First Second e = absurd (omega (arith, e))
one_version Second First e = absurd (omega (arith, e))
one_version Second Second e = refl

pub one_told_length : (bytes : List ℕ) (v w : Version) → HasVersion bytes v → HasVersion bytes w →
    told_length v bytes ≡ told_length w bytes
one_told_length bytes v w is_v is_w = ap (λ u. told_length u bytes) (one_version v w (sym is_v ∙ is_w))

-- bytes without a fault have none
pub whole_has_none : (bytes : List ℕ) (f : ImageFault) → IsWhole bytes → ¬ (HasImageFault bytes f)
whole_has_none bytes fault.Short whole h = let long = whole.1.header in omega (arith, long, h)
whole_has_none bytes fault.Magic whole h = h whole.1.magic
whole_has_none bytes fault.Version whole h = h whole.0 whole.1.version
whole_has_none bytes fault.Reserved whole h =
    h.1 (whole.1.reserved (one_version whole.0 First (sym whole.1.version ∙ h.0)))
whole_has_none bytes fault.Counts whole h = h whole.1.limits
whole_has_none bytes fault.Length whole h =
    h.2 (whole.1.whole ∙ one_told_length bytes whole.0 h.0 whole.1.version h.1)
whole_has_none bytes (fault.Default s) whole h = h
whole_has_none bytes (fault.Base s) whole h = h
whole_has_none bytes (fault.Accept s) whole h = h
whole_has_none bytes (fault.Next c) whole h = h
whole_has_none bytes fault.NoMemory whole h = h
whole_has_none bytes (fault.Depth s) whole h = h

-- bytes can be made as long as their header says
pub fault_or_length : (front : List ℕ) (n : ℕ) (f : ImageFault) → length front ≤ n → IsLengthOfAll front n → ¬ (IsFaultOfAll front f)
fault_or_length front n f short of all =
    let more : List ℕ = replicate (n - length front) 0 in
    let e : length (front ++ more) ≡ n = omega (arith, length-append front more, length-replicate {A = ℕ}) in
    whole_has_none (front ++ more) f (of.same more e) (all more).has
