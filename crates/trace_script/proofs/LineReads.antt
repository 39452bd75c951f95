-- A line that is read off the front of a text, and the lines that are left.
use Rattle.std.proofs.Common.{◌≡◌, ◌≢◌, ℕ, ◌-◌, ◌<◌, ◌≤◌, ◌==◌, Bool, true, false, cond, List, [], ◌∷◌, ◌++◌, length, Option, Some, None}
use Rattle.std.proofs.Common.{refl, sym, ap, ◌∙◌, append_assoc, length-append, arith, suc, zero}
use Rattle.std.specs.Prelude.{All, IfSome, nat_eq}
use Rattle.std.specs.List.{ends_with}
use Rattle.std.specs.Io.{StopsAt, appended_bytes}
use Rattle.std.specs.Io.BufRead.{take_through}
use Rattle.std.specs.Io.KnownBytes.{Consumes}
use Rattle.std.proofs.Math.Seq.{take-append_seam, drop-append_seam}
use Rattle.std.proofs.lemmas.List.Elements.{All-append, All-tail}
use Rattle.std.proofs.lemmas.Bool.{ne_eqb, eqb-true}
use Rattle.std.proofs.lemmas.List.{append-nil}
use Rattle.std.specs.declared.io.Error.{Error}
use Rattle.std.specs.Prelude.{Result, Ok, Err}
use Rattle.std.specs.Result.{IsErrAnd}
use Rattle.trace_script.specs.declared.reader.LineRead.{LineRead}
use Rattle.trace_script.specs.declared.stop.Stop.{Stop}
use Rattle.trace_script.specs.declared.stop.Stop.TheVariants.{NoCommand, Input, TooLong, Memory, Output}
use Rattle.trace_script.specs.Engine.{IsStopOfReading, IsPartRead, IsLineRead}
use Rattle.trace_script.specs.Script.{line_feed, lines_of, onto_first_line}

-- what has no line feed is taken whole
through_all : (xs : List ℕ) → All (λ b. b ≢ 10) (take_through 10 xs) → take_through 10 xs ≡ xs
through_all [] free = refl
through_all (x ∷ xs) free = by (through_all xs) (x == 10) refl free
  where
    by : (All (λ b. b ≢ 10) (take_through 10 xs) → take_through 10 xs ≡ xs) → (b : Bool) → (x == 10) ≡ b
        → All (λ b. b ≢ 10) (cond b (x ∷ []) (x ∷ take_through 10 xs)) → cond b (x ∷ []) (x ∷ take_through 10 xs) ≡ x ∷ xs
    by tail true e free = absurd (free 0 0 (omega arith) (eqb-true x 10 e))
    by tail false e free = ap (λ l. x ∷ l) (tail (All-tail (λ b. b ≢ 10) x (take_through 10 xs) free))

-- the last byte of a line
split_end : (line : List ℕ) → 0 < length line → (front : List ℕ) × (byte : ℕ) × (line ≡ front ++ byte ∷ [])
split_end [] some = absurd (omega arith)
split_end (b ∷ []) some = ([], b, refl)
split_end (b ∷ c ∷ line) some =
    let (front, byte, split) = split_end (c ∷ line) (omega arith) in
    (b ∷ front, byte, ap (λ l. b ∷ l) split)

shorter : (front : List ℕ) (byte : ℕ) → length (front ++ byte ∷ []) - 1 ≡ length front
shorter front byte = omega (arith, length-append front (byte ∷ []))

not_fed : (front : List ℕ) (byte : ℕ) → ends_with nat_eq (front ++ byte ∷ []) (line_feed ∷ []) ≡ false → byte ≢ 10
not_fed front byte ends e =
    let last = rw (shorter front byte, drop-append_seam front (byte ∷ []), e) at ends in
    cc

alone : (byte : ℕ) → byte ≢ 10 → All (λ b. b ≢ 10) (byte ∷ [])
alone byte differs zero d h = differs
alone byte differs (suc k) d h = absurd (omega arith)

-- what was read up to the end of the input
up_to_end : (known : Option (List ℕ)) (cleared front : List ℕ) (byte : ℕ) → cleared ≡ [] → byte ≢ 10
    → StopsAt (appended_bytes cleared (front ++ byte ∷ [])) 10 → IfSome known (λ xs. front ++ byte ∷ [] ≡ cleared ++ take_through 10 xs)
    → IfSome known (λ left. left ≡ front ++ byte ∷ []) × All (λ b. b ≢ line_feed) (front ++ byte ∷ [])
up_to_end known cleared front byte none differs stops taken = (left known taken, free)
  where
    before : All (λ b. b ≢ 10) front
    before = rw (none, shorter front byte, take-append_seam) at stops

    free : All (λ b. b ≢ 10) (front ++ byte ∷ [])
    free = All-append (λ b. b ≢ 10) front (byte ∷ []) before (alone byte differs)

    left : (known : Option (List ℕ)) → IfSome known (λ xs. front ++ byte ∷ [] ≡ cleared ++ take_through 10 xs) →
        IfSome known (λ left. left ≡ front ++ byte ∷ [])
    left None h = tt
    left (Some xs) h =
        let taken : front ++ byte ∷ [] ≡ take_through 10 xs = h ∙ ap (λ l. l ++ take_through 10 xs) none in
        sym (through_all xs (rw taken at free)) ∙ sym taken

-- what was taken, where nothing was kept from before
taken_alone : (left after : Option (List ℕ)) (cleared read : List ℕ) → cleared ≡ [] → Consumes left after (appended_bytes cleared read) →
    Consumes left after read
taken_alone left after cleared read none h = rw none at h

-- a line that the end of the input closes
pub last_read : (known after : Option (List ℕ)) (cleared read : List ℕ) → cleared ≡ [] → 0 < length read →
    ends_with nat_eq read (line_feed ∷ []) ≡ false
    → StopsAt (appended_bytes cleared read) 10 → IfSome known (λ xs. read ≡ cleared ++ take_through 10 xs) →
    Consumes known after (appended_bytes cleared read) → IfSome known (λ left. left ≡ read) × All (λ b. b ≢ line_feed) read
    × (0 < length read) × Consumes known after read
last_read known after cleared read none some ends stops taken consumed =
    let (front, byte, split) = split_end read some in
    let closed = up_to_end known cleared front byte none (not_fed front byte (rw split at ends)) (rw split at stops) (rw split at taken) in
    let all = taken_alone known after cleared read none consumed in
    ((rw split closed.0), (rw split closed.1), rw split (omega (arith, length-append front (byte ∷ []))), all)

-- a line, its line feed, and the lines after it
pub whole_line : (line rest : List ℕ) → All (λ b. b ≢ line_feed) line → lines_of ((line ++ line_feed ∷ []) ++ rest) ≡ line ∷ lines_of rest
whole_line [] rest free = refl
whole_line (b ∷ line) rest free =
    let differs : (b == line_feed) ≡ false = ne_eqb b 10 (free 0 0 (omega arith)) in
    let tail = whole_line line rest (All-tail (λ b. b ≢ line_feed) b line free) in
    ap (λ e. cond e ([] ∷ lines_of ((line ++ line_feed ∷ []) ++ rest)) (onto_first_line b (lines_of ((line ++ line_feed ∷ []) ++ rest))))
    differs
    ∙ ap (onto_first_line b) tail

-- a line that the end of the text closes
pub last_line : (line : List ℕ) → All (λ b. b ≢ line_feed) line → 0 < length line → lines_of line ≡ line ∷ []
last_line [] free some = absurd (omega arith)
last_line (b ∷ []) free some =
    let differs : (b == line_feed) ≡ false = ne_eqb b 10 (free 0 0 (omega arith)) in
    ap (λ e. cond e ([] ∷ []) ((b ∷ []) ∷ [])) differs
last_line (b ∷ c ∷ line) free some =
    let differs : (b == line_feed) ≡ false = ne_eqb b 10 (free 0 0 (omega arith)) in
    ap (λ e. cond e ([] ∷ lines_of (c ∷ line)) (onto_first_line b (lines_of (c ∷ line)))) differs
    ∙ ap (onto_first_line b) (last_line (c ∷ line) (All-tail (λ b. b ≢ line_feed) b (c ∷ line) free) (omega arith))

-- one line at most, where a line feed can only be the last byte
part_ended : (front : List ℕ) (byte : ℕ) → All (λ b. b ≢ 10) front → (e : Bool) → (byte == 10) ≡ e →
    length (lines_of (front ++ byte ∷ [])) ≤ 1
part_ended front byte free true e =
    let whole = ap length (whole_line front [] free) in
    let ended : front ++ byte ∷ [] ≡ (front ++ line_feed ∷ []) ++ [] = ap (λ c. front ++ c ∷ []) (eqb-true byte 10 e)
    ∙ sym (append-nil (front ++ line_feed ∷ [])) in
    rw ended (omega (arith, whole))
part_ended front byte free false e =
    let differs : byte ≢ 10 = λ q. let same = rw q at e in cc in
    let last = ap length (last_line (front ++ byte ∷ []) (All-append (λ b. b ≢ 10) front (byte ∷ []) free (alone byte differs))
    (omega (arith, length-append front (byte ∷ [])))) in
    omega (arith, last)

part_at : (read front : List ℕ) (byte : ℕ) → read ≡ front ++ byte ∷ [] → StopsAt read 10 → length (lines_of read) ≤ 1
part_at read front byte split stops =
    let here = rw split at stops in
    rw split (part_ended front byte (rw (shorter front byte, take-append_seam) at here) (byte == 10) refl)

pub part_of_line : (read : List ℕ) → StopsAt read 10 → length (lines_of read) ≤ 1
part_of_line [] stops = omega arith
part_of_line (b ∷ bytes) stops = let (front, byte, split) = split_end (b ∷ bytes) (omega arith) in
    part_at (b ∷ bytes) front byte split stops

-- what was taken at a failure
pub part_read : (left after : Option (List ℕ)) (cleared read : List ℕ) → cleared ≡ [] → StopsAt (appended_bytes cleared read) 10 →
    Consumes left after (appended_bytes cleared read)
    → Consumes left after read × (length (lines_of read) ≤ 1)
part_read left after cleared read none stops consumed =
    (taken_alone left after cleared read none consumed, part_of_line read (rw none at stops))

-- a failure to read, by the stop that reports it
pub stopped_reading : (left after : Option (List ℕ)) (line : List ℕ) (error : Error) (result : Result LineRead Stop) →
    IsErrAnd result (IsStopOfReading error) → IsPartRead left after line
    → IsLineRead left after line result
stopped_reading left after line error (Ok read) is part = absurd is
stopped_reading left after line error (Err (NoCommand number)) is part = absurd is
stopped_reading left after line error (Err Input) is part = part
stopped_reading left after line error (Err TooLong) is part = absurd is
stopped_reading left after line error (Err Memory) is part = part
stopped_reading left after line error (Err Output) is part = absurd is

-- what was consumed part after part
pub Consumes-more : (a b c : Option (List ℕ)) (front part : List ℕ) → Consumes a b front → Consumes b c part → Consumes a c (front ++ part)
Consumes-more None b c front part p q = tt
Consumes-more (Some x) None c front part p q = absurd p
Consumes-more (Some x) (Some y) None front part p q = absurd q
Consumes-more (Some x) (Some y) (Some z) front part p q = p ∙ ap (λ l. front ++ l) q ∙ sym (append_assoc front part z)
