-- Reading the members of a class (apparmor.d(5), "Globbing"), from left to right.
use Rattle.std.specs.Prelude.{ℕ, suc, List, [], ◌∷◌, ◌++◌, length, Result, Ok, Option, Some, None, Bool, true, false, not, ◌&&◌, ◌||◌}
use Rattle.std.specs.Prelude.{◌==◌, if◌then◌else◌, nat_lt, drop}
use Rattle.std.specs.Char.{is_ascii_alphanumeric}
use Rattle.names.specs.Ascii as ascii
use Rattle.rule_globs.specs.declared.items.ByteRange.{ByteRange}
use Rattle.rule_globs.specs.Glob.{range, single}
use Rattle.rule_reader.specs.declared.reader.class.ClassByte.{ClassByte}
use Rattle.rule_reader.specs.declared.reader.class.ClassByte.TheVariants.{Member, End, PathEnd, Backslash, Code, Wrong}
use Rattle.rule_reader.specs.declared.reader.class.Pending.{Pending}
use Rattle.rule_reader.specs.declared.reader.class.Pending.TheVariants.{Start, AfterRange, AfterDash, Single, Dash, Dashes}
use Rattle.rule_reader.specs.declared.reader.local_fault.FaultKind.TheVariants as kinds
use Rattle.rule_reader.specs.declared.reader.local_fault.LocalFault.{LocalFault}
use Rattle.rule_reader.specs.ReadSteps.{◌>>=◌, fault_with_left, syntax}
use Rattle.rule_reader.specs.TextBytes.{begins, is_white, is_quote}

-- What a byte is in a class: in a quoted path or a bare one, and directly after a backslash or not.
abbrev pub class_byte : Bool → Bool → ℕ → ClassByte
class_byte quoted escaped b =
    if b == 0 || (b == ascii.line_feed && (quoted || escaped)) then Wrong
    else if escaped then (if is_ascii_alphanumeric b then Code else Member)
    else if b == ascii.close_bracket then End
    else if is_quote b || (not quoted && is_white b) then PathEnd
    else if b == ascii.backslash then Backslash
    else Member

-- A member where a dash can only stand for itself: at the class's start and directly after a range.
abbrev pub alone : Bool → ℕ → List ByteRange × Pending
alone dash b = if dash then (single ascii.dash ∷ [], AfterDash) else ([], Single b)

-- One more member byte, either a dash that is not after a backslash or any other byte: the ranges that it completes, and what is
-- pending then. None where a range is reversed. A dash is the end of a range only where the class goes on after it.
abbrev pub with_member : Pending → Bool → ℕ → Option (List ByteRange × Pending)
with_member Start dash b = Some (alone dash b)
with_member AfterRange dash b = Some (alone dash b)
with_member AfterDash dash b = Some ([], Single b)
with_member (Single d) dash b = Some (if dash then ([], Dash d) else (single d ∷ [], Single b))
with_member (Dash d) dash b =
    if dash then Some ([], Dashes d) else if nat_lt b d then None else Some (range d b ∷ [], AfterRange)
with_member (Dashes d) dash b =
    if nat_lt ascii.dash d then None else Some (range d ascii.dash ∷ (alone dash b).0, (alone dash b).1)

-- The class goes on, and a range from what is pending to a dash is reversed.
abbrev pub is_reversed : Pending → Bool
is_reversed (Dashes d) = nat_lt ascii.dash d
is_reversed Start = false
is_reversed AfterRange = false
is_reversed AfterDash = false
is_reversed (Single d) = false
is_reversed (Dash d) = false

-- the ranges that are left at the class's end, where a dash stands for itself. None for a class without members
abbrev pub at_end : Pending → Option (List ByteRange)
at_end Start = None
at_end AfterRange = Some []
at_end AfterDash = Some []
at_end (Single d) = Some (single d ∷ [])
at_end (Dash d) = Some (single d ∷ single ascii.dash ∷ [])
at_end (Dashes d) = Some (single d ∷ single ascii.dash ∷ single ascii.dash ∷ [])

-- The members' ranges, in the order written, up to the closing bracket. From the opening bracket on, `bracket` bytes are left.
unfoldable pub members_at : Bool → ℕ → Pending → Bool → List ℕ → Result (List ByteRange × List ℕ) LocalFault
members_at quoted bracket pending escaped [] = if quoted || escaped then syntax [] else fault_with_left kinds.Class bracket []
members_at quoted bracket pending escaped (b ∷ bytes) = elim (class_byte quoted escaped b) [
  | Member ↦ elim (with_member pending (not escaped && b == ascii.dash) b) [
    | None ↦ fault_with_left kinds.Class bracket (b ∷ bytes)
    | Some x ↦ members_at quoted bracket x.1 false bytes >>= λ others. Ok (x.0 ++ others.0, others.1)
  ]
  | End ↦ elim (at_end pending) [ None ↦ fault_with_left kinds.Class bracket (b ∷ bytes) | Some ranges ↦ Ok (ranges, bytes) ]
  | PathEnd ↦ fault_with_left kinds.Class bracket (b ∷ bytes)
  | Backslash ↦
      if is_reversed pending then fault_with_left kinds.Class bracket (b ∷ bytes) else members_at quoted bracket pending true bytes
  | Code ↦ fault_with_left (kinds.LeftOut 2) (suc (length (b ∷ bytes))) (b ∷ bytes)
  | Wrong ↦ syntax (b ∷ bytes)
]

-- Whether it is negated, and its ranges: what follows the opening bracket.
unfoldable pub class_at : Bool → ℕ → List ℕ → Result ((Bool × List ByteRange) × List ℕ) LocalFault
class_at quoted bracket bytes =
    if begins (λ b. b == ascii.caret) bytes
    then (members_at quoted bracket Start false (drop 1 bytes) >>= λ x. Ok ((true, x.0), x.1))
    else (members_at quoted bracket Start false bytes >>= λ x. Ok ((false, x.0), x.1))
