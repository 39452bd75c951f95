-- Names of a part of the offsets.
use Rattle.std.proofs.Common.{◌≡◌, ℕ, ◌+◌, ◌-◌, ◌<◌, ◌≤◌, ◌&&◌, nat_le, Bool, List, Option, Some, None, drop, get_or, length}
use Rattle.std.proofs.Common.{slice_get, slice_range, slice_set, if◌then◌else◌, ⊎_elim, inr, subst, sym, ap, ◌∙◌, arith}
use Rattle.std.specs.Option.{option_and_then}
use Rattle.std.proofs.lemmas.Bool.{le-leb}
use Rattle.std.proofs.lemmas.Bool.Decides.{eqb_tells}
use Rattle.std.proofs.lemmas.Grind.{get_or-set_at}
use Rattle.std.proofs.lemmas.List.{get_or-drop, get_or-set_other, get_or-take, length-drop, length-take-le}
use Rattle.std.proofs.lemmas.Option.{get_or_from_slice_get, slice_get-get_or}
use Rattle.names.specs.declared.permissions.Perms.{Perms}
use Rattle.tables.specs.Tables.{Table, record_of, state_after}
use Rattle.names.specs.Records.{IsTold}
use Rattle.names.specs.declared.record.Record.{Record}
use Rattle.names.specs.declared.verdict.Verdict.{Verdict}
use Rattle.table_batches.specs.Batches.{name_at as part_name_at}
use Rattle.image_judge.specs.Answers.{IsAnswerOf, IsToldByTable, answer_of, no_answer}
use Rattle.image_judge.specs.declared.answer.Answer.{Answer}
use Rattle.image_judge.specs.inner.Parts.{AreToldTo, IsToldAt}
use Rattle.image_judge.specs.Batches.{IsAnswerAt, name_at, part_of}
use Rattle.image_judge.specs.Sets.{set_of_number}
use Rattle.table_verifier.specs.AcceptedImages.{IsLoaded}

-- an offset of the part is one of the whole
pub offset_of : (offsets : List ℕ) (first last i : ℕ) → first + i < last → last ≤ length offsets →
    slice_get offsets (first + i) ≡ Some (get_or (slice_range offsets first last) i 0)
offset_of offsets first last i lt room =
    slice_get-get_or offsets (first + i) 0 (omega (arith, lt, room))
    ∙ ap Some (sym (get_or-drop first offsets i 0) ∙ sym (get_or-take (last - first) (drop first offsets) i 0 (omega (arith, lt))))

-- and so is its name
pub name_of : (names offsets part : List ℕ) (first last i : ℕ) → part ≡ slice_range offsets first last → first + (i + 1) < last →
    last ≤ length offsets → get_or part i 0 ≤ get_or part (i + 1) 0 → get_or part (i + 1) 0 ≤ length names →
    name_at names offsets (first + i) ≡ Some (part_name_at names part i)
name_of names offsets part first last i is lt room ascend within =
    let begin : slice_get offsets (first + i) ≡ Some (get_or part i 0) =
    offset_of offsets first last i (omega (arith, lt)) room ∙ ap (λ (z : List ℕ). Some (get_or z i 0)) (sym is) in
    let at : first + i + 1 ≡ first + (i + 1) = omega arith in
    let end : slice_get offsets (first + i + 1) ≡ Some (get_or part (i + 1) 0) =
    ap (slice_get offsets) at ∙ offset_of offsets first last (i + 1) lt room ∙ ap (λ (z : List ℕ). Some (get_or z (i + 1) 0)) (sym is) in
    ap (λ (o : Option ℕ). option_and_then (λ b. option_and_then (λ e. part_of names b e) (slice_get offsets (first + i + 1))) o) begin
    ∙ ap (λ (o : Option ℕ). option_and_then (λ e. part_of names (get_or part i 0) e) o) end
    ∙ ap (λ (z : Bool). if z && nat_le (get_or part (i + 1) 0) (length names) then Some (part_name_at names part i) else None)
    (le-leb (get_or part i 0) (get_or part (i + 1) 0) ascend)
    ∙ ap (λ (z : Bool). if z then Some (part_name_at names part i) else None) (le-leb (get_or part (i + 1) 0) (length names) within)

-- the record of a name's last state gives the answer, and each byte of the name was a step
pub told_by : (t : Table) (ask : Perms) (name : List ℕ) (s : ℕ) (r : Record) (v : Verdict) (a : Answer) (steps : ℕ) →
    state_after t name ≡ Some s → record_of t s ≡ Some r → IsTold r ask v → a ≡ answer_of v steps → steps ≡ length name →
    IsToldByTable t ask name a
told_by t ask name s r v a steps last here told is all =
    (r, ap (option_and_then (record_of t)) last ∙ here, v, told, is ∙ ap (answer_of v) all)

pub part_long : (names : List ℕ) (begin end : ℕ) → begin ≤ end → end ≤ length names → end - begin ≡ length (slice_range names begin end)
part_long names begin end ascend within =
    sym (length-take-le (end - begin) (drop begin names) (omega (arith, length-drop begin names, ascend, within)))

-- one more answer
pub told_more : (t : Table) (ask : Perms) (names offsets : List ℕ) (place : ℕ) (a : Answer) (answers : List Answer) →
    AreToldTo t ask names offsets place answers → place < length answers → IsToldAt t ask (name_at names offsets place) a →
    AreToldTo t ask names offsets (place + 1) (slice_set answers place a)
told_more t ask names offsets place a answers before room here = λ i x lt at. ⊎_elim
    (λ same.
    let value : a ≡ x = sym (get_or-set_at answers place i a no_answer same.1 room)
    ∙ get_or_from_slice_get (slice_set answers place a) i x no_answer at in
    subst (λ (k : ℕ). IsToldAt t ask (name_at names offsets k) x) (sym same.1)
    (subst (IsToldAt t ask (name_at names offsets place)) value here))
    (λ other.
    let value : get_or answers i no_answer ≡ x = sym (get_or-set_other answers place i a no_answer other.1)
    ∙ get_or_from_slice_get (slice_set answers place a) i x no_answer at in
    before i x (omega (arith, lt, other.1)) (slice_get-get_or answers i no_answer (omega (arith, lt, room)) ∙ ap Some value))
    (eqb_tells i place)

-- what the table of an accepted image says is the answer
pub answer_at : (image : List ℕ) (asked : ℕ) (ask : Perms) (t : Table) (name : Option (List ℕ)) (a : Answer) →
    set_of_number asked ≡ Some ask →
    IsLoaded image t → IsToldAt t ask name a → IsAnswerAt image asked name a
answer_at image asked ask t None a is loaded told = told
answer_at image asked ask t (Some name) a is loaded told =
    subst (λ (o : Option Perms). IsAnswerOf image o name a) (sym is) (inr (t, loaded, told))
