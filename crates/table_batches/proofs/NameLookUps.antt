-- How many look-ups names take.
use Rattle.std.proofs.Common.{◌≡◌, ℕ, zero, suc, ◌+◌, ◌-◌, ◌*◌, ◌<◌, ◌≤◌, List, drop, get_or, length, take, ap, ◌∙◌, arith}
use Rattle.std.proofs.Math.Nat.{mul-add, mul-le-mul_left}
use Rattle.std.proofs.lemmas.List.Elements.{All-drop, All-take}
use Rattle.names.specs.Bytes.{are_bytes}
use Rattle.tables.specs.Tables.{Table, look_ups_after, look_ups_from, state_count}
use Rattle.table_batches.specs.Batches.{AreOffsets, look_ups_of_names, name_at}
use Rattle.table_batches.proofs.Sides.{part_long}

-- bytes take a look-up each, and at most one more than the bound of depths
abbrev pub AreBounded : Table → Type 0
AreBounded t = (s : ℕ) (bytes : List ℕ) → s < state_count t → are_bytes bytes →
    (length bytes ≤ look_ups_from t s bytes) × (look_ups_from t s bytes ≤ (t.depth_bound + 1) * length bytes)

pub part_bytes : (text : List ℕ) (begin long : ℕ) → are_bytes text → are_bytes (take long (drop begin text))
part_bytes text begin long fits = All-take (λ (c : ℕ). c < 256) long (drop begin text) (All-drop (λ (c : ℕ). c < 256) begin text fits)

pub no_fewer : (t : Table) (text offsets : List ℕ) (i j : ℕ)
    → look_ups_of_names t text offsets i ≤ look_ups_of_names t text offsets (i + j)
no_fewer t text offsets i zero =
    let at : i + 0 ≡ i = omega arith in
    omega (arith, ap (look_ups_of_names t text offsets) at)
no_fewer t text offsets i (suc j) =
    let at : i + suc j ≡ suc (i + j) = omega arith in
    omega (arith, no_fewer t text offsets i j, ap (look_ups_of_names t text offsets) at)

-- one more name
pub one_more : (t : Table) (text offsets : List ℕ) (i : ℕ) → look_ups_of_names t text offsets (i + 1)
    ≡ look_ups_of_names t text offsets i + look_ups_after t (name_at text offsets i)
one_more t text offsets i =
    let at : i + 1 ≡ suc i = omega arith in
    ap (look_ups_of_names t text offsets) at

-- the look-ups of a name
name_bounded : (t : Table) (text offsets : List ℕ) (count i : ℕ) → AreBounded t → are_bytes text → 1 < state_count t →
    AreOffsets text offsets count → i < count
    → (get_or offsets (i + 1) 0 - get_or offsets i 0 ≤ look_ups_after t (name_at text offsets i))
    × (look_ups_after t (name_at text offsets i) ≤ (t.depth_bound + 1) * (get_or offsets (i + 1) 0 - get_or offsets i 0))
name_bounded t text offsets count i bounded fits start offs lt =
    let begin : ℕ = get_or offsets i 0 in
    let end : ℕ = get_or offsets (i + 1) 0 in
    let long : length (take (end - begin) (drop begin text)) ≡ end - begin =
    part_long text begin end (offs.ascend i lt) (offs.within (i + 1) (omega (arith, lt))) in
    let both = bounded 1 (take (end - begin) (drop begin text)) start (part_bytes text begin (end - begin) fits) in
    let product = ap (λ n. (t.depth_bound + 1) * n) long in
    (omega (arith, both.0, long), omega (arith, both.1, product))

-- the look-ups of names are those of their bytes
pub names_bounded : (t : Table) (text offsets : List ℕ) (count n : ℕ) → AreBounded t → are_bytes text → 1 < state_count t →
    AreOffsets text offsets count → n ≤ count
    → (get_or offsets n 0 ≤ look_ups_of_names t text offsets n + get_or offsets 0 0)
    × (look_ups_of_names t text offsets n + (t.depth_bound + 1) * get_or offsets 0 0 ≤ (t.depth_bound + 1) * get_or offsets n 0)
names_bounded t text offsets count zero bounded fits start offs le = (omega arith, omega arith)
names_bounded t text offsets count (suc n) bounded fits start offs le =
    let begin : ℕ = get_or offsets n 0 in
    let end : ℕ = get_or offsets (n + 1) 0 in
    let at : n + 1 ≡ suc n = omega arith in
    let last : end ≡ get_or offsets (suc n) 0 = ap (λ (m : ℕ). get_or offsets m 0) at in
    let before = names_bounded t text offsets count n bounded fits start offs (omega (arith, le)) in
    let here = name_bounded t text offsets count n bounded fits start offs (omega (arith, le)) in
    let up : begin ≤ end = offs.ascend n (omega (arith, le)) in
    let whole : begin + (end - begin) ≡ end = omega (arith, up) in
    let parts : (t.depth_bound + 1) * end ≡ (t.depth_bound + 1) * begin + (t.depth_bound + 1) * (end - begin) =
    ap (λ m. (t.depth_bound + 1) * m) (omega (arith, whole)) ∙ mul-add (t.depth_bound + 1) begin (end - begin) in
    let product = ap (λ m. (t.depth_bound + 1) * m) last in
    (omega (arith, before.0, here.0, last, up), omega (arith, before.1, here.1, parts, product))

-- and all of them those of the text
pub all_bounded : (t : Table) (text offsets : List ℕ) (count : ℕ) → AreBounded t → are_bytes text → 1 < state_count t →
    AreOffsets text offsets count → look_ups_of_names t text offsets count ≤ (t.depth_bound + 1) * length text
all_bounded t text offsets count bounded fits start offs =
    let most = names_bounded t text offsets count count bounded fits start offs (omega arith) in
    let within : (t.depth_bound + 1) * get_or offsets count 0 ≤ (t.depth_bound + 1) * length text =
    mul-le-mul_left (t.depth_bound + 1) (offs.within count (omega arith)) in
    omega (arith, most.1, within)

-- where no state has a depth, each byte takes one look-up
pub names_flat : (t : Table) (text offsets : List ℕ) (count n : ℕ) → AreBounded t → are_bytes text → 1 < state_count t →
    AreOffsets text offsets count → t.depth_bound ≡ 0 → n ≤ count
    → look_ups_of_names t text offsets n + get_or offsets 0 0 ≡ get_or offsets n 0
names_flat t text offsets count n bounded fits start offs flat le =
    let both = names_bounded t text offsets count n bounded fits start offs le in
    let first : (t.depth_bound + 1) * get_or offsets 0 0 ≡ 1 * get_or offsets 0 0 =
    ap (λ d. (d + 1) * get_or offsets 0 0) flat in
    let last : (t.depth_bound + 1) * get_or offsets n 0 ≡ 1 * get_or offsets n 0 = ap (λ d. (d + 1) * get_or offsets n 0) flat in
    omega (arith, both.0, both.1, first, last)

pub part_flat : (t : Table) (s : ℕ) (bytes : List ℕ) → AreBounded t → are_bytes bytes → s < state_count t → t.depth_bound ≡ 0
    → look_ups_from t s bytes ≡ length bytes
part_flat t s bytes bounded fits there flat =
    let both = bounded s bytes there fits in
    let product : (t.depth_bound + 1) * length bytes ≡ 1 * length bytes = ap (λ d. (d + 1) * length bytes) flat in
    omega (arith, both.0, both.1, product)

pub ascended : (text offsets : List ℕ) (count n : ℕ) → AreOffsets text offsets count → n ≤ count → get_or offsets 0 0 ≤ get_or offsets n 0
ascended text offsets count zero offs le = omega arith
ascended text offsets count (suc n) offs le =
    let at : n + 1 ≡ suc n = omega arith in
    let before = ascended text offsets count n offs (omega (arith, le)) in
    omega (arith, before, offs.ascend n (omega (arith, le)), ap (λ (m : ℕ). get_or offsets m 0) at)
