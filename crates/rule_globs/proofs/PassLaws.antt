-- What a sweep does at an item, at the first of some items and at the first of some alternatives.
use Rattle.std.proofs.Common.{◌≡◌, ℕ, zero, suc, ◌+◌, ◌<◌, ◌≤◌, Bool, true, false, bit_or, List, [], ◌∷◌, drop, length, get_or}
use Rattle.std.proofs.Common.{Vec, Global, sym, ap, ◌∙◌, arith, drop-cons, drop_of_length-le, if◌then◌else◌}
use Rattle.std.specs.Int.Bits.{or_zero_r}
use Rattle.rule_globs.specs.Glob.{one, run, cat, places, ByteSet, exactly, not_slash, class}
use Rattle.rule_globs.specs.inner.Blocks.{taken}
use Rattle.rule_globs.specs.inner.Sweep.{Pass, sweep, pass_one, pass_run, join, restart}
use Rattle.rule_globs.specs.Meaning.{meaning, meaning_of, alternatives_meaning, stars_glob, in_stars}
use Rattle.rule_globs.specs.declared.items.Class.{Class}
use Rattle.rule_globs.specs.declared.items.Item.{Item}
use Rattle.rule_globs.specs.declared.items.Item.TheVariants as v
use Rattle.rule_globs.specs.laws.MeaningLaws.{meaning-Byte, meaning-AnyByte, meaning-Class, meaning-Group}
use Rattle.rule_globs.proofs.Blocks.{or_together}
use Rattle.rule_globs.proofs.Weight.{weight}
use Rattle.rule_globs.proofs.Sweeps.{sweep-place}

-- a run of stars, strict and not
strict_case : (b : Bool) (first set : ByteSet) (c : List ℕ) (s : Pass) → b ≡ true →
    sweep (if b then cat (one first) (run set) else run set) c s
    ≡ pass_run (length c) (taken set c) (pass_one (length c) (taken first c) s)
unfolding sweep
strict_case b first set c s e = ap (λ z. sweep (if z then cat (one first) (run set) else run set) c s) e

free_case : (b : Bool) (first set : ByteSet) (c : List ℕ) (s : Pass) → b ≡ false →
    sweep (if b then cat (one first) (run set) else run set) c s ≡ pass_run (length c) (taken set c) s
unfolding sweep
free_case b first set c s e = ap (λ z. sweep (if z then cat (one first) (run set) else run set) c s) e

pub sweep-strict : (crosses strict : Bool) (c : List ℕ) (s : Pass) → strict ≡ true →
    sweep (stars_glob crosses strict) c s ≡ pass_run (length c) (taken (in_stars crosses) c) (pass_one (length c) (taken not_slash c) s)
sweep-strict crosses strict c s e = strict_case strict not_slash (in_stars crosses) c s e

pub sweep-free : (crosses strict : Bool) (c : List ℕ) (s : Pass) → strict ≡ false →
    sweep (stars_glob crosses strict) c s ≡ pass_run (length c) (taken (in_stars crosses) c) s
sweep-free crosses strict c s e = free_case strict not_slash (in_stars crosses) c s e

-- the items that take one byte
pub sweep-Byte : (item : Item) (b : ℕ) (c : List ℕ) (s : Pass) → item ≡ v.Byte b →
    sweep (meaning item) c s ≡ pass_one (length c) (taken (exactly b) c) s
unfolding sweep
sweep-Byte item b c s e = ap (λ z. sweep z c s) (ap meaning e ∙ meaning-Byte b)

pub sweep-AnyByte : (item : Item) (c : List ℕ) (s : Pass) → item ≡ v.AnyByte →
    sweep (meaning item) c s ≡ pass_one (length c) (taken not_slash c) s
unfolding sweep
sweep-AnyByte item c s e = ap (λ z. sweep z c s) (ap meaning e ∙ meaning-AnyByte)

pub sweep-Class : (item : Item) (k : Class) (c : List ℕ) (s : Pass) → item ≡ v.Class k →
    sweep (meaning item) c s ≡ pass_one (length c) (taken (class k.negated k.ranges) c) s
unfolding sweep
sweep-Class item k c s e = ap (λ z. sweep z c s) (ap meaning e ∙ meaning-Class k)

-- the first element that is left, and the others
pub left : {X : Type 0} (xs : List X) (i : ℕ) (x : X) → i < length xs → x ≡ get_or xs i x → drop i xs ≡ x ∷ drop (i + 1) xs
left xs i x lt e =
    let one_more : suc i ≡ i + 1 = omega arith in
    drop-cons xs i x lt ∙ ap (λ z. z ∷ drop (suc i) xs) (sym e) ∙ ap (λ n. x ∷ drop n xs) one_more

-- one more item: `now` says what the whole pass results in from here
pub items-step : (items : List Item) (i : ℕ) (item : Item) (c : List ℕ) (all s : Pass) → i < length items → item ≡ get_or items i item →
    all ≡ sweep (meaning_of (drop i items)) c s → all ≡ sweep (meaning_of (drop (i + 1) items)) c (sweep (meaning item) c s)
unfolding sweep
items-step items i item c all s lt e now = now ∙ ap (λ z. sweep (meaning_of z) c s) (left items i item lt e)

-- the room for all is room for this item
pub items-room : (items : List Item) (i : ℕ) (item : Item) (c : List ℕ) (n : ℕ) (s0 s : Pass) →
    i < length items → item ≡ get_or items i item →
    sweep (meaning_of items) c s0 ≡ sweep (meaning_of (drop i items)) c s → s0.place + places (meaning_of items) ≤ n →
    s.place + places (meaning item) ≤ n
items-room items i item c n s0 s lt e now room =
    let place : s0.place + places (meaning_of items) ≡ s.place + places (meaning_of (drop i items)) =
    sym (sweep-place (meaning_of items) c s0) ∙ ap (λ (z : Pass). z.place) now ∙ sweep-place (meaning_of (drop i items)) c s in
    let parts : places (meaning_of (drop i items)) ≡ places (meaning item) + places (meaning_of (drop (i + 1) items)) =
    ap (λ z. places (meaning_of z)) (left items i item lt e) in
    omega arith

-- after the last item nothing is left of the pass
pub items-end : (items : List Item) (i : ℕ) (c : List ℕ) (s : Pass) → length items ≤ i → sweep (meaning_of (drop i items)) c s ≡ s
unfolding sweep
items-end items i c s h = ap (λ z. sweep (meaning_of z) c s) (drop_of_length-le items h)

join_twice : (x y : ℕ) (s : Pass) → join x (join y s) ≡ join (bit_or x y) s
join_twice x y s = ap (λ z. record { place = s.place; reached = z; live = s.live }) (or_together x y s.reached)

-- one more alternative
pub alternatives-step : (all : List (Vec Item Global)) (i : ℕ) (alternative : Vec Item Global) (c : List ℕ) (reached : ℕ)
    (total s : Pass) →
    i < length all → alternative ≡ get_or all i alternative →
    total ≡ join reached (sweep (alternatives_meaning (drop i all)) c s) →
    total ≡ join (bit_or reached (sweep (meaning_of alternative.items) c s).reached)
    (sweep (alternatives_meaning (drop (i + 1) all)) c (restart s.reached (sweep (meaning_of alternative.items) c s)))
unfolding sweep
alternatives-step all i alternative c reached total s lt e now =
    now ∙ ap (λ z. join reached (sweep (alternatives_meaning z) c s)) (left all i alternative lt e)
    ∙ join_twice reached (sweep (meaning_of alternative.items) c s).reached
    (sweep (alternatives_meaning (drop (i + 1) all)) c (restart s.reached (sweep (meaning_of alternative.items) c s)))

-- the room for all is room for this alternative
pub alternatives-room : (all : List (Vec Item Global)) (i : ℕ) (alternative : Vec Item Global) (c : List ℕ) (n reached : ℕ)
    (s0 s : Pass) →
    i < length all → alternative ≡ get_or all i alternative →
    sweep (alternatives_meaning all) c s0 ≡ join reached (sweep (alternatives_meaning (drop i all)) c s) →
    s0.place + places (alternatives_meaning all) ≤ n → s.place + places (meaning_of alternative.items) ≤ n
alternatives-room all i alternative c n reached s0 s lt e now room =
    let place : s0.place + places (alternatives_meaning all) ≡ s.place + places (alternatives_meaning (drop i all)) =
    sym (sweep-place (alternatives_meaning all) c s0) ∙ ap (λ (z : Pass). z.place) now
    ∙ sweep-place (alternatives_meaning (drop i all)) c s in
    let parts : places (alternatives_meaning (drop i all)) ≡ places (meaning_of alternative.items) + places
    (alternatives_meaning (drop (i + 1) all)) =
    ap (λ z. places (alternatives_meaning z)) (left all i alternative lt e) in
    omega arith

-- after the last alternative nothing is left of the pass
pub alternatives-end : (all : List (Vec Item Global)) (i : ℕ) (c : List ℕ) (reached : ℕ) (s : Pass) → length all ≤ i →
    join reached (sweep (alternatives_meaning (drop i all)) c s) ≡ record { place = s.place; reached = reached; live = s.live }
unfolding sweep
alternatives-end all i c reached s h =
    ap (λ z. join reached (sweep (alternatives_meaning z) c s)) (drop_of_length-le all h)
    ∙ ap (λ z. record { place = s.place; reached = z; live = s.live }) (or_zero_r reached)

-- the same, as the loop says it
pub alternatives-next : (all : List (Vec Item Global)) (i : ℕ) (alternative : Vec Item Global) (items : List Item) (c : List ℕ)
    (before after : ℕ) (total s r : Pass) →
    i < length all → alternative ≡ get_or all i alternative → items ≡ alternative.items →
    total ≡ join before (sweep (alternatives_meaning (drop i all)) c s) →
    r ≡ sweep (meaning_of items) c s → after ≡ bit_or before r.reached →
    total ≡ join after (sweep (alternatives_meaning (drop (i + 1) all)) c (restart s.reached r))
alternatives-next all i alternative items c before after total s r lt e f now g h =
    let same : sweep (meaning_of alternative.items) c s ≡ r = ap (λ z. sweep (meaning_of z) c s) (sym f) ∙ sym g in
    alternatives-step all i alternative c before total s lt e now
    ∙ ap (λ (z : Pass). join (bit_or before z.reached) (sweep (alternatives_meaning (drop (i + 1) all)) c (restart s.reached z))) same
    ∙ ap (λ z. join z (sweep (alternatives_meaning (drop (i + 1) all)) c (restart s.reached r))) (sym h)

-- As the calls say them: the result of a pass, from what its parts do.
pub at-Byte : (item : Item) (b : ℕ) (c : List ℕ) (s r : Pass) (word : ℕ) → item ≡ v.Byte b → word ≡ taken (exactly b) c →
    r ≡ pass_one (length c) word s → r ≡ sweep (meaning item) c s
at-Byte item b c s r word e f g = g ∙ ap (λ z. pass_one (length c) z s) f ∙ sym (sweep-Byte item b c s e)

pub at-AnyByte : (item : Item) (c : List ℕ) (s r : Pass) (word : ℕ) → item ≡ v.AnyByte →
    word ≡ taken not_slash c → r ≡ pass_one (length c) word s → r ≡ sweep (meaning item) c s
at-AnyByte item c s r word e f g = g ∙ ap (λ z. pass_one (length c) z s) f ∙ sym (sweep-AnyByte item c s e)

pub at-Class : (item : Item) (k : Class) (c : List ℕ) (s r : Pass) (word : ℕ) → item ≡ v.Class k →
    word ≡ taken (class k.negated k.ranges) c → r ≡ pass_one (length c) word s → r ≡ sweep (meaning item) c s
at-Class item k c s r word e f g = g ∙ ap (λ z. pass_one (length c) z s) f ∙ sym (sweep-Class item k c s e)

pub at-Group : (item : Item) (all : Vec (Vec Item Global) Global) (list : List (Vec Item Global)) (c : List ℕ) (s r : Pass) →
    item ≡ v.Group all →
    list ≡ all.items → r ≡ sweep (alternatives_meaning list) c s → r ≡ sweep (meaning item) c s
at-Group item all list c s r e f g =
    g ∙ ap (λ z. sweep (alternatives_meaning z) c s) f ∙ sym (ap (λ z. sweep z c s) (ap meaning e ∙ meaning-Group all))

pub places-Group : (item : Item) (all : Vec (Vec Item Global) Global) (list : List (Vec Item Global)) → item ≡ v.Group all →
    list ≡ all.items → places (alternatives_meaning list) ≡ places (meaning item)
places-Group item all list e f = ap (λ z. places (alternatives_meaning z)) f ∙ sym (ap places (ap meaning e ∙ meaning-Group all))

pub at-strict : (crosses strict : Bool) (c : List ℕ) (s behind r : Pass) (first more : ℕ) → strict ≡ true →
    first ≡ taken not_slash c → behind ≡ pass_one (length c) first s →
    more ≡ taken (in_stars crosses) c → r ≡ pass_run (length c) more behind → r ≡ sweep (stars_glob crosses strict) c s
at-strict crosses strict c s behind r first more e f g h k =
    k ∙ ap (λ z. pass_run (length c) z behind) h
    ∙ ap (λ z. pass_run (length c) (taken (in_stars crosses) c) z) (g ∙ ap (λ z. pass_one (length c) z s) f)
    ∙ sym (sweep-strict crosses strict c s e)

pub at-free : (crosses strict : Bool) (c : List ℕ) (s r : Pass) (more : ℕ) → strict ≡ false →
    more ≡ taken (in_stars crosses) c → r ≡ pass_run (length c) more s → r ≡ sweep (stars_glob crosses strict) c s
at-free crosses strict c s r more e h k = k ∙ ap (λ z. pass_run (length c) z s) h ∙ sym (sweep-free crosses strict c s e)

-- What is left of some items weighs no more than they do, and an item or an alternative weighs less.
weight_cut : (items : List Item) (i : ℕ) → weight (meaning_of (drop i items)) ≤ weight (meaning_of items)
weight_cut [] i = let e : drop {A = Item} i [] ≡ [] = drop_of_length-le [] {i = i} (omega arith) in
    omega (arith, ap (λ z. weight (meaning_of z)) e)
weight_cut (x ∷ items) zero = omega arith
weight_cut (x ∷ items) (suc i) = omega (arith, weight_cut items i)

pub weight-item : (items : List Item) (i : ℕ) (item : Item) → i < length items → item ≡ get_or items i item →
    weight (meaning item) < weight (meaning_of items)
weight-item items i item lt e =
    let parts : weight (meaning_of (drop i items)) ≡ 1 + weight (meaning item) + weight (meaning_of (drop (i + 1) items)) =
    ap (λ z. weight (meaning_of z)) (left items i item lt e) in
    omega (arith, weight_cut items i)

weight_cut_alternatives : (all : List (Vec Item Global)) (i : ℕ) →
    weight (alternatives_meaning (drop i all)) ≤ weight (alternatives_meaning all)
weight_cut_alternatives [] i = let e : drop {A = Vec Item Global} i [] ≡ [] = drop_of_length-le [] {i = i} (omega arith) in
    omega (arith, ap (λ z. weight (alternatives_meaning z)) e)
weight_cut_alternatives (x ∷ all) zero = omega arith
weight_cut_alternatives (x ∷ all) (suc i) = omega (arith, weight_cut_alternatives all i)

pub weight-alternative : (all : List (Vec Item Global)) (i : ℕ) (alternative : Vec Item Global) (items : List Item) →
    i < length all → alternative ≡ get_or all i alternative → items ≡ alternative.items →
    weight (meaning_of items) < weight (alternatives_meaning all)
weight-alternative all i alternative items lt e f =
    let parts : weight (alternatives_meaning (drop i all)) ≡ 1 + weight (meaning_of alternative.items) + weight
    (alternatives_meaning (drop (i + 1) all)) =
    ap (λ z. weight (alternatives_meaning z)) (left all i alternative lt e) in
    omega (arith, weight_cut_alternatives all i, ap (λ z. weight (meaning_of z)) f)

pub weight-Group : (item : Item) (all : Vec (Vec Item Global) Global) (list : List (Vec Item Global)) → item ≡ v.Group all →
    list ≡ all.items → weight (alternatives_meaning list) ≡ weight (meaning item)
weight-Group item all list e f = ap (λ z. weight (alternatives_meaning z)) f ∙ sym (ap weight (ap meaning e ∙ meaning-Group all))
