-- An image has no fault, and is the image of one table.
use Rattle.std.proofs.Common.{◌≡◌, ℕ, suc, ◌+◌, ◌*◌, ◌<◌, List, [], ◌∷◌, ◌++◌, length, map, take, refl, sym, ap, ◌∙◌, subst, arith}
use Rattle.std.proofs.Common.{get_or}
use Rattle.std.specs.Prelude.{codes, All, replicate}
use Rattle.std.specs.List.{concat}
use Rattle.std.proofs.lemmas.List.{append_assoc, length-append}
use Rattle.byteorder.specs.Endian.{little_bytes, little_number}
use Rattle.byteorder.specs.Numbers.{little_number-reads_back}
use Rattle.names.specs.declared.permissions.Permission.{Permission}
use Rattle.names.specs.declared.permissions.Permission.TheVariants.{Append, Write}
use Rattle.names.specs.Permissions.{index}
use Rattle.names.specs.Least.{hits_of, no_hit}
use Rattle.names.specs.declared.record.LeastHits.{LeastHits}
use Rattle.names.specs.declared.record.Record.{Record}
use Rattle.tables.specs.Bounds.{InLimits, IsShaped}
use Rattle.tables.specs.Images.{AreShort, HasImageFault, HasRoom, FitsVersion1, HasVersion, IsImageOf, IsShortRecord, IsVersionOf}
use Rattle.tables.specs.Images.{IsWhole, IsWholeOf, bound_of, depth_count, depths_of, header_of, hits_bytes, image_of, length_of}
use Rattle.tables.specs.Images.{record_bytes, record_length, short_at, told_length, version_number, word_at, words}
use Rattle.tables.specs.inner.ReadTables.{stored_for}
use Rattle.tables.specs.declared.header.Version.{Version}
use Rattle.tables.specs.declared.header.Version.TheVariants.{First, Second}
use Rattle.tables.proofs.HeaderReads.{one_version}
use Rattle.tables.specs.Tables.{Table, state_count, cell_count, record_count}
use Rattle.tables.specs.declared.fault.ImageFault.{ImageFault}
use Rattle.tables.specs.declared.fault.ImageFault.TheVariants as fault
use Rattle.tables.proofs.Joined.{same_parts}
use Rattle.tables.proofs.StoredHits.{all_short, held_hits, stored_hit, stored_hits, stored_hits_long}

-- ---- what an image has

abbrev pub parts_of : Version → Table → List ℕ
parts_of v t = words t.default ++ (words t.base ++ (words t.accept
    ++ (words (depths_of v t) ++ (words t.next ++ (words t.check ++ concat (map (record_bytes v) t.records))))))

regrouped : (h a b c p d e f : List ℕ) → h ++ a ++ b ++ c ++ p ++ d ++ e ++ f ≡ h ++ (a ++ (b ++ (c ++ (p ++ (d ++ (e ++ f))))))
regrouped h a b c p d e f = simp append_assoc

image_parts : (v : Version) (t : Table) → image_of v t ≡ header_of v t ++ parts_of v t
image_parts v t = regrouped (header_of v t) (words t.default) (words t.base) (words t.accept) (words (depths_of v t)) (words t.next)
    (words t.check) (concat (map (record_bytes v) t.records))

abbrev head : ℕ → ℕ → ℕ → ℕ → ℕ → List ℕ
head n m s c r = codes "PTAB" ++ little_bytes 2 n ++ little_bytes 2 m ++ little_bytes 4 s ++ little_bytes 4 c ++ little_bytes 4 r

head_version : (n m s c r : ℕ) (rest : List ℕ) → n < 65536 → short_at (head n m s c r ++ rest) 4 ≡ n
head_version n m s c r rest lt = little_number-reads_back 2 n
    (little_bytes 2 m ++ (little_bytes 4 s ++ (little_bytes 4 c ++ (little_bytes 4 r ++ rest)))) lt

head_bound : (n m s c r : ℕ) (rest : List ℕ) → m < 65536 → short_at (head n m s c r ++ rest) 6 ≡ m
head_bound n m s c r rest lt = little_number-reads_back 2 m (little_bytes 4 s ++ (little_bytes 4 c ++ (little_bytes 4 r ++ rest))) lt

head_states : (n m s c r : ℕ) (rest : List ℕ) → s < 4294967296 → word_at (head n m s c r ++ rest) 8 ≡ s
head_states n m s c r rest lt = little_number-reads_back 4 s (little_bytes 4 c ++ (little_bytes 4 r ++ rest)) lt

head_cells : (n m s c r : ℕ) (rest : List ℕ) → c < 4294967296 → word_at (head n m s c r ++ rest) 12 ≡ c
head_cells n m s c r rest lt = little_number-reads_back 4 c (little_bytes 4 r ++ rest) lt

head_records : (n m s c r : ℕ) (rest : List ℕ) → r < 4294967296 → word_at (head n m s c r ++ rest) 16 ≡ r
head_records n m s c r rest lt = little_number-reads_back 4 r rest lt

few_versions : (v : Version) → version_number v < 65536
few_versions First = omega arith
few_versions Second = omega arith

bound_small : (v : Version) (t : Table) → HasRoom t → bound_of v t < 65536
bound_small First t room = omega arith
bound_small Second t room = room.bound

-- lists of one length each, joined
concat_length : {X : Type 0} (f : X → List ℕ) (n : ℕ) → ((x : X) → length (f x) ≡ n) → (xs : List X) → length (concat (map f xs))
    ≡ n * length xs
concat_length f n h [] = omega arith
concat_length f n h (x ∷ xs) =
    length-append (f x) (concat (map f xs)) ∙ ap (λ z. z + length (concat (map f xs))) (h x) ∙ ap (λ z. n + z) (concat_length f n h xs)
    ∙ omega arith

words_length : (xs : List ℕ) → length (words xs) ≡ 4 * length xs
words_length xs = concat_length (little_bytes 4) 4 (λ x. refl) xs

record_long : (v : Version) (r : Record) → length (record_bytes v r) ≡ record_length v
unfolding record_bytes
record_long v r = concat_length hits_bytes 4 (λ h. refl) (stored_hits v r) ∙ ap (λ n. 4 * n) (stored_hits_long v r)

records_length : (v : Version) (rs : List Record) → length (concat (map (record_bytes v) rs)) ≡ record_length v * length rs
records_length v rs = concat_length (record_bytes v) (record_length v) (record_long v) rs

depths_length : (v : Version) (t : Table) → IsShaped t → length (depths_of v t) ≡ depth_count v (state_count t)
depths_length First t shaped = refl
depths_length Second t shaped = shaped.depths

parts_length : (v : Version) (t : Table) (x : ℕ) → x ≡ record_length v * record_count t → IsShaped t →
    length (header_of v t ++ parts_of v t) ≡ 20 + 12 * state_count t + 4 * depth_count v (state_count t) + 8 * cell_count t + x
parts_length v t x is shaped =
    let d : List ℕ = words t.default in
    let b : List ℕ = words t.base in
    let a : List ℕ = words t.accept in
    let p : List ℕ = words (depths_of v t) in
    let n : List ℕ = words t.next in
    let c : List ℕ = words t.check in
    let r : List ℕ = concat (map (record_bytes v) t.records) in
    let l0 = length-append (header_of v t) (parts_of v t) in
    let l1 = length-append d (b ++ (a ++ (p ++ (n ++ (c ++ r))))) in
    let l2 = length-append b (a ++ (p ++ (n ++ (c ++ r)))) in
    let l3 = length-append a (p ++ (n ++ (c ++ r))) in
    let l6 = length-append p (n ++ (c ++ r)) in
    let l4 = length-append n (c ++ r) in
    let l5 = length-append c r in
    let head_is : length (header_of v t) ≡ 20 = refl in
    let kept : length (concat (map (record_bytes v) t.records)) ≡ x = records_length v t.records ∙ sym is in
    omega (
      arith,
      l0,
      l1,
      l2,
      l3,
      l4,
      l5,
      l6,
      head_is,
      words_length t.default,
      words_length t.base,
      words_length t.accept,
      words_length (depths_of v t),
      depths_length v t shaped,
      words_length t.next,
      words_length t.check,
      kept,
      shaped.bases,
      shaped.accepts,
      shaped.checks,
    )

-- what an image's header says
record IsHeaderOf (v : Version) (bytes : List ℕ) (t : Table) : Type 0 where
  version : HasVersion bytes v
  bound : short_at bytes 6 ≡ bound_of v t
  states : word_at bytes 8 ≡ state_count t
  cells : word_at bytes 12 ≡ cell_count t
  records : word_at bytes 16 ≡ record_count t

header_says : (v : Version) (bytes : List ℕ) (t : Table) → IsVersionOf v bytes t → IsHeaderOf v bytes t
header_says v bytes t image =
    let is : bytes ≡ header_of v t ++ parts_of v t = image.is ∙ image_parts v t in
    let limits : InLimits (state_count t) (cell_count t) (record_count t) = image.limits in
    let n : ℕ = version_number v in
    let m : ℕ = bound_of v t in
    let s : ℕ = state_count t in
    let c : ℕ = cell_count t in
    let r : ℕ = record_count t in
    let rest : List ℕ = parts_of v t in
    record {
      version = ap (λ z. short_at z 4) is ∙ head_version n m s c r rest (few_versions v);
      bound = ap (λ z. short_at z 6) is ∙ head_bound n m s c r rest (bound_small v t image.room);
      states = ap (λ z. word_at z 8) is ∙ head_states n m s c r rest (let x = limits.states_fit in omega (arith, x));
      cells = ap (λ z. word_at z 12) is ∙ head_cells n m s c r rest (let x = limits.cells_fit in omega (arith, x));
      records = ap (λ z. word_at z 16) is ∙ head_records n m s c r rest (let x = limits.records_fit in omega (arith, x));
    }

-- version 1 has 0 for the bound
no_bound : (v : Version) (bytes : List ℕ) (t : Table) → short_at bytes 6 ≡ bound_of v t → v ≡ First → short_at bytes 6 ≡ 0
no_bound First bytes t is e = is
no_bound Second bytes t is e = absurd (cc e)

pub image_is_whole : (v : Version) (bytes : List ℕ) (t : Table) → IsVersionOf v bytes t → IsWholeOf v bytes
image_is_whole v bytes t image =
    let is : bytes ≡ header_of v t ++ parts_of v t = image.is ∙ image_parts v t in
    let says : IsHeaderOf v bytes t = header_says v bytes t image in
    let s : word_at bytes 8 ≡ state_count t = says.states in
    let c : word_at bytes 12 ≡ cell_count t = says.cells in
    let r : word_at bytes 16 ≡ record_count t = says.records in
    let size : length bytes ≡ length_of v (state_count t) (cell_count t) (record_count t) =
    ap length is ∙ parts_length v t (record_length v * record_count t) refl image.shaped in
    record {
      header = omega (arith, ap length is, length-append (header_of v t) (parts_of v t));
      magic = ap (take 4) is;
      version = says.version;
      reserved = no_bound v bytes t says.bound;
      limits = subst (λ x. InLimits (word_at bytes 8) (word_at bytes 12) x) (sym r)
          (subst (λ x. InLimits (word_at bytes 8) x (record_count t)) (sym c)
          (subst (λ x. InLimits x (cell_count t) (record_count t)) (sym s) image.limits));
      whole = size ∙ ap (λ x. length_of v x (cell_count t) (record_count t)) (sym s)
          ∙ ap (λ x. length_of v (word_at bytes 8) x (record_count t)) (sym c)
          ∙ ap (λ x. length_of v (word_at bytes 8) (word_at bytes 12) x) (sym r);
    }

pub whole_has_none : (bytes : List ℕ) → IsWhole bytes → (f : ImageFault) → ¬ (HasImageFault bytes f)
whole_has_none bytes w fault.Short h = let long = w.1.header in omega (arith, long, h)
whole_has_none bytes w fault.Magic h = h w.1.magic
whole_has_none bytes w fault.Version h = h w.0 w.1.version
whole_has_none bytes w fault.Reserved h = h.1 (w.1.reserved (one_version w.0 First (sym w.1.version ∙ h.0)))
whole_has_none bytes w fault.Counts h = h w.1.limits
whole_has_none bytes w fault.Length h = h.2 (subst (λ z. length bytes ≡ told_length z bytes)
    (one_version w.0 h.0 (sym w.1.version ∙ h.1)) w.1.whole)
whole_has_none bytes w (fault.Default s) h = h
whole_has_none bytes w (fault.Base s) h = h
whole_has_none bytes w (fault.Accept s) h = h
whole_has_none bytes w (fault.Next c) h = h
whole_has_none bytes w fault.NoMemory h = h
whole_has_none bytes w (fault.Depth s) h = h

-- ---- one table

-- lists of entries that their bytes distinguish
concat_one : {X : Type 0} (f : X → List ℕ) (P : X → Type 0) (n : ℕ) → ((x : X) → length (f x) ≡ n) →
    ((x y : X) → P x → P y → f x ≡ f y → x ≡ y) → (xs ys : List X) → length xs ≡ length ys → All P xs → All P ys →
    concat (map f xs) ≡ concat (map f ys) → xs ≡ ys
concat_one f P n size tell [] [] same p q e = refl
concat_one f P n size tell [] (y ∷ ys) same p q e = absurd (omega (arith, same))
concat_one f P n size tell (x ∷ xs) [] same p q e = absurd (omega (arith, same))
concat_one f P n size tell (x ∷ xs) (y ∷ ys) same p q e =
    let both : (f x ≡ f y) × (concat (map f xs) ≡ concat (map f ys)) =
    same_parts (f x) (concat (map f xs)) (f y) (concat (map f ys)) (size x ∙ sym (size y)) e in
    let first : x ≡ y = tell x y (p 0 x (omega arith)) (q 0 y (omega arith)) both.0 in
    let rest : xs ≡ ys = concat_one f P n size tell xs ys (omega (arith, same))
    (λ k d lt. p (suc k) d (omega (arith, lt))) (λ k d lt. q (suc k) d (omega (arith, lt))) both.1 in
    ap (λ z. z ∷ xs) first ∙ ap (λ z. y ∷ z) rest

word_one : (m n : ℕ) → m < 4294967296 → n < 4294967296 → little_bytes 4 m ≡ little_bytes 4 n → m ≡ n
word_one m n lm ln e = sym (little_number-reads_back 4 m [] lm) ∙ ap (little_number 4) e ∙ little_number-reads_back 4 n [] ln

short_one : (m n : ℕ) → m < 65536 → n < 65536 → little_bytes 2 m ≡ little_bytes 2 n → m ≡ n
short_one m n lm ln e = sym (little_number-reads_back 2 m [] lm) ∙ ap (little_number 2) e ∙ little_number-reads_back 2 n [] ln

hits_one : (h k : LeastHits) → AreShort h → AreShort k → hits_bytes h ≡ hits_bytes k → h ≡ k
hits_one h k p q e =
    let both : (little_bytes 2 h.allow ≡ little_bytes 2 k.allow) × (little_bytes 2 h.deny ≡ little_bytes 2 k.deny) =
    same_parts (little_bytes 2 h.allow) (little_bytes 2 h.deny) (little_bytes 2 k.allow) (little_bytes 2 k.deny) refl e in
    let Made : ℕ → ℕ → LeastHits = λ a d. record { allow = a; deny = d } in
    ap (λ a. Made a h.deny) (short_one h.allow k.allow p.0 q.0 both.0) ∙ ap (λ d. Made k.allow d) (short_one h.deny k.deny p.1 q.1 both.1)

-- what the law of records says
abbrev AreTheirHits : Type 0
AreTheirHits = (r s : Record) → ((p : Permission) → hits_of r p ≡ hits_of s p) → r ≡ s

-- a record that the version can hold
abbrev IsHeld : Version → Record → Type 0
IsHeld v r = IsShortRecord r × (v ≡ First → hits_of r Append ≡ hits_of r Write)

record_one : AreTheirHits → (v : Version) (r q : Record) → IsHeld v r → IsHeld v q → record_bytes v r ≡ record_bytes v q → r ≡ q
unfolding record_bytes
record_one same v r q mine other e =
    let lists : stored_hits v r ≡ stored_hits v q =
    concat_one hits_bytes AreShort 4 (λ x. refl) hits_one (stored_hits v r) (stored_hits v q)
    (stored_hits_long v r ∙ sym (stored_hits_long v q)) (all_short v r mine.0) (all_short v q other.0) e in
    same r q (λ p. held_hits v r mine.1 p ∙ sym (stored_hit v r p) ∙ ap (λ l. get_or l (index (stored_for v p)) no_hit) lists
    ∙ stored_hit v q p ∙ sym (held_hits v q other.1 p))

words_one : (xs ys : List ℕ) → length xs ≡ length ys → All (λ n. n < 4294967296) xs → All (λ n. n < 4294967296) ys → words xs
    ≡ words ys → xs ≡ ys
words_one = concat_one (little_bytes 4) (λ n. n < 4294967296) 4 (λ x. refl) word_one

-- the words at the beginning, and what comes after them
words_first : (xs ys : List ℕ) (rest more : List ℕ) → length xs ≡ length ys → All (λ n. n < 4294967296) xs →
    All (λ n. n < 4294967296) ys →
    words xs ++ rest ≡ words ys ++ more → (xs ≡ ys) × (rest ≡ more)
words_first xs ys rest more same p q e =
    let size : length (words xs) ≡ length (words ys) = words_length xs ∙ ap (λ n. 4 * n) same ∙ sym (words_length ys) in
    let both : (words xs ≡ words ys) × (rest ≡ more) = same_parts (words xs) rest (words ys) more size e in
    (words_one xs ys same p q both.0, both.1)

all_held : (v : Version) (bytes : List ℕ) (t : Table) → IsVersionOf v bytes t → All (IsHeld v) t.records
all_held v bytes t image = λ k d lt. (image.room.records k d lt, λ e. (image.fits e).appends k d lt)

-- the depths of two tables of one version
same_depths : (v : Version) (t u : Table) → (v ≡ First → FitsVersion1 t) → (v ≡ First → FitsVersion1 u) → state_count t ≡ state_count u →
    depths_of v t ≡ depths_of v u → t.depth ≡ u.depth
same_depths First t u p q s e = (p refl).depths ∙ ap (λ n. replicate n 0) s ∙ sym (q refl).depths
same_depths Second t u p q s e = e

same_bound : (v : Version) (t u : Table) → (v ≡ First → FitsVersion1 t) → (v ≡ First → FitsVersion1 u) → bound_of v t ≡ bound_of v u →
    t.depth_bound ≡ u.depth_bound
same_bound First t u p q e = (p refl).bound ∙ sym (q refl).bound
same_bound Second t u p q e = e

depths_room : (v : Version) (t : Table) → HasRoom t → All (λ n. n < 4294967296) (depths_of v t)
depths_room First t room = λ k d lt. absurd (omega (arith, lt))
depths_room Second t room = room.depths

one_of_version : AreTheirHits → (v : Version) (bytes : List ℕ) (t u : Table) → IsVersionOf v bytes t →
    IsVersionOf v bytes u → t ≡ u
one_of_version same v bytes t u i j =
    let mine = header_says v bytes t i in
    let other = header_says v bytes u j in
    let s : state_count t ≡ state_count u = sym mine.states ∙ other.states in
    let c : cell_count t ≡ cell_count u = sym mine.cells ∙ other.cells in
    let r : record_count t ≡ record_count u = sym mine.records ∙ other.records in
    let m : bound_of v t ≡ bound_of v u = sym mine.bound ∙ other.bound in
    let e : header_of v t ++ parts_of v t ≡ header_of v u ++ parts_of v u = sym (image_parts v t) ∙ sym i.is ∙ j.is ∙ image_parts v u in
    let e0 : parts_of v t ≡ parts_of v u = (same_parts (header_of v t) (parts_of v t) (header_of v u) (parts_of v u) refl e).1 in
    let rt : List ℕ = concat (map (record_bytes v) t.records) in
    let ru : List ℕ = concat (map (record_bytes v) u.records) in
    let dt : List ℕ = depths_of v t in
    let du : List ℕ = depths_of v u in
    let p : HasRoom t = i.room in
    let q : HasRoom u = j.room in
    let long : length dt ≡ length du = depths_length v t i.shaped ∙ ap (depth_count v) s ∙ sym (depths_length v u j.shaped) in
    let e1 = words_first t.default u.default (words t.base ++ (words t.accept ++ (words dt ++ (words t.next ++ (words t.check ++ rt)))))
    (words u.base ++ (words u.accept ++ (words du ++ (words u.next ++ (words u.check ++ ru))))) s p.defaults q.defaults e0 in
    let e2 = words_first t.base u.base (words t.accept ++ (words dt ++ (words t.next ++ (words t.check ++ rt))))
    (words u.accept ++ (words du ++ (words u.next ++ (words u.check ++ ru))))
    (i.shaped.bases ∙ s ∙ sym j.shaped.bases) p.bases q.bases e1.1 in
    let e3 = words_first t.accept u.accept (words dt ++ (words t.next ++ (words t.check ++ rt)))
    (words du ++ (words u.next ++ (words u.check ++ ru)))
    (i.shaped.accepts ∙ s ∙ sym j.shaped.accepts) p.accepts q.accepts e2.1 in
    let e7 = words_first dt du (words t.next ++ (words t.check ++ rt)) (words u.next ++ (words u.check ++ ru)) long (depths_room v t p)
    (depths_room v u q) e3.1 in
    let e4 = words_first t.next u.next (words t.check ++ rt) (words u.check ++ ru) c p.nexts q.nexts e7.1 in
    let e5 = words_first t.check u.check rt ru (i.shaped.checks ∙ c ∙ sym j.shaped.checks) p.checks q.checks e4.1 in
    let e6 : t.records ≡ u.records =
    concat_one (record_bytes v) (IsHeld v) (record_length v) (record_long v) (record_one same v) t.records u.records r
    (all_held v bytes t i) (all_held v bytes u j) e5.1 in
    let e8 : t.depth_bound ≡ u.depth_bound = same_bound v t u i.fits j.fits m in
    let e9 : t.depth ≡ u.depth = same_depths v t u i.fits j.fits s e7.0 in
    let Made : List ℕ → List ℕ → List ℕ → List ℕ → List ℕ → List Record → ℕ → List ℕ → Table =
    λ d b a n k l m p. record { default = d; base = b; accept = a; next = n; check = k; records = l; depth_bound = m; depth = p } in
    ap (λ z. Made z t.base t.accept t.next t.check t.records t.depth_bound t.depth) e1.0
    ∙ ap (λ z. Made u.default z t.accept t.next t.check t.records t.depth_bound t.depth) e2.0
    ∙ ap (λ z. Made u.default u.base z t.next t.check t.records t.depth_bound t.depth) e3.0
    ∙ ap (λ z. Made u.default u.base u.accept z t.check t.records t.depth_bound t.depth) e4.0
    ∙ ap (λ z. Made u.default u.base u.accept u.next z t.records t.depth_bound t.depth) e5.0
    ∙ ap (λ z. Made u.default u.base u.accept u.next u.check z t.depth_bound t.depth) e6
    ∙ ap (λ z. Made u.default u.base u.accept u.next u.check u.records z t.depth) e8
    ∙ ap (λ z. Made u.default u.base u.accept u.next u.check u.records u.depth_bound z) e9

-- the header has one version
pub one_table : AreTheirHits → (bytes : List ℕ) (t u : Table) → IsImageOf bytes t → IsImageOf bytes u → t ≡ u
one_table same bytes t u i j =
    let mine = header_says i.0 bytes t i.1 in
    let other = header_says j.0 bytes u j.1 in
    let v : j.0 ≡ i.0 = one_version j.0 i.0 (sym other.version ∙ mine.version) in
    one_of_version same i.0 bytes t u i.1 (subst (λ z. IsVersionOf z bytes u) v j.1)
