-- Bytes with no fault are the image of the table that is read from them.
use Rattle.std.proofs.Common.{◌≡◌, ⊎_elim, ℕ, zero, suc, ◌+◌, ◌*◌, ◌<◌, ◌≤◌, List, ◌++◌, length, map, take, drop, refl, sym, ap, ◌∙◌}
use Rattle.std.proofs.Common.{subst, arith}
use Rattle.std.specs.Prelude.{codes, All, replicate}
use Rattle.std.specs.List.{concat}
use Rattle.std.proofs.lemmas.Bool.{cases_lt}
use Rattle.std.proofs.lemmas.List.{get_or_past, length-replicate, take_all}
use Rattle.std.proofs.lemmas.List.Elements.{All-push, All-replicate}
use Rattle.byteorder.specs.Endian.{little_bytes}
use Rattle.byteorder.specs.Numbers.{little_from-lt}
use Rattle.names.specs.Permissions.{index}
use Rattle.names.specs.declared.permissions.Permission.TheVariants.{Append, Write}
use Rattle.names.specs.Least.{hits_of}
use Rattle.names.specs.declared.record.Record.{Record}
use Rattle.names.specs.laws.Positions.{place_below, stands_there}
use Rattle.names.specs.laws.Records.{hits_made}
use Rattle.names.specs.Bytes.{are_bytes}
use Rattle.tables.specs.Bounds.{InLimits}
use Rattle.tables.specs.Images.{AreShort, HasRoom, HasVersion, FitsVersion1, IsShortRecord, IsVersionOf, IsWholeOf}
use Rattle.tables.specs.Images.{bound_of, depth_count, depths_of, header_of, record_bytes, record_length, short_at, version_number}
use Rattle.tables.specs.Images.{word_at, words}
use Rattle.tables.specs.declared.header.Version.{Version}
use Rattle.tables.specs.declared.header.Version.TheVariants.{First, Second}
use Rattle.tables.specs.inner.ReadTables.{bound_at, depths_at, hits_at, record_at, records_at, stored_for, table_at, words_at}
use Rattle.tables.specs.Tables.{Table, state_count, cell_count, record_count}
use Rattle.tables.proofs.Pieces.{AreLow, length_records_at, length_words_at, low_rest, piece, records_back, short_back, take_both}
use Rattle.tables.proofs.Pieces.{word_back, words_back}

pub low_bytes : (bytes : List ℕ) → are_bytes bytes → AreLow bytes
low_bytes bytes all k = ⊎_elim
    (λ lt. all k 0 lt)
    (λ le. let past = get_or_past bytes k 0 le in omega (arith, past))
    (cases_lt k (length bytes))

-- a piece after the first bytes
fronts : (bytes : List ℕ) (m n : ℕ) (xs ys : List ℕ) → xs ≡ take m bytes → ys ≡ piece bytes m n → xs ++ ys ≡ take (m + n) bytes
fronts bytes m n xs ys e f = ap (λ z. z ++ ys) e ∙ ap (λ z. take m bytes ++ z) f ∙ take_both m n bytes

module _ (bytes : List ℕ) (low : AreLow bytes) where
  word_room : (i : ℕ) → word_at bytes i < 4294967296
  word_room i = little_from-lt 0 4 (drop i bytes) (low_rest bytes i low)

  short_room : (i : ℕ) → short_at bytes i < 65536
  short_room i = little_from-lt 0 2 (drop i bytes) (low_rest bytes i low)

  hits_room : (i : ℕ) → AreShort (hits_at bytes i)
  hits_room i = (short_room i, short_room (i + 2))

  words_room : (i n : ℕ) → All (λ x. x < 4294967296) (words_at bytes i n)
  words_room i zero = λ k d lt. absurd (omega (arith, lt))
  words_room i (suc n) = All-push (λ x. x < 4294967296) (words_at bytes i n) (word_at bytes (i + 4 * n)) (words_room i n)
      (word_room (i + 4 * n))

  record_room : (v : Version) (i : ℕ) → IsShortRecord (record_at v bytes i)
  unfolding record_at
  record_room v i p = subst AreShort
      (sym (hits_made place_below stands_there (λ q. hits_at bytes (i + 4 * index (stored_for v q))) p))
      (hits_room (i + 4 * index (stored_for v p)))

  records_room : (v : Version) (i n : ℕ) → All IsShortRecord (records_at v bytes i n)
  records_room v i zero = λ k d lt. absurd (omega (arith, lt))
  records_room v i (suc n) = All-push IsShortRecord (records_at v bytes i n) (record_at v bytes (i + record_length v * n))
      (records_room v i n) (record_room v (i + record_length v * n))

  depths_room : (v : Version) (i n : ℕ) → All (λ x. x < 4294967296) (depths_at v bytes i n)
  depths_room First i n = All-replicate (λ x. x < 4294967296) n 0 (omega arith)
  depths_room Second i n = words_room i n

  bound_room : (v : Version) → bound_at v bytes < 65536
  bound_room First = omega arith
  bound_room Second = short_room 6

  table_room : (v : Version) → HasRoom (table_at v bytes)
  table_room v =
      let s : ℕ = word_at bytes 8 in
      let c : ℕ = word_at bytes 12 in
      let k : ℕ = depth_count v s in
      record {
        defaults = words_room 20 s;
        bases = words_room (20 + 4 * s) s;
        accepts = words_room (20 + 4 * s + 4 * s) s;
        nexts = words_room (20 + 4 * s + 4 * s + 4 * s + 4 * k) c;
        checks = words_room (20 + 4 * s + 4 * s + 4 * s + 4 * k + 4 * c) c;
        records = records_room v (20 + 4 * s + 4 * s + 4 * s + 4 * k + 4 * c + 4 * c) (word_at bytes 16);
        bound = bound_room v;
        depths = depths_room v (20 + 4 * s + 4 * s + 4 * s) s;
      }

  -- what the two bytes after the version say of a bound
  bound_back : (v : Version) → (v ≡ First → short_at bytes 6 ≡ 0) → bound_of v (table_at v bytes) ≡ short_at bytes 6
  bound_back First none = sym (none refl)
  bound_back Second none = refl

  head_back : (v : Version) (m s c r : ℕ) → 20 ≤ length bytes → take 4 bytes ≡ codes "PTAB" → HasVersion bytes v → m ≡ short_at bytes 6 →
      s ≡ word_at bytes 8 → c ≡ word_at bytes 12 → r ≡ word_at bytes 16 →
      codes "PTAB" ++ little_bytes 2 (version_number v) ++ little_bytes 2 m ++ little_bytes 4 s ++ little_bytes 4 c ++ little_bytes 4 r
      ≡ take 20 bytes
  head_back v m s c r long magic version m_is s_is c_is r_is =
      let n : List ℕ = little_bytes 2 (version_number v) in
      let o : List ℕ = little_bytes 2 m in
      let e : little_bytes 2 (version_number v) ≡ piece bytes 4 2 = ap (little_bytes 2) (sym version)
      ∙ short_back bytes 4 low (omega arith) in
      let z : little_bytes 2 m ≡ piece bytes 6 2 = ap (little_bytes 2) m_is ∙ short_back bytes 6 low (omega arith) in
      let a : little_bytes 4 s ≡ piece bytes 8 4 = ap (little_bytes 4) s_is ∙ word_back bytes 8 low (omega arith) in
      let b : little_bytes 4 c ≡ piece bytes 12 4 = ap (little_bytes 4) c_is ∙ word_back bytes 12 low (omega arith) in
      let d : little_bytes 4 r ≡ piece bytes 16 4 = ap (little_bytes 4) r_is ∙ word_back bytes 16 low (omega arith) in
      let p : List ℕ = codes "PTAB" in
      fronts bytes 16 4 (p ++ n ++ o ++ little_bytes 4 s ++ little_bytes 4 c) (little_bytes 4 r)
      (fronts bytes 12 4 (p ++ n ++ o ++ little_bytes 4 s) (little_bytes 4 c)
      (fronts bytes 8 4 (p ++ n ++ o) (little_bytes 4 s)
      (fronts bytes 6 2 (p ++ n) o
      (fronts bytes 4 2 p n (sym magic) e) z) a) b) d

  -- the depths that a version has
  depths_back : (v : Version) (s i : ℕ) (t : Table) → t.depth ≡ depths_at v bytes i s → i + 4 * depth_count v s ≤ length bytes →
      words (depths_of v t) ≡ piece bytes i (4 * depth_count v s)
  depths_back First s i t is h = refl
  depths_back Second s i t is h = ap words is ∙ words_back bytes low i s h

  -- the header and the parts are all the bytes
  parts_back : (v : Version) (s c k x r : ℕ) (head depths : List ℕ) → head ≡ take 20 bytes →
      length bytes ≡ 20 + 12 * s + 4 * k + 8 * c + x → x ≡ record_length v * r →
      depths ≡ piece bytes (20 + 4 * s + 4 * s + 4 * s) (4 * k) →
      head ++ words (words_at bytes 20 s) ++ words (words_at bytes (20 + 4 * s) s) ++ words (words_at bytes (20 + 4 * s + 4 * s) s)
      ++ depths
      ++ words (words_at bytes (20 + 4 * s + 4 * s + 4 * s + 4 * k) c)
      ++ words (words_at bytes (20 + 4 * s + 4 * s + 4 * s + 4 * k + 4 * c) c)
      ++ concat (map (record_bytes v) (records_at v bytes (20 + 4 * s + 4 * s + 4 * s + 4 * k + 4 * c + 4 * c) r)) ≡ bytes
  parts_back v s c k x r head p h size is deep =
      let i : ℕ = 20 + 4 * s in
      let j : ℕ = 20 + 4 * s + 4 * s in
      let q : ℕ = 20 + 4 * s + 4 * s + 4 * s in
      let y : ℕ = 20 + 4 * s + 4 * s + 4 * s + 4 * k in
      let l : ℕ = 20 + 4 * s + 4 * s + 4 * s + 4 * k + 4 * c in
      let m : ℕ = 20 + 4 * s + 4 * s + 4 * s + 4 * k + 4 * c + 4 * c in
      let d : List ℕ = words (words_at bytes 20 s) in
      let b : List ℕ = words (words_at bytes i s) in
      let a : List ℕ = words (words_at bytes j s) in
      let n : List ℕ = words (words_at bytes y c) in
      let e : List ℕ = words (words_at bytes l c) in
      let f : List ℕ = concat (map (record_bytes v) (records_at v bytes m r)) in
      let kept : concat (map (record_bytes v) (records_at v bytes m r)) ≡ piece bytes m x =
      records_back bytes low v m r (subst (λ z. m + z ≤ length bytes) is (omega arith)) ∙ ap (piece bytes m) (sym is) in
      fronts bytes m x (head ++ d ++ b ++ a ++ p ++ n ++ e) f
      (fronts bytes l (4 * c) (head ++ d ++ b ++ a ++ p ++ n) e
      (fronts bytes y (4 * c) (head ++ d ++ b ++ a ++ p) n
      (fronts bytes q (4 * k) (head ++ d ++ b ++ a) p
      (fronts bytes j (4 * s) (head ++ d ++ b) a
      (fronts bytes i (4 * s) (head ++ d) b
      (fronts bytes 20 (4 * s) head d h
      (words_back bytes low 20 s (omega arith)))
      (words_back bytes low i s (omega arith)))
      (words_back bytes low j s (omega arith)))
      deep)
      (words_back bytes low y c (omega arith)))
      (words_back bytes low l c (omega arith)))
      kept
      ∙ take_all (m + x) bytes (omega arith)

  -- version 1 can hold its table
  append_back : (i : ℕ) → hits_of (record_at First bytes i) Append ≡ hits_of (record_at First bytes i) Write
  unfolding record_at
  append_back i = refl

  appends_back : (i n : ℕ) → All (λ (r : Record). hits_of r Append ≡ hits_of r Write) (records_at First bytes i n)
  appends_back i zero = λ k d lt. absurd (omega (arith, lt))
  appends_back i (suc n) = All-push (λ (r : Record). hits_of r Append ≡ hits_of r Write) (records_at First bytes i n)
      (record_at First bytes (i + record_length First * n)) (appends_back i n) (append_back (i + record_length First * n))

  fits_back : (v : Version) → v ≡ First → FitsVersion1 (table_at v bytes)
  fits_back First e = record {
    bound = refl;
    depths = ap (λ n. replicate n 0) (sym (length_words_at bytes 20 (word_at bytes 8)));
    appends = appends_back _ (word_at bytes 16);
  }
  fits_back Second e = absurd (cc e)

  depths_long : (v : Version) (i n : ℕ) → length (depths_at v bytes i n) ≡ n
  depths_long First i n = length-replicate n 0
  depths_long Second i n = length_words_at bytes i n

  pub whole_is_image : (v : Version) → IsWholeOf v bytes → IsVersionOf v bytes (table_at v bytes)
  whole_is_image v w =
      let s : ℕ = word_at bytes 8 in
      let c : ℕ = word_at bytes 12 in
      let r : ℕ = word_at bytes 16 in
      let k : ℕ = depth_count v s in
      let i : ℕ = 20 + 4 * s in
      let j : ℕ = 20 + 4 * s + 4 * s in
      let q : ℕ = 20 + 4 * s + 4 * s + 4 * s in
      let y : ℕ = 20 + 4 * s + 4 * s + 4 * s + 4 * k in
      let l : ℕ = 20 + 4 * s + 4 * s + 4 * s + 4 * k + 4 * c in
      let m : ℕ = 20 + 4 * s + 4 * s + 4 * s + 4 * k + 4 * c + 4 * c in
      let states : length (words_at bytes 20 s) ≡ s = length_words_at bytes 20 s in
      let cells : length (words_at bytes y c) ≡ c = length_words_at bytes y c in
      let records : length (records_at v bytes m r) ≡ r = length_records_at v bytes m r in
      record {
        fits = fits_back v;
        room = table_room v;
        shaped = record {
          bases = length_words_at bytes i s ∙ sym states;
          accepts = length_words_at bytes j s ∙ sym states;
          checks = length_words_at bytes l c ∙ sym cells;
          depths = depths_long v q s ∙ sym states;
        };
        limits = subst (λ x. InLimits x (length (words_at bytes y c)) (length (records_at v bytes m r))) (sym states)
            (subst (λ x. InLimits s x (length (records_at v bytes m r))) (sym cells)
            (subst (λ x. InLimits s c x) (sym records) w.limits));
        is = sym (parts_back v s c k (record_length v * r) r (header_of v (table_at v bytes)) (words (depths_of v (table_at v bytes)))
            (head_back v (bound_of v (table_at v bytes)) (state_count (table_at v bytes)) (cell_count (table_at v bytes))
            (record_count (table_at v bytes))
            w.header w.magic w.version (bound_back v w.reserved) states cells records) w.whole refl
            (depths_back v s q (table_at v bytes) refl (let whole = w.whole in omega (arith, whole))));
      }
