-- One more state is packed.
use Rattle.std.proofs.Common.{◌≡◌, ◌≢◌, ◌⊎◌, inl, inr, ⊎_elim, ℕ, zero, suc, ◌+◌, ◌*◌, ◌<◌, ◌≤◌, true, false, true≢false, List}
use Rattle.std.proofs.Common.{[], ◌∷◌, ◌++◌, length, Some, slice_get, slice_index_or, refl, sym, ap, ap₂, ◌∙◌, arith}
use Rattle.std.specs.List.{Contains}
use Rattle.std.proofs.Math.Seq.{get_or-append_seam}
use Rattle.std.proofs.lemmas.Bool.{cases_lt}
use Rattle.std.proofs.lemmas.Bool.Decides.{eqb_tells}
use Rattle.std.proofs.lemmas.List.{length-append, get_or_append_left, get_or_past}
use Rattle.std.proofs.lemmas.List.Folds.{list_any_at}
use Rattle.std.proofs.lemmas.Option.{slice_get_within}
use Rattle.automaton_rows.specs.Automata.{Automaton, IsWhole, target}
use Rattle.names.specs.declared.record.Record.{Record}
use Rattle.tables.specs.Tables.{Table, default_of, depth_of}
use Rattle.table_image.specs.Chains.{source}
use Rattle.table_image.specs.inner.PackSteps.{IsRecordNumber}
use Rattle.table_image.proofs.RecordNumbers.{no_fewer, record_kept}
use Rattle.table_image.specs.declared.taken.Taken.{Taken}
use Rattle.table_image.specs.inner.TakenCells.{is_taken, is_blocked}
use Rattle.table_image.specs.inner.PackSteps.{free, without_cell, AreOthers, IsCell, IsPacked, IsPlaced}
use Rattle.table_image.proofs.ChainedTables.{source_there}

earlier : (xs : List ℕ) (x k : ℕ) → k < length xs → slice_index_or (xs ++ x ∷ []) k 0 ≡ slice_index_or xs k 0
earlier xs x k lt = get_or_append_left xs (x ∷ []) 0 k lt

newest : (xs : List ℕ) (x k : ℕ) → k ≡ length xs → slice_index_or (xs ++ x ∷ []) k 0 ≡ x
newest xs x k at = ap (λ z. slice_index_or (xs ++ x ∷ []) z 0) at ∙ get_or-append_seam xs x [] 0

-- whether a cell is one of the row's
cell_or_not : (base : ℕ) (bytes : List ℕ) (c : ℕ) → IsCell base bytes c ⊎ ¬ (IsCell base bytes c)
cell_or_not base [] c = inr (λ h. omega (arith, h.1.1))
cell_or_not base (b ∷ bytes) c = ⊎_elim
    (λ h. inl (b, (0, omega arith, refl), h.1))
    (λ other. ⊎_elim
    (λ h. inl (h.0, (suc h.1.0, omega (arith, h.1.1), h.1.2), h.2))
    (λ none. inr (λ h. in_either other.1 none h.0 h.1.0 h.1.1 h.1.2 h.2))
    (cell_or_not base bytes c))
    (eqb_tells c (base + b))
  where
    in_either : c ≢ base + b → ¬ (IsCell base bytes c) → (x i : ℕ) → i < length (b ∷ bytes) → slice_index_or (b ∷ bytes) i x ≡ x →
        c ≡ base + x → ⊥
    in_either other none x zero lt e at = other (at ∙ ap (λ z. base + z) (sym e))
    in_either other none x (suc i) lt e at = none (x, (i, omega (arith, lt), e), at)

-- a cell of the row isn't taken where the base isn't blocked
untaken : (taken : Taken) (bytes : List ℕ) (base b : ℕ) → is_blocked taken bytes base ≡ false → Contains bytes b →
    is_taken taken (base + b) ≡ false
untaken taken bytes base b none there = elim (is_taken taken (base + b)) as (λ z. is_taken taken (base + b) ≡ z → z ≡ false) [
  | true ↦ λ e. absurd
      (true≢false (sym (list_any_at (λ x. is_taken taken (base + x)) bytes there.0 b there.1
      (ap (λ z. is_taken taken (base + z)) there.2 ∙ e)) ∙ none))
  | false ↦ λ e. refl
] refl

module _ (a : Automaton) (whole : IsWhole a) (t : Table) (taken : Taken) (s : ℕ) (low_state : s < 16384) (packed : IsPacked a t taken s)
    (r : Record) (number : ℕ) (records : List Record) (hits : slice_get a.records (source a s) ≡ Some r)
    (numbered : IsRecordNumber t.records records r number)
    (default : ℕ) (default_there : default < length a.rows) (depth bound : ℕ) (deep : depth ≤ bound) (more : t.depth_bound ≤ bound)
    (chain : (depth ≡ 0) ⊎ ((default < s) × (depth_of t default < depth)))
    (bytes targets : List ℕ) (others : AreOthers (target a (source a s)) (without_cell a default depth) bytes targets)
    (base : ℕ) (next2 check2 : List ℕ) (taken2 : Taken)
    (placed : IsPlaced t.next t.check taken next2 check2 taken2 targets bytes s base) where
  abbrev pub new : Table
  new = record {
    default = t.default ++ default ∷ [];
    base = t.base ++ base ∷ [];
    accept = t.accept ++ number ∷ [];
    next = next2;
    check = check2;
    records = records;
    depth_bound = bound;
    depth = t.depth ++ depth ∷ [];
  }

  is_state : (k : ℕ) → k < s + 1 → s ≤ k → k ≡ s
  is_state k lt le = omega (arith, lt, le)

  base_old : (k : ℕ) → k < s → slice_index_or new.base k 0 ≡ slice_index_or t.base k 0
  base_old k lt = earlier t.base base k (omega (arith, lt, packed.bases_long))

  base_new : (k : ℕ) → k ≡ s → slice_index_or new.base k 0 ≡ base
  base_new k e = newest t.base base k (omega (arith, e, packed.bases_long))

  default_old : (k : ℕ) → k < s → default_of new k ≡ default_of t k
  default_old k lt = earlier t.default default k (omega (arith, lt, packed.defaults_long))

  default_new : (k : ℕ) → k ≡ s → default_of new k ≡ default
  default_new k e = newest t.default default k (omega (arith, e, packed.defaults_long))

  depth_old : (k : ℕ) → k < s → depth_of new k ≡ depth_of t k
  depth_old k lt = earlier t.depth depth k (omega (arith, lt, packed.depths_long))

  depth_new : (k : ℕ) → k ≡ s → depth_of new k ≡ depth
  depth_new k e = newest t.depth depth k (omega (arith, e, packed.depths_long))

  -- without a cell, a state leads on as before
  leads_same : (k d n b : ℕ) → default_of new k ≡ d → depth_of new k ≡ n →
      without_cell a (default_of new k) (depth_of new k) b ≡ without_cell a d n b
  leads_same k d n b same_default same_depth = ap₂ (λ x y. without_cell a x y b) same_default same_depth

  long : length next2 ≡ length placed.made_next
  long = placed.written.next_long

  -- a cell that isn't the row's is as before
  check_same : (c : ℕ) → c < length t.next → ¬ (IsCell base bytes c) → slice_index_or check2 c 0 ≡ slice_index_or t.check c 0
  check_same c lt none = (placed.written.others c none).0 ∙ placed.made.check_kept c lt

  next_same : (c : ℕ) → ¬ (IsCell base bytes c) → slice_index_or next2 c 0 ≡ slice_index_or t.next c 0
  next_same c none = (placed.written.others c none).1 ∙ placed.made.next_kept c

  taken_same : (c : ℕ) → ¬ (IsCell base bytes c) → is_taken taken2 c ≡ is_taken taken c
  taken_same c none = (placed.written.others c none).2 ∙ placed.made.taken_kept c

  check_own : (c : ℕ) → IsCell base bytes c → slice_index_or check2 c 0 ≡ s
  check_own c h = ap (λ z. slice_index_or check2 z 0) h.2 ∙ (placed.written.own h.0 h.1).0

  next_own : (c : ℕ) (h : IsCell base bytes c) → slice_index_or next2 c 0 ≡ slice_index_or targets h.0 0
  next_own c h = ap (λ z. slice_index_or next2 z 0) h.2 ∙ (placed.written.own h.0 h.1).1

  -- the row's cells were free
  was_free : (c : ℕ) → c < length t.next → IsCell base bytes c → slice_index_or t.check c 0 ≡ free
  was_free c lt h = ⊎_elim
      (λ e. e)
      (λ k. absurd (true≢false (sym k.1 ∙ ap (is_taken taken) h.2 ∙ untaken taken bytes base h.0 placed.free h.1)))
      (packed.checks c (omega (arith, lt, packed.checks_long)))

  -- no cell had this owner before
  not_own : (c : ℕ) → c < length placed.made_next → slice_index_or placed.made_check c 0 ≢ s
  not_own c lt e = ⊎_elim
      (λ old. ⊎_elim
      (λ f. omega (arith, sym (placed.made.check_kept c old) ∙ e, f, low_state))
      (λ k. omega (arith, sym (placed.made.check_kept c old) ∙ e, k.0))
      (packed.checks c (omega (arith, old, packed.checks_long))))
      (λ fresh. omega (arith, placed.made.check_free c fresh lt, e, low_state))
      (cases_lt c (length t.next))

  few : length next2 ≤ 256 * (s + 1)
  few = ⊎_elim
      (λ e. omega (arith, e, long, packed.few_cells))
      (λ e. omega (arith, e, long, placed.low))
      placed.made.no_more

  owned : (k b : ℕ) → k < s + 1 → b < 256 → slice_index_or check2 (slice_index_or new.base k 0 + b) 0 ≡ k →
      slice_index_or next2 (slice_index_or new.base k 0 + b) 0 ≡ target a (source a k) b
  owned k b lt small own = ⊎_elim
      (λ old.
      let c : ℕ = slice_index_or t.base k 0 + b in
      let at : slice_index_or new.base k 0 + b ≡ c = ap (λ z. z + b) (base_old k old) in
      let there : c < length t.next = let room = packed.base k old in omega (arith, room, small) in
      let mine : slice_index_or check2 c 0 ≡ k = ap (λ z. slice_index_or check2 z 0) (sym at) ∙ own in
      ap (λ z. slice_index_or next2 z 0) at ∙ ⊎_elim
      (λ h. absurd (omega (arith, old, sym mine ∙ check_own c h)))
      (λ none. next_same c none ∙ packed.owned k b old small (sym (check_same c there none) ∙ mine))
      (cell_or_not base bytes c))
      (λ le.
      let now : k ≡ s = is_state k lt le in
      let c : ℕ = base + b in
      let at : slice_index_or new.base k 0 + b ≡ c = ap (λ z. z + b) (base_new k now) in
      let mine : slice_index_or check2 c 0 ≡ s = ap (λ z. slice_index_or check2 z 0) (sym at) ∙ own ∙ now in
      ap (λ z. slice_index_or next2 z 0) at ∙ ⊎_elim
      (λ h.
      let same : h.0 ≡ b = omega (arith, h.2) in
      next_own c h ∙ (others.only h.0 h.1).2 ∙ ap (target a (source a s)) same ∙ ap (λ z. target a (source a z) b) (sym now))
      (λ none. absurd (not_own c (omega (arith, placed.made.enough, small)) (sym (placed.written.others c none).0 ∙ mine)))
      (cell_or_not base bytes c))
      (cases_lt k s)

  unowned : (k b : ℕ) → k < s + 1 → b < 256 → slice_index_or check2 (slice_index_or new.base k 0 + b) 0 ≢ k →
      without_cell a (default_of new k) (depth_of new k) b ≡ target a (source a k) b
  unowned k b lt small other = ⊎_elim
      (λ old.
      let c : ℕ = slice_index_or t.base k 0 + b in
      let at : slice_index_or new.base k 0 + b ≡ c = ap (λ z. z + b) (base_old k old) in
      let there : c < length t.next = let room = packed.base k old in omega (arith, room, small) in
      leads_same k (default_of t k) (depth_of t k) b (default_old k old) (depth_old k old) ∙ packed.unowned k b old small (λ was. ⊎_elim
      (λ h. omega (arith, sym was ∙ was_free c there h, old, low_state))
      (λ none. other (ap (λ z. slice_index_or check2 z 0) at ∙ check_same c there none ∙ was))
      (cell_or_not base bytes c)))
      (λ le.
      let now : k ≡ s = is_state k lt le in
      let at : slice_index_or new.base k 0 + b ≡ base + b = ap (λ z. z + b) (base_new k now) in
      leads_same k default depth b (default_new k now) (depth_new k now) ∙ ⊎_elim
      (λ e. sym e.1 ∙ ap (λ z. target a (source a z) b) (sym now))
      (λ e. absurd (other (ap (λ z. slice_index_or check2 z 0) at ∙ (placed.written.own b (others.each b small e.1)).0 ∙ sym now)))
      (eqb_tells (target a (source a s) b) (without_cell a default depth b)))
      (cases_lt k s)

  next_there : (c : ℕ) → c < length next2 → slice_index_or next2 c 0 < length a.rows
  next_there c lt = ⊎_elim
      (λ h. let small = (others.only h.0 h.1).0 in
      omega (
        arith,
        next_own c h,
        (others.only h.0 h.1).2,
        whole.targets (source a s) h.0 (source_there a s whole) small,
      ))
      (λ none. ⊎_elim
      (λ old. omega (arith, next_same c none, packed.next c old))
      (λ fresh. let some = whole.start_there in omega (arith, next_same c none, get_or_past t.next c 0 fresh, some))
      (cases_lt c (length t.next)))
      (cell_or_not base bytes c)

  -- the state chains to one before it, whose depth is less, as those before it do
  chained : (k : ℕ) → k < s + 1 → (depth_of new k ≡ 0) ⊎ ((default_of new k < k) × (depth_of new (default_of new k) < depth_of new k))
  chained k lt = ⊎_elim
      (λ old. ⊎_elim
      (λ flat. inl (depth_old k old ∙ flat))
      (λ on. let near : default_of new k < k = omega (arith, default_old k old, on.0) in
      inr (
        near,
        omega (
          arith,
          depth_old k old,
          depth_old (default_of new k) (omega (arith, near, old)),
          ap (depth_of t) (default_old k old),
          on.1,
        ),
      ))
      (packed.chain k old))
      (λ le. let now : k ≡ s = is_state k lt le in ⊎_elim
      (λ flat. inl (depth_new k now ∙ flat))
      (λ on. let near : default_of new k < k = omega (arith, default_new k now, on.0, now) in
      inr (
        near,
        omega (
          arith,
          depth_new k now,
          depth_old (default_of new k) (omega (arith, near, now)),
          ap (depth_of t) (default_new k now),
          on.1,
        ),
      ))
      chain)
      (cases_lt k s)

  pub one_packed : IsPacked a new taken2 (s + 1)
  one_packed = record {
    defaults_long = omega (arith, length-append t.default (default ∷ []), packed.defaults_long);
    bases_long = omega (arith, length-append t.base (base ∷ []), packed.bases_long);
    accepts_long = omega (arith, length-append t.accept (number ∷ []), packed.accepts_long);
    depths_long = omega (arith, length-append t.depth (depth ∷ []), packed.depths_long);
    checks_long = omega (arith, placed.written.check_long, placed.made.long, long);
    few_cells = few;
    one_row = λ some. omega (arith, long, placed.made.enough);
    few_records = omega (arith, numbered.few, packed.few_records);
    few_words = ⊎_elim
        (λ e. omega (arith, e, placed.written.room, packed.few_words))
        (λ e. omega (arith, e, placed.written.room, placed.low))
        placed.made.few_words;
    record_at = λ k lt. ⊎_elim
        (λ old. ap (slice_get records) (earlier t.accept number k (omega (arith, old, packed.accepts_long)))
        ∙ record_kept t.records records r number numbered (slice_index_or t.accept k 0) (packed.accept k old)
        ∙ packed.record_at k old)
        (λ le. let now : k ≡ s = is_state k lt le in
        ap (slice_get records) (newest t.accept number k (omega (arith, now, packed.accepts_long)))
        ∙ numbered.at ∙ sym hits ∙ ap (λ z. slice_get a.records (source a z)) (sym now))
        (cases_lt k s);
    accept = λ k lt. ⊎_elim
        (λ old. omega (
          arith,
          earlier t.accept number k (omega (arith, old, packed.accepts_long)),
          packed.accept k old,
          no_fewer t.records records r number numbered,
        ))
        (λ le. let now : k ≡ s = is_state k lt le in
        omega (
          arith,
          newest t.accept number k (omega (arith, now, packed.accepts_long)),
          slice_get_within records number r numbered.at,
        ))
        (cases_lt k s);
    default = λ k lt. ⊎_elim
        (λ old. omega (arith, earlier t.default default k (omega (arith, old, packed.defaults_long)), packed.default k old))
        (λ le. let now : k ≡ s = is_state k lt le in
        omega (arith, newest t.default default k (omega (arith, now, packed.defaults_long)), default_there))
        (cases_lt k s);
    base = λ k lt. ⊎_elim
        (λ old. omega (arith, base_old k old, packed.base k old, placed.made.no_fewer, long))
        (λ le. omega (arith, base_new k (is_state k lt le), placed.made.enough, long))
        (cases_lt k s);
    next = next_there;
    owned = owned;
    unowned = unowned;
    depth = λ k lt. ⊎_elim
        (λ old. omega (arith, depth_old k old, packed.depth k old, more))
        (λ le. omega (arith, depth_new k (is_state k lt le), deep))
        (cases_lt k s);
    chain = chained;
    checks = λ c lt. ⊎_elim
        (λ h. inr (omega (arith, check_own c h), ap (is_taken taken2) h.2 ∙ (placed.written.own h.0 h.1).2))
        (λ none. ⊎_elim
        (λ old. ⊎_elim
        (λ e. inl (check_same c old none ∙ e))
        (λ k. inr (omega (arith, check_same c old none, k.0), taken_same c none ∙ k.1))
        (packed.checks c (omega (arith, old, packed.checks_long))))
        (λ fresh. inl ((placed.written.others c none).0 ∙ placed.made.check_free c fresh
        (omega (arith, lt, placed.written.check_long, placed.made.long))))
        (cases_lt c (length t.next)))
        (cell_or_not base bytes c);
    within = λ c is. ⊎_elim
        (λ h. let small = (others.only h.0 h.1).0 in omega (arith, h.2, small, placed.made.enough, long))
        (λ none. let old = packed.within c (sym (taken_same c none) ∙ is) in omega (arith, old, placed.made.no_fewer, long))
        (cell_or_not base bytes c);
  }

-- the tables with one more state
abbrev pub table_with : List ℕ → List ℕ → List ℕ → List ℕ → List ℕ → List Record → ℕ → List ℕ → Table
table_with x y z next2 check2 records bound depth = record {
  default = x;
  base = y;
  accept = z;
  next = next2;
  check = check2;
  records = records;
  depth_bound = bound;
  depth = depth;
}

pub new_table : (t : Table) (default base number depth : ℕ) (next2 check2 : List ℕ) (records : List Record) (bound : ℕ)
    (defaults bases accepts depths : List ℕ) →
    defaults ≡ t.default ++ default ∷ [] → bases ≡ t.base ++ base ∷ [] → accepts ≡ t.accept ++ number ∷ [] →
    depths ≡ t.depth ++ depth ∷ [] →
    table_with (t.default ++ default ∷ []) (t.base ++ base ∷ []) (t.accept ++ number ∷ []) next2 check2 records bound
    (t.depth ++ depth ∷ []) ≡ table_with defaults bases accepts next2 check2 records bound depths
new_table t default base number depth next2 check2 records bound defaults bases accepts depths d b n e =
    ap (λ (z : List ℕ). table_with z (t.base ++ base ∷ []) (t.accept ++ number ∷ []) next2 check2 records bound (t.depth ++ depth ∷ []))
    (sym d)
    ∙ ap (λ (z : List ℕ). table_with defaults z (t.accept ++ number ∷ []) next2 check2 records bound (t.depth ++ depth ∷ [])) (sym b)
    ∙ ap (λ (z : List ℕ). table_with defaults bases z next2 check2 records bound (t.depth ++ depth ∷ [])) (sym n)
    ∙ ap (λ (z : List ℕ). table_with defaults bases accepts next2 check2 records bound z) (sym e)

-- nothing is packed yet
pub none_packed : (a : Automaton) (t : Table) (taken : Taken) → length t.default ≡ 0 → length t.base ≡ 0 → length t.accept ≡ 0 →
    length t.next ≡ 0 → length t.check ≡ 0 → length t.records ≡ 0 → length t.depth ≡ 0 → length taken.words.items ≡ 0 →
    ((c : ℕ) → is_taken taken c ≡ false) → IsPacked a t taken 0
none_packed a t taken d b n next check records depths words none = record {
  defaults_long = d;
  bases_long = b;
  accepts_long = n;
  depths_long = depths;
  checks_long = check ∙ sym next;
  few_cells = omega (arith, next);
  one_row = λ some. omega (arith, some);
  few_records = omega (arith, records);
  few_words = omega (arith, words);
  record_at = λ s lt. absurd (omega (arith, lt));
  accept = λ s lt. absurd (omega (arith, lt));
  default = λ s lt. absurd (omega (arith, lt));
  base = λ s lt. absurd (omega (arith, lt));
  next = λ c lt. absurd (omega (arith, lt, next));
  owned = λ s x lt. absurd (omega (arith, lt));
  unowned = λ s x lt. absurd (omega (arith, lt));
  depth = λ s lt. absurd (omega (arith, lt));
  chain = λ s lt. absurd (omega (arith, lt));
  checks = λ c lt. absurd (omega (arith, lt, check));
  within = λ c is. absurd (true≢false (sym is ∙ none c));
}

-- taken cells stay taken
pub grown : (next check : List ℕ) (taken : Taken) (new_next new_check : List ℕ) (new_taken : Taken) (targets bytes : List ℕ)
    (state base : ℕ) → IsPlaced next check taken new_next new_check new_taken targets bytes state base →
    (c : ℕ) → is_taken taken c ≡ true → is_taken new_taken c ≡ true
grown next check taken new_next new_check new_taken targets bytes state base placed c is = ⊎_elim
    (λ h. ap (is_taken new_taken) h.2 ∙ (placed.written.own h.0 h.1).2)
    (λ none. (placed.written.others c none).2 ∙ placed.made.taken_kept c ∙ is)
    (cell_or_not base bytes c)
