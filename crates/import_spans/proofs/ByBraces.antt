-- The rules of the chosen profile are those that the braces say are directly in it.
use Rattle.std.proofs.Common.{◌≡◌, ◌≢◌, ◌⊎◌, inl, inr, ℕ, suc, ◌+◌, ◌-◌, ◌<◌, ◌==◌, Bool, true, false, ◌&&◌}
use Rattle.std.proofs.Common.{cond, List, [], ◌∷◌, ◌++◌, length}
use Rattle.std.proofs.Common.{drop, refl, sym, ap, ◌∙◌, subst, eq-eqb, arith}
use Rattle.std.proofs.lemmas.Bool.{and_parts, eqb-true, eqb-false, ne_eqb}
use Rattle.std.proofs.lemmas.List.{append-nil, length-append}
use Rattle.apparmor_text.specs.declared.part.ItemKind.{ItemKind}
use Rattle.apparmor_text.specs.declared.part.ItemKind.TheVariants as items
use Rattle.apparmor_text.specs.Parts.{PartValue, ItemValue}
use Rattle.apparmor_rules.specs.RuleParts.{rule_whats}
use Rattle.apparmor_rules.specs.RuleWords.{has_part}
use Rattle.apparmor_rules.specs.declared.what.What.{What}
use Rattle.apparmor_rules.specs.declared.what.What.TheVariants as whats
use Rattle.apparmor_rules.specs.Changes.{effect}
use Rattle.apparmor_rules.specs.Restatement.{is_restated}
use Rattle.import_spans.specs.declared.cut.Phase.{Phase}
use Rattle.import_spans.specs.declared.cut.Phase.TheVariants.{Outer, Skipping, Chosen}
use Rattle.import_spans.specs.declared.cut.Run.{Run}
use Rattle.import_spans.specs.declared.context.Choice.{Choice}
use Rattle.import_spans.specs.declared.context.RuleReading.{RuleReading}
use Rattle.import_spans.specs.declared.span.SpanKind.{SpanKind}
use Rattle.import_spans.specs.declared.span.SpanKind.TheVariants.{Kept}
use Rattle.import_spans.specs.declared.reports.PartTelling.{PartTelling}
use Rattle.import_spans.specs.declared.reports.PartTelling.TheVariants.{Plain, OfHead, OfRule}
use Rattle.import_spans.specs.PartSpans.{told, part_kind, statement_whats, statement_effect, changes_profile}
use Rattle.import_spans.specs.CutStates.{CutState, at_start, pass, put, enter, opened, closed, with_hat, with_change}
use Rattle.import_spans.specs.CutStates.{passed, put_item, put_parts}
use Rattle.import_spans.specs.Cuts.{run_kind, behind_run, start_run, chosen_head, outer_head, run_head, child_head, run_close}
use Rattle.import_spans.specs.Cuts.{chosen_close, statement_item, chosen_rule, outer_item, run_item, chosen_item, plain_item, is_rule}
use Rattle.import_spans.specs.Cuts.{is_chosen, is_hat, is_chosen_rule, cut_item, cut_items}
use Rattle.import_spans.specs.Nests.{Nesting, in_none, nested, nesting_after, is_innermost, is_rule_of}

-- ---- lists of open profiles

-- each number is less than the one before it, and the first than this
abbrev Falls : ℕ → List ℕ → Type 0
Falls above [] = Unit {0}
Falls above (n ∷ numbers) = (n < above) × Falls n numbers

-- the number isn't among these
abbrev IsApart : ℕ → List ℕ → Type 0
IsApart p [] = Unit {0}
IsApart p (n ∷ numbers) = (n ≢ p) × IsApart p numbers

falls_further : (above more : ℕ) (numbers : List ℕ) → above < more → Falls above numbers → Falls more numbers
falls_further above more [] less h = tt
falls_further above more (n ∷ numbers) less h = let low = h.0 in (omega (arith, less, low), h.1)

apart_below : (p above : ℕ) (numbers : List ℕ) → above < suc p → Falls above numbers → IsApart p numbers
apart_below p above [] less h = tt
apart_below p above (n ∷ numbers) less h =
    let low = h.0 in
    (λ same. omega (arith, less, low, same), apart_below p n numbers (omega (arith, less, low)) h.1)

tail_falls : (above : ℕ) (numbers : List ℕ) → Falls above numbers → Falls above (drop 1 numbers)
tail_falls above [] h = tt
tail_falls above (n ∷ numbers) h = falls_further n above numbers h.0 h.1

tail_length : (numbers : List ℕ) → length (drop 1 numbers) ≡ length numbers - 1
tail_length [] = refl
tail_length (n ∷ numbers) = omega arith

empty_list : (numbers : List ℕ) → length numbers ≡ 0 → numbers ≡ []
empty_list [] e = refl
empty_list (n ∷ numbers) e = absurd (omega (arith, e))

-- ---- where in the text each phase is

-- A run is of the profiles `inner`, which are open within those that were when it began: none, or the chosen one and others.
record IsRun (p floor : ℕ) (numbers : List ℕ) : Type 0 where
  pub inner : List ℕ
  pub rest : List ℕ
  pub open_is : numbers ≡ inner ++ rest
  pub floor_is : length rest ≡ floor
  pub some : 0 < length inner
  pub apart : IsApart p inner
  pub begun : (rest ≡ []) ⊎ ((outer : List ℕ) × (rest ≡ p ∷ outer))

abbrev IsPhase : ℕ → Phase → List ℕ → Type 0
IsPhase p Outer numbers = numbers ≡ []
IsPhase p (Skipping run) numbers = IsRun p run.floor numbers
IsPhase p Chosen numbers = (outer : List ℕ) × (numbers ≡ p ∷ outer)

-- a state of the cutting, and what the braces say
record Agrees (c of : Choice) (phase : Phase) (depth heads : ℕ) (n : Nesting) : Type 0 where
  pub choice : of ≡ c
  pub depth_is : depth ≡ length n.still_open
  pub heads_are : heads ≡ n.begun
  pub falls : Falls n.begun n.still_open
  pub there : IsPhase c.profile phase n.still_open

module _ (c : Choice) where
  abbrev Is : CutState → Nesting → Type 0
  Is s n = Agrees c s.choice s.phase s.depth s.heads n

  -- spans change nothing of it
  putting : (kind : SpanKind) (s : CutState) (n : Nesting) → Is s n → Is (put kind s) n
  putting kind s n a = at (s.from == s.at)
    where
      at : (b : Bool)
          → Is (cond b s (record s { from = s.at; spans = s.spans ++ (record { start = s.from; end = s.at; kind = kind } ∷ []) })) n
      at true = a
      at false = a

  putting_parts : (telling : PartTelling) (parts : List PartValue) (s : CutState) (n : Nesting) → Is s n → Is (put_parts telling parts s) n
  putting_parts telling [] s n a = a
  putting_parts telling (p ∷ parts) s n a =
      let kind = part_kind telling s.choice.subject p in
      let now = pass (length p.bytes) s in
      putting_parts telling parts (put kind now) n (putting kind now n a)

  -- ---- heads

  abbrev more : Nesting → Nesting
  more n = record { begun = suc n.begun; still_open = n.begun ∷ n.still_open }

  opening : (phase : Phase) (s : CutState) (n : Nesting) → Is s n → IsPhase c.profile phase (n.begun ∷ n.still_open) →
      Agrees c s.choice phase (s.depth + 1) (s.heads + 1) (more n)
  opening phase s n a there =
      let depth = a.depth_is in
      let heads = a.heads_are in
      record {
        choice = a.choice;
        depth_is = omega (arith, depth);
        heads_are = omega (arith, heads);
        falls = (omega arith, a.falls);
        there = there;
      }

  chosen_heads : (item : ItemValue) (s : CutState) (n : Nesting) → Is s n → n.begun ≡ c.profile → Is (chosen_head item s) (more n)
  unfolding chosen_head
  chosen_heads item s n a is = at (has_part is_hat item.parts)
    where
      there : IsPhase c.profile Chosen (n.begun ∷ n.still_open)
      there = (n.still_open, ap (λ (x : ℕ). x ∷ n.still_open) is)

      at : (b : Bool) → Is (put_parts OfHead item.parts (opened (enter Chosen (cond b (with_hat s) s)))) (more n)
      at true = putting_parts OfHead item.parts (opened (enter Chosen (with_hat s))) (more n) (opening Chosen s n a there)
      at false = putting_parts OfHead item.parts (opened (enter Chosen s)) (more n) (opening Chosen s n a there)

  runs_start : (what : What) (item : ItemValue) (s : CutState) (n : Nesting) → Is s n → n.begun ≢ c.profile →
      (n.still_open ≡ []) ⊎ ((outer : List ℕ) × (n.still_open ≡ c.profile ∷ outer)) → Is (start_run what item s) (more n)
  unfolding start_run
  runs_start what item s n a isnt begun =
      opening (Skipping (record { what = what; floor = s.depth })) s n a
      (record {
        inner = n.begun ∷ [];
        rest = n.still_open;
        open_is = refl;
        floor_is = sym a.depth_is;
        some = omega arith;
        apart = (isnt, tt);
        begun = begun;
      })

  same_test : (s : CutState) (n : Nesting) → Is s n → (s.heads == s.choice.profile) ≡ (n.begun == c.profile)
  same_test s n a = ap (λ (m : ℕ). m == s.choice.profile) a.heads_are ∙ ap (λ (x : Choice). n.begun == x.profile) a.choice

  outer_heads : (item : ItemValue) (s : CutState) (n : Nesting) → Is s n → n.still_open ≡ [] → Is (outer_head item s) (more n)
  unfolding outer_head
  outer_heads item s n a none = at (s.heads == s.choice.profile) refl (cond (s.heads == s.choice.outermost) whats.Parent whats.Profile)
    where
      at : (b : Bool) → (s.heads == s.choice.profile) ≡ b → (word : What) →
          Is (cond b (chosen_head item s) (start_run word item s)) (more n)
      at true e word = chosen_heads item s n a (eqb-true n.begun c.profile (sym (same_test s n a) ∙ e))
      at false e word = runs_start word item s n a (eqb-false n.begun c.profile (sym (same_test s n a) ∙ e)) (inl none)

  -- the run has one more profile
  deeper : (floor : ℕ) (n : Nesting) → n.begun ≢ c.profile → IsRun c.profile floor n.still_open →
      IsRun c.profile floor (n.begun ∷ n.still_open)
  deeper floor n isnt r = record {
    inner = n.begun ∷ r.inner;
    rest = r.rest;
    open_is = ap (λ (x : List ℕ). n.begun ∷ x) r.open_is;
    floor_is = r.floor_is;
    some = omega arith;
    apart = (isnt, r.apart);
    begun = r.begun;
  }

  run_heads : (run : Run) (item : ItemValue) (s : CutState) (n : Nesting) → s.phase ≡ Skipping run → Is s n →
      Is (run_head run.what item s) (more n)
  unfolding run_head
  run_heads run item s n is a = at (s.heads == s.choice.profile) refl
    where
      skips : IsRun c.profile run.floor n.still_open
      skips = subst (λ (x : Phase). IsPhase c.profile x n.still_open) is a.there

      at : (b : Bool) → (s.heads == s.choice.profile) ≡ b →
          Is (cond b (chosen_head item (put (run_kind s.choice.subject run.what) s)) (passed item (opened s))) (more n)
      at true e = chosen_heads item (put (run_kind s.choice.subject run.what) s) n (putting (run_kind s.choice.subject run.what) s n a)
          (eqb-true n.begun c.profile (sym (same_test s n a) ∙ e))
      at false e =
          let isnt = eqb-false n.begun c.profile (sym (same_test s n a) ∙ e) in
          opening s.phase s n a (subst (λ (x : Phase). IsPhase c.profile x (n.begun ∷ n.still_open)) (sym is)
          (deeper run.floor n isnt skips))

  child_heads : (what : What) (item : ItemValue) (s : CutState) (n : Nesting) → s.phase ≡ Chosen → Is s n →
      Is (child_head what item s) (more n)
  unfolding child_head
  child_heads what item s n is a =
      let there : IsPhase c.profile Chosen n.still_open = subst (λ (x : Phase). IsPhase c.profile x n.still_open) is a.there in
      let falls : Falls n.begun (c.profile ∷ there.0) = subst (Falls n.begun) there.1 a.falls in
      let less = falls.0 in
      runs_start what item (with_hat s) n a (λ same. omega (arith, less, same)) (inr there)

  -- ---- ends of profiles

  abbrev fewer : Nesting → Nesting
  fewer n = record { begun = n.begun; still_open = drop 1 n.still_open }

  closing : (phase : Phase) (s : CutState) (n : Nesting) → Is s n → IsPhase c.profile phase (drop 1 n.still_open) →
      Agrees c s.choice phase (s.depth - 1) s.heads (fewer n)
  closing phase s n a there =
      let depth = a.depth_is in
      let less = tail_length n.still_open in
      record {
        choice = a.choice;
        depth_is = omega (arith, depth, less);
        heads_are = a.heads_are;
        falls = tail_falls n.begun n.still_open a.falls;
        there = there;
      }

  -- what is open once a run has one profile less
  left_of_run : (floor : ℕ) (inner rest : List ℕ) → length rest ≡ floor → 0 < length inner → IsApart c.profile inner →
      (rest ≡ []) ⊎ ((outer : List ℕ) × (rest ≡ c.profile ∷ outer)) →
      ((length (inner ++ rest) - 1 ≡ floor) → IsPhase c.profile (behind_run floor) (drop 1 (inner ++ rest)))
      × ((length (inner ++ rest) - 1 ≢ floor) → IsRun c.profile floor (drop 1 (inner ++ rest)))
  left_of_run floor [] rest is some apart begun = absurd (omega (arith, some))
  left_of_run floor (x ∷ inner) rest is some apart begun = (
    λ same. ended (empty_list inner (shorter same)) begun,
    λ goes_on. record {
      inner = inner;
      rest = rest;
      open_is = refl;
      floor_is = is;
      some = longer inner goes_on;
      apart = apart.1;
      begun = begun;
    },
  )
    where
      all : length (inner ++ rest) ≡ length inner + length rest
      all = length-append inner rest

      shorter : (length (x ∷ (inner ++ rest)) - 1 ≡ floor) → length inner ≡ 0
      shorter same = omega (arith, all, is, same)

      longer : (others : List ℕ) → (length (x ∷ (others ++ rest)) - 1 ≢ floor) → 0 < length others
      longer [] goes_on = absurd (goes_on (omega (arith, is)))
      longer (y ∷ others) goes_on = omega arith

      ended : inner ≡ [] → (rest ≡ []) ⊎ ((outer : List ℕ) × (rest ≡ c.profile ∷ outer)) →
          IsPhase c.profile (behind_run floor) (inner ++ rest)
      ended none (inl nothing) =
          let zero : (floor == 0) ≡ true = eq-eqb floor 0 (sym is ∙ ap length nothing) in
          subst (λ (b : Bool). IsPhase c.profile (cond b Outer Chosen) (inner ++ rest)) (sym zero)
          (ap (λ (l : List ℕ). l ++ rest) none ∙ nothing)
      ended none (inr outer) =
          let some : floor ≡ suc (length outer.0) = sym is ∙ ap length outer.1 in
          let isnt : (floor == 0) ≡ false = ne_eqb floor 0 (λ zero. omega (arith, some, zero)) in
          subst (λ (b : Bool). IsPhase c.profile (cond b Outer Chosen) (inner ++ rest)) (sym isnt)
          (outer.0, ap (λ (l : List ℕ). l ++ rest) none ∙ outer.1)

  run_closes : (run : Run) (item : ItemValue) (s : CutState) (n : Nesting) → s.phase ≡ Skipping run → Is s n →
      Is (run_close run item s) (fewer n)
  unfolding run_close
  run_closes run item s n is a = at ((closed s).depth == run.floor) refl
    where
      r : IsRun c.profile run.floor n.still_open
      r = subst (λ (x : Phase). IsPhase c.profile x n.still_open) is a.there

      left : ((length n.still_open - 1 ≡ run.floor) → IsPhase c.profile (behind_run run.floor) (drop 1 n.still_open))
          × ((length n.still_open - 1 ≢ run.floor) → IsRun c.profile run.floor (drop 1 n.still_open))
      left = subst (λ (o : List ℕ). ((length o - 1 ≡ run.floor) → IsPhase c.profile (behind_run run.floor) (drop 1 o))
          × ((length o - 1 ≢ run.floor) → IsRun c.profile run.floor (drop 1 o))) (sym r.open_is)
          (left_of_run run.floor r.inner r.rest r.floor_is r.some r.apart r.begun)

      at : (b : Bool) → ((closed s).depth == run.floor) ≡ b
          → Is (cond b (enter (behind_run run.floor) (put_item (run_kind s.choice.subject run.what) item (closed s)))
          (passed item (closed s))) (fewer n)
      at true e =
          let same : length n.still_open - 1 ≡ run.floor = ap (λ (d : ℕ). d - 1) (sym a.depth_is) ∙ eqb-true (s.depth - 1) run.floor e in
          entered (run_kind s.choice.subject run.what) (behind_run run.floor) (passed item (closed s))
          (closing (behind_run run.floor) s n a (left.0 same))
        where
          entered : (kind : SpanKind) (phase : Phase) (t : CutState) → Agrees c t.choice phase t.depth t.heads (fewer n) →
              Is (enter phase (put kind t)) (fewer n)
          entered kind phase t g = by (t.from == t.at)
            where
              by : (b : Bool) → Is (enter phase (cond b t (record t {
                from = t.at;
                spans = t.spans ++ (record { start = t.from; end = t.at; kind = kind } ∷ []);
              }))) (fewer n)
              by true = g
              by false = g
      at false e =
          let other = eqb-false (s.depth - 1) run.floor e in
          let depth = a.depth_is in
          closing s.phase s n a (subst (λ (x : Phase). IsPhase c.profile x (drop 1 n.still_open)) (sym is)
          (left.1 (λ same. other (ap (λ (d : ℕ). d - 1) depth ∙ same))))

  -- after the chosen profile: none is open, or those that it is in
  chosen_closes : (item : ItemValue) (s : CutState) (n : Nesting) → s.phase ≡ Chosen → Is s n → Is (chosen_close item s) (fewer n)
  unfolding chosen_close
  chosen_closes item s n is a =
      let there : IsPhase c.profile Chosen n.still_open = subst (λ (x : Phase). IsPhase c.profile x n.still_open) is a.there in
      let falls : Falls n.begun (c.profile ∷ there.0) = subst (Falls n.begun) there.1 a.falls in
      let depth : s.depth - 1 ≡ length there.0 = ap (λ (d : ℕ). d - 1) (a.depth_is ∙ ap length there.1) ∙ one_less there.0 in
      entered (cond ((closed s).depth == 0) Outer (Skipping (record { what = whats.Parent; floor = 0 }))) (passed item (closed s))
      (closing (cond ((closed s).depth == 0) Outer (Skipping (record { what = whats.Parent; floor = 0 }))) s n a
      (subst (λ (o : List ℕ). IsPhase c.profile (cond ((closed s).depth == 0) Outer
      (Skipping (record { what = whats.Parent; floor = 0 }))) (drop 1 o)) (sym there.1)
      (at there.0 depth falls.1 ((closed s).depth == 0) refl)))
    where
      one_less : (outer : List ℕ) → length (c.profile ∷ outer) - 1 ≡ length outer
      one_less outer = omega arith

      at : (outer : List ℕ) → s.depth - 1 ≡ length outer → Falls c.profile outer → (b : Bool) → ((closed s).depth == 0) ≡ b →
          IsPhase c.profile (cond b Outer (Skipping (record { what = whats.Parent; floor = 0 }))) outer
      at outer depth falls true e = empty_list outer (sym depth ∙ eqb-true (s.depth - 1) 0 e)
      at outer depth falls false e =
          let some = eqb-false (s.depth - 1) 0 e in
          record {
            inner = outer;
            rest = [];
            open_is = sym (append-nil outer);
            floor_is = refl;
            some = omega (arith, some, depth);
            apart = apart_below c.profile c.profile outer (omega arith) falls;
            begun = inl refl;
          }

      entered : (phase : Phase) (t : CutState) → Agrees c t.choice phase t.depth t.heads (fewer n) →
          Is (enter phase (put Kept t)) (fewer n)
      entered phase t g = by (t.from == t.at)
        where
          by : (b : Bool) → Is (enter phase (cond b t (record t {
            from = t.at;
            spans = t.spans ++ (record { start = t.from; end = t.at; kind = Kept } ∷ []);
          }))) (fewer n)
          by true = g
          by false = g

  -- ---- items

  statements_go : (item : ItemValue) (s : CutState) (n : Nesting) → Is s n → Is (statement_item item s) n
  unfolding statement_item
  statements_go item s n a = at (changes_profile (statement_whats item.parts))
      (told (statement_whats item.parts) (statement_effect s.choice.subject (statement_whats item.parts)))
    where
      at : (b : Bool) (kind : SpanKind) → Is (put_item kind item (cond b (with_change s) s)) n
      at true kind = putting kind (passed item (with_change s)) n a
      at false kind = putting kind (passed item s) n a

  outer_items : (kind : ItemKind) (item : ItemValue) (s : CutState) (n : Nesting) → Is s n → n.still_open ≡ [] → s.phase ≡ Outer →
      Is (outer_item kind item s) (nested kind n)
  unfolding outer_item
  outer_items items.Blank item s n a none is = putting_parts Plain item.parts s n a
  outer_items items.Statement item s n a none is = statements_go item s n a
  outer_items items.Profile item s n a none is = outer_heads item s n a none
  outer_items items.Hat item s n a none is = outer_heads item s n a none
  outer_items items.Close item s n a none is =
      let nothing : drop 1 n.still_open ≡ n.still_open = ap (drop 1) none ∙ sym none in
      subst (λ (o : List ℕ). Agrees c (put_item Kept item s).choice (put_item Kept item s).phase (put_item Kept item s).depth
      (put_item Kept item s).heads (record { begun = n.begun; still_open = o })) (sym nothing) (putting Kept (passed item s) n a)
  outer_items items.Assignment item s n a none is = putting Kept (passed item s) n a
  outer_items items.Rule item s n a none is = putting Kept (passed item s) n a

  run_items : (run : Run) (kind : ItemKind) (item : ItemValue) (s : CutState) (n : Nesting) → s.phase ≡ Skipping run → Is s n →
      Is (run_item run kind item s) (nested kind n)
  unfolding run_item
  run_items run items.Profile item s n is a = run_heads run item s n is a
  run_items run items.Hat item s n is a = run_heads run item s n is a
  run_items run items.Close item s n is a = run_closes run item s n is a
  run_items run items.Blank item s n is a = a
  run_items run items.Statement item s n is a = a
  run_items run items.Assignment item s n is a = a
  run_items run items.Rule item s n is a = a

  chosen_items : (kind : ItemKind) (item : ItemValue) (s : CutState) (n : Nesting) → s.phase ≡ Chosen → Is s n →
      Is (chosen_item kind item s) (nested kind n)
  unfolding chosen_item
  chosen_items items.Blank item s n is a = putting_parts Plain item.parts s n a
  chosen_items items.Statement item s n is a = statements_go item s n a
  chosen_items items.Profile item s n is a = child_heads whats.Child item s n is a
  chosen_items items.Hat item s n is a = child_heads whats.Hat item s n is a
  chosen_items items.Close item s n is a = chosen_closes item s n is a
  chosen_items items.Assignment item s n is a = putting Kept (passed item s) n a
  chosen_items items.Rule item s n is a = putting Kept (passed item s) n a

  plain_items : (phase : Phase) (item : ItemValue) (s : CutState) (n : Nesting) → s.phase ≡ phase → Is s n →
      Is (plain_item phase item s) (nested item.kind n)
  unfolding plain_item
  plain_items Outer item s n is a =
      outer_items item.kind item s n a (subst (λ (x : Phase). IsPhase c.profile x n.still_open) is a.there) is
  plain_items (Skipping run) item s n is a = run_items run item.kind item s n is a
  plain_items Chosen item s n is a = chosen_items item.kind item s n is a

  rule_nests_nothing : (kind : ItemKind) (n : Nesting) → is_rule kind ≡ true → nested kind n ≡ n
  rule_nests_nothing items.Rule n e = refl
  rule_nests_nothing _ n e = absurd cc

  rules_go : (reading : RuleReading) (item : ItemValue) (s : CutState) (n : Nesting) → Is s n → Is (chosen_rule reading item s) n
  unfolding chosen_rule
  rules_go reading item s n a = at (is_restated s.choice.subject reading.shape)
      (told (rule_whats reading.marks item.parts) (effect s.choice.subject reading.shape))
    where
      at : (b : Bool) (kind : SpanKind) → Is (cond b (put_parts (OfRule reading) item.parts s) (put_item kind item s)) n
      at true kind = putting_parts (OfRule reading) item.parts s n a
      at false kind = putting kind (passed item s) n a

  item_goes : (reading : RuleReading) (item : ItemValue) (s : CutState) (n : Nesting) → Is s n →
      Is (cut_item reading item s) (nested item.kind n)
  item_goes reading item s n a = at (is_chosen_rule item s) refl
    where
      at : (b : Bool) → is_chosen_rule item s ≡ b →
          Is (cond b (chosen_rule reading item s) (plain_item s.phase item s)) (nested item.kind n)
      at true e = subst (λ (m : Nesting). Is (chosen_rule reading item s) m)
          (sym (rule_nests_nothing item.kind n (and_parts (is_chosen s.phase) (is_rule item.kind) e).1)) (rules_go reading item s n a)
      at false e = plain_items s.phase item s n refl a

  all_go : (reading : ItemValue → RuleReading) (items : List ItemValue) (s : CutState) (n : Nesting) → Is s n →
      Is (cut_items reading items s) (nesting_after items n)
  all_go reading [] s n a = a
  all_go reading (item ∷ items) s n a = all_go reading items (cut_item (reading item) item s) (nested item.kind n)
      (item_goes (reading item) item s n a)

  in_phase : (phase : Phase) (numbers : List ℕ) → IsPhase c.profile phase numbers → is_chosen phase ≡ is_innermost c.profile numbers
  in_phase Outer numbers none = ap (is_innermost c.profile) (sym none)
  in_phase (Skipping run) numbers r =
      sym (ap (is_innermost c.profile) r.open_is ∙ of_run r.inner r.rest r.some r.apart)
    where
      of_run : (inner rest : List ℕ) → 0 < length inner → IsApart c.profile inner → is_innermost c.profile (inner ++ rest) ≡ false
      of_run [] rest some apart = absurd (omega (arith, some))
      of_run (x ∷ inner) rest some apart = ne_eqb x c.profile apart.0
  in_phase Chosen numbers there = sym (ap (is_innermost c.profile) there.1 ∙ itself c.profile)
    where
      itself : (n : ℕ) → (n == n) ≡ true
      itself n = eq-eqb n n refl

pub chosen_by_braces : (reading : ItemValue → RuleReading) (choice : Choice) (before : List ItemValue) (item : ItemValue) →
    is_chosen_rule item (cut_items reading before (at_start choice)) ≡ is_rule_of choice.profile before item
chosen_by_braces reading choice before item =
    let start : Agrees choice choice Outer 0 0 in_none =
    record { choice = refl; depth_is = refl; heads_are = refl; falls = tt; there = refl } in
    let a = all_go choice reading before (at_start choice) in_none start in
    ap (λ (b : Bool). b && is_rule item.kind)
    (in_phase choice (cut_items reading before (at_start choice)).phase (nesting_after before in_none).still_open a.there)
