-- What keeps the words of an index: an insertion, a removal, and a deleted word that becomes free.
use Rattle.std.proofs.Common.{◌≡◌, ◌≢◌, ℕ, ◌+◌, ◌<◌, ◌≤◌, sym, ap, ◌∙◌, subst, arith}
use mathlib.Core.Logic.{◌⊎◌, inl, inr, dite}
use native.Mathlib.Decide.{ℕ_discrete}
use Rattle.std.proofs.lemmas.Bool.{cases_lt, cases_order}
use Rattle.row_index.specs.Places.{around, way}
use Rattle.row_index.specs.Index.{IsFound, Indexes, IsVacancy, Ends}
use Rattle.row_index.specs.laws.Rounds.{around_within, around_way, way_apart, way_around, way_on, way_within}

-- the word that a search finds, by its place
pub found_place : (size : ℕ) (word : ℕ → ℕ) (h s : ℕ) → h < size → (p : ℕ) → p < size → word p ≡ s + 1
    → ((r : ℕ) → r < size → way size h r < way size h p → word r ≢ 0) → IsFound size word h s
found_place size word h s low p within here before = record {
  steps = way size h p;
  within = way_within size h p low within;
  here = ap word (around_way size h p low within) ∙ here;
  reached = λ i l.
      let short = way_within size h p low within in
      let steps = way_around size h i low (omega arith) in
      before (around size (h + i)) (around_within size (h + i) (omega arith)) (omega arith);
}

module _ (size : ℕ) (word : ℕ → ℕ) (used : ℕ → Type 0) (home : ℕ → ℕ) (keeps : Indexes size word used home) where
  -- a search that ends without the slot shows that it isn't used
  pub missed : (s steps : ℕ) → used s → Ends size word (home s) steps → ((i : ℕ) → i < steps → word (around size (home s + i)) ≢ s + 1) → ⊥
  missed s steps is ends others =
      let at = keeps.found s is in
      let within = at.within in
      elim (cases_lt at.steps steps) [
        | inl l ↦ others at.steps l at.here
        | inr g ↦ elim ends [
          | inl e ↦ absurd (omega arith)
          | inr e ↦ dite (ℕ_discrete at.steps steps)
              (λ same. let h = at.here in let z = ap (λ (k : ℕ). word (around size (home s + k))) same in absurd (omega arith))
              (λ apart. at.reached steps (omega arith) e)
        ]
      ]

  -- homes of used slots are all that counts
  pub rehomed : (home' : ℕ → ℕ) → ((s : ℕ) → used s → home' s ≡ home s) → Indexes size word used home'
  rehomed home' same = record {
    found = λ s is. subst (λ (h : ℕ). IsFound size word h s) (sym (same s is)) (keeps.found s is);
    once = keeps.once;
    others = keeps.others;
  }

  -- what a word names is used
  pub named_used : (q s : ℕ) → q < size → 0 < s → word q ≡ s + 1 → used s
  named_used q s within past is = elim (keeps.others q within) [
    | inl low ↦ absurd (omega arith)
    | inr there ↦ let e = there.2 in let same : there.0 ≡ s = omega arith in subst used same there.1
  ]

  -- the place of a used slot's word, and no free word on the way there
  pub named_place : (s : ℕ) → used s → home s < size → (p : ℕ) × (p < size) × (word p ≡ s + 1)
  named_place s is low =
      let at = keeps.found s is in
      let near = at.within in
      (around size (home s + at.steps), around_within size (home s + at.steps) (omega arith), at.here)

  pub named_before : (s p : ℕ) → used s → home s < size → p < size → word p ≡ s + 1
      → (r : ℕ) → r < size → way size (home s) r < way size (home s) p → word r ≢ 0
  named_before s p is low within here r near l z =
      let at = keeps.found s is in
      let short = at.within in
      let place = around_within size (home s + at.steps) (omega arith) in
      let one = keeps.once (around size (home s + at.steps)) p s place within is at.here here in
      let steps : way size (home s) p ≡ at.steps =
      ap (way size (home s)) (sym one) ∙ way_around size (home s) at.steps low short
      in
      at.reached (way size (home s) r) (omega arith) (ap word (around_way size (home s) r low near) ∙ z)

  -- one word changes
  module _ (past : (x : ℕ) → used x → 0 < x) (homes : (x : ℕ) → used x → home x < size) (word' : ℕ → ℕ) (p : ℕ) (within : p < size)
      (same : (q : ℕ) → q < size → q ≢ p → word' q ≡ word q) where
    -- a word that isn't 0 after the change hides no slot
    still : (q : ℕ) → q < size → word' p ≢ 0 → word q ≢ 0 → word' q ≢ 0
    still q near filled was e = dite (ℕ_discrete q p)
        (λ here. filled (ap word' (sym here) ∙ e))
        (λ apart. was (sym (same q near apart) ∙ e))

    stays : (s : ℕ) → used s → word p ≢ s + 1 → word' p ≢ 0 → IsFound size word' (home s) s
    stays s is other filled =
        let at = keeps.found s is in
        let low = homes s is in
        let near = at.within in
        let place = around_within size (home s + at.steps) (omega arith) in
        record {
          steps = at.steps;
          within = at.within;
          here = same (around size (home s + at.steps)) place (λ e. other (ap word (sym e) ∙ at.here)) ∙ at.here;
          reached = λ i l. still (around size (home s + i)) (around_within size (home s + i) (omega arith)) filled (at.reached i l);
        }

    -- a slot that wasn't used takes the first vacancy on its way
    pub inserted : (used' : ℕ → Type 0) (s steps : ℕ) → 0 < s → home s < size → ¬ (used s) → used' s
        → ((x : ℕ) → used x → used' x) → ((x : ℕ) → used' x → (x ≡ s) ⊎ used x)
        → IsVacancy size word (home s) steps → p ≡ around size (home s + steps) → word' p ≡ s + 1 → Indexes size word' used' home
    inserted used' s steps own low new now more fewer vacancy at set =
        let short = vacancy.within in
        let filled : word' p ≢ 0 = λ e. absurd (omega arith) in
        let empty : word p ≤ 1 = subst (λ (z : ℕ). word z ≤ 1) (sym at) vacancy.vacant in
        let unnamed : (q : ℕ) → q < size → word q ≢ s + 1 = λ q near e. new (named_used q s near own e) in
        let named_here : (a b x : ℕ) → a ≡ p → b < size → b ≢ p → word' a ≡ x + 1 → word' b ≡ x + 1 → ⊥ = λ a b x here far apart one two.
        let first : word' p ≡ x + 1 = ap word' (sym here) ∙ one in
        let e : x ≡ s = omega arith in
        unnamed b far (sym (same b far apart) ∙ two ∙ ap (λ (z : ℕ). z + 1) e)
        in
        record {
          found = λ x is. dite (ℕ_discrete x s)
              (λ e. subst (λ (z : ℕ). IsFound size word' (home z) z) (sym e) record {
                steps = steps;
                within = short;
                here = subst (λ (z : ℕ). word' z ≡ s + 1) at set;
                reached = λ i l.
                    still (around size (home s + i)) (around_within size (home s + i) (omega arith)) filled
                    (λ z. let f = vacancy.first i l in absurd (omega arith));
              })
              (λ other. elim (fewer x is) [
                | inl e ↦ absurd (other e)
                | inr was ↦ stays x was (λ e. let low = past x was in absurd (omega arith)) filled
              ]);
          once = λ a b x near far is one two. dite (ℕ_discrete a p)
              (λ first. dite (ℕ_discrete b p)
              (λ second. first ∙ sym second)
              (λ apart. absurd (named_here a b x first far apart one two)))
              (λ apart. dite (ℕ_discrete b p)
              (λ second. absurd (named_here b a x second near apart two one))
              (λ second. elim (fewer x is) [
                | inl e ↦ absurd (unnamed a near (sym (same a near apart) ∙ one ∙ ap (λ (z : ℕ). z + 1) e))
                | inr was ↦ keeps.once a b x near far was (sym (same a near apart) ∙ one) (sym (same b far second) ∙ two)
              ]));
          others = λ q near. dite (ℕ_discrete q p)
              (λ e. inr (s, now, ap word' e ∙ set))
              (λ other. elim (keeps.others q near) [
                | inl low ↦ inl (subst (λ (z : ℕ). z ≤ 1) (sym (same q near other)) low)
                | inr there ↦ inr (there.0, more there.0 there.1, same q near other ∙ there.2)
              ]);
        }

    -- the word of a slot that goes is deleted
    pub deleted : (used' : ℕ → Type 0) (s : ℕ) → used s → ((x : ℕ) → used x → x ≢ s → used' x)
        → ((x : ℕ) → used' x → used x × (x ≢ s)) → word p ≡ s + 1 → word' p ≡ 1 → Indexes size word' used' home
    deleted used' s is more fewer at set =
        let filled : word' p ≢ 0 = λ e. absurd (omega arith) in
        let not_here : (x q : ℕ) → used x → word' q ≡ x + 1 → q ≢ p = λ x q was e here.
        let low = past x was in
        let z : word' p ≡ x + 1 = ap word' (sym here) ∙ e in
        absurd (omega arith)
        in
        record {
          found = λ x now. let f = fewer x now in stays x f.0 (λ e. f.1 (omega arith)) filled;
          once = λ a b x near far now one two.
              let was = (fewer x now).0 in
              let ao = not_here x a was one in
              let bo = not_here x b was two in
              keeps.once a b x near far was (sym (same a near ao) ∙ one) (sym (same b far bo) ∙ two);
          others = λ q near. dite (ℕ_discrete q p)
              (λ e. inl (let z : word' q ≡ 1 = ap word' e ∙ set in omega arith))
              (λ other. elim (keeps.others q near) [
                | inl low ↦ inl (subst (λ (z : ℕ). z ≤ 1) (sym (same q near other)) low)
                | inr there ↦
                    let apart : there.0 ≢ s = λ e. other (keeps.once q p s near within is (there.2 ∙ ap (λ (z : ℕ). z + 1) e) at) in
                    inr (there.0, more there.0 there.1 apart, same q near other ∙ there.2)
              ]);
        }

    -- a word that names no slot becomes free, where no slot's way passes it
    pub freed_keeps : word p ≤ 1 → word' p ≤ 1
        → ((x q : ℕ) → used x → q < size → word q ≡ x + 1 → ¬ (way size (home x) p < way size (home x) q)) → Indexes size word' used home
    freed_keeps low set none =
        let not_here : (x q : ℕ) → used x → word' q ≡ x + 1 → q ≢ p = λ x q was e here.
        let own = past x was in
        let z : word' p ≡ x + 1 = ap word' (sym here) ∙ e in
        absurd (omega arith)
        in
        record {
          found = λ x is.
              let own = past x is in
              let low_home = homes x is in
              let q = named_place x is low_home in
              let apart : q.0 ≢ p = λ e. let z : word p ≡ x + 1 = ap word (sym e) ∙ q.2 in absurd (omega arith) in
              found_place size word' (home x) x low_home q.0 q.1 (same q.0 q.1 apart ∙ q.2) (λ r near l z.
              named_before x q.0 is low_home q.1 q.2 r near l
              (sym (same r near (λ e. none x q.0 is q.1 q.2 (subst (λ (k : ℕ). way size (home x) k < way size (home x) q.0) e l))) ∙ z));
          once = λ a b x near far is one two.
              let ao = not_here x a is one in
              let bo = not_here x b is two in
              keeps.once a b x near far is (sym (same a near ao) ∙ one) (sym (same b far bo) ∙ two);
          others = λ q near. dite (ℕ_discrete q p)
              (λ e. inl (subst (λ (k : ℕ). word' k ≤ 1) (sym e) set))
              (λ other. elim (keeps.others q near) [
                | inl small ↦ inl (subst (λ (z : ℕ). z ≤ 1) (sym (same q near other)) small)
                | inr there ↦ inr (there.0, there.1, same q near other ∙ there.2)
              ]);
        }

    -- a word that names no slot becomes free, where a free one follows it
    pub swept : word p ≤ 1 → word (around size (p + 1)) ≡ 0 → word' p ≡ 0 → Indexes size word' used home
    swept low next set = freed_keeps low (omega arith) (λ x q is near at l.
        let low_home = homes x is in
        let short = way_within size (home x) q low_home near in
        let after = around_within size (p + 1) (omega arith) in
        let one = way_around size p 1 within (omega arith) in
        let on = way_on size (home x) p (around size (p + 1)) low_home within after (omega arith) in
        dite (ℕ_discrete q (around size (p + 1)))
        (λ e. let z : word (around size (p + 1)) ≡ x + 1 = ap word (sym e) ∙ at in absurd (omega arith))
        (λ other.
        let apart : way size (home x) (around size (p + 1)) ≢ way size (home x) q = λ e.
        other (sym (way_apart size (home x) (around size (p + 1)) q low_home after near e))
        in
        named_before x q is low_home near at (around size (p + 1)) after (omega arith) next))

  -- a slot's word moves to an earlier place of its way
  pub moved : ((x : ℕ) → used x → 0 < x) → ((x : ℕ) → used x → home x < size) → (word' : ℕ → ℕ) (p q x : ℕ) → p < size → q < size
      → ((r : ℕ) → r < size → r ≢ p → r ≢ q → word' r ≡ word r) → used x → word p ≤ 1 → word q ≡ x + 1 → word' p ≡ x + 1 → word' q ≡ 1
      → way size (home x) p < way size (home x) q → Indexes size word' used home
  moved past homes word' p q x here there same ux low at set left passed =
      let own = past x ux in
      let full : (r : ℕ) → r < size → word r ≢ 0 → word' r ≢ 0 = λ r near was z. dite (ℕ_discrete r p)
      (λ e. let y : word' p ≡ 0 = ap word' (sym e) ∙ z in absurd (omega arith))
      (λ rp. dite (ℕ_discrete r q)
      (λ e. let y : word' q ≡ 0 = ap word' (sym e) ∙ z in absurd (omega arith))
      (λ rq. was (sym (same r near rp rq) ∙ z)))
      in
      -- where the slot itself is after the move, and where each other one is
      let own_place : (r : ℕ) → r < size → word' r ≡ x + 1 → r ≡ p = λ r near is. dite (ℕ_discrete r p)
      (λ e. e)
      (λ rp. dite (ℕ_discrete r q)
      (λ e. let y : word' q ≡ x + 1 = ap word' (sym e) ∙ is in absurd (omega arith))
      (λ rq. let e = keeps.once r q x near there ux (sym (same r near rp rq) ∙ is) at in absurd (rq e)))
      in
      let other_place : (y r : ℕ) → used y → y ≢ x → r < size → word' r ≡ y + 1 → word r ≡ y + 1 = λ y r uy other near is.
      let past_y = past y uy in
      dite (ℕ_discrete r p)
      (λ e. let z : word' p ≡ y + 1 = ap word' (sym e) ∙ is in let same_slot : y ≡ x = omega arith in absurd (other same_slot))
      (λ rp. dite (ℕ_discrete r q)
      (λ e. let z : word' q ≡ y + 1 = ap word' (sym e) ∙ is in absurd (omega arith))
      (λ rq. sym (same r near rp rq) ∙ is))
      in
      record {
        found = λ y is. dite (ℕ_discrete y x)
            (λ e. subst (λ (z : ℕ). IsFound size word' (home z) z) (sym e) (found_place size word' (home x) x (homes x ux) p here set
            (λ r near l. full r near (named_before x q ux (homes x ux) there at r near (omega arith)))))
            (λ other.
            let past_y = past y is in
            let r = named_place y is (homes y is) in
            let rp : r.0 ≢ p = λ e. let z : word p ≡ y + 1 = ap word (sym e) ∙ r.2 in absurd (omega arith) in
            let rq : r.0 ≢ q = λ e. let z : word q ≡ y + 1 = ap word (sym e) ∙ r.2 in other (omega arith) in
            found_place size word' (home y) y (homes y is) r.0 r.1 (same r.0 r.1 rp rq ∙ r.2)
            (λ k near l. full k near (named_before y r.0 is (homes y is) r.1 r.2 k near l)));
        once = λ a b y near far is one two. dite (ℕ_discrete y x)
            (λ e. own_place a near (one ∙ ap (λ (z : ℕ). z + 1) e) ∙ sym (own_place b far (two ∙ ap (λ (z : ℕ). z + 1) e)))
            (λ other. keeps.once a b y near far is (other_place y a is other near one) (other_place y b is other far two));
        others = λ r near. dite (ℕ_discrete r p)
            (λ e. inr (x, ux, ap word' e ∙ set))
            (λ rp. dite (ℕ_discrete r q)
            (λ e. inl (let z : word' r ≡ 1 = ap word' e ∙ left in omega arith))
            (λ rq. elim (keeps.others r near) [
              | inl small ↦ inl (subst (λ (z : ℕ). z ≤ 1) (sym (same r near rp rq)) small)
              | inr named ↦ inr (named.0, named.1, same r near rp rq ∙ named.2)
            ]));
      }

-- the same words, and the same slots, are the same index
pub reworded : (size : ℕ) (word word' : ℕ → ℕ) (used : ℕ → Type 0) (home : ℕ → ℕ) → ((x : ℕ) → used x → home x < size)
    → ((q : ℕ) → q < size → word' q ≡ word q) → Indexes size word used home → Indexes size word' used home
reworded size word word' used home homes same keeps = record {
  found = λ s is.
      let at = keeps.found s is in
      let low = homes s is in
      let near = at.within in
      record {
        steps = at.steps;
        within = at.within;
        here = same (around size (home s + at.steps)) (around_within size (home s + at.steps) (omega arith)) ∙ at.here;
        reached = λ i l z. at.reached i l (sym (same (around size (home s + i)) (around_within size (home s + i) (omega arith))) ∙ z);
      };
  once = λ p q s near far is one two. keeps.once p q s near far is (sym (same p near) ∙ one) (sym (same q far) ∙ two);
  others = λ p near. elim (keeps.others p near) [
    | inl low ↦ inl (subst (λ (z : ℕ). z ≤ 1) (sym (same p near)) low)
    | inr there ↦ inr (there.0, there.1, same p near ∙ there.2)
  ];
}

pub reused : (size : ℕ) (word : ℕ → ℕ) (used used' : ℕ → Type 0) (home home' : ℕ → ℕ) → ((x : ℕ) → used x → used' x)
    → ((x : ℕ) → used' x → used x) → ((x : ℕ) → used x → home' x ≡ home x) → Indexes size word used home → Indexes size word used' home'
reused size word used used' home home' there back same keeps = record {
  found = λ s is. subst (λ (h : ℕ). IsFound size word h s) (sym (same s (back s is))) (keeps.found s (back s is));
  once = λ p q s near far is one two. keeps.once p q s near far (back s is) one two;
  others = λ p near. elim (keeps.others p near) [
    | inl low ↦ inl low
    | inr at ↦ inr (at.0, there at.0 at.1, at.2)
  ];
}

-- the first vacancy is one
pub vacancy_once : (size : ℕ) (word : ℕ → ℕ) (home a b : ℕ) → IsVacancy size word home a → IsVacancy size word home b → a ≡ b
vacancy_once size word home a b one two = elim (cases_order a b) [
  | inl e ↦ e
  | inr m ↦ elim m [
    | inl l ↦ let x = two.first a l in let y = one.vacant in absurd (omega arith)
    | inr g ↦ let x = one.first b g in let y = two.vacant in absurd (omega arith)
  ]
]
