-- Which places are live at first, and which follow live places that take a byte, against the live places by parts.
use Rattle.std.proofs.Common.{◌≡◌, ℕ, ◌+◌, ◌-◌, ◌<◌, ◌≤◌, true, ◌&&◌, ◌⊎◌, ◌↔◌, inl, inr, ⊎_elim, List, [], ◌∷◌, ◌++◌, IsTrue, refl, sym}
use Rattle.std.proofs.Common.{ap, ◌∙◌, subst, arith}
use Rattle.std.specs.List.{list_all}
use Rattle.std.proofs.lemmas.List.{append-nil, append_assoc}
use Rattle.std.proofs.lemmas.List.Folds.{list_all-append}
use Rattle.std.proofs.lemmas.Bool.{and_parts, and_from}
use Rattle.rule_globs.specs.Glob.{Glob, empty, one, run, cat, none, alt, fits, Takes, places, Live, LiveOrEnd}
use Rattle.rule_globs.specs.Follow.{Numbers, Starts, TakesAt, Goes}
use Rattle.rule_globs.specs.laws.Behind.{both_empty, split_last, last_alone, Live-below}

-- the number of one of the pattern's own places that are live after the bytes
abbrev OwnLive : Glob → ℕ → List ℕ → Numbers
OwnLive g base bytes q = (p : ℕ) × (q + p + 1 ≡ base + places g) × Live g bytes p

-- the same, or the bytes lead past the pattern
abbrev LiveNumber : Glob → ℕ → Numbers → List ℕ → Numbers
LiveNumber g base behind bytes q = OwnLive g base bytes q ⊎ (Takes g bytes × behind q)

-- some place `r` is live after the bytes, takes the byte, and leads to the number
abbrev Follows : Glob → ℕ → Numbers → List ℕ → ℕ → Numbers
Follows g base behind bytes b q =
    (r : ℕ) × (m : ℕ) × (m + r + 1 ≡ base + places g) × Live g bytes r × TakesAt g base m b × Goes g base behind m q

-- one after another: the first part's own places, or the second part after what the first takes
cat_split : (a b : Glob) (base : ℕ) (behind : Numbers) (bytes : List ℕ) (q : ℕ) → LiveNumber (cat a b) base behind bytes q →
    OwnLive a (base + places b) bytes q
    ⊎ ((front : List ℕ) × (back : List ℕ) × (bytes ≡ front ++ back) × Takes a front × LiveNumber b base behind back q)
cat_split a b base behind bytes q (inl h) = ⊎_elim
    (λ t. inl (h.0, omega (arith, h.1), t))
    (λ t. inr (t.1, t.2, t.4, t.5, inl (t.0, omega (arith, h.1, t.3), t.6))) h.2
cat_split a b base behind bytes q (inr h) = inr (h.0.0, h.0.1, h.0.2, h.0.3, inr (h.0.4, h.1))

-- a live place of the first part is one of both parts
cat_own : (a b : Glob) (base : ℕ) (behind : Numbers) (bytes : List ℕ) (q : ℕ) →
    OwnLive a (base + places b) bytes q → LiveNumber (cat a b) base behind bytes q
cat_own a b base behind bytes q h = inl (h.0, omega (arith, h.1), inl h.2)

-- what is live in the second part, or after it, once the first part has taken its bytes
cat_join : (a b : Glob) (base : ℕ) (behind : Numbers) (bytes : List ℕ) (q : ℕ) (front back : List ℕ) → bytes ≡ front ++ back →
    Takes a front → LiveNumber b base behind back q → LiveNumber (cat a b) base behind bytes q
cat_join a b base behind bytes q front back e t (inl h) =
    inl (places a + h.0, omega (arith, h.1), inr (h.0, front, back, refl, e, t, h.2))
cat_join a b base behind bytes q front back e t (inr h) = inr ((front, back, e, t, h.0), h.1)

-- one or the other: what is live is live in one of the alternatives
alt_split : (a b : Glob) (base : ℕ) (behind : Numbers) (bytes : List ℕ) (q : ℕ) → LiveNumber (alt a b) base behind bytes q →
    LiveNumber a (base + places b) behind bytes q ⊎ LiveNumber b base behind bytes q
alt_split a b base behind bytes q (inl h) = ⊎_elim
    (λ t. inl (inl (h.0, omega (arith, h.1), t)))
    (λ t. inr (inl (t.0, omega (arith, h.1, t.1), t.2))) h.2
alt_split a b base behind bytes q (inr h) = ⊎_elim (λ t. inl (inr (t, h.1))) (λ t. inr (inr (t, h.1))) h.0

-- and what is live in an alternative is live in the choice
alt_first : (a b : Glob) (base : ℕ) (behind : Numbers) (bytes : List ℕ) (q : ℕ) →
    LiveNumber a (base + places b) behind bytes q → LiveNumber (alt a b) base behind bytes q
alt_first a b base behind bytes q (inl h) = inl (h.0, omega (arith, h.1), inl h.2)
alt_first a b base behind bytes q (inr h) = inr (inl h.0, h.1)

alt_second : (a b : Glob) (base : ℕ) (behind : Numbers) (bytes : List ℕ) (q : ℕ) →
    LiveNumber b base behind bytes q → LiveNumber (alt a b) base behind bytes q
alt_second a b base behind bytes q (inl h) = inl (places a + h.0, omega (arith, h.1), inr (h.0, refl, h.2))
alt_second a b base behind bytes q (inr h) = inr (inr h.0, h.1)

-- what is live at first is what is live after no bytes
starts-live : (g : Glob) (base : ℕ) (behind : Numbers) (q : ℕ) → Starts g base behind q → LiveNumber g base behind [] q
starts-live empty base behind q h = inr (refl, h)
starts-live (one set) base behind q h = inl (0, omega (arith, h), (refl, refl))
starts-live (run set) base behind q (inl h) = inl (0, omega (arith, h), (refl, refl))
starts-live (run set) base behind q (inr h) = inr (refl, h)
starts-live (cat a b) base behind q h = ⊎_elim
    (λ t. cat_own a b base behind [] q t)
    (λ t. cat_join a b base behind [] q [] [] refl t.0 (starts-live b base behind q t.1))
    (starts-live a (base + places b) (Starts b base behind) q h)
starts-live none base behind q h = absurd h
starts-live (alt a b) base behind q (inl h) = alt_first a b base behind [] q (starts-live a (base + places b) behind q h)
starts-live (alt a b) base behind q (inr h) = alt_second a b base behind [] q (starts-live b base behind q h)

-- and the other way round
live-starts : (g : Glob) (base : ℕ) (behind : Numbers) (q : ℕ) → LiveNumber g base behind [] q → Starts g base behind q
live-starts empty base behind q (inl h) = absurd h.2
live-starts empty base behind q (inr h) = h.1
live-starts (one set) base behind q (inl h) = omega (arith, h.1, h.2.0)
live-starts (one set) base behind q (inr h) = let never : ⊥ = cc (h.0.1) in absurd never
live-starts (run set) base behind q (inl h) = inl (omega (arith, h.1, h.2.0))
live-starts (run set) base behind q (inr h) = inr h.1
live-starts (cat a b) base behind q h = ⊎_elim
    (λ t. live-starts a (base + places b) (Starts b base behind) q (inl t))
    (λ t.
    let both : (t.0 ≡ []) × (t.1 ≡ []) = both_empty t.0 t.1 t.2 in
    live-starts a (base + places b) (Starts b base behind) q
    (inr (subst (λ z. Takes a z) both.0 t.3, live-starts b base behind q (subst (λ z. LiveNumber b base behind z q) both.1 t.4))))
    (cat_split a b base behind [] q h)
live-starts none base behind q (inl h) = absurd h.2
live-starts none base behind q (inr h) = absurd h.0
live-starts (alt a b) base behind q h = ⊎_elim
    (λ t. inl (live-starts a (base + places b) behind q t))
    (λ t. inr (live-starts b base behind q t))
    (alt_split a b base behind [] q h)

-- a place that takes a byte is one of the pattern's
takes-own : (g : Glob) (base m b : ℕ) → TakesAt g base m b → (base ≤ m) × (m < base + places g)
takes-own empty base m b h = absurd h
takes-own (one set) base m b h = (omega (arith, h.0), omega (arith, h.0))
takes-own (run set) base m b h = (omega (arith, h.0), omega (arith, h.0))
takes-own (cat first second) base m b (inl h) =
    let w = takes-own first (base + places second) m b h in (omega (arith, w.0), omega (arith, w.1))
takes-own (cat first second) base m b (inr h) =
    let w = takes-own second base m b h in (w.0, omega (arith, w.1))
takes-own none base m b h = absurd h
takes-own (alt first second) base m b (inl h) =
    let w = takes-own first (base + places second) m b h in (omega (arith, w.0), omega (arith, w.1))
takes-own (alt first second) base m b (inr h) =
    let w = takes-own second base m b h in (w.0, omega (arith, w.1))

-- a place that leads on is one of the pattern's
goes-own : (g : Glob) (base : ℕ) (behind : Numbers) (m q : ℕ) → Goes g base behind m q → (base ≤ m) × (m < base + places g)
goes-own empty base behind m q h = absurd h
goes-own (one set) base behind m q h = (omega (arith, h.0), omega (arith, h.0))
goes-own (run set) base behind m q h = (omega (arith, h.0), omega (arith, h.0))
goes-own (cat a b) base behind m q (inl h) =
    let w = goes-own a (base + places b) (Starts b base behind) m q h in (omega (arith, w.0), omega (arith, w.1))
goes-own (cat a b) base behind m q (inr h) =
    let w = goes-own b base behind m q h in (w.0, omega (arith, w.1))
goes-own none base behind m q h = absurd h
goes-own (alt a b) base behind m q (inl h) =
    let w = goes-own a (base + places b) behind m q h in (omega (arith, w.0), omega (arith, w.1))
goes-own (alt a b) base behind m q (inr h) =
    let w = goes-own b base behind m q h in (w.0, omega (arith, w.1))

-- A place of the first part takes a byte and leads on there only.
part_first : (a b : Glob) (base m c q : ℕ) (before behind : Numbers) → base + places b ≤ m →
    TakesAt a (base + places b) m c ⊎ TakesAt b base m c → Goes a (base + places b) before m q ⊎ Goes b base behind m q →
    TakesAt a (base + places b) m c × Goes a (base + places b) before m q
part_first a b base m c q before behind le t h = (
  ⊎_elim (λ u. u) (λ u. absurd (omega (arith, le, (takes-own b base m c u).1))) t,
  ⊎_elim (λ u. u) (λ u. absurd (omega (arith, le, (goes-own b base behind m q u).1))) h,
)

-- And so does one of the second part.
part_second : (a b : Glob) (base m c q : ℕ) (before behind : Numbers) → m < base + places b →
    TakesAt a (base + places b) m c ⊎ TakesAt b base m c → Goes a (base + places b) before m q ⊎ Goes b base behind m q →
    TakesAt b base m c × Goes b base behind m q
part_second a b base m c q before behind lt t h = (
  ⊎_elim (λ u. absurd (omega (arith, lt, (takes-own a (base + places b) m c u).0))) (λ u. u) t,
  ⊎_elim (λ u. absurd (omega (arith, lt, (goes-own a (base + places b) before m q u).0))) (λ u. u) h,
)

-- bytes with one more are not empty
not_empty : (x : List ℕ) (c : ℕ) → x ++ (c ∷ []) ≡ [] → ⊥
not_empty x c e = let both : (x ≡ []) × (c ∷ [] ≡ []) = both_empty x (c ∷ []) (sym e) in cc (both.1)

-- Where the bytes end with this one, either the first part takes it, or the second does.
cat_last : (a b : Glob) (base : ℕ) (behind : Numbers) (x : List ℕ) (c q : ℕ) → LiveNumber (cat a b) base behind (x ++ (c ∷ [])) q →
    LiveNumber a (base + places b) (Starts b base behind) (x ++ (c ∷ [])) q
    ⊎ ((front : List ℕ) × (most : List ℕ) × (x ≡ front ++ most) × Takes a front × LiveNumber b base behind (most ++ (c ∷ [])) q)
cat_last a b base behind x c q h = ⊎_elim
    (λ t. inl (inl t))
    (λ t. ⊎_elim
    (λ u. inl (inr (subst (λ z. Takes a z) u.1 t.3, live-starts b base behind q (subst (λ z. LiveNumber b base behind z q) u.0 t.4))))
    (λ u. inr (t.0, u.0, u.2, t.3, subst (λ z. LiveNumber b base behind z q) u.1 t.4))
    (split_last t.0 t.1 x c t.2))
    (cat_split a b base behind (x ++ (c ∷ [])) q h)

-- what is live after one more byte follows a live place that takes the byte
live-follows : (g : Glob) (base : ℕ) (behind : Numbers) (x : List ℕ) (c q : ℕ) →
    LiveNumber g base behind (x ++ (c ∷ [])) q → Follows g base behind x c q
live-follows empty base behind x c q (inl h) = absurd h.2
live-follows empty base behind x c q (inr h) = absurd (not_empty x c h.0)
live-follows (one set) base behind x c q (inl h) = absurd (not_empty x c h.2.1)
live-follows (one set) base behind x c q (inr h) =
    let both : (x ≡ []) × (c ≡ h.0.0) = last_alone x c h.0.0 h.0.1 in
    (0, base, omega arith, (refl, both.0), (refl, subst (λ z. IsTrue (fits set z)) (sym both.1) h.0.2), (refl, h.1))
live-follows (run set) base behind x c q (inl h) =
    let both = and_parts (list_all (fits set) x) (fits set c && true) (sym (list_all-append (fits set) x (c ∷ [])) ∙ h.2.1) in
    (0, base, omega arith, (refl, both.0), (refl, (and_parts (fits set c) true both.1).0), (refl, inl (omega (arith, h.1, h.2.0))))
live-follows (run set) base behind x c q (inr h) =
    let both = and_parts (list_all (fits set) x) (fits set c && true) (sym (list_all-append (fits set) x (c ∷ [])) ∙ h.0) in
    (0, base, omega arith, (refl, both.0), (refl, (and_parts (fits set c) true both.1).0), (refl, inr h.1))
live-follows (cat a b) base behind x c q h = ⊎_elim
    (λ t.
    let w = live-follows a (base + places b) (Starts b base behind) x c q t in
    (w.0, w.1, omega (arith, w.2), inl w.3, inl w.4, inl w.5))
    (λ t.
    let w = live-follows b base behind t.1 c q t.4 in
    (places a + w.0, w.1, omega (arith, w.2), inr (w.0, t.0, t.1, refl, t.2, t.3, w.3), inr w.4, inr w.5))
    (cat_last a b base behind x c q h)
live-follows none base behind x c q (inl h) = absurd h.2
live-follows none base behind x c q (inr h) = absurd h.0
live-follows (alt a b) base behind x c q h = ⊎_elim
    (λ t.
    let w = live-follows a (base + places b) behind x c q t in
    (w.0, w.1, omega (arith, w.2), inl w.3, inl w.4, inl w.5))
    (λ t.
    let w = live-follows b base behind x c q t in
    (places a + w.0, w.1, omega (arith, w.2), inr (w.0, refl, w.3), inr w.4, inr w.5))
    (alt_split a b base behind (x ++ (c ∷ [])) q h)

-- and what follows one is live
follows-live : (g : Glob) (base : ℕ) (behind : Numbers) (x : List ℕ) (c q : ℕ) →
    Follows g base behind x c q → LiveNumber g base behind (x ++ (c ∷ [])) q
follows-live empty base behind x c q h = absurd h.3
follows-live (one set) base behind x c q h = inr ((c, ap (λ z. z ++ (c ∷ [])) h.3.1, h.4.1), h.5.1)
follows-live (run set) base behind x c q h =
    let all : IsTrue (list_all (fits set) (x ++ (c ∷ []))) =
    list_all-append (fits set) x (c ∷ []) ∙ and_from _ _ h.3.1 (and_from _ _ h.4.1 refl) in
    ⊎_elim (λ t. inl (0, omega (arith, t), (refl, all))) (λ t. inr (all, t)) h.5.1
follows-live (cat a b) base behind x c q h = ⊎_elim
    (λ l.
    let part = part_first a b base h.1 c q (Starts b base behind) behind (omega (arith, h.2, Live-below a x h.0 l)) h.4 h.5 in
    ⊎_elim
    (λ t. cat_own a b base behind (x ++ (c ∷ [])) q t)
    (λ t. cat_join a b base behind (x ++ (c ∷ [])) q (x ++ (c ∷ [])) [] (sym (append-nil (x ++ (c ∷ [])))) t.0
    (starts-live b base behind q t.1))
    (follows-live a (base + places b) (Starts b base behind) x c q (h.0, h.1, omega (arith, h.2), l, part.0, part.1)))
    (λ l.
    let part = part_second a b base h.1 c q (Starts b base behind) behind (omega (arith, h.2, l.3)) h.4 h.5 in
    cat_join a b base behind (x ++ (c ∷ [])) q l.1 (l.2 ++ (c ∷ [])) (ap (λ z. z ++ (c ∷ [])) l.4 ∙ append_assoc l.1 l.2 (c ∷ [])) l.5
    (follows-live b base behind l.2 c q (l.0, h.1, omega (arith, h.2, l.3), l.6, part.0, part.1))) h.3
follows-live none base behind x c q h = absurd h.3
follows-live (alt a b) base behind x c q h = ⊎_elim
    (λ l.
    let part = part_first a b base h.1 c q behind behind (omega (arith, h.2, Live-below a x h.0 l)) h.4 h.5 in
    alt_first a b base behind (x ++ (c ∷ [])) q
    (follows-live a (base + places b) behind x c q (h.0, h.1, omega (arith, h.2), l, part.0, part.1)))
    (λ l.
    let part = part_second a b base h.1 c q behind behind (omega (arith, h.2, l.1)) h.4 h.5 in
    alt_second a b base behind (x ++ (c ∷ [])) q
    (follows-live b base behind x c q (l.0, h.1, omega (arith, h.2, l.1), l.2, part.0, part.1))) h.3

-- In a whole pattern only the end follows.
numbered : (g : Glob) (end p : ℕ) (bytes : List ℕ) → p ≤ places g →
    LiveOrEnd g bytes p ↔ LiveNumber g (end + 1) (λ q. q ≡ end) bytes (end + (places g - p))
numbered g end p bytes le = (
  ⊎_elim
      (λ h. inl (p, omega (arith, le), h))
      (λ h. inr (h.1, omega (arith, h.0))),
  ⊎_elim
      (λ h. let e : h.0 ≡ p = omega (arith, le, h.1) in inl (subst (λ z. Live g bytes z) e h.2))
      (λ h. inr (omega (arith, le, h.1), h.0)),
)

-- The law for no bytes: the places that are live at first.
pub live-at_first : (g : Glob) (end p : ℕ) → p ≤ places g →
    LiveOrEnd g [] p ↔ Starts g (end + 1) (λ q. q ≡ end) (end + (places g - p))
live-at_first g end p le = (
  λ h. live-starts g (end + 1) (λ q. q ≡ end) (end + (places g - p)) ((numbered g end p [] le).0 h),
  λ h. (numbered g end p [] le).1 (starts-live g (end + 1) (λ q. q ≡ end) (end + (places g - p)) h),
)

-- The law for one more byte: each place live then follows a live place that takes the byte.
pub live-after_byte : (g : Glob) (end p : ℕ) (bytes : List ℕ) (b : ℕ) → p ≤ places g →
    LiveOrEnd g (bytes ++ b ∷ []) p
    ↔ ((r : ℕ) × (r < places g) × LiveOrEnd g bytes r × TakesAt g (end + 1) (end + (places g - r)) b
    × Goes g (end + 1) (λ q. q ≡ end) (end + (places g - r)) (end + (places g - p)))
live-after_byte g end p bytes b le = (
  λ h.
      let w = live-follows g (end + 1) (λ q. q ≡ end) bytes b (end + (places g - p)) ((numbered g end p (bytes ++ b ∷ []) le).0 h) in
      let lt : w.0 < places g = Live-below g bytes w.0 w.3 in
      let e : w.1 ≡ end + (places g - w.0) = omega (arith, w.2, lt) in (
        w.0,
        lt,
        inl w.3,
        subst (λ z. TakesAt g (end + 1) z b) e w.4,
        subst (λ z. Goes g (end + 1) (λ q. q ≡ end) z (end + (places g - p))) e w.5,
      ),
  λ h. ⊎_elim
      (λ l. (numbered g end p (bytes ++ b ∷ []) le).1
      (follows-live g (end + 1) (λ q. q ≡ end) bytes b (end + (places g - p))
      (h.0, end + (places g - h.0), omega (arith, h.1), l, h.3, h.4)))
      (λ l. absurd (omega (arith, h.1, l.0))) h.2,
)
