-- A pattern's own numbers, and the bytes that its places take.
use Rattle.std.proofs.Common.{◌≡◌, ℕ, ◌+◌, ◌<◌, ◌≤◌, ◌⊎◌, inl, inr, ⊎_elim, true, List, [], ◌∷◌, ◌++◌, get_or, IsTrue, nat_lt, sym, ap}
use Rattle.std.proofs.Common.{◌∙◌, arith, ltb-true, eqb-true}
use Rattle.std.proofs.lemmas.Bool.{and_parts}
use Rattle.names.specs.Paths.{is_slash}
use Rattle.rule_globs.specs.Glob.{Glob, empty, one, run, cat, none, alt, ByteSet, exactly, fits, contains, Takes, places, Live, LiveOrEnd}
use Rattle.rule_globs.specs.Follow.{Numbers, Starts, TakesAt, Goes}
use Rattle.rule_profile.specs.Readable.{begins_with_slash}
use Rattle.rule_globs.specs.Tokens.{Token, byte, any_byte, bracket, stars, opening, between, closing, pattern_of}

-- what is live where a pattern begins is a place of it, or is live after it
pub starts_within : (g : Glob) (base : ℕ) (behind : Numbers) (q : ℕ) → Starts g base behind q →
    ((base ≤ q) × (q < base + places g)) ⊎ behind q
starts_within empty base behind q h = inr h
starts_within (one set) base behind q h = inl (omega (arith, h), omega (arith, h))
starts_within (run set) base behind q (inl h) = inl (omega (arith, h), omega (arith, h))
starts_within (run set) base behind q (inr h) = inr h
starts_within (cat a b) base behind q h = ⊎_elim
    (λ t. inl (omega (arith, t.0), omega (arith, t.1)))
    (λ t. ⊎_elim (λ u. inl (u.0, omega (arith, u.1))) (λ u. inr u) (starts_within b base behind q t))
    (starts_within a (base + places b) (Starts b base behind) q h)
starts_within none base behind q h = absurd h
starts_within (alt a b) base behind q (inl h) =
    ⊎_elim (λ t. inl (omega (arith, t.0), omega (arith, t.1))) (λ t. inr t) (starts_within a (base + places b) behind q h)
starts_within (alt a b) base behind q (inr h) =
    ⊎_elim (λ t. inl (t.0, omega (arith, t.1))) (λ t. inr t) (starts_within b base behind q h)

-- and so is what follows a place
pub goes_within : (g : Glob) (base : ℕ) (behind : Numbers) (p q : ℕ) → Goes g base behind p q →
    ((base ≤ q) × (q < base + places g)) ⊎ behind q
goes_within empty base behind p q h = absurd h
goes_within (one set) base behind p q h = inr h.1
goes_within (run set) base behind p q h = ⊎_elim (λ t. inl (omega (arith, t), omega (arith, t))) (λ t. inr t) h.1
goes_within (cat a b) base behind p q (inl h) = ⊎_elim
    (λ t. inl (omega (arith, t.0), omega (arith, t.1)))
    (λ t. ⊎_elim (λ u. inl (u.0, omega (arith, u.1))) (λ u. inr u) (starts_within b base behind q t))
    (goes_within a (base + places b) (Starts b base behind) p q h)
goes_within (cat a b) base behind p q (inr h) =
    ⊎_elim (λ t. inl (t.0, omega (arith, t.1))) (λ t. inr t) (goes_within b base behind p q h)
goes_within none base behind p q h = absurd h
goes_within (alt a b) base behind p q (inl h) =
    ⊎_elim (λ t. inl (omega (arith, t.0), omega (arith, t.1))) (λ t. inr t) (goes_within a (base + places b) behind p q h)
goes_within (alt a b) base behind p q (inr h) =
    ⊎_elim (λ t. inl (t.0, omega (arith, t.1))) (λ t. inr t) (goes_within b base behind p q h)

-- a set takes no byte 0
fits_some : (set : ByteSet) (b : ℕ) → IsTrue (fits set b) → 0 < b
fits_some set b h = ltb-true 0 b (and_parts (nat_lt 0 b) (contains set b) h).0

-- a place that takes a byte is no end, and the byte is not 0
pub takes_within : (g : Glob) (base p b : ℕ) → TakesAt g base p b → (base ≤ p) × (0 < b)
takes_within empty base p b h = absurd h
takes_within (one set) base p b h = (omega (arith, h.0), fits_some set b h.1)
takes_within (run set) base p b h = (omega (arith, h.0), fits_some set b h.1)
takes_within (cat first second) base p b (inl h) =
    let w = takes_within first (base + places second) p b h in (omega (arith, w.0), w.1)
takes_within (cat first second) base p b (inr h) = takes_within second base p b h
takes_within none base p b h = absurd h
takes_within (alt first second) base p b (inl h) =
    let w = takes_within first (base + places second) p b h in (omega (arith, w.0), w.1)
takes_within (alt first second) base p b (inr h) = takes_within second base p b h

-- a live place is one of the pattern's
live_below : (g : Glob) (x : List ℕ) (p : ℕ) → Live g x p → p < places g
live_below empty x p h = absurd h
live_below (one set) x p h = omega (arith, h.0)
live_below (run set) x p h = omega (arith, h.0)
live_below (cat a b) x p (inl h) = omega (arith, live_below a x p h)
live_below (cat a b) x p (inr h) = omega (arith, live_below b h.2 h.0 h.6, h.3)
live_below none x p h = absurd h
live_below (alt a b) x p (inl h) = omega (arith, live_below a x p h)
live_below (alt a b) x p (inr h) = omega (arith, live_below b x h.0 h.2, h.1)

pub live_within : (g : Glob) (x : List ℕ) (p : ℕ) → LiveOrEnd g x p → p ≤ places g
live_within g x p (inl h) = omega (arith, live_below g x p h)
live_within g x p (inr h) = omega (arith, h.0)

-- the end is live where the whole pattern matches the bytes
pub end_live : (g : Glob) (x : List ℕ) → LiveOrEnd g x (places g) → Takes g x
end_live g x (inl h) = absurd (omega (arith, live_below g x (places g) h))
end_live g x (inr h) = h.1

-- the first byte of a part that is one byte
first_taken : (a b : ℕ) (bytes front back : List ℕ) → is_slash a ≡ true → Takes (one (exactly a)) front →
    b ∷ bytes ≡ front ++ back → b ≡ 47
first_taken a b bytes front back slash h e =
    let is : a ≡ h.0 = eqb-true a h.0 (and_parts (nat_lt 0 h.0) (contains (exactly a) h.0) h.2).1 in
    let joined : b ∷ bytes ≡ h.0 ∷ back = e ∙ ap (λ z. z ++ back) h.1 in
    ap (λ z. get_or z 0 0) joined ∙ sym is ∙ eqb-true a 47 slash

-- where a path begins with a slash, nothing is live after another byte
pub first_is_slash : (tokens : List Token) (b : ℕ) (bytes : List ℕ) (p : ℕ) → IsTrue (begins_with_slash tokens) →
    LiveOrEnd (pattern_of tokens) (b ∷ bytes) p → b ≡ 47
first_is_slash [] b bytes p slash h = absurd (cc slash)
first_is_slash (byte a ∷ tokens) b bytes p slash (inl (inl h)) = absurd (cc (h.1))
first_is_slash (byte a ∷ tokens) b bytes p slash (inl (inr h)) = first_taken a b bytes h.1 h.2 slash h.5 h.4
first_is_slash (byte a ∷ tokens) b bytes p slash (inr h) = first_taken a b bytes h.1.0 h.1.1 slash h.1.3 h.1.2
first_is_slash (any_byte ∷ tokens) b bytes p slash h = absurd (cc slash)
first_is_slash (bracket negated ranges ∷ tokens) b bytes p slash h = absurd (cc slash)
first_is_slash (stars crosses_slashes strict ∷ tokens) b bytes p slash h = absurd (cc slash)
first_is_slash (opening ∷ tokens) b bytes p slash h = absurd (cc slash)
first_is_slash (between ∷ tokens) b bytes p slash h = absurd (cc slash)
first_is_slash (closing ∷ tokens) b bytes p slash h = absurd (cc slash)
