-- What the rule says about the count and the seats, and what is left of it after a step. Nothing here depends on the encoding.
use Rattle.std.proofs.Common.{◌≡◌, ◌≢◌, ℕ, zero, suc, ◌+◌, ◌*◌, ◌/◌, ◌%◌, ◌<◌, ◌≤◌, ◌↔◌, List, [], ◌∷◌, ◌++◌, length, replicate, get_or}
use Rattle.std.proofs.Common.{set, Some, None, sym, refl, ap, ◌∙◌, subst, ⊎_elim, arith}
use Rattle.std.proofs.lemmas.List.{nil_from_length}
use Rattle.std.specs.Prelude.{Option}
use mathlib.Core.Option.{some, some-injective}
use mathlib.Core.List.{IsPrefix}
use lib.ListN.{get_elem?}
use lib.Seq.{set-get_or}
use Rattle.directory_tree.specs.declared.change.Change.{Change}
use Rattle.row_rule.specs.declared.view.Pending.{Pending}
use Rattle.row_rule.specs.declared.view.KeeperView.{KeeperView}
use Rattle.row_rule.specs.declared.view.WalkerView.{WalkerView}
use Rattle.row_rule.specs.declared.view.View.{View}
use Rattle.row_rule.specs.declared.view.View.TheVariants.{Keeps, Walks}
use Rattle.row_rule.specs.Row.{write, pending_count, left_of, target_of, count_of, FitsWalker, FitsView, KeptBy, Holds}
use Rattle.row_rule.specs.Steps.{newcomer, at_rest}
use Rattle.row_rule.specs.laws.Lists.{at_set, set_else, set_here, at_longer, at_snoc, at_replicate, prefix_none, prefixes_alike}

pending_low : (p : Option Pending) → pending_count p ≤ 1
pending_low None = omega arith
pending_low (Some p) = omega arith

pub half_count : (k : KeeperView) → length k.history ≡ count_of k / 2
half_count k = let low = pending_low k.pending in omega arith

even_none : (n : ℕ) (p : Option Pending) → (2 * n + pending_count p) % 2 ≡ 0 → p ≡ None
even_none n None e = refl
even_none n (Some p) e = absurd (omega arith)

-- an even count: no change is being made
pub at_rest_where_even : (k : KeeperView) → count_of k % 2 ≡ 0 → k.pending ≡ None
at_rest_where_even k e = even_none (length k.history) k.pending e

pub newcomer_fits : (k : KeeperView) → FitsWalker k newcomer
newcomer_fits k = record {
  begins = prefix_none k.history;
  half = refl;
  noted_low = omega arith;
  last_low = omega arith;
  still = λ _ e. (sym (nil_from_length k.history (omega arith)), tt);
}

-- what a walker knows stays true where the count grows and the history only gets longer
pub later_fits : (k k' : KeeperView) → count_of k < count_of k' → ((seen : List Change) → IsPrefix seen k.history →
    IsPrefix seen k'.history) → (w : WalkerView) → FitsWalker k w → FitsWalker k' w
later_fits k k' more longer w f = let low = f.noted_low in let low' = f.last_low in record {
  begins = longer w.seen f.begins;
  half = f.half;
  noted_low = omega arith;
  last_low = omega arith;
  still = λ _ e. absurd (omega arith);
}

-- and where a cell is set while the count is odd
pub odd_fits : (k k' : KeeperView) → k'.history ≡ k.history → count_of k' ≡ count_of k → count_of k % 2 ≡ 1 → (w : WalkerView) →
    FitsWalker k w → FitsWalker k' w
odd_fits k k' same count odd w f = let low = f.noted_low in let low' = f.last_low in record {
  begins = subst (IsPrefix w.seen) (sym same) f.begins;
  half = f.half;
  noted_low = omega arith;
  last_low = omega arith;
  still = λ even e. let h : w.noted ≡ count_of k = e ∙ count in
      absurd (let odd' : w.noted % 2 ≡ 1 = ap (λ (z : ℕ). z % 2) h ∙ odd in omega arith);
}

all_views : (k k' : KeeperView) → ((w : WalkerView) → FitsWalker k w → FitsWalker k' w) → (v : View) → FitsView k v → FitsView k' v
all_views k k' others (Keeps j) f = f
all_views k k' others (Walks w) f = others w f

keeper_in : View → KeeperView → KeeperView
keeper_in (Keeps k) other = k
keeper_in (Walks w) other = other

module _ (Encodes : List ℕ → List Change → Type 0) (size : ℕ) where
  -- the seat of a walker isn't the keeper's
  pub apart : (k : KeeperView) (w : WalkerView) (views : List View) (id : ℕ) → get_elem? views 0 ≡ some (Keeps k) → get_elem? views id
      ≡ some (Walks w) → id ≢ 0
  apart k w views id keeper walker e =
      let same : Keeps k ≡ Walks w = some-injective (Keeps k) (Walks w) (sym keeper ∙ (ap (get_elem? views) (sym e) ∙ walker)) in absurd cc

  pub walker_fits : (k : KeeperView) (w : WalkerView) (id : ℕ) (words : List ℕ) (views : List View) → KeptBy Encodes size k words views →
      get_elem? views id ≡ some (Walks w) → FitsWalker k w
  walker_fits k w id words views r at = r.fits id (Walks w) (apart k w views id r.seated at) at

  first_or_not : (id : ℕ) (k j : KeeperView) (views : List View) → get_elem? views 0 ≡ some (Keeps k) →
      ((v : View) → ¬ (id ≡ 0) → get_elem? views id ≡ some v → FitsView k v)
      → get_elem? views id ≡ some (Keeps j) → (id ≡ 0) × (k ≡ j)
  first_or_not zero k j views seated fits at = (refl, cc)
  first_or_not (suc n) k j views seated fits at = absurd (fits (Keeps j) (λ e. omega arith) at)

  -- a seat that keeps is the keeper's, and the rule holds with its view
  pub keeper_at : (j : KeeperView) (id : ℕ) (words : List ℕ) (views : List View) → Holds Encodes size words views → get_elem? views id
      ≡ some (Keeps j) → (id ≡ 0) × KeptBy Encodes size j words views
  keeper_at j id words views (k, r) at =
      let t = first_or_not id k j views r.seated (r.fits id) at in
      (t.0, subst (λ (z : KeeperView). KeptBy Encodes size z words views) t.1 r)

  pub count_is : (k : KeeperView) (words : List ℕ) (views : List View) → KeptBy Encodes size k words views → get_or words 0 0 ≡ count_of k
  count_is k words views r = ap (λ (ws : List ℕ). get_or ws 0 0) r.words_are

  -- a load leaves the words as they are
  pub loaded : (k : KeeperView) (i : ℕ) (words : List ℕ) (views : List View) → KeptBy Encodes size k words views →
      KeptBy Encodes size k (set words i (get_or words i 0)) views
  loaded k i words views r = subst (λ (ws : List ℕ). KeptBy Encodes size k ws views) (sym (set-get_or words i 0)) r

  -- a walker's view becomes one that fits
  pub walker_moved : (k : KeeperView) (old w : WalkerView) (id : ℕ) (words : List ℕ) (views : List View) →
      KeptBy Encodes size k words views → get_elem? views id ≡ some (Walks old) → FitsWalker k w
      → KeptBy Encodes size k words (set views id (Walks w))
  walker_moved k old w id words views r at mine =
      let else : 0 ≢ id = λ e. apart k old views id r.seated at (sym e) in record {
        seated = set_else views id 0 (Walks w) else ∙ r.seated;
        long = r.long;
        words_are = r.words_are;
        encodes = r.encodes;
        met_begins = r.met_begins;
        fits = λ seat v not_first e. ⊎_elim (λ (t : (seat ≡ id) × (Walks w ≡ v)). subst (FitsView k) t.1 mine)
            (λ (t : get_elem? views seat ≡ some v). r.fits seat v not_first t) (at_set views id seat (Walks w) v e);
      }

  -- a new walker's seat, with a view that fits
  pub walker_added : (k : KeeperView) (w : WalkerView) (words : List ℕ) (views : List View) → KeptBy Encodes size k words views →
      FitsWalker k w → KeptBy Encodes size k words (views ++ Walks w ∷ [])
  walker_added k w words views r mine = record {
    seated = at_longer views (Walks w ∷ []) 0 (Keeps k) r.seated;
    long = r.long;
    words_are = r.words_are;
    encodes = r.encodes;
    met_begins = r.met_begins;
    fits = λ seat v not_first e. ⊎_elim (r.fits seat v not_first) (λ (t : Walks w ≡ v). subst (FitsView k) t mine)
        (at_snoc views (Walks w) v seat e);
  }

  -- the keeper's view becomes one for which the words are right, and the walkers still fit
  pub keeper_moved : (k k' : KeeperView) (words words' : List ℕ) (views : List View) → KeptBy Encodes size k words views → length k'.cells
      ≡ size → words' ≡ count_of k' ∷ k'.cells
      → Encodes (write k'.cells (left_of k'.pending)) (target_of k'.history k'.pending) → IsPrefix k'.met k'.history →
      ((w : WalkerView) → FitsWalker k w → FitsWalker k' w) → KeptBy Encodes size k' words' (set views 0 (Keeps k'))
  keeper_moved k k' words words' views r long words_are encodes met others = record {
    seated = set_here views 0 (Keeps k) (Keeps k') r.seated;
    long = long;
    words_are = words_are;
    encodes = encodes;
    met_begins = met;
    fits = λ seat v not_first e. all_views k k' others v (r.fits seat v not_first (sym (set_else views 0 seat (Keeps k') not_first) ∙ e));
  }

  -- no change was made, and each walker is new
  pub opening_kept : (cells : List ℕ) (walkers : ℕ) → length cells ≡ size → Encodes cells [] → KeptBy Encodes size (at_rest [] cells)
      (0 ∷ cells) (Keeps (at_rest [] cells) ∷ replicate walkers (Walks newcomer))
  opening_kept cells walkers long encodes = record {
    seated = refl;
    long = long;
    words_are = refl;
    encodes = encodes;
    met_begins = prefix_none [];
    fits = λ seat v. opening_fits seat v;
  } where
    opening_fits : (seat : ℕ) (v : View) → ¬ (seat ≡ 0) → get_elem? (Keeps (at_rest [] cells) ∷ replicate walkers (Walks newcomer)) seat
        ≡ some v → FitsView (at_rest [] cells) v
    opening_fits zero v not_first e = absurd (not_first refl)
    opening_fits (suc n) v not_first e = subst (FitsView (at_rest [] cells)) (at_replicate walkers (Walks newcomer) v n e)
        (newcomer_fits (at_rest [] cells))

  pub keeper_fixes : (k : KeeperView) (id : ℕ) (words : List ℕ) (views : List View) → Holds Encodes size words views → get_elem? views id
      ≡ some (Keeps k) → (id ≡ 0) × KeptBy Encodes size k words views × (words ≡ count_of k ∷ k.cells)
  keeper_fixes k id words views held at = let t = keeper_at k id words views held at in (t.0, t.1, t.1.words_are)

  pub half_word : (k : KeeperView) (words : List ℕ) (views : List View) → KeptBy Encodes size k words views →
      length k.history ≡ get_or words 0 0 / 2
  half_word k words views r = half_count k ∙ ap (λ (z : ℕ). z / 2) (sym (count_is k words views r))

  pub even_rests : (k : KeeperView) (words : List ℕ) (views : List View) → KeptBy Encodes size k words views → get_or words 0 0 % 2 ≡ 0 →
      k.pending ≡ None
  even_rests k words views r even = at_rest_where_even k (ap (λ (z : ℕ). z % 2) (sym (count_is k words views r)) ∙ even)

  rests_even : (k : KeeperView) (words : List ℕ) (views : List View) → KeptBy Encodes size k words views → k.pending ≡ None →
      get_or words 0 0 % 2 ≡ 0
  rests_even k words views r shut = let was : count_of k ≡ 2 * length k.history + 0 =
      ap (λ (p : Option Pending). 2 * length k.history + pending_count p) shut in let is = count_is k words views r in omega arith

  pub parity : (k : KeeperView) (words : List ℕ) (views : List View) → KeptBy Encodes size k words views → (get_or words 0 0 % 2 ≡ 0)
      ↔ (k.pending ≡ None)
  parity k words views r = (even_rests k words views r, rests_even k words views r)

  pub even_encodes : (k : KeeperView) (words : List ℕ) (views : List View) → KeptBy Encodes size k words views → get_or words 0 0 % 2 ≡ 0 →
      Encodes k.cells k.history
  even_encodes k words views r even = subst (λ (p : Option Pending). Encodes (write k.cells (left_of p)) (target_of k.history p))
      (even_rests k words views r even) r.encodes

  pub same_seen : (k : KeeperView) (v w : WalkerView) (one other : ℕ) (words : List ℕ) (views : List View) →
      KeptBy Encodes size k words views → get_elem? views one ≡ some (Walks v) → get_elem? views other ≡ some (Walks w)
      → v.last / 2 ≡ w.last / 2 → v.seen ≡ w.seen
  same_seen k v w one other words views r at at' same =
      let f : FitsWalker k v = walker_fits k v one words views r at in
      let g : FitsWalker k w = walker_fits k w other words views r at' in
      prefixes_alike v.seen w.seen k.history f.begins g.begins (f.half ∙ same ∙ sym g.half)
