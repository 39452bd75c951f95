-- The set is found, or it is put after the others.
use Rattle.std.specs.Cmp.Lexicographic.{pointwise}
use Rattle.std.proofs.Common.{◌≡◌, ◌∙◌, ◌++◌, ◌∷◌, [], ℕ, false, ap, sym, subst, nat_eq, arith, if◌then◌else◌, IfOk}
use Rattle.std.specs.List.{list_any}
use Rattle.std.proofs.lemmas.List.{length-map}
use Rattle.glob_automaton.specs.inner.States.{lists_of, IsNumbered}
use Rattle.glob_automaton.proofs.StateLists.{all_distinct, not_there, numbered_found, numbered_new, same_numbers, equal_itself}
use Rattle.glob_automaton.proofs.subsets.Sets.number.Goals as goal
use Rattle.glob_automaton.proofs.subsets.Sets.number.Goals.{in-Ok, in-Err}

pub returns-in-Some-clause-ok : goal.returns-in-Some-clause-ok
returns-in-Some-clause-ok c =
    numbered_found (λ v. v.items) (pointwise nat_eq) same_numbers equal_itself c.args.self.now.sets.keys c.args.set.now c.in-Some.number
    c.len-count.ensures.unique (sym c.get_index_of.ensures.index ∙ c.in-Some.is) c.in-Some.ensures.within c.requires

pub returns-then-count-eq-MOST_SETS-clause-err : goal.returns-then-count-eq-MOST_SETS-clause-err
returns-then-count-eq-MOST_SETS-clause-err c = (
  omega (arith, c.if-count-eq-MOST_SETS.true, c.len-count.ensures.len, length-map c.args.self.now.sets.keys (λ v. v.items)),
  all_distinct (λ v. v.items) (pointwise nat_eq) same_numbers equal_itself c.args.self.now.sets.keys c.len-count.ensures.unique,
  not_there (λ v. v.items) (pointwise nat_eq) same_numbers equal_itself c.args.self.now.sets.keys c.args.set.now
      (sym c.in_default.ensures.found),
)

pub returns-clause-ok : goal.returns-clause-ok
returns-clause-ok c =
    let keys = c.args.self.now.sets.keys in
    let P : ℕ → Type 0 = IsNumbered (lists_of c.args.self.now)
    (lists_of (record { alloc = c.args.self.now.alloc; sets = c.insert_full.new.self })) c.args.set.now in
    let none : list_any (λ y. pointwise nat_eq c.args.set.now y.items) keys ≡ false = sym c.in_default.ensures.found in
    let now : list_any (λ y. pointwise nat_eq c.in_ok-set.set.items y.items) keys ≡ false =
    subst (λ z. list_any (λ y. pointwise nat_eq z y.items) keys ≡ false) (sym c.in_ok-set.ensures.items) none in
    elim c.match-insert_full.branch [
      | in-Ok w ↦ subst (λ r. IfOk r P) (sym w.result-is)
          (numbered_new (λ v. v.items) (pointwise nat_eq) same_numbers equal_itself keys c.insert_full.new.self.keys c.args.set.now
          c.in_ok-set.set w.in-Ok.number c.in_ok-set.ensures.items
          (w.in-Ok.ensures.keys ∙ ap (λ b. if b then keys else keys ++ c.in_ok-set.set ∷ []) now)
          w.in-Ok.ensures.stored c.insert_full.ensures.unique none c.requires
          (λ e. let other = c.if-count-eq-MOST_SETS.false in
          omega (arith, e, other, c.len-count.ensures.len, length-map keys (λ v. v.items))))
      | in-Err w ↦ subst (λ r. IfOk r P) (sym w.result-is) tt
    ]
