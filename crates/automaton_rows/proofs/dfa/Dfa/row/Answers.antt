use Rattle.std.proofs.Common.{◌≡◌, ◌<◌, ◌≤◌, ℕ, length, drop, List, [], slice_index_or, sym, ap, ◌∙◌, subst, arith}
use Rattle.std.proofs.lemmas.List.{get_or_default}
use Rattle.automaton_rows.specs.Automata.{Automaton, target}
use Rattle.automaton_rows.specs.declared.range.TargetRange.{TargetRange}
use Rattle.automaton_rows.specs.Rows.{AreRows, IsRowFrom, rows_of, target_in}
use Rattle.automaton_rows.proofs.RowReads.{begins_within}
use Rattle.automaton_rows.specs.laws.RowLists.{target_at, rows_long}
use Rattle.automaton_rows.proofs.dfa.Dfa.row.Goals as goal

module _ (ranges : List TargetRange) (firsts : List ℕ) (a : Automaton) (is : a.rows ≡ rows_of ranges firsts) (rows : AreRows ranges firsts)
    (s : ℕ) (lt : s < length a.rows) where
  there : s < length firsts
  there = omega (arith, lt, ap length is, rows_long ranges firsts)

  first_is : (first : ℕ) → first ≡ slice_index_or firsts s first → slice_index_or firsts s 0 ≡ first
  first_is first e = get_or_default firsts s 0 first there ∙ sym e

  row_is : (first : ℕ) → first ≡ slice_index_or firsts s first → IsRowFrom 0 (drop first ranges)
  row_is first e = subst (λ z. IsRowFrom 0 (drop z ranges)) (first_is first e) (rows s there)

  target_is : (first b : ℕ) → first ≡ slice_index_or firsts s first → b < 256 → target_in (drop first ranges) b ≡ target a s b
  target_is first b e small =
      ap (λ z. target_in (drop z ranges) b) (sym (first_is first e)) ∙ sym (target_at ranges firsts s b there small)
      ∙ ap (λ z. slice_index_or (slice_index_or z s []) b 0) (sym is)

pub rest_from-requires : goal.rest_from-requires
rest_from-requires c =
    subst (λ (z : List TargetRange). c.index.result.now ≤ length z) (sym c.deref.ensures.value)
    (begins_within c.self.inside.ranges.items c.index.result.now
    (row_is c.self.inside.ranges.items c.self.inside.firsts.items c.args.self.now (ap (λ (z : Automaton). z.rows) (sym c.self.view_is))
    c.self.invariant.1 c.args.state c.requires c.index.result.now c.index.ensures))

pub returns-clause-row : goal.returns-clause-row
returns-clause-row c =
    subst (IsRowFrom 0) (sym (c.rest_from.ensures ∙ ap (drop c.index.result.now) c.deref.ensures.value))
    (row_is c.self.inside.ranges.items c.self.inside.firsts.items c.args.self.now (ap (λ (z : Automaton). z.rows) (sym c.self.view_is))
    c.self.invariant.1 c.args.state c.requires c.index.result.now c.index.ensures)

pub returns-clause-targets : goal.returns-clause-targets
returns-clause-targets c b small =
    ap (λ z. target_in z b) (c.rest_from.ensures ∙ ap (drop c.index.result.now) c.deref.ensures.value)
    ∙ target_is c.self.inside.ranges.items c.self.inside.firsts.items c.args.self.now (ap (λ (z : Automaton). z.rows) (sym c.self.view_is))
    c.self.invariant.1 c.args.state c.requires c.index.result.now b c.index.ensures small
