use Rattle.std.proofs.Common.{◌≡◌, ◌-◌, ℕ, take, arith, ap, ◌∙◌, ne_eqb}
use Rattle.names.specs.Paths.{ends_with_slash}
use Rattle.directory_tree.specs.Components.{slash}
use Rattle.path_lookup.proofs.Splits.{names_cut, ends_cut, ends_less, whole_open}
use Rattle.path_lookup.proofs.target.without_end_slashes.Goals as goal
use Rattle.path_lookup.proofs.target.without_end_slashes.Goals.{then-loop-end-test+else-text-end-eq47, else-loop-end-test}

pub loop-end-preserved : goal.loop-end-preserved
loop-end-preserved c =
    let e = c.loop-end.end in
    let text = c.args.text.now in (
      omega arith,
      names_cut text (e - 1) e (omega arith) (omega arith) c.if-text-end-eq47.true ∙ c.loop-end.invariant.1,
      λ low. ends_less
          text (e - 1) e (omega arith) (omega arith) c.if-text-end-eq47.true c.loop-end.invariant.2,
    )

unclosed : goal.returns-clause-open
unclosed c = elim c.loop-end-test.branch [
  | then-loop-end-test+else-text-end-eq47 w ↦ ends_cut c.args.text.now (c.loop-end.end - 1) c.loop-end.end (omega arith) (omega arith)
      ∙ ne_eqb _ slash w.if-text-end-eq47.false
  | else-loop-end-test w ↦ let e : c.loop-end.end ≡ 0 = omega arith in ap (λ (n : ℕ). ends_with_slash (take n c.args.text.now)) e
]

pub returns-clause-open : goal.returns-clause-open
returns-clause-open = unclosed

pub returns-clause-whole : goal.returns-clause-whole
returns-clause-whole c = λ same. whole_open c.args.text.now c.loop-end.end c.loop-end.invariant.0 same (unclosed c)
