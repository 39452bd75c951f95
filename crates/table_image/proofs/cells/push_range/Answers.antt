-- One more byte is there.
use Rattle.std.proofs.Common.{◌≤◌, ◌≡◌, ◌≢◌, inl, inr, ⊎_elim, ◌∙◌, ◌<◌, ◌++◌, ◌∷◌, [], ℕ, List, sym, subst, arith, length-set}
use Rattle.std.specs.List.{Contains}
use Rattle.std.proofs.lemmas.Bool.{cases_lt}
use Rattle.std.proofs.lemmas.Grind.{get_or-set_at}
use Rattle.std.proofs.lemmas.List.{get_or-set_other}
use Rattle.std.proofs.lemmas.List.Elements.{Contains-append_left, Contains-push, Contains-push_cases}
use Rattle.table_image.proofs.cells.push_range.Goals as goal

pub loop-byte-preserved : goal.loop-byte-preserved
loop-byte-preserved c =
    let is = c.loop-byte.invariant in
    let old = c.loop-byte.bytes.items in
    let targets = c.loop-byte.targets in
    let byte = c.loop-byte.byte in
    let small : byte < 256 = omega (arith, c.loop-byte-test.true, c.from-byte-end.ensures, c.ranges.last.fits) in
    let Has : ℕ → List ℕ → Type 0 = λ b z. Contains z b in
    record {
      wide = length-set targets byte c.from.result ∙ is.wide;
      kept = λ b there. subst (Has b) (sym c.in_ok-push.ensures.items)
          (Contains-append_left old (byte ∷ []) b (is.kept b there));
      added = λ b there. ⊎_elim
          (λ was. ⊎_elim (λ had. inl had) (λ inside. inr (inside.0, omega (arith, inside.1))) (is.added b was))
          (λ e. inr (omega (arith, e, c.loop-byte.auto.byte, c.from-byte.ensures), omega (arith, e)))
          (Contains-push_cases old byte b (subst (Has b) c.in_ok-push.ensures.items there));
      within = λ b le lt. ⊎_elim
          (λ before. (
            subst (Has b) (sym c.in_ok-push.ensures.items) (Contains-append_left old (byte ∷ []) b (is.within b le before).0),
            get_or-set_other targets byte b c.from.result 0 (λ same. omega (arith, same, before)) ∙ (is.within b le before).1,
          ))
          (λ ge.
          let now : b ≡ byte = omega (arith, lt, ge) in (
            subst (Has b) (sym c.in_ok-push.ensures.items) (subst (Contains (old ++ byte ∷ [])) (sym now) (Contains-push old byte)),
            get_or-set_at targets byte b c.from.result 0 now (omega (arith, small, now, is.wide)) ∙ c.from.ensures,
          ))
          (cases_lt b byte);
      outside = λ b out.
          let other : b ≢ byte =
          λ same. ⊎_elim (λ lt. omega (arith, lt, same, c.loop-byte.auto.byte, c.from-byte.ensures)) (λ le. omega (arith, le, same)) out in
          get_or-set_other targets byte b c.from.result 0 other
          ∙ is.outside b (⊎_elim (λ lt. inl lt) (λ le. inr (omega (arith, le))) out);
    }

pub returns-clause-within : goal.returns-clause-within
returns-clause-within c other b le low =
    c.loop-byte.invariant.within b le (omega (arith, low, c.loop-byte-test.false, c.from-byte-end.ensures))

pub returns-clause-added : goal.returns-clause-added
returns-clause-added c b there = ⊎_elim
    (λ had. inl had)
    (λ inside.
    let low : b ≤ c.args.last = omega (arith, inside.1, c.loop-byte.auto.byte-end, c.from-byte.ensures, c.from-byte-end.ensures) in
    inr (inside.0, low, c.if-target-without.false))
    (c.loop-byte.invariant.added b there)

pub returns-clause-outside : goal.returns-clause-outside
returns-clause-outside c b out = c.loop-byte.invariant.outside b (⊎_elim
    (λ lt. inl lt)
    (λ above. inr (omega (arith, above, c.loop-byte.auto.byte-end, c.from-byte.ensures, c.from-byte-end.ensures)))
    out)
