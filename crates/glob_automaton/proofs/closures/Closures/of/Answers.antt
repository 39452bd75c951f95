-- One more closure, made of those before.
use Rattle.std.proofs.Common.{◌≡◌, ◌↔◌, ◌∷◌, [], ℕ, List, true, length, Some, slice_get, sym, ap, ◌∙◌, subst, arith}
use Rattle.std.proofs.lemmas.List.{length-append}
use Rattle.glob_automaton.specs.declared.place_bits.Closure.{Closure}
use Rattle.glob_automaton.specs.inner.Chart.{IsIn}
use Rattle.glob_automaton.specs.inner.PlaceBits.{has_from}
use Rattle.glob_automaton.proofs.ClosureSteps.{pushed_each}
use Rattle.glob_automaton.proofs.closures.Closures.of.Goals as goal

pub loop-entry-preserved : goal.loop-entry-preserved
loop-entry-preserved c =
    let entries = c.args.chart.now.entries.items in
    let old = c.loop-entry.closures.closures.items in
    let one : Closure = c.in_ok-closure.field-0 in
    let Right : ℕ → Closure → Type 0 = λ e closure. (q : ℕ) → (has_from closure.first closure.words.items q ≡ true) ↔ IsIn entries e q in
    let its : Right c.loop-entry.entry one =
    λ q. let places = c.in_ok-gather.ensures.places q in
    (λ h. places.0 (sym (c.in_ok-closure.ensures q) ∙ h), λ live. c.in_ok-closure.ensures q ∙ places.1 live) in
    record {
      long = omega (arith, ap length c.in_ok-push.ensures.items, length-append old (one ∷ []), c.loop-entry.invariant.long);
      each = subst (λ (z : List Closure). (e : ℕ) (closure : Closure) → slice_get z e ≡ Some closure → Right e closure)
          (sym c.in_ok-push.ensures.items)
          (pushed_each Right old one c.loop-entry.invariant.each (subst (λ z. Right z one) (sym c.loop-entry.invariant.long) its));
      within = c.in_ok-gather.ensures.within;
    }
