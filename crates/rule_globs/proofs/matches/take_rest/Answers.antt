-- Before the first byte, from each byte to the next, and at the end, by what one pass does.
use Rattle.std.proofs.Common.{◌≡◌, ◌≢◌, ◌↔◌, ◌<◌, ◌≤◌, ◌+◌, IsTrue, refl, sym, ap, ◌∙◌, subst, arith}
use Rattle.std.proofs.Common.{List, ℕ, [], ◌∷◌, ◌++◌, length, get_or, take, true≢false, length-take, length-append}
use Rattle.std.proofs.lemmas.List.{take_all}
use Rattle.std.proofs.lemmas.Bool.{eqb-false}
use Rattle.rule_globs.specs.Glob.{Glob, Takes, places}
use Rattle.rule_globs.specs.Meaning.{meaning_of}
use Rattle.rule_globs.specs.inner.Cursor.{pass_at}
use Rattle.rule_globs.specs.inner.Sweep.{Pass}
use Rattle.rule_globs.proofs.Sweeps.{sweep-place}
use Rattle.rule_globs.proofs.WholeSweeps.{IsUpto, upto-start, upto-push, upto-pass, upto-next, upto-same, nothing_taken}
use Rattle.rule_globs.proofs.matches.take_rest.Goals as goal
use Rattle.rule_globs.proofs.matches.take_rest.Goals.{then-is_full+else-not-is_some_live, else-is_full}

pub loop-byte-init : goal.loop-byte-init
loop-byte-init c =
    let begin : c.push.new.self ≡ 0 ∷ [] = c.push.ensures ∙ ap (λ z. z ++ (0 ∷ [])) c.new-block.ensures in
    record {
      room = c.requires;
      some = omega (arith, ap length begin);
      few = omega (arith, ap length begin);
      upto = upto-start (meaning_of c.args.items.now) 2048 c.push.new.self c.requires begin;
    }

pub slice_bounds-live-end : goal.slice_bounds-live-end
slice_bounds-live-end c =
    let before : Pass = record { place = 0; reached = c.loop-byte.reached; live = c.loop-byte.live } in
    omega (
      arith,
      ap (λ (z : Pass). z.place) c.pass_items-end.ensures,
      sweep-place (meaning_of c.args.items.now) c.loop-byte.block before,
      c.loop-byte.invariant.room,
      c.pass_items-end.auto.live,
    )

pub slice_bounds-is_some_live-end : goal.slice_bounds-is_some_live-end
slice_bounds-is_some_live-end c =
    let before : Pass = record { place = 0; reached = c.loop-byte.reached; live = c.loop-byte.live } in
    omega (
      arith,
      ap (λ (z : Pass). z.place) c.pass_items-end.ensures,
      sweep-place (meaning_of c.args.items.now) c.loop-byte.block before,
      c.loop-byte.invariant.room,
      c.pass_items-end.auto.live,
      length-take c.pass_items-end.result.place c.pass_items-end.new.live,
    )

pub returns-then-not-is_some_live : goal.returns-then-not-is_some_live
returns-then-not-is_some_live c =
    let g : Glob = meaning_of c.args.items.now in
    let i : ℕ = c.loop-byte.byte-index in
    let before : Pass = record { place = 0; reached = c.loop-byte.reached; live = c.loop-byte.live } in
    let end : c.pass_items-end.result.place ≡ 0 + places g =
    ap (λ (z : Pass). z.place) c.pass_items-end.ensures ∙ sweep-place g c.loop-byte.block before in
    let both = upto-pass g (take i c.args.bytes.now) c.loop-byte.block c.loop-byte.reached c.loop-byte.live
    (pass_at c.pass_items-end.result c.pass_items-end.new.live) c.loop-byte.invariant.some c.loop-byte.invariant.few
    c.loop-byte.invariant.room c.loop-byte.invariant.upto c.pass_items-end.ensures in (
      λ h. absurd (true≢false (sym h)),
      λ h. absurd (nothing_taken g c.args.bytes.now i c.pass_items-end.result.place c.pass_items-end.new.live c.loop-byte-test.true
          (omega (arith, end)) (omega (arith, end, c.loop-byte.invariant.room, c.pass_items-end.auto.live)) both.0
          (c.is_some_live.ensures c.if-not-is_some_live.true) h),
    )

pub loop-byte-preserved : goal.loop-byte-preserved
loop-byte-preserved c =
    let g : Glob = meaning_of c.args.items.now in
    let i : ℕ = c.loop-byte.byte-index in
    let upto : IsUpto g (take i c.args.bytes.now) c.if-is_full.block c.if-is_full.reached c.if-is_full.live =
    elim c.if-is_full.branch [
      | then-is_full+else-not-is_some_live w ↦
          let both = upto-pass g (take i c.args.bytes.now) c.loop-byte.block c.loop-byte.reached c.loop-byte.live
          (pass_at w.pass_items-end.result w.pass_items-end.new.live) c.loop-byte.invariant.some c.loop-byte.invariant.few
          c.loop-byte.invariant.room c.loop-byte.invariant.upto w.pass_items-end.ensures in
          upto-same g (take i c.args.bytes.now) [] c.if-is_full.block 0 c.if-is_full.reached w.pass_items-end.new.live
          c.if-is_full.live (w.block-is ∙ w.new-block-then-is_full.ensures) w.reached-is w.live-is
          (upto-next g (take i c.args.bytes.now) w.pass_items-end.new.live both.0)
      | else-is_full w ↦
          upto-same g (take i c.args.bytes.now) c.loop-byte.block c.if-is_full.block c.loop-byte.reached c.if-is_full.reached
          c.loop-byte.live c.if-is_full.live w.block-is w.reached-is w.live-is c.loop-byte.invariant.upto
    ] in
    let sizes : (length c.if-is_full.block < 64) × (places g ≤ length c.if-is_full.live) =
    elim c.if-is_full.branch [
      | then-is_full+else-not-is_some_live w ↦ (
        omega (arith, ap length (w.block-is ∙ w.new-block-then-is_full.ensures)),
        omega (arith, c.loop-byte.invariant.room, w.pass_items-end.auto.live, ap length w.live-is),
      )
      | else-is_full w ↦
          let other = eqb-false (length c.loop-byte.block) 64 (sym c.is_full.ensures ∙ w.if-is_full.false) in
          let ne : length c.loop-byte.block ≢ 64 = other in (
            omega (arith, ne, c.loop-byte.invariant.few, ap length w.block-is),
            omega (arith, c.loop-byte.invariant.room, ap length w.live-is),
          )
    ] in
    let more : length c.push-in-loop-byte.new.self ≡ length c.if-is_full.block + 1 =
    ap length c.push-in-loop-byte.ensures ∙ length-append c.if-is_full.block (get_or c.args.bytes.now i 0 ∷ []) in
    record {
      room = sizes.1;
      some = omega (arith, more);
      few = omega (arith, more, sizes.0);
      upto = upto-push g c.args.bytes.now i (get_or c.args.bytes.now i 0) c.if-is_full.block c.push-in-loop-byte.new.self
          c.if-is_full.reached c.if-is_full.live c.loop-byte-test.true refl c.push-in-loop-byte.ensures upto;
    }

pub returns : goal.returns
returns c =
    let g : Glob = meaning_of c.args.items.now in
    let i : ℕ = c.loop-byte.byte-index in
    let both = upto-pass g (take i c.args.bytes.now) c.loop-byte.block c.loop-byte.reached c.loop-byte.live
    (pass_at c.pass_items-end-2.result c.pass_items-end-2.new.live) c.loop-byte.invariant.some c.loop-byte.invariant.few
    c.loop-byte.invariant.room c.loop-byte.invariant.upto c.pass_items-end-2.ensures in
    let P : List ℕ → Type 0 = λ x. IsTrue c.last.result ↔ Takes g x in
    subst P (take_all i c.args.bytes.now c.loop-byte-test.false) (subst (λ z. IsTrue z ↔ Takes g (take i c.args.bytes.now))
    (sym c.last.ensures) both.1)
