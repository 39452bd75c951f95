use Rattle.std.proofs.Common.{arith, ℕ, ◌≡◌, ◌≤◌, ◌+◌, ◌*◌, length, refl, ap, sym, ◌∙◌}
use Rattle.apparmor_variables.specs.Variables.{byte_count, each_with, most_texts}
use Rattle.apparmor_variables.proofs.TextLists.{items, refused_many, refused_long, seen_length, made, length-each_with}
use Rattle.apparmor_variables.proofs.TextLists.{byte_count-each_with}
use Rattle.apparmor_variables.proofs.texts.Texts.each_with.Goals.{then-count-gt-MOST_TEXTS-via-then-count-gt-MOST_TEXTS}
use Rattle.apparmor_variables.proofs.texts.Texts.each_with.Goals.{then-count-gt-MOST_TEXTS-via-else-count-gt-MOST_TEXTS+then-bytes-gt-MOST_BYTES}
use Rattle.apparmor_variables.proofs.texts.Texts.each_with.Goals as goal

pub returns-then-count-gt-MOST_TEXTS : goal.returns-then-count-gt-MOST_TEXTS
returns-then-count-gt-MOST_TEXTS c =
    let firsts = c.self.inside.texts.items in
    let seconds = c.seconds.inside.texts.items in
    elim c.then-count-gt-MOST_TEXTS.branch [
      | then-count-gt-MOST_TEXTS-via-then-count-gt-MOST_TEXTS w ↦ refused_many c.args.self.now c.args.seconds.now c.len.result
          c.len-2.result (seen_length firsts c.args.self.now c.len.result c.self.view_is (omega arith))
          (seen_length seconds c.args.seconds.now c.len-2.result c.seconds.view_is (omega arith)) w.if-count-gt-MOST_TEXTS.true
      | then-count-gt-MOST_TEXTS-via-else-count-gt-MOST_TEXTS+then-bytes-gt-MOST_BYTES w ↦ refused_long c.args.self.now c.args.seconds.now
          c.self.inside.bytes c.seconds.inside.bytes c.len-4.result c.len-3.result
          (c.self.invariant.0 ∙ ap byte_count c.self.view_is) (c.seconds.invariant.0 ∙ ap byte_count c.seconds.view_is)
          (seen_length firsts c.args.self.now c.len-4.result c.self.view_is (omega arith))
          (seen_length seconds c.args.seconds.now c.len-3.result c.seconds.view_is (omega arith)) w.if-bytes-gt-MOST_BYTES.true
    ]

product_few : (f s m n all : ℕ) → m ≡ f → n ≡ s → all ≡ f * s → m * n ≤ most_texts → all ≤ most_texts
product_few f s m n all is_m is_n is few = let h : m * n ≡ f * s = λ i. is_m i * is_n i in omega (arith, h, is)

pub invariant_of-result : goal.invariant_of-result
invariant_of-result c =
    let firsts = items c.self.inside.texts.items in
    let seconds = items c.seconds.inside.texts.items in
    let new = c.in_ok-texts.texts.items in
    let is : items new ≡ each_with firsts seconds = c.in_ok-texts.ensures
    ∙ (λ i. each_with (items (c.deref.ensures.value i)) (items (c.deref-2.ensures.value i))) in
    let m : c.len-4.result ≡ length firsts = seen_length c.self.inside.texts.items firsts c.len-4.result refl (omega arith) in
    let n : c.len-3.result ≡ length seconds = seen_length c.seconds.inside.texts.items seconds c.len-3.result refl (omega arith) in
    let count : length new ≡ length firsts * length seconds = seen_length new (each_with firsts seconds) (length new) is refl
    ∙ length-each_with firsts seconds in (
      (λ i. c.self.invariant.0 i * n i + m i * c.seconds.invariant.0 i) ∙ sym (byte_count-each_with firsts seconds)
          ∙ ap byte_count (sym is),
      product_few (length firsts) (length seconds) c.len.result c.len-2.result (length new)
          (seen_length c.self.inside.texts.items firsts c.len.result refl (omega arith))
          (seen_length c.seconds.inside.texts.items seconds c.len-2.result refl (omega arith)) count c.if-count-gt-MOST_TEXTS.false,
      c.if-bytes-gt-MOST_BYTES.false,
    )

pub returns : goal.returns
returns c =
    let new = c.in_ok-texts.texts.items in
    let inv = invariant_of-result c in
    made (each_with c.args.self.now c.args.seconds.now) new
    (c.in_ok-texts.ensures ∙ (λ i. each_with (items (c.deref.ensures.value i)) (items (c.deref-2.ensures.value i)))
    ∙ (λ i. each_with (c.self.view_is i) (c.seconds.view_is i)))
    inv.1 (let h = inv.0 in omega (arith, h, inv.2))
