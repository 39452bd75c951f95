use Rattle.std.proofs.Common.{◌≡◌, ℕ, ◌-◌, ◌*◌, List, Bool, drop, take, length, sym, ◌∙◌, subst, arith}
use Rattle.std.proofs.lemmas.List.{take_all, length-drop}
use Rattle.tree_row.specs.Questions.{Tells}
use Rattle.tree_row.specs.inner.Words.{IsStart}
use Rattle.tree_row.proofs.Bytes.{text_is, word_starts, bytes_more}
use Rattle.tree_row.proofs.text.has_text.Goals as goal

-- the end of a text is all of what follows its front
end_is : (text : List ℕ) (n : ℕ) → take (length text - n) (drop n text) ≡ drop n text
end_is text n = let long = length-drop n text in take_all (length text - n) (drop n text) (omega arith)

pub returns-then-not-is_start-clause-ok : goal.returns-then-not-is_start-clause-ok
returns-then-not-is_start-clause-ok g c row m same =
    let n = 8 * c.loop-k.k in
    subst (λ (b : Bool). Tells b (IsStart c.in_ok-word.word (take (length c.args.text.now - n) (drop n c.args.text.now))))
    c.if-not-is_start.true c.is_start.ensures
    (subst (IsStart c.in_ok-word.word) (sym (end_is c.args.text.now n))
    (word_starts row c.args.base c.args.text.now c.loop-k.k c.in_ok-word.word same (c.in_ok-word.ensures.ok row m)))

pub loop-k-preserved : goal.loop-k-preserved
loop-k-preserved g c =
    let n = 8 * c.loop-k.k in
    let start = subst (IsStart c.in_ok-word.word) (end_is c.args.text.now n)
    (subst (λ (b : Bool). Tells b (IsStart c.in_ok-word.word (take (length c.args.text.now - n) (drop n c.args.text.now))))
    c.if-not-is_start.false c.is_start.ensures) in
    record {
      kept = c.word_at.ensures.kept ∙ c.loop-k.invariant.kept;
      fewer = λ row m. c.loop-k.invariant.fewer row (c.word_at.ensures.fewer row m);
      text = λ row m. bytes_more row c.args.text.now c.args.base c.loop-k.k c.in_ok-word.word (length c.args.text.now)
          (c.in_ok-word.ensures.ok row m) start (omega arith) (c.loop-k.invariant.text row (c.word_at.ensures.fewer row m));
    }

pub returns-clause-ok : goal.returns-clause-ok
returns-clause-ok g c row m = text_is row c.args.base c.args.text.now (λ i l. c.loop-k.invariant.text row m i (omega arith) l)
