use Rattle.std.proofs.Common.{◌≡◌, ◌++◌, ◌∷◌, [], List, ℕ, Vec, Global, map, sym, ap, ◌∙◌, append-nil, rules, Some}
use Rattle.std.proofs.lemmas.List.{map-append}
use Rattle.test_script.specs.TestScript.{quoted_words}
use Rattle.test_script.specs.laws.WordReads.{at_word, gathered_first, gathered_next, with_words}
use Rattle.test_script.proofs.quotes.quoted_words.Goals as goal

abbrev texts : List (Vec ℕ Global) → List (List ℕ)
texts words = map (λ (word : Vec ℕ Global). word.items) words

pub loop-left-init : goal.loop-left-init
loop-left-init c =
    let line = c.args.line.now in
    record {
      gathered = gathered_first (texts c.new-words.result.items) c.skip-left.result.now line (ap texts c.new-words.ensures.items)
          c.skip-left.ensures;
      at_word = rw c.skip-left.ensures (at_word line);
    }

pub loop-left-preserved : goal.loop-left-preserved
loop-left-preserved c =
    let words = c.loop-left.words.items in
    let word = c.in-Some.word in
    let rest = c.in-Some.rest.now in
    let next = c.skip-left-in-loop-left in
    let more = ap texts c.in_ok-push.ensures.items ∙ map-append (λ (word : Vec ℕ Global). word.items) words (word ∷ []) in
    record {
      gathered = gathered_next (texts words) (texts c.push.new.self.items) word.items c.loop-left.left.now rest
          next.result.now c.args.line.now
          c.loop-left.invariant.gathered (rw c.in-Some.is at c.in_ok-word.ensures.word) more next.ensures;
      at_word = rw next.ensures (at_word rest);
    }

pub next_word-requires-clause-at_word : goal.next_word-requires-clause-at_word
next_word-requires-clause-at_word c = c.loop-left.invariant.at_word

pub returns-in_default : goal.returns-in_default
returns-in_default c = sym (ap (with_words (texts c.loop-left.words.items)) (rw c.in_default.is at c.in_ok-word.ensures.word))
    ∙ c.loop-left.invariant.gathered

pub returns : goal.returns
returns c =
    let words = texts c.loop-left.words.items in
    let none : c.loop-left.left.now ≡ [] = search rules in
    ap Some (sym (append-nil words)) ∙ sym (ap (λ l. with_words words (quoted_words l)) none) ∙ c.loop-left.invariant.gathered
