use Rattle.std.proofs.Common.{◌≡◌, drop}
use Rattle.named_texts.specs.Given.{given_text}
use Rattle.named_texts.proofs.given.text_of.Given as goal

-- it is the first of those that are left
abbrev pub invariant-loop-given : goal.invariant-loop-given
invariant-loop-given l = given_text (drop l.given-index l.texts) l.name ≡ given_text l.texts l.name
