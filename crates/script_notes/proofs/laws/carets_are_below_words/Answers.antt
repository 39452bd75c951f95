use Rattle.script_notes.proofs.ShownWords.{misfit_is_of_a_word, word_is_there}
use Rattle.script_notes.proofs.laws.carets_are_below_words.Goals as goal

pub returns-clause-word : goal.returns-clause-word
returns-clause-word c = misfit_is_of_a_word

pub returns-clause-place : goal.returns-clause-place
returns-clause-place c line word within = word_is_there word line within
