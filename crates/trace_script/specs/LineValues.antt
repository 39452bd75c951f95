-- What the parts of a line that was read stand for.
use Rattle.trace_script.specs.declared.line.LineKind.{LineKind as LineKindHere}
use Rattle.trace_script.specs.declared.line.LineKind.TheVariants as here
use Rattle.trace_script.specs.declared.line.Command.{Command as CommandHere}
use Rattle.trace_script.specs.declared.line.Command.TheVariants.{Remove, Alter, JudgeOpen, JudgeLink}
use Rattle.trace_script.specs.declared.line.ChangeWords.{ChangeWords as ChangeWordsHere}
use Rattle.trace_script.specs.declared.line.ChangeWords.TheVariants.{Mkdir, Create, Symlink, Link, Unlink, Rmdir, Rename}
use Rattle.trace_script.specs.Script.{ChangeWords, Command, LineKind, LineOf, mkdir, create, symlink, link, unlink, rmdir, rename, remove}
use Rattle.trace_script.specs.Script.{alter, judge_open, judge_link, ignored, opens_policy, command, no_command}

abbrev pub change_words : ChangeWordsHere → ChangeWords
change_words (Mkdir path) = mkdir path.now
change_words (Create path) = create path.now
change_words (Symlink text path) = symlink text.now path.now
change_words (Link old new) = link old.now new.now
change_words (Unlink path) = unlink path.now
change_words (Rmdir path) = rmdir path.now
change_words (Rename old new) = rename old.now new.now

abbrev pub command_value : CommandHere → Command
command_value (Remove name) = remove name.now
command_value (Alter words) = alter (change_words words)
command_value (JudgeOpen profile path ask) = judge_open profile.now path.now ask
command_value (JudgeLink profile old new) = judge_link profile.now old.now new.now

-- a line, by what its commands stand for
abbrev pub kind_by : {H C : Type 0} → (H → C) → LineKindHere H → LineOf C
kind_by value here.Ignored = ignored
kind_by value here.OpensPolicy = opens_policy
kind_by value (here.Command c) = command (value c)
kind_by value here.NoCommand = no_command

abbrev pub kind_value : LineKindHere CommandHere → LineKind
kind_value kind = kind_by command_value kind
