-- What the definition of what is given says about the first word.
use Rattle.std.proofs.Common.{◌≡◌, true, false, List, ◌∷◌, Option, Some, None, refl}
use Rattle.std.specs.Prelude.{codes, option_and_then}
use Rattle.std.specs.Str.{bytes_eq}
use Rattle.clap.specs.Lexer.{long_of}
use Rattle.clap.specs.Walk.{Text}
use Rattle.trace_arguments.specs.Given.{CommandForm, Given, given_by, is_option, is_wanted, one_argument, one_more, option_named}
use Rattle.trace_forms.specs.Forms.{OptionForm}

module _ (command : CommandForm) (given : Given) where
  -- what is given after one more word
  abbrev pub given_after : Option Given → List Text → Option Given
  given_after one words = option_and_then (λ more. given_by command more None words) one

  module _ (word : Text) (dashes : bytes_eq word (codes "--") ≡ false) (words : List Text) where
    -- a word that isn't an option
    pub plain_first : is_option word ≡ false → long_of word ≡ None → given_by command given None (word ∷ words)
        ≡ given_after (one_argument command.arguments given word) words
    plain_first plain long = rw (dashes, long, plain) refl

    -- an option that isn't a long one
    pub short_first : is_option word ≡ true → long_of word ≡ None → given_by command given None (word ∷ words) ≡ None
    short_first option long = rw (dashes, long, option) refl

    module _ (option : is_option word ≡ true) (cut : Text × Option Text) (long : long_of word ≡ Some cut) where
      -- `--NAME=TEXT`
      pub joined_first : (text : Text) → cut.1 ≡ Some text → given_by command given None (word ∷ words)
          ≡ given_after (one_more command.options given (Some cut.0) (Some text)) words
      joined_first text e = rw (dashes, long, e, option) refl

      -- `--NAME` of an option without a text
      pub alone_first : (o : OptionForm) → cut.1 ≡ None → option_named command.options cut.0 ≡ Some o → is_wanted o.wants None ≡ true
          → given_by command given None (word ∷ words) ≡ given_after (one_more command.options given (Some cut.0) None) words
      alone_first o e is wanted = rw (dashes, long, e, is, wanted, option) refl

      -- `--NAME` of an option that needs a text
      pub name_first : (o : OptionForm) → cut.1 ≡ None → option_named command.options cut.0 ≡ Some o → is_wanted o.wants None ≡ false
          → given_by command given None (word ∷ words) ≡ given_by command given (Some cut.0) words
      name_first o e is wanted = rw (dashes, long, e, is, wanted) refl

      -- a name that no option has
      pub unknown_first : option_named command.options cut.0 ≡ None → given_by command given None (word ∷ words) ≡ None
      unknown_first none = go cut.1 refl
        where
          go : (said : Option Text) → cut.1 ≡ said → given_by command given None (word ∷ words) ≡ None
          go None e = rw (dashes, long, e, none, option) refl
          go (Some text) e = rw (dashes, long, e, none, option) refl
