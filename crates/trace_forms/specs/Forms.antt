-- Options and arguments of a command.
use Rattle.std.specs.Prelude.{ℕ, Bool, List}

pub record NumberOption : Type 0 where
  -- what follows the two hyphens
  pub name : List ℕ
  -- the text of its number if the option isn't given
  pub default : List ℕ
  -- the least and the greatest number that it takes
  pub least : ℕ
  pub most : ℕ

-- what an option takes after its name, and how often it may be given
pub data Wants : Type 0 where
  -- a number that this one takes, once
  one_number : NumberOption → Wants
  -- a text, once
  one_text : Wants
  -- a text, any number of times
  many_texts : Wants
  -- nothing, once
  no_text : Wants

pub record OptionForm : Type 0 where
  -- what follows the two hyphens
  pub name : List ℕ
  pub wants : Wants

-- an argument, which is known by its place among the words that aren't options
pub record ArgumentForm : Type 0 where
  pub name : List ℕ
  pub is_required : Bool
  -- whether it may be given any number of times
  pub is_repeated : Bool
