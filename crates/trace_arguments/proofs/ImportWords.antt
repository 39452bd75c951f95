-- Lines of `import` and of `explain --flattened`.
use Rattle.std.proofs.Common.{◌≡◌, false, true, [], ◌∷◌, Some, None, refl}
use Rattle.std.specs.Prelude.{codes}
use Rattle.std.specs.Str.{chars}
use Rattle.trace_arguments.specs.CommandLine.{line_of, plain_line}
use Rattle.trace_arguments.specs.Values.{ChoiceValue, ImportValue, explain_flattened, import_text}
use Rattle.trace_arguments.specs.declared.choice.OwnerRules.TheVariants.{Drop, Keep}
use Rattle.trace_arguments.specs.declared.import.Account.TheVariants.{Changes, Nothing}
use Rattle.trace_report.specs.declared.format.Format.TheVariants.{Text}

abbrev any_profile : ChoiceValue
any_profile = record { profile = None; owners = Keep; defines = []; overrides = false }

abbrev whole_import : ImportValue
whole_import = record { choice = any_profile; all = false; strict = false; account = Changes; map = None }

-- no option is given
bare : line_of (codes "aa-trace" ∷ codes "import" ∷ []) ≡ Some (plain_line (import_text whole_import))
bare = refl

-- in any order; variables in the order of the words, each cut at its first `=`
all_of_them : line_of (codes "aa-trace" ∷ codes "import" ∷ codes "--define=a=b=c" ∷ codes "--strict" ∷ codes "--owner" ∷ codes
    "drop" ∷ codes "--define" ∷ codes "d_1=" ∷ codes "--profile=p" ∷ codes "--verbose" ∷ codes "--account=none" ∷ codes "--override"
    ∷ codes "--map=m" ∷ codes "--" ∷ [])
    ≡ Some (record {
      command = import_text (record {
        choice = record {
          profile = Some (codes "p");
          owners = Drop;
          defines = (codes "a", codes "b=c") ∷ (codes "d_1", []) ∷ [];
          overrides = true;
        };
        all = false;
        strict = true;
        account = Nothing;
        map = Some (codes "m");
      });
      verbose = true;
    })
unfolding chars
all_of_them = refl

-- an option twice that may be given once
twice : line_of (codes "aa-trace" ∷ codes "import" ∷ codes "--strict" ∷ codes "--strict" ∷ []) ≡ None
unfolding chars
twice = refl

-- a text for an option that takes none
text_for_none : line_of (codes "aa-trace" ∷ codes "import" ∷ codes "--strict=x" ∷ []) ≡ None
unfolding chars
text_for_none = refl

-- the profile's own name
own_name : line_of (codes "aa-trace" ∷ codes "import" ∷ codes "--define=profile_name=x" ∷ []) ≡ None
unfolding chars
own_name = refl

-- a value with an open backslash at its end; and one in which the last backslash is escaped
open_value : line_of (codes "aa-trace" ∷ codes "import" ∷ codes "--define=a=b\\" ∷ []) ≡ None
unfolding chars
open_value = refl

closed_value : line_of (codes "aa-trace" ∷ codes "import" ∷ codes "--define=a=b\\\\" ∷ [])
    ≡ Some (plain_line (import_text (record whole_import {
      choice = record any_profile { defines = (codes "a", codes "b\\\\") ∷ [] };
    })))
unfolding chars
closed_value = refl

-- an argument
argument : line_of (codes "aa-trace" ∷ codes "import" ∷ codes "x" ∷ []) ≡ None
unfolding chars
argument = refl

-- two options that say the same
owner_and_for : line_of (codes "aa-trace" ∷ codes "import" ∷ codes "--owner=keep" ∷ codes "--for=owner" ∷ []) ≡ None
unfolding chars
owner_and_for = refl

-- one name for all profiles
all_named : line_of (codes "aa-trace" ∷ codes "import" ∷ codes "--all" ∷ codes "--profile=p" ∷ []) ≡ None
unfolding chars
all_named = refl

-- a profile of a flattened text, and nothing about one without `--flattened`
flattened : line_of (codes "aa-trace" ∷ codes "explain" ∷ codes "--flattened" ∷ codes "r" ∷ codes "/a" ∷ codes "--for=others" ∷ [])
    ≡ Some (plain_line (explain_flattened (codes "r") (codes "/a") Text (record any_profile { owners = Drop })))
unfolding chars
flattened = refl

unflattened : line_of (codes "aa-trace" ∷ codes "explain" ∷ codes "r" ∷ codes "/a" ∷ codes "--owner=keep" ∷ []) ≡ None
unfolding chars
unflattened = refl
