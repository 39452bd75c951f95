-- Lines of the other commands.
use Rattle.std.proofs.Common.{◌≡◌, false, true, [], ◌∷◌, Some, None, refl}
use Rattle.std.specs.Prelude.{codes}
use Rattle.std.specs.Str.{chars}
use Rattle.trace_arguments.specs.CommandLine.{line_of, plain_line}
use Rattle.trace_arguments.specs.Values.{all_names, any_name, audit, compile, diff, judge, lint, names, storm, test}
use Rattle.trace_report.specs.declared.format.Format.TheVariants.{Json, Text}

-- ---- numbers

-- in any order, in one word or in two; a last `--` means nothing
any_order : line_of (codes "aa-trace" ∷ codes "storm" ∷ codes "--opens=+07" ∷ codes "--sessions" ∷ codes "3" ∷ codes "--" ∷ [])
    ≡ Some (plain_line (storm 3 7 1000))
unfolding chars
any_order = refl

-- an option twice
number_twice : line_of (codes "aa-trace" ∷ codes "storm" ∷ codes "--opens=1" ∷ codes "--opens" ∷ codes "1" ∷ [])
    ≡ None
unfolding chars
number_twice = refl

-- no number after a name
no_number : line_of (codes "aa-trace" ∷ codes "storm" ∷ codes "--sessions" ∷ codes "--opens=1" ∷ [])
    ≡ None
unfolding chars
no_number = refl

-- a number over the greatest
too_many : line_of (codes "aa-trace" ∷ codes "storm" ∷ codes "--sessions=17" ∷ [])
    ≡ None
unfolding chars
too_many = refl

-- the greatest depth, one over it, and none
greatest : line_of (codes "aa-trace" ∷ codes "compile" ∷ codes "--depth=+064" ∷ [])
    ≡ Some (plain_line (compile 64))
unfolding chars
greatest = refl

too_deep : line_of (codes "aa-trace" ∷ codes "compile" ∷ codes "--depth" ∷ codes "65" ∷ [])
    ≡ None
unfolding chars
too_deep = refl

no_depth : line_of (codes "aa-trace" ∷ codes "compile" ∷ [])
    ≡ Some (plain_line (compile 0))
unfolding chars
no_depth = refl

-- a number and a flag
test_json : line_of (codes "aa-trace" ∷ codes "test" ∷ codes "--json" ∷ codes "--capacity" ∷ codes "7" ∷ [])
    ≡ Some (plain_line (test 7 Json false))
unfolding chars
test_json = refl

-- ---- arguments

-- options before, between and after the arguments
mixed : line_of (codes "aa-trace" ∷ codes "any" ∷ codes "r" ∷ codes "--json" ∷ codes "/etc/**" ∷ codes "--each-rule" ∷ [])
    ≡ Some (plain_line (any_name (codes "r") (codes "/etc/**") true Json))
unfolding chars
mixed = refl

-- no option after `--`
escaped : line_of (codes "aa-trace" ∷ codes "any" ∷ codes "--each-rule" ∷ codes "--" ∷ codes "r" ∷ codes "--json" ∷ [])
    ≡ Some (plain_line (any_name (codes "r") (codes "--json") true Text))
unfolding chars
escaped = refl

-- an argument that is required, and one too many
one_left : line_of (codes "aa-trace" ∷ codes "any" ∷ codes "--json" ∷ codes "r" ∷ [])
    ≡ None
unfolding chars
one_left = refl

one_over : line_of (codes "aa-trace" ∷ codes "any" ∷ codes "r" ∷ codes "/a" ∷ codes "/b" ∷ [])
    ≡ None
unfolding chars
one_over = refl

one_over_escaped : line_of (codes "aa-trace" ∷ codes "any" ∷ codes "r" ∷ codes "/a" ∷ codes "--" ∷ codes "/b" ∷ [])
    ≡ None
unfolding chars
one_over_escaped = refl

-- an argument isn't an option
by_name : line_of (codes "aa-trace" ∷ codes "any" ∷ codes "--PERMS=r" ∷ codes "/a" ∷ [])
    ≡ None
unfolding chars
by_name = refl

-- a flag twice, or with a text
flag_twice : line_of (codes "aa-trace" ∷ codes "all" ∷ codes "--json" ∷ codes "r" ∷ codes "--json" ∷ codes "/a" ∷ [])
    ≡ None
unfolding chars
flag_twice = refl

flag_text : line_of (codes "aa-trace" ∷ codes "all" ∷ codes "--json=yes" ∷ codes "r" ∷ codes "/a" ∷ [])
    ≡ None
unfolding chars
flag_text = refl

-- an option of another command
flag_of_another : line_of (codes "aa-trace" ∷ codes "all" ∷ codes "--each-rule" ∷ codes "r" ∷ codes "/a" ∷ [])
    ≡ None
unfolding chars
flag_of_another = refl

all_text : line_of (codes "aa-trace" ∷ codes "all" ∷ codes "r" ∷ codes "/a" ∷ [])
    ≡ Some (plain_line (all_names (codes "r") (codes "/a") Text))
unfolding chars
all_text = refl

judge_json : line_of (codes "aa-trace" ∷ codes "judge" ∷ codes "r" ∷ codes "/a" ∷ codes "--json" ∷ [])
    ≡ Some (plain_line (judge (codes "r") (codes "/a") Json false))
unfolding chars
judge_json = refl

-- the second profile may be left out
diff_old : line_of (codes "aa-trace" ∷ codes "diff" ∷ codes "old" ∷ [])
    ≡ Some (plain_line (diff (codes "old") None None false Text))
unfolding chars
diff_old = refl

-- a hyphen alone is an argument
diff_both : line_of (codes "aa-trace" ∷ codes "diff" ∷ codes "old" ∷ codes "--below" ∷ codes "/a/**" ∷ codes "-" ∷ [])
    ≡ Some (plain_line (diff (codes "old") (Some (codes "-")) (Some (codes "/a/**")) false Text))
unfolding chars
diff_both = refl

-- the word after `--below` is its text
diff_none : line_of (codes "aa-trace" ∷ codes "diff" ∷ codes "--below" ∷ codes "old" ∷ [])
    ≡ None
unfolding chars
diff_none = refl

-- but no option is
diff_open : line_of (codes "aa-trace" ∷ codes "diff" ∷ codes "old" ∷ codes "--below" ∷ codes "--json" ∷ [])
    ≡ None
unfolding chars
diff_open = refl

lint_one : line_of (codes "aa-trace" ∷ codes "lint" ∷ [])
    ≡ Some (plain_line (lint Text))
unfolding chars
lint_one = refl

lint_word : line_of (codes "aa-trace" ∷ codes "lint" ∷ codes "x" ∷ [])
    ≡ None
unfolding chars
lint_word = refl

-- ---- notes, and commands of lists

-- any number of profiles, before and after `--`
audit_all : line_of (codes "aa-trace" ∷ codes "audit" ∷ codes "a" ∷ codes "--json" ∷ codes "b" ∷ codes "--" ∷ codes "-c" ∷ [])
    ≡ Some (plain_line (audit (codes "a" ∷ codes "b" ∷ codes "-c" ∷ []) Json))
unfolding chars
audit_all = refl

-- but one at least
audit_none : line_of (codes "aa-trace" ∷ codes "audit" ∷ [])
    ≡ None
unfolding chars
audit_none = refl

names_shown : line_of (codes "aa-trace" ∷ codes "names" ∷ codes "--null" ∷ codes "w" ∷ codes "web" ∷ codes "--verdict" ∷ [])
    ≡ Some (plain_line (names (record {
      perms = codes "w";
      profile = codes "web";
      not_allowed = false;
      verdicts = true;
      null = true;
    })))
unfolding chars
names_shown = refl

judge_noted : line_of (codes "aa-trace" ∷ codes "judge" ∷ codes "--verbose" ∷ codes "r" ∷ codes "--quiet" ∷ codes "/a" ∷ [])
    ≡ Some (record { command = judge (codes "r") (codes "/a") Text true; verbose = true })
unfolding chars
judge_noted = refl

-- `explain` writes notes as it is
explain_noted : line_of (codes "aa-trace" ∷ codes "explain" ∷ codes "--verbose" ∷ codes "r" ∷ codes "/a" ∷ [])
    ≡ None
unfolding chars
explain_noted = refl
