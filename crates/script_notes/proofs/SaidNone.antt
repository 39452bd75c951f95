-- Words with which no command begins.
use Rattle.std.proofs.Common.{◌≡◌, ℕ, Bool, true, false, cond, List, [], ◌∷◌, ◌++◌, bytes_eq, codes, Option, Some, None, refl}
use Rattle.std.proofs.Common.{sym, ap, ◌∙◌}
use Rattle.std.specs.List.{before_first, AllByRecursion}
use Rattle.std.proofs.lemmas.Bool.{false≢true}
use Rattle.std.proofs.lemmas.Option.{none-some}
use Rattle.names.specs.Permissions.{perms_of}
use Rattle.names.specs.declared.permissions.Perms.{Perms}
use Rattle.script_notes.specs.Forms.{change_forms, form_of, run_forms, step_forms, test_forms}
use Rattle.script_notes.specs.ScriptLines.{says}
use Rattle.script_notes.specs.declared.line.Says.TheVariants.{NoCommand}
use Rattle.script_notes.proofs.SaidCommands.{in_steps, in_test, after_keep_says, step_by}
use Rattle.test_script.specs.TestScript.{run_kind}
use Rattle.trace_script.specs.Script.{LineKind, ignored, opens_policy, command, no_command, is_blank, is_comment}
use Rattle.trace_script.specs.Script.{kind_of_open, kind_of_words, line_kind, remove, alter, judge_link, mkdir, create, unlink, rmdir}
use Rattle.trace_steps.specs.StepScript.{kind_of_keep, kind_of_session, own_kind, own_kind_of_words, session_of}

pub skip : {X : Type 0} {b : Bool} {y z : X} (x : X) → b ≡ false → y ≡ z → cond b x y ≡ z
skip {b = true} x e f = absurd (false≢true (sym e))
skip {b = false} x e f = f

abbrev pub BeginsNone : List ℕ → List ℕ → Type 0
BeginsNone word form = bytes_eq (before_first is_blank form) word ≡ false

pub none_begins : (word : List ℕ) (forms : List (List ℕ)) → form_of forms word ≡ None → AllByRecursion (BeginsNone word) forms
none_begins word [] e = tt
none_begins word (first ∷ forms) e = by (λ e. none_begins word forms e) (bytes_eq (before_first is_blank first) word) refl e
  where
    by : (form_of forms word ≡ None → AllByRecursion (BeginsNone word) forms) → (b : Bool) →
        bytes_eq (before_first is_blank first) word ≡ b → cond b (Some first) (form_of forms word) ≡ None →
        AllByRecursion (BeginsNone word) (first ∷ forms)
    by later true f e = absurd (none-some first (sym e))
    by later false f e = (f, later e)

-- The commands that `run` and `steps` share.
record IsNoShared (word : List ℕ) : Type 0 where
  no_policy : bytes_eq (codes "policy") word ≡ false
  no_drop : bytes_eq (codes "drop") word ≡ false
  no_mkdir : bytes_eq (codes "mkdir") word ≡ false
  no_create : bytes_eq (codes "create") word ≡ false
  no_symlink : bytes_eq (codes "symlink") word ≡ false
  no_link : bytes_eq (codes "link") word ≡ false
  no_unlink : bytes_eq (codes "unlink") word ≡ false
  no_rmdir : bytes_eq (codes "rmdir") word ≡ false
  no_rename : bytes_eq (codes "rename") word ≡ false
  no_open : bytes_eq (codes "open") word ≡ false

-- `policy`, `drop` and the changes of the tree, up to the tenth of a list of forms
abbrev nine : List (List ℕ)
nine =
    codes "policy" ∷ codes "drop PROFILE" ∷ codes "mkdir PATH" ∷ codes "create PATH" ∷ codes "symlink TEXT PATH"
    ∷ codes "link OLD NEW" ∷ codes "unlink PATH" ∷ codes "rmdir PATH" ∷ codes "rename OLD NEW" ∷ []

shared : (word : List ℕ) (more : List (List ℕ)) → AllByRecursion (BeginsNone word) (nine ++ (codes "open PROFILE PATH PERMS" ∷ more)) →
    IsNoShared word
shared word more none = record {
  no_policy = none.0;
  no_drop = none.1.0;
  no_mkdir = none.1.1.0;
  no_create = none.1.1.1.0;
  no_symlink = none.1.1.1.1.0;
  no_link = none.1.1.1.1.1.0;
  no_unlink = none.1.1.1.1.1.1.0;
  no_rmdir = none.1.1.1.1.1.1.1.0;
  no_rename = none.1.1.1.1.1.1.1.1.0;
  no_open = none.1.1.1.1.1.1.1.1.1.0;
}

-- and those after these ten
after_shared : (word : List ℕ) (more : List (List ℕ)) →
    AllByRecursion (BeginsNone word) (nine ++ (codes "open PROFILE PATH PERMS" ∷ more)) → AllByRecursion (BeginsNone word) more
after_shared word more none = none.1.1.1.1.1.1.1.1.1.1

one_none : (word : List ℕ) → IsNoShared word → kind_of_words (word ∷ []) ≡ no_command
one_none word none = skip _ none.no_policy refl

two_none : (word a : List ℕ) → IsNoShared word → kind_of_words (word ∷ a ∷ []) ≡ no_command
two_none word a none =
    skip _ none.no_drop (skip _ none.no_mkdir (skip _ none.no_create (skip _ none.no_unlink (skip _ none.no_rmdir refl))))

three_none : (word a b : List ℕ) → IsNoShared word → kind_of_words (word ∷ a ∷ b ∷ []) ≡ no_command
three_none word a b none = skip _ none.no_symlink (skip _ none.no_link (skip _ none.no_rename refl))

run_by : (word : List ℕ) → IsNoShared word → bytes_eq (codes "judged-link") word ≡ false → (more : List (List ℕ)) →
    kind_of_words (word ∷ more) ≡ no_command
run_by word none no_judged [] = one_none word none
run_by word none no_judged (a ∷ []) = two_none word a none
run_by word none no_judged (a ∷ b ∷ []) = three_none word a b none
run_by word none no_judged (a ∷ b ∷ c ∷ []) = skip _ none.no_open (skip _ no_judged refl)
run_by word none no_judged (a ∷ b ∷ c ∷ d ∷ more) = refl

pub run_none : (word : List ℕ) → AllByRecursion (BeginsNone word) run_forms → (more : List (List ℕ)) →
    kind_of_words (word ∷ more) ≡ no_command
run_none word none more =
    let judged : List (List ℕ) = codes "judged-link PROFILE OLD NEW" ∷ [] in
    run_by word (shared word judged none) (after_shared word judged none).0 more

pub no_comment : (word : List ℕ) (kind : LineKind) → says (cond (is_comment word) ignored kind) ≡ NoCommand → is_comment word ≡ false
no_comment word kind h = by (is_comment word) h
  where
    by : (b : Bool) → says (cond b ignored kind) ≡ NoCommand → b ≡ false
    by true h = cc
    by false h = refl

-- ---- `steps`

-- A judged link, which is a command of `run`, is none here.
pub data IsNone (word : List ℕ) (more : List (List ℕ)) : Type 0 where
  is_none_of_run : kind_of_words (word ∷ more) ≡ no_command → IsNone word more
  is_judged : (profile old new : List ℕ) → kind_of_words (word ∷ more) ≡ command (judge_link profile old new) → IsNone word more

four_none : (word a b c : List ℕ) → IsNoShared word → IsNone word (a ∷ b ∷ c ∷ [])
four_none word a b c none = by (bytes_eq (codes "judged-link") word) refl
  where
    by : (judged : Bool) → bytes_eq (codes "judged-link") word ≡ judged → IsNone word (a ∷ b ∷ c ∷ [])
    by true e = is_judged a b c (skip _ none.no_open (ap (λ judged. cond judged (command (judge_link a b c)) no_command) e))
    by false e = is_none_of_run (skip _ none.no_open (skip _ e refl))

shared_none : (word : List ℕ) → IsNoShared word → (more : List (List ℕ)) → IsNone word more
shared_none word none [] = is_none_of_run (one_none word none)
shared_none word none (a ∷ []) = is_none_of_run (two_none word a none)
shared_none word none (a ∷ b ∷ []) = is_none_of_run (three_none word a b none)
shared_none word none (a ∷ b ∷ c ∷ []) = four_none word a b c none
shared_none word none (a ∷ b ∷ c ∷ d ∷ more) = is_none_of_run refl

-- the forms of `steps` alone
abbrev event_forms : List (List ℕ)
event_forms =
    codes "begin SESSION PROFILE PATH PERMS" ∷ codes "policy-read SESSION" ∷ codes "count SESSION" ∷ codes "cell SESSION NUMBER"
    ∷ codes "check SESSION" ∷ codes "go SESSION" ∷ codes "set NUMBER" ∷ codes "close" ∷ []

pub step_run_none : (word : List ℕ) → AllByRecursion (BeginsNone word) step_forms → (more : List (List ℕ)) → IsNone word more
step_run_none word none more = shared_none word (shared word event_forms none) more

session_none : (word : List ℕ) (session : Option ℕ) → bytes_eq (codes "policy-read") word ≡ false →
    bytes_eq (codes "count") word ≡ false → bytes_eq (codes "check") word ≡ false → bytes_eq (codes "go") word ≡ false →
    kind_of_session word session ≡ no_command
session_none word None reads counts checks goes = refl
session_none word (Some session) reads counts checks goes = skip _ reads (skip _ counts (skip _ checks (skip _ goes refl)))

event_none : (word : List ℕ) → AllByRecursion (BeginsNone word) event_forms → (more : List (List ℕ)) →
    own_kind_of_words (word ∷ more) ≡ no_command
event_none word (begins, (reads, (counts, (cells, (checks, (goes, (sets, (closes, end)))))))) [] = skip _ closes refl
event_none word (begins, (reads, (counts, (cells, (checks, (goes, (sets, (closes, end)))))))) (a ∷ []) =
    skip _ sets (session_none word (session_of a) reads counts checks goes)
event_none word (begins, (reads, (counts, (cells, (checks, (goes, (sets, (closes, end)))))))) (a ∷ b ∷ []) = skip _ cells refl
event_none word none (a ∷ b ∷ c ∷ []) = refl
event_none word (begins, none) (a ∷ b ∷ c ∷ d ∷ []) = skip _ begins refl
event_none word none (a ∷ b ∷ c ∷ d ∷ e ∷ more) = refl

pub step_own_none : (word : List ℕ) → AllByRecursion (BeginsNone word) step_forms → (more : List (List ℕ)) →
    own_kind_of_words (word ∷ more) ≡ no_command
step_own_none word none more = event_none word (after_shared word event_forms none) more

pub step_none : (word : List ℕ) (more : List (List ℕ)) → IsNone word more → is_comment word ≡ false →
    own_kind (word ∷ more) ≡ no_command → in_steps (word ∷ more) ≡ NoCommand
step_none word more (is_none_of_run e) comment own =
    ap (λ kind. says (step_by (word ∷ more) kind)) (skip _ comment e) ∙ ap says own
step_none word more (is_judged profile old new e) comment own = ap (λ kind. says (step_by (word ∷ more) kind)) (skip _ comment e)

-- after `keep`
keep_by_one : (word : List ℕ) → kind_of_keep (kind_of_words (word ∷ [])) ≡ no_command
keep_by_one word = by (bytes_eq (codes "policy") word)
  where
    by : (b : Bool) → kind_of_keep (cond b opens_policy no_command) ≡ no_command
    by true = refl
    by false = refl

keep_by_two : (word a : List ℕ) (others : LineKind) → others ≡ no_command → (b : Bool) →
    kind_of_keep (cond b (command (remove a)) others) ≡ no_command
keep_by_two word a others e true = refl
keep_by_two word a others e false = ap kind_of_keep e

keep_by_four : (a b c : List ℕ) (ask : Option Perms) (opens judged : Bool) →
    kind_of_keep (cond opens (kind_of_open a b ask) (cond judged (command (judge_link a b c)) no_command)) ≡ no_command
keep_by_four a b c None true judged = refl
keep_by_four a b c (Some ask) true judged = refl
keep_by_four a b c ask false true = refl
keep_by_four a b c ask false false = refl

keep_words_none : (word : List ℕ) → AllByRecursion (BeginsNone word) change_forms → (more : List (List ℕ)) →
    kind_of_keep (kind_of_words (word ∷ more)) ≡ no_command
keep_words_none word none [] = keep_by_one word
keep_words_none word (mkdirs, (creates, (symlinks, (links, (unlinks, (rmdirs, (renames, end))))))) (a ∷ []) =
    keep_by_two word a (cond (bytes_eq (codes "mkdir") word) (command (alter (mkdir a)))
    (cond (bytes_eq (codes "create") word) (command (alter (create a)))
    (cond (bytes_eq (codes "unlink") word) (command (alter (unlink a)))
    (cond (bytes_eq (codes "rmdir") word) (command (alter (rmdir a))) no_command))))
    (skip _ mkdirs (skip _ creates (skip _ unlinks (skip _ rmdirs refl)))) (bytes_eq (codes "drop") word)
keep_words_none word (mkdirs, (creates, (symlinks, (links, (unlinks, (rmdirs, (renames, end))))))) (a ∷ b ∷ []) =
    ap kind_of_keep (skip _ symlinks (skip _ links (skip _ renames refl)))
keep_words_none word none (a ∷ b ∷ c ∷ []) =
    keep_by_four a b c (perms_of c) (bytes_eq (codes "open") word) (bytes_eq (codes "judged-link") word)
keep_words_none word none (a ∷ b ∷ c ∷ d ∷ more) = refl

keep_none : (word : List ℕ) → AllByRecursion (BeginsNone word) change_forms → (more : List (List ℕ)) →
    kind_of_keep (line_kind (word ∷ more)) ≡ no_command
keep_none word none more = by (is_comment word)
  where
    by : (b : Bool) → kind_of_keep (cond b ignored (kind_of_words (word ∷ more))) ≡ no_command
    by true = refl
    by false = keep_words_none word none more

pub after_keep_none : (word : List ℕ) → AllByRecursion (BeginsNone word) change_forms → (more : List (List ℕ)) →
    after_keep_says (word ∷ more) ≡ NoCommand
after_keep_none word none [] = ap says (keep_none word none [])
after_keep_none word none (a ∷ []) = ap says (keep_none word none (a ∷ []))
after_keep_none word none (a ∷ b ∷ []) = ap says (keep_none word none (a ∷ b ∷ []))
after_keep_none word none (a ∷ b ∷ c ∷ more) = ap says (keep_none word none (a ∷ b ∷ c ∷ more))

pub test_none : (number : ℕ) (word : List ℕ) → AllByRecursion (BeginsNone word) test_forms → (more : List (List ℕ)) →
    in_test number (word ∷ more) ≡ NoCommand
test_none number word (judges, (explains, none)) more =
    ap says (skip _ judges (skip _ explains (ap (run_kind number) (run_none word none more))))
