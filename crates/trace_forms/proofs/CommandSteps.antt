-- Building a command of options and arguments, one after the other, and a program of commands.
use Rattle.std.proofs.Common.{◌≡◌, ◌∙◌, ◌+◌, ◌<◌, ◌≤◌, Bool, true, false, not, refl, ℕ, suc, List, map, length, drop, get_or, ap}
use Rattle.std.proofs.Common.{sym, ◌∷◌, add-one, drop-cons, drop_of_length-le, []}
use Rattle.std.specs.Prelude.{fold}
use Rattle.clap.proofs.WalkLemmas.{both}
use Rattle.clap.specs.Words.{App, Rule, app_of, new_app, with_rule}
use Rattle.clap.specs.declared.builder.command.Command.{Command}
use Rattle.clap.specs.declared.builder.command.Command.TheViews.{out-Command}
use Rattle.trace_forms.specs.declared.forms.CommandForm as command
use Rattle.trace_forms.specs.Parser.{app_of_form, argument_form, argument_rule, option_form, option_rule, with_form, with_rules}

module _ {A B : Type 0} (form : A → B) (rule : B → Rule) where
  -- the command with what is left from i on
  abbrev pub with_rest : App → List A → ℕ → App
  with_rest app xs i = with_rules app (map rule (map form (drop i xs)))

  pub one_added : (xs : List A) (i : ℕ) (d : A) (before after : App) (r : Rule) → i < length xs → r ≡ rule (form (get_or xs i d))
      → after ≡ with_rule before r → with_rest after xs (i + 1) ≡ with_rest before xs i
  one_added xs i d before after r below is to =
      let rest : App → App = λ app. with_rules app (map rule (map form (drop (i + 1) xs))) in
      let next : drop (i + 1) xs ≡ drop (suc i) xs = ap (λ (k : ℕ). drop k xs) (add-one i) in
      ap rest (to ∙ ap (λ (r : Rule). with_rule before r) is)
      ∙ ap (λ (ys : List A). with_rules (with_rule before (rule (form (get_or xs i d)))) (map rule (map form ys))) next
      ∙ sym (ap (λ (ys : List A). with_rules before (map rule (map form ys))) (drop-cons xs i d below))

  pub all_added : (xs : List A) (i : ℕ) (app : App) → length xs ≤ i → with_rest app xs i ≡ app
  all_added xs i app past = ap (λ (ys : List A). with_rules app (map rule (map form ys))) (drop_of_length-le xs past)

-- the program with the commands from i on
abbrev pub with_others : App → List command.CommandForm → ℕ → App
with_others program forms i = fold with_form program (drop i forms)

pub command_more : (forms : List command.CommandForm) (i : ℕ) (d : command.CommandForm) (before after : App) → i < length forms
    → after ≡ with_form before (get_or forms i d) → with_others after forms (i + 1) ≡ with_others before forms i
command_more forms i d before after below to =
    ap (λ (app : App). fold with_form app (drop (i + 1) forms)) to
    ∙ ap (λ (k : ℕ). fold with_form (with_form before (get_or forms i d)) (drop k forms)) (add-one i)
    ∙ sym (ap (λ (fs : List command.CommandForm). fold with_form before fs) (drop-cons forms i d below))

pub commands_done : (forms : List command.CommandForm) (i : ℕ) (app : App) → length forms ≤ i → with_others app forms i ≡ app
commands_done forms i app past = ap (λ (fs : List command.CommandForm). fold with_form app fs) (drop_of_length-le forms past)

is_false : (b : Bool) → not b ≡ true → b ≡ false
is_false true e = sym e
is_false false e = refl

-- a plain command has no global argument
pub is_local : (c : Command) (a : App) → app_of c ≡ a → a.top.is_plain ≡ true → (out-Command c).has_globals ≡ false
is_local c a is plain =
    let plain_too : (app_of c).top.is_plain ≡ true = ap (λ (x : App). x.top.is_plain) is ∙ plain in
    let behind_groups = both _ _ plain_too in
    let behind_external = both _ _ behind_groups.1 in
    is_false _ (both _ _ behind_external.1).0

rules_are_plain : (app : App) (rules : List Rule) → (fold with_rule app rules).top.is_plain ≡ app.top.is_plain
rules_are_plain app [] = refl
rules_are_plain app (rule ∷ rules) = rules_are_plain (with_rule app rule) rules

-- a command of options and arguments is plain
pub form_is_plain : (form : command.CommandForm) → (app_of_form form).top.is_plain ≡ true
form_is_plain form =
    rules_are_plain (with_rules (new_app form.name.now) (map option_rule (map option_form form.options.now)))
    (map argument_rule (map argument_form form.arguments.now))
    ∙ rules_are_plain (new_app form.name.now) (map option_rule (map option_form form.options.now))
