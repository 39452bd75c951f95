use Rattle.std.proofs.Common.{◌≡◌, ℕ, ◌+◌, ◌<◌, Bool, true, false, List, [], ◌∷◌, ◌++◌, Vec, Global, take, filter, get_or, length, cond}
use Rattle.std.proofs.Common.{sym, ap, ◌∙◌, append_assoc, append-nil}
use Rattle.std.specs.Prelude.{codes}
use Rattle.std.specs.List.{flat_map}
use Rattle.std.proofs.lemmas.List.Concat.{flat_map-append}
use Rattle.std.proofs.lemmas.List.Elements.{filter_more}
use Rattle.names.specs.declared.permissions.Permission.{Permission}
use Rattle.names.specs.declared.permissions.Permission.TheVariants.{Read}
use Rattle.names.specs.Permissions.{all_permissions, has, letter}
use Rattle.rule_profile.specs.Profile.{profile_value}
use Rattle.rule_profile.specs.RuleSpans.{profile_spans}
use Rattle.rule_explain.specs.declared.reason.Reason.{Reason}
use Rattle.rule_explain.specs.Explanations.{reason_line, reason_text}
use Rattle.rule_explain.proofs.SoFar.{of_rules}
use Rattle.rule_explain.proofs.explanation.reason_lines.Goals as goal
use Rattle.rule_explain.proofs.explanation.reason_lines.Goals.{then-contains+in_ok-put_line, else-contains}

-- what one more permission adds
abbrev added : (Permission → List ℕ) → Bool → Permission → List ℕ
added f b p = flat_map f (cond b (p ∷ []) [])

one_more : (f : Permission → List ℕ) (test : Permission → Bool) (ps : List Permission) (i : ℕ) (d : Permission) → i < length ps
    → flat_map f (filter test (take (i + 1) ps)) ≡ flat_map f (filter test (take i ps)) ++ added f (test (get_or ps i d)) (get_or ps i d)
one_more f test ps i d lt = ap (flat_map f) (filter_more test ps i d lt) ∙ flat_map-append f (filter test (take i ps))
    (cond (test (get_or ps i d)) (get_or ps i d ∷ []) [])

step : (f : Permission → List ℕ) (test : Permission → Bool) (ps : List Permission) (i : ℕ) (d : Permission) (b : Bool)
    (base old new : List ℕ) → i < length ps → b ≡ test (get_or ps i d)
    → old ≡ base ++ flat_map f (filter test (take i ps)) → new ≡ old ++ added f b (get_or ps i d) →
    new ≡ base ++ flat_map f (filter test (take (i + 1) ps))
step f test ps i d b base old new lt is so_far e =
    e ∙ ap (λ (x : List ℕ). x ++ added f b (get_or ps i d)) so_far
    ∙ append_assoc base (flat_map f (filter test (take i ps))) (added f b (get_or ps i d))
    ∙ ap (λ (x : Bool). base ++ (flat_map f (filter test (take i ps)) ++ added f x (get_or ps i d))) is
    ∙ ap (λ (x : List ℕ). base ++ x) (sym (one_more f test ps i d lt))

pub put_line-requires : goal.put_line-requires
put_line-requires c =
    let p : Permission = get_or all_permissions c.loop-permission.permission-index Read in
    of_rules (profile_value c.args.profile.now).rules c.args.name.now p c.reason-reason.result
    (c.reason-reason.ensures ∙ c.firsts_of-firsts.ensures p (sym c.contains.ensures ∙ c.if-contains.true))

pub loop-permission-preserved : goal.loop-permission-preserved
loop-permission-preserved c =
    let f : Permission → List ℕ = reason_line c.args.text.now (profile_value c.args.profile.now).rules (profile_spans c.args.profile.now)
    c.args.name.now in
    let i : ℕ = c.loop-permission.permission-index in
    elim c.if-contains.branch [
      | then-contains+in_ok-put_line w ↦
          let p : Permission = get_or all_permissions i Read in
          let asked : has c.args.ask p ≡ true = sym c.contains.ensures ∙ w.if-contains.true in
          let line : Reason → List ℕ = λ r. letter p ∷ (codes ": "
          ++ (reason_text c.args.text.now (profile_value c.args.profile.now).rules (profile_spans c.args.profile.now) r ++ codes "\n")) in
          let is = w.reason-reason.ensures ∙ c.firsts_of-firsts.ensures p asked in
          step f (has c.args.ask) all_permissions i Read true [] c.loop-permission.lines.items
          c.if-contains.lines.items c.loop-permission-test.true (sym w.if-contains.true ∙ c.contains.ensures)
          c.loop-permission.invariant
          (ap (λ (v : Vec ℕ Global). v.items) w.lines-is ∙ w.in_ok-put_line.ensures
          ∙ ap (λ (r : Reason). c.loop-permission.lines.items ++ line r) is
          ∙ ap (λ (x : List ℕ). c.loop-permission.lines.items ++ x) (sym (append-nil (f p))))
      | else-contains w ↦
          step f (has c.args.ask) all_permissions i Read false [] c.loop-permission.lines.items
          c.if-contains.lines.items c.loop-permission-test.true (sym w.if-contains.false ∙ c.contains.ensures)
          c.loop-permission.invariant
          (ap (λ (v : Vec ℕ Global). v.items) w.lines-is ∙ sym (append-nil c.loop-permission.lines.items))
    ]
