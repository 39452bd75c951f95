-- The line of one more part.
use Rattle.std.proofs.Common.{◌≡◌, ◌∙◌, ◌<◌, ℕ, List, [], Vec, Global, map, get_or, length, ap, sym, arith}
use Rattle.std.proofs.lemmas.List.{get_or-map, length-map}
use Rattle.rule_globs.specs.Rules.{RuleValue}
use Rattle.rule_influence.specs.declared.substitutes.IdleCase.{IdleCase}
use Rattle.rule_profile.specs.Profile.{profile_value}
use Rattle.rule_profile.specs.RuleSpans.{profile_spans}
use Rattle.trace_lint.specs.LintOutput.{finding_in}
use Rattle.trace_lint.specs.Parts.{case_of}
use Rattle.trace_lint.specs.declared.findings.Part.{Part}
use Rattle.trace_lint.specs.inner.Found.{finding_value, found_of}
use Rattle.trace_lint.proofs.AllFound.{line_all, line_more}
use Rattle.trace_lint.proofs.lines.lines.Goals as goal

pub loop-index-preserved : goal.loop-index-preserved
loop-index-preserved c =
    let lists = map (λ (list : Vec ℕ Global). list.items) c.args.lists.now in
    let long : length lists ≡ length c.args.lists.now = length-map c.args.lists.now (λ (list : Vec ℕ Global). list.items) in
    let within : c.loop-index.index < length c.args.lists.now = omega (arith, c.loop-index-test.true, c.requires.each) in
    let list : c.deref.result.now ≡ get_or lists c.loop-index.index [] =
    c.deref.ensures.value ∙ ap (λ (z : Vec ℕ Global). z.items) c.index-lists-index.is
    ∙ sym (get_or-map (λ (list : Vec ℕ Global). list.items) c.args.lists.now c.loop-index.index c.index-lists-index.result [] within) in
    let rules = (profile_value c.args.linted.now.profile.now).rules in
    let spans = profile_spans c.args.linted.now.profile.now in
    let part : Part = get_or c.args.parts.now c.loop-index.index _ in
    let perms : c.case_of-case.result.perms ≡ (case_of rules part).perms =
    ap (λ (z : IdleCase). z.perms)
    (c.case_of-case.ensures ∙ ap (λ (z : List RuleValue). case_of z part) c.rules.ensures.rules) in
    line_more rules c.args.decided.now (finding_in c.args.format c.args.linted.now.text.now rules spans) c.args.parts.now lists
    c.loop-index.index _ [] (finding_value c.of-finding.result)
    c.loop-index.lines.items c.put_finding.new.line.items c.loop-index-test.true (omega (arith, within, long))
    (c.of-finding.ensures ∙ ap (λ z. found_of c.args.decided.now part z c.deref.result.now) perms
    ∙ ap (found_of c.args.decided.now part (case_of rules part).perms) list)
    c.loop-index.invariant c.in_ok-put_finding.ensures

pub returns : goal.returns
returns c =
    let lists = map (λ (list : Vec ℕ Global). list.items) c.args.lists.now in
    let rules = (profile_value c.args.linted.now.profile.now).rules in
    let spans = profile_spans c.args.linted.now.profile.now in
    line_all rules c.args.decided.now (finding_in c.args.format c.args.linted.now.text.now rules spans) c.args.parts.now lists
    c.loop-index.index c.loop-index.lines.items c.loop-index-test.false
    (omega (arith, c.loop-index-test.false, c.requires.each, length-map c.args.lists.now (λ (list : Vec ℕ Global). list.items)))
    c.loop-index.invariant
