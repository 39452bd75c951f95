-- Texts: what is read is in the grammar.
use Rattle.std.proofs.Common.{◌≡◌, ℕ, List, [], ◌∷◌, ◌++◌, Result, Ok, refl, ap, subst, ◌∙◌, append-nil}
use Rattle.std.specs.Prelude.{codes}
use Rattle.rule_reader.specs.declared.reader.local_fault.LocalFault.{LocalFault}
use Rattle.rule_reader.specs.Grammar.{print_header, print_rules, print_text, ReadsAs}
use Rattle.rule_reader.specs.GrammarWords.{print_blank, print_last}
use Rattle.rule_profile.specs.Profile.{RuleValue, ProfileValue}
use Rattle.rule_reader.specs.ReadHeader.{header_at}
use Rattle.rule_reader.specs.ReadSteps.{◌>>=◌}
use Rattle.rule_reader.specs.ReadWords.{blank}
use Rattle.rule_reader.specs.ReadText.{rules_at, end_at, text_at}
use Rattle.rule_reader.proofs.ReadSteps.{bind_ok, ok_is, not_ok}
use Rattle.rule_reader.proofs.TakeWords.{BlankTaken, blank_takes, MiddleBlank, middle_blank}
use Rattle.rule_reader.proofs.TakeHeader.{HeaderTaken, header_takes, header_some}
use Rattle.rule_reader.proofs.TakeRules.{RulesTaken, rules_take, rules_some}

abbrev profile_of : List ℕ → List RuleValue → ProfileValue
profile_of name rules = record { name = name; rules = rules }

nothing_left : (bytes : List ℕ) (u : Unit {0}) → end_at bytes ≡ Ok u → bytes ≡ []
nothing_left [] u e = refl
nothing_left (b ∷ bytes) u e = absurd (not_ok _ u e)

whole : (t w a h b v c r d y l z : List ℕ) → t ≡ w ++ a → a ≡ h ++ (codes "{" ++ b) → b ≡ v ++ c → c ≡ r ++ (codes "}" ++ d) →
    d ≡ y ++ (l ++ z) → z ≡ [] → t ≡ w ++ (h ++ (codes "{" ++ (v ++ (r ++ (codes "}" ++ (y ++ l))))))
whole t w a h b v c r d y l z e1 e2 e3 e4 e5 e6 =
    let last : l ++ z ≡ l = ap (λ (x : List ℕ). l ++ x) e6 ∙ append-nil l in
    cc

-- the parts that were read, as a text
text_of : (text from : List ℕ) (name : List ℕ × List ℕ) (inside : List ℕ) (rules : List RuleValue × List ℕ) (past : List ℕ) →
    MiddleBlank text from → HeaderTaken from name → MiddleBlank name.1 inside → RulesTaken 1024 inside rules →
    BlankTaken rules.1 past → past ≡ []
    → ReadsAs text (profile_of name.0 rules.0)
unfolding print_text
text_of text from name inside rules past start header within taken behind none =
    record {
      written = record {
        start = start.0;
        header = header.written;
        inside = within.0;
        rules = taken.written;
        past =
            behind.pieces;
        last = behind.last;
      };
      valid = record {
        start = start.1;
        header = header.valid;
        inside = within.1;
        rules = taken.valid;
        rules_fit = taken.few;
        past =
            behind.valid;
        last = behind.valid_last;
      };
      bytes = whole text (print_blank start.0) from (print_header header.written) name.1 (print_blank within.0) inside
          (print_rules taken.written) rules.1 (print_blank behind.pieces) (print_last behind.last) past start.2 header.parts within.2
          taken.parts behind.parts none;
      means = (let m = header.means in let r = taken.means in cc);
    }

that_text : (text : List ℕ) (p q : ProfileValue) → p ≡ q → ReadsAs text p → ReadsAs text q
that_text text p q e h = subst (ReadsAs text) e h

-- what is read is in the grammar, and means what was read
pub text_takes : (text : List ℕ) (p : ProfileValue) → text_at text ≡ Ok p → ReadsAs text p
unfolding text_at
text_takes text p e =
    let R : Type 0 = Result ProfileValue LocalFault in
    let s5 : List ℕ → List RuleValue → Unit {0} → R = λ name rules all. Ok (profile_of name rules) in
    let s4 : List ℕ → List RuleValue → List ℕ → R = λ name rules past. end_at past >>= s5 name rules in
    let s3 : List ℕ → List RuleValue × List ℕ → R = λ name rules. blank rules.1 >>= s4 name rules.0 in
    let s2 : List ℕ → List ℕ → R = λ name inside. rules_at 1024 inside >>= s3 name in
    let s1 : List ℕ × List ℕ → R = λ name. blank name.1 >>= s2 name.0 in
    let s0 : List ℕ → R = λ from. header_at from >>= s1 in
    let a = bind_ok (blank text) s0 p e in
    let b = bind_ok (header_at a.0) s1 p a.2 in
    let c = bind_ok (blank b.0.1) (s2 b.0.0) p b.2 in
    let d = bind_ok (rules_at 1024 c.0) (s3 b.0.0) p c.2 in
    let f = bind_ok (blank d.0.1) (s4 b.0.0 d.0.0) p d.2 in
    let g = bind_ok (end_at f.0) (s5 b.0.0 d.0.0) p f.2 in
    that_text text (profile_of b.0.0 d.0.0) p (ok_is (profile_of b.0.0 d.0.0) p g.2)
    (text_of text a.0 b.0 c.0 d.0 f.0 (middle_blank text a.0 a.1 (header_some a.0 b.0 b.1)) (header_takes a.0 b.0 b.1)
    (middle_blank b.0.1 c.0 c.1 (rules_some 1024 c.0 d.0 d.1)) (rules_take 1024 c.0 d.0 d.1) (blank_takes d.0.1 f.0 f.1)
    (nothing_left f.0 g.0 g.1))
