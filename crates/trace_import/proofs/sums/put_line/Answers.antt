use Rattle.std.proofs.Common.{◌≡◌, ◌++◌, ℕ, List, ap, ◌∙◌, append_assoc}
use Rattle.std.specs.Prelude.{codes, decimal}
use Rattle.std.proofs.lemmas.Result.{IfOk-weaker}
use Rattle.trace_import.specs.Accounts.{count_of, others_word, sums_line}
use Rattle.trace_import.specs.declared.sums.Report.TheVariants as reports
use Rattle.trace_import.proofs.sums.put_line.Goals as goal

-- two parts were added
added : (old middle new first second here there told : List ℕ) → middle ≡ old ++ first → new ≡ middle ++ second → first ≡ here
    → second ≡ there → here ++ there ≡ told → new ≡ old ++ told
added old middle new first second here there told e1 e2 e3 e4 e5 =
    e2 ∙ (ap (λ (x : List ℕ). x ++ second) e1 ∙ (append_assoc old first second ∙ (ap (λ (x : List ℕ). old ++ (x ++ second)) e3
    ∙ (ap (λ (x : List ℕ). old ++ (here ++ x)) e4 ∙ ap (λ (x : List ℕ). old ++ x) e5))))

-- the parts of the line
abbrev chosen_text : ℕ → ℕ → ℕ → ℕ → List ℕ
chosen_text rules exact wider narrower =
    codes "rules " ++ (decimal rules ++ (codes "; reported: " ++ (decimal exact ++ (codes " exact, " ++ (decimal wider
    ++ (codes " wider, " ++ (decimal narrower ++ codes " narrower, ")))))))

abbrev other_text : List ℕ → ℕ → ℕ → List ℕ
other_text others wider narrower =
    decimal wider ++ (codes " wider for " ++ (others ++ (codes ", " ++ (decimal narrower ++ (codes " narrower for "
    ++ (others ++ codes "\n"))))))

chosen_same : (rules a b c d e f : ℕ) → a ≡ d → b ≡ e → c ≡ f → chosen_text rules a b c ≡ chosen_text rules d e f
chosen_same rules a b c d e f p q r =
    ap (λ (x : ℕ). chosen_text rules x b c) p ∙ (ap (λ (x : ℕ). chosen_text rules d x c) q ∙ ap (λ (x : ℕ). chosen_text rules d e x) r)

other_same : (u v : List ℕ) (a b c d : ℕ) → u ≡ v → a ≡ c → b ≡ d → other_text u a b ≡ other_text v c d
other_same u v a b c d o p q =
    ap (λ (x : List ℕ). other_text x a b) o ∙ (ap (λ (x : ℕ). other_text v x b) p ∙ ap (λ (x : ℕ). other_text v c x) q)

-- nine parts, and what follows them
regroup : (a b c d e f g h i z : List ℕ) → (a ++ (b ++ (c ++ (d ++ (e ++ (f ++ (g ++ (h ++ i)))))))) ++ z
    ≡ a ++ (b ++ (c ++ (d ++ (e ++ (f ++ (g ++ (h ++ (i ++ z))))))))
regroup a b c d e f g h i z = simp append_assoc

pub returns : goal.returns
returns c =
    let spans = c.args.spans.now in
    let here : c.as_bytes.result.now
    ≡ chosen_text c.args.rules (count_of reports.Exact spans) (count_of reports.Wider spans) (count_of reports.Narrower spans) =
    c.as_bytes.ensures.value ∙ (c.in_ok-here.ensures
    ∙ chosen_same c.args.rules _ _ _ _ _ _ c.count_of-exact.ensures c.count_of-wider.ensures c.count_of-narrower.ensures) in
    let there : c.as_bytes-2.result.now ≡ other_text (others_word c.args.chosen) (count_of reports.WiderForOther spans)
    (count_of reports.NarrowerForOther spans) =
    c.as_bytes-2.ensures.value ∙ (c.in_ok-there.ensures
    ∙ other_same _ _ _ _ _ _ c.others_word-others.ensures c.count_of-wider_other.ensures c.count_of-narrower_other.ensures) in
    let whole = regroup (codes "rules ") (decimal c.args.rules) (codes "; reported: ") (decimal (count_of reports.Exact spans))
    (codes " exact, ") (decimal (count_of reports.Wider spans)) (codes " wider, ") (decimal (count_of reports.Narrower spans))
    (codes " narrower, ")
    (other_text (others_word c.args.chosen) (count_of reports.WiderForOther spans) (count_of reports.NarrowerForOther spans)) in
    IfOk-weaker c.put-2.result _ _ (λ _ h. added c.args.lines.now.items c.put.new.lines.items c.put-2.new.lines.items _ _ _ _
    (sums_line c.args.chosen c.args.rules spans) c.in_ok-put.ensures h here there whole) c.put-2.ensures
