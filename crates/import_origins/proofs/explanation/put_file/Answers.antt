use Rattle.std.proofs.Common.{◌≡◌, ◌++◌, ℕ, List, Option, Some, map, sym, ap, ◌∙◌, append_assoc}
use Rattle.std.specs.Prelude.{codes, option_map}
use Rattle.std.proofs.lemmas.Result.{IfOk-weaker}
use Rattle.apparmor_rules.specs.ShownTexts.{shown_byte}
use Rattle.import_origins.specs.Origins.{file_told}
use Rattle.import_origins.proofs.explanation.put_file.Goals as goal

-- a word and a file were added
added : (old middle new file : List ℕ) (told : Option (List ℕ)) → told ≡ Some file → middle ≡ old ++ codes ", in or after "
    → new ≡ middle ++ map shown_byte file → new ≡ old ++ file_told told
added old middle new file told is first second =
    rw (is, second, first) (append_assoc old (codes ", in or after ") (map shown_byte file))

pub returns-in_ok-put-in-Some : goal.returns-in_ok-put-in-Some
returns-in_ok-put-in-Some c =
    IfOk-weaker c.push_shown.result _ _
    (λ _ h. added c.args.lines.now.items c.put.new.lines.items c.push_shown.new.lines.items c.in-Some.file.now _
    (ap (option_map (λ file. file.now)) c.in-Some.is) c.in_ok-put-in-Some.ensures h) c.push_shown.ensures
