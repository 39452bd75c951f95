-- What a flag is read as.
use Rattle.std.proofs.Common.{◌≡◌, ◌∙◌, Bool, true, false, Option, Some, None, refl, sym, ap}
use Rattle.std.specs.Prelude.{codes, is_some, option_and_then}
use Rattle.std.specs.Str.{bytes_eq}
use Rattle.std.proofs.lemmas.Slice.Eq.{bytes_eq-Decides}
use Rattle.clap.specs.Matches.{one_text}
use Rattle.clap.specs.Walk.{Text, one_of, rows_of}
use Rattle.clap.specs.declared.parser.matches.Found.{Found}
use Rattle.clap.proofs.WalkLemmas.{one_text-rows}
use Rattle.trace_arguments.specs.inner.Parser.{flag_of, flag_read}

flag_if : (text : Text) (r : Bool) → is_some (flag_of text) ≡ true → (text ≡ codes "true" → r ≡ true) →
    (text ≡ codes "false" → r ≡ false) → flag_of text ≡ Some r
flag_if text r some given left = go (bytes_eq text (codes "true")) (bytes_eq text (codes "false")) refl refl
  where
    go : (is not : Bool) → bytes_eq text (codes "true") ≡ is → bytes_eq text (codes "false") ≡ not → flag_of text ≡ Some r
    go true not e f = rw e (ap Some (sym (given ((bytes_eq-Decides text (codes "true")).0 e))))
    go false true e f = rw (e, f) (ap Some (sym (left ((bytes_eq-Decides text (codes "false")).0 f))))
    go false false e f = absurd (cc (rw (e, f) at some))

pub flag_given : (f : Found) (name : Text) (r : Bool) → is_some (flag_read name (rows_of f)) ≡ true →
    (one_text f name ≡ Some (codes "true") → r ≡ true)
    → (one_text f name ≡ Some (codes "false") → r ≡ false) → flag_read name (rows_of f) ≡ Some r
flag_given f name r some given left = go (one_of name (rows_of f)) (one_text-rows f name) some
  where
    go : (o : Option Text) → one_text f name ≡ o → is_some (option_and_then flag_of o) ≡ true → option_and_then flag_of o ≡ Some r
    go None is some = absurd (cc some)
    go (Some text) is some = flag_if text r some (λ e. given (is ∙ ap Some e)) (λ e. left (is ∙ ap Some e))
