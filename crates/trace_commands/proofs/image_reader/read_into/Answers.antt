use Rattle.std.proofs.Common.{◌≡◌, ◌++◌, length, ap, sym, ◌∙◌, subst, refl, inr, ⊎_elim, arith}
use Rattle.std.proofs.lemmas.Result.{err_from_is_err_and}
use Rattle.image_header.specs.Headers.{IsFaultOfAll, IsLengthOfAll}
use Rattle.trace_report.specs.Streams.{IsTextOf}
use Rattle.trace_commands.proofs.Consumption.{all_read}
use Rattle.trace_commands.proofs.ImageRead.{all_of_both, header_refused, longer_refused, read_failed, reads_header, reads_length}
use Rattle.trace_commands.proofs.image_reader.read_into.Goals as goal

pub returns-in_err-read_up_to-clause-all : goal.returns-in_err-read_up_to-clause-all
returns-in_err-read_up_to-clause-all g c =
    let p = err_from_is_err_and c.from_residual.result c.from_residual.ensures.1 in rw p.1 tt

pub returns-in_err-read_up_to-clause-unread : goal.returns-in_err-read_up_to-clause-unread
returns-in_err-read_up_to-clause-unread g c =
    let p = err_from_is_err_and c.from_residual.result c.from_residual.ensures.1 in
    rw p.1 (read_failed (g.R.Read.remaining c.args.input.now) c.in_err-read_up_to.field-0.0 p.0 p.2)

pub returns-in_err-read_up_to-clause-front : goal.returns-in_err-read_up_to-clause-front
returns-in_err-read_up_to-clause-front g c =
    let (read, taken, low, is) = c.in_err-read_up_to.ensures.read in
    reads_header _ _ read taken (omega (arith, low))

pub returns-then-len-lt-HEADER_LENGTH-clause-all : goal.returns-then-len-lt-HEADER_LENGTH-clause-all
returns-then-len-lt-HEADER_LENGTH-clause-all g c =
    let (read, taken, low, is) = c.in_ok-read_up_to.ensures.read in
    let here : c.read_up_to.new.bytes.items ≡ read = is ∙ ap (λ l. l ++ read) c.requires.empty in
    ⊎_elim
    (λ full. absurd (omega (arith, c.len.ensures, c.if-len-lt-HEADER_LENGTH.true, full)))
    (λ at_end. subst (IsTextOf (g.R.Read.remaining c.args.input.now)) (sym here) (all_read _ _ read taken at_end))
    c.in_ok-read_up_to.ensures.end

pub returns-then-len-lt-HEADER_LENGTH-clause-front : goal.returns-then-len-lt-HEADER_LENGTH-clause-front
returns-then-len-lt-HEADER_LENGTH-clause-front g c =
    let (read, taken, low, is) = c.in_ok-read_up_to.ensures.read in reads_header _ _ read taken (omega (arith, low))

pub image_length-requires : goal.image_length-requires
image_length-requires g c =
    let same : length c.deref.result.now ≡ length c.read_up_to.new.bytes.items = ap length c.deref.ensures.value in
    record { header = omega (arith, c.len.ensures, c.if-len-lt-HEADER_LENGTH.false, same) }

pub returns-in_err-length-clause-all : goal.returns-in_err-length-clause-all
returns-in_err-length-clause-all g c =
    let p = err_from_is_err_and c.from_residual-in_err-length.result c.from_residual-in_err-length.ensures.1 in rw p.1 tt

pub returns-in_err-length-clause-unread : goal.returns-in_err-length-clause-unread
returns-in_err-length-clause-unread g c =
    let (read, taken, low, is) = c.in_ok-read_up_to.ensures.read in
    let here : c.read_up_to.new.bytes.items ≡ read = is ∙ ap (λ l. l ++ read) c.requires.empty in
    let f = c.in_err-length.field-0.0 in
    let all : IsFaultOfAll read f = subst (λ l. IsFaultOfAll l f) (c.deref.ensures.value ∙ here) c.in_err-length.ensures.fault in
    let p = err_from_is_err_and c.from_residual-in_err-length.result c.from_residual-in_err-length.ensures.1 in
    rw p.1 (inr (inr (header_refused _ _ (g.R.Read.remaining c.read_up_to.new.input) read taken f p.0 all p.2)))

pub returns-in_err-length-clause-front : goal.returns-in_err-length-clause-front
returns-in_err-length-clause-front g c =
    let (read, taken, low, is) = c.in_ok-read_up_to.ensures.read in reads_header _ _ read taken (omega (arith, low))

pub overflow_add-length : goal.overflow_add-length
overflow_add-length g c =
    let most = c.in_ok-length.ensures.length.most in omega (arith, most)

pub read_up_to-requires-2 : goal.read_up_to-requires-2
read_up_to-requires-2 g c =
    let (read, taken, low, is) = c.in_ok-read_up_to.ensures.read in
    let here : c.read_up_to.new.bytes.items ≡ read = is ∙ ap (λ l. l ++ read) c.requires.empty in
    let many : length c.read_up_to.new.bytes.items ≡ length read = ap length here in
    let long : length read ≡ 20 = omega (arith, c.len.ensures, c.if-len-lt-HEADER_LENGTH.false, many, low) in
    let n = c.in_ok-length.length in
    let of : IsLengthOfAll read n = subst (λ l. IsLengthOfAll l n) (c.deref.ensures.value ∙ here) c.in_ok-length.ensures.length in
    let told = of.is in omega (arith, told, many, long)

pub returns-in_err-read_up_to-2-clause-all : goal.returns-in_err-read_up_to-2-clause-all
returns-in_err-read_up_to-2-clause-all g c =
    let p = err_from_is_err_and c.from_residual-in_err-read_up_to-2.result c.from_residual-in_err-read_up_to-2.ensures.1 in rw p.1 tt

pub returns-in_err-read_up_to-2-clause-unread : goal.returns-in_err-read_up_to-2-clause-unread
returns-in_err-read_up_to-2-clause-unread g c =
    let p = err_from_is_err_and c.from_residual-in_err-read_up_to-2.result c.from_residual-in_err-read_up_to-2.ensures.1 in
    rw p.1 (read_failed (g.R.Read.remaining c.args.input.now) c.in_err-read_up_to-2.field-0.0 p.0 p.2)

pub returns-in_err-read_up_to-2-clause-front : goal.returns-in_err-read_up_to-2-clause-front
returns-in_err-read_up_to-2-clause-front g c =
    let (read, taken, low, is) = c.in_ok-read_up_to.ensures.read in
    let here : c.read_up_to.new.bytes.items ≡ read = is ∙ ap (λ l. l ++ read) c.requires.empty in
    let many : length c.read_up_to.new.bytes.items ≡ length read = ap length here in
    let long : length read ≡ 20 = omega (arith, c.len.ensures, c.if-len-lt-HEADER_LENGTH.false, many, low) in
    let n = c.in_ok-length.length in
    let of : IsLengthOfAll read n = subst (λ l. IsLengthOfAll l n) (c.deref.ensures.value ∙ here) c.in_ok-length.ensures.length in
    let (rest, more, low_2, is_2) = c.in_err-read_up_to-2.ensures.read in
    reads_length _ _ _ read taken rest more n long of (omega (arith, many, low_2))

pub returns-then-len-length-clause-unread : goal.returns-then-len-length-clause-unread
returns-then-len-length-clause-unread g c =
    let (read, taken, low, is) = c.in_ok-read_up_to.ensures.read in
    let here : c.read_up_to.new.bytes.items ≡ read = is ∙ ap (λ l. l ++ read) c.requires.empty in
    let n = c.in_ok-length.length in
    let of : IsLengthOfAll read n = subst (λ l. IsLengthOfAll l n) (c.deref.ensures.value ∙ here) c.in_ok-length.ensures.length in
    let (rest, more, low_2, is_2) = c.in_ok-read_up_to-2.ensures.read in
    let both : c.read_up_to-2.new.bytes.items ≡ read ++ rest = is_2 ∙ ap (λ l. l ++ rest) here in
    let all : length c.read_up_to-2.new.bytes.items ≡ length (read ++ rest) = ap length both in
    inr (inr (longer_refused _ _ _ read taken rest more n _ of (omega (arith, c.len-2.ensures, c.if-len-length.true, all)) refl))

pub returns-then-len-length-clause-front : goal.returns-then-len-length-clause-front
returns-then-len-length-clause-front g c =
    let (read, taken, low, is) = c.in_ok-read_up_to.ensures.read in
    let here : c.read_up_to.new.bytes.items ≡ read = is ∙ ap (λ l. l ++ read) c.requires.empty in
    let many : length c.read_up_to.new.bytes.items ≡ length read = ap length here in
    let long : length read ≡ 20 = omega (arith, c.len.ensures, c.if-len-lt-HEADER_LENGTH.false, many, low) in
    let n = c.in_ok-length.length in
    let of : IsLengthOfAll read n = subst (λ l. IsLengthOfAll l n) (c.deref.ensures.value ∙ here) c.in_ok-length.ensures.length in
    let (rest, more, low_2, is_2) = c.in_ok-read_up_to-2.ensures.read in
    reads_length _ _ _ read taken rest more n long of (omega (arith, many, low_2))

pub returns-clause-all : goal.returns-clause-all
returns-clause-all g c =
    let (read, taken, low, is) = c.in_ok-read_up_to.ensures.read in
    let here : c.read_up_to.new.bytes.items ≡ read = is ∙ ap (λ l. l ++ read) c.requires.empty in
    let (rest, more, low_2, is_2) = c.in_ok-read_up_to-2.ensures.read in
    let both : c.read_up_to-2.new.bytes.items ≡ read ++ rest = is_2 ∙ ap (λ l. l ++ rest) here in
    ⊎_elim
    (λ full. absurd (omega (arith, c.len-2.ensures, c.if-len-length.false, full)))
    (λ at_end. all_of_both _ _ _ read taken rest more _ both at_end)
    c.in_ok-read_up_to-2.ensures.end

pub returns-clause-front : goal.returns-clause-front
returns-clause-front g c =
    let (read, taken, low, is) = c.in_ok-read_up_to.ensures.read in
    let here : c.read_up_to.new.bytes.items ≡ read = is ∙ ap (λ l. l ++ read) c.requires.empty in
    let many : length c.read_up_to.new.bytes.items ≡ length read = ap length here in
    let long : length read ≡ 20 = omega (arith, c.len.ensures, c.if-len-lt-HEADER_LENGTH.false, many, low) in
    let n = c.in_ok-length.length in
    let of : IsLengthOfAll read n = subst (λ l. IsLengthOfAll l n) (c.deref.ensures.value ∙ here) c.in_ok-length.ensures.length in
    let (rest, more, low_2, is_2) = c.in_ok-read_up_to-2.ensures.read in
    reads_length _ _ _ read taken rest more n long of (omega (arith, many, low_2))
