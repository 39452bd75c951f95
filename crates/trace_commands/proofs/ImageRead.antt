-- Images that are read as far as their header says.
use Rattle.std.proofs.Common.{◌≡◌, ◌≢◌, ℕ, ◌+◌, ◌<◌, ◌≤◌, List, [], ◌++◌, Option, length, take, refl}
use Rattle.std.proofs.Common.{sym, ap, ◌∙◌, subst, inl, inr, arith, append_assoc, length-append}
use Rattle.std.proofs.lemmas.List.{take-append-le, take_all}
use Rattle.std.specs.Io.KnownBytes.{Consumes, IsAtEnd}
use Rattle.std.specs.declared.io.Error.{Error}
use Rattle.image_header.specs.Headers.{IsFaultOfAll, IsLengthOfAll}
use Rattle.tables.specs.Images.{HasImageFault, IsFirstImageFault}
use Rattle.tables.specs.declared.fault.ImageFault.{ImageFault}
use Rattle.tables.specs.declared.fault.ImageFault.TheVariants as fault_here
use Rattle.trace_report.specs.declared.fault.Fault.{Fault}
use Rattle.trace_report.specs.declared.fault.Fault.TheVariants.{Permissions, Name, Pattern, Text, Compiling, Image, Question}
use Rattle.trace_report.specs.declared.fault.Fault.TheVariants.{Input, Memory}
use Rattle.trace_report.specs.declared.status.Status.TheVariants.{Refused}
use Rattle.trace_report.specs.Fault.{IsFaultOfReading, fault_of_image}
use Rattle.trace_report.specs.Output.{Output, fault, image_refusal}
use Rattle.trace_report.specs.Streams.{IsTextOf}
use Rattle.trace_report.specs.laws.Endings.{text_of}
use Rattle.trace_commands.specs.ReadImages.{ReadsImage}
use Rattle.trace_commands.specs.Tables.{IsImageRefused}
use Rattle.trace_report.specs.Fault.{AreGood, IsFaultOfOne}
use Rattle.trace_commands.specs.inner.Answers.{IsRefusedText, IsUnread}
use Rattle.trace_commands.proofs.Consumption.{all_read, consumes_more, consumes_nothing, text_begins}
use Rattle.trace_commands.specs.laws.OneOutput.{unread_one}

-- a fault of bytes is reported as one of an image
reported : (bytes : List ℕ) (f : ImageFault) → HasImageFault bytes f → fault_of_image f ≡ Image f
reported bytes fault_here.Short h = refl
reported bytes fault_here.Magic h = refl
reported bytes fault_here.Version h = refl
reported bytes fault_here.Reserved h = refl
reported bytes fault_here.Counts h = refl
reported bytes fault_here.Length h = refl
reported bytes (fault_here.Default s) h = refl
reported bytes (fault_here.Base s) h = refl
reported bytes (fault_here.Accept s) h = refl
reported bytes (fault_here.Next c) h = refl
reported bytes fault_here.NoMemory h = absurd h
reported bytes (fault_here.Depth s) h = refl

-- nothing was read
pub reads_nothing : (known : Option (List ℕ)) → ReadsImage known known
reads_nothing known = ([], consumes_nothing known, inl (omega arith))

module _ (old mid new : Option (List ℕ)) (header : List ℕ) (taken : Consumes old mid header) where
  -- a header that has a fault
  pub header_refused : (f : ImageFault) (g : Fault) → IsFaultOfAll header f → g ≡ fault_of_image f → IsRefusedText old g
  header_refused f g all is =
      let begins = text_begins old mid header taken in
      let first : IsFirstImageFault (header ++ begins.0) f = all begins.0 in
      (header ++ begins.0, begins.1, f, is ∙ reported (header ++ begins.0) f first.has, first)

  module _ (rest : List ℕ) (more : Consumes mid new rest) where
    both : Consumes old new (header ++ rest)
    both = consumes_more old mid new header rest taken more

    -- all was read
    pub all_of_both : (image : List ℕ) → image ≡ header ++ rest → IsAtEnd new → IsTextOf old image
    all_of_both image is end = subst (IsTextOf old) (sym is) (all_read old new (header ++ rest) both end)

    -- more follows than the header gives
    pub longer_refused : (n : ℕ) (f : Fault) → IsLengthOfAll header n → n < length (header ++ rest) → f ≡ Image fault_here.Length
        → IsRefusedText old f
    longer_refused n f of long is =
        let begins = text_begins old new (header ++ rest) both in
        let whole : (header ++ rest) ++ begins.0 ≡ header ++ (rest ++ begins.0) = append_assoc header rest begins.0 in
        let other : length (header ++ (rest ++ begins.0)) ≢ n = λ e.
        let far = length-append (header ++ rest) begins.0 in let same = ap length whole in omega arith in
        let first = of.other (rest ++ begins.0) other in (
          header ++ (rest ++ begins.0),
          subst (IsTextOf old) whole begins.1,
          fault_here.Length,
          is,
          first,
        )

    -- what was read is no more than a byte after the length
    pub reads_length : (n : ℕ) → length header ≡ 20 → IsLengthOfAll header n → length header + length rest ≤ n + 1 → ReadsImage old new
    reads_length n long of low =
        let front : take 20 (header ++ rest) ≡ header =
        take-append-le 20 header rest (omega arith) ∙ take_all 20 header (omega arith) in
        let within : length (header ++ rest) ≤ n + 1 = omega (arith, length-append header rest) in
        (header ++ rest, both, inr (n, subst (λ l. IsLengthOfAll l n) (sym front) of, within))

-- no more than the header was read
pub reads_header : (old new : Option (List ℕ)) (read : List ℕ) → Consumes old new read → length read ≤ 20 → ReadsImage old new
reads_header old new read taken low = (read, taken, inl low)

-- a failed read is reported as such
pub read_failed : (left : Option (List ℕ)) (error : Error) (f : Fault) → IsFaultOfReading error f → IsUnread left f
read_failed left error Input h = inl refl
read_failed left error Memory h = inr (inl refl)
read_failed left error Permissions h = absurd h
read_failed left error Name h = absurd h
read_failed left error Pattern h = absurd h
read_failed left error Question h = absurd h
read_failed left error (Text k) h = absurd h
read_failed left error (Compiling k) h = absurd h
read_failed left error (Image k) h = absurd h

-- where there is no image, a fault is reported that is one of the outputs, or that hides them
pub image_unread : (left : Option (List ℕ)) (Wanted : List ℕ → Output → Type 0) (f : Fault) → ((text : List ℕ) → AreGood (Wanted text))
    → ((text : List ℕ) (output : Output) → IsImageRefused text output → Wanted text output)
    → IsUnread left f → (text : List ℕ) × IsTextOf left text × IsFaultOfOne (Wanted text) f
image_unread left Wanted f good wants (inl h) =
    let text = text_of left in (text.0, text.1, unread_one (Wanted text.0) f (good text.0) (inl h))
image_unread left Wanted f good wants (inr (inl h)) =
    let text = text_of left in (text.0, text.1, unread_one (Wanted text.0) f (good text.0) (inr h))
image_unread left Wanted f good wants (inr (inr (text, of, k, is, first))) =
    let told : Wanted text (fault (image_refusal k) Refused) = wants text (fault (image_refusal k) Refused) (k, inl first, refl) in
    (text, of, rw is told)
