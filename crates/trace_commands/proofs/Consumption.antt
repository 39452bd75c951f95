-- Reading in parts: what was taken from a reader, part after part.
use Rattle.std.proofs.Common.{ℕ, List, [], ◌++◌, Option, Some, None, refl, sym, ap, ◌∙◌, append_assoc, append-nil}
use Rattle.std.specs.Io.KnownBytes.{Consumes, IsAtEnd, Keeps}
use Rattle.trace_report.specs.Streams.{IsTextOf}

pub consumes_nothing : (known : Option (List ℕ)) → Consumes known known []
consumes_nothing None = tt
consumes_nothing (Some xs) = refl

pub consumes_more : (a b c : Option (List ℕ)) (front part : List ℕ) → Consumes a b front → Consumes b c part → Consumes a c (front ++ part)
consumes_more None b c front part p q = tt
consumes_more (Some x) None c front part p q = absurd p
consumes_more (Some x) (Some y) None front part p q = absurd q
consumes_more (Some x) (Some y) (Some z) front part p q = p ∙ ap (λ l. front ++ l) q ∙ sym (append_assoc front part z)

pub consumes_kept : (a b c : Option (List ℕ)) (front : List ℕ) → Consumes a b front → Keeps b c → Consumes a c front
consumes_kept None b c front p q = tt
consumes_kept (Some x) None c front p q = absurd p
consumes_kept (Some x) (Some y) None front p q = absurd q
consumes_kept (Some x) (Some y) (Some z) front p q = p ∙ ap (λ l. front ++ l) (sym q)

-- What was read begins all that there was to read.
pub text_begins : (old new : Option (List ℕ)) (read : List ℕ) → Consumes old new read → (more : List ℕ) × IsTextOf old (read ++ more)
text_begins None new read h = ([], tt)
text_begins (Some xs) None read h = absurd h
text_begins (Some xs) (Some ys) read h = (ys, sym h)

-- where nothing is left, all was read
pub all_read : (old new : Option (List ℕ)) (read : List ℕ) → Consumes old new read → IsAtEnd new → IsTextOf old read
all_read None new read h e = tt
all_read (Some xs) None read h e = absurd h
all_read (Some xs) (Some ys) read h e = sym (h ∙ ap (λ l. read ++ l) e ∙ append-nil read)
