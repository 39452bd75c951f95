-- Bytes added, one part after another.
use Rattle.std.proofs.Common.{◌≡◌, ◌++◌, length, length-append, ap, ◌∙◌, append_assoc, arith}
use Rattle.apparmor_variables.specs.declared.refusal.Refusal.{Refusal}
use Rattle.apparmor_variables.specs.declared.refusal.Refusal.TheVariants.{Nothing, NoMemory}
use Rattle.apparmor_pieces.specs.Pieces.{Text}
use Rattle.apparmor_variables.specs.inner.AddedBytes.{Refused}

-- where a part exceeds the limit, the whole does
pub part_refused : (refusal : Refusal) (old more now part rest : Text) → now ++ (part ++ rest) ≡ old ++ more → Refused refusal now part →
    Refused refusal old more
part_refused Nothing old more now part rest is long =
    let a = length-append now part in
    let b = length-append (now ++ part) rest in
    let same : length ((now ++ part) ++ rest) ≡ length (old ++ more) = ap length (append_assoc now part rest ∙ is) in
    omega (arith, a, b, same)
part_refused NoMemory old more now part rest is long = tt
