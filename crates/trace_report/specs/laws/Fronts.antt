-- Writing in parts: what was appended, part after part.
use Rattle.std.proofs.Common.{◌≡◌, ℕ, ◌-◌, List, ◌++◌, Option, Some, None, length, take, drop, sym, ap, ◌∙◌, append_assoc}
use Rattle.std.proofs.Common.{take-append-drop}
use Rattle.std.proofs.lemmas.List.{take_rest}
use Rattle.std.specs.Io.KnownBytes.{Keeps, Appends}

-- the bytes that a write took move to the front part
pub front_moved : (bytes front left rest : List ℕ) (n : ℕ) → bytes ≡ front ++ left → rest ≡ take (length left - n) (drop n left)
    → bytes ≡ (front ++ take n left) ++ rest
front_moved bytes front left rest n split e =
    split ∙ ap (λ l. front ++ l) (sym (take-append-drop n left)) ∙ sym (append_assoc front (take n left) (drop n left))
    ∙ ap (λ l. (front ++ take n left) ++ l) (sym (take_rest left n)) ∙ ap (λ l. (front ++ take n left) ++ l) (sym e)

pub Appends-more : (a b c : Option (List ℕ)) (front part : List ℕ) → Appends a b front → Appends b c part → Appends a c (front ++ part)
Appends-more None b c front part p q = tt
Appends-more (Some x) None c front part p q = absurd p
Appends-more (Some x) (Some y) None front part p q = absurd q
Appends-more (Some x) (Some y) (Some z) front part p q = q ∙ ap (λ l. l ++ part) p ∙ append_assoc x front part

pub Appends-kept : (a b c : Option (List ℕ)) (front : List ℕ) → Appends a b front → Keeps b c → Appends a c front
Appends-kept None b c front p q = tt
Appends-kept (Some x) None c front p q = absurd p
Appends-kept (Some x) (Some y) None front p q = absurd q
Appends-kept (Some x) (Some y) (Some z) front p q = q ∙ p
