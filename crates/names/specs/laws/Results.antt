-- Values of results, as `same_Some` and `none-some` of the standard library say it of options.
use Rattle.std.proofs.Common.{◌≡◌, ap}
use Rattle.std.specs.Prelude.{Result, Ok, Err}

-- equal results have equal values
pub same_Ok : {A E : Type 0} (x y : A) → (let r : Result A E = Ok x in r) ≡ Ok y → x ≡ y
same_Ok {A} {E} x y h = ap (λ (o : Result A E). elim o [ Ok z ↦ z | Err e ↦ x ]) h

-- an error isn't a value
pub err-ok : {A E : Type 0} (e : E) (x : A) → (let r : Result A E = Err e in r) ≡ Ok x → ⊥
err-ok {A} {E} e x h = absurd (cc h)
