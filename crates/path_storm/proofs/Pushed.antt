-- Lists that grow by one.
use Rattle.std.proofs.Common.{◌≡◌, ◌+◌, ◌++◌, [], ◌∷◌, length, arith, ap, length-append}
use Rattle.std.specs.Prelude.{vec_len}
use Rattle.std.specs.declared.vec.Vec.{Vec}
use Rattle.std.specs.declared.alloc.Global.{Global}

pub none_yet : {X : Type 0} (all : Vec X Global) → all.items ≡ [] → vec_len all ≡ 0
none_yet all is = omega (arith, all.ok.0, ap length is)

pub one_more : {X : Type 0} (before now : Vec X Global) (last : X) → now.items ≡ before.items ++ last ∷ [] →
    vec_len now ≡ vec_len before + 1
one_more before now last is =
    omega (arith, before.ok.0, now.ok.0, ap length is, length-append before.items (last ∷ []))

pub both : {X : Type 0} (before more now : Vec X Global) → now.items ≡ before.items ++ more.items →
    vec_len now ≡ vec_len before + vec_len more
both before more now is =
    omega (arith, before.ok.0, more.ok.0, now.ok.0, ap length is, length-append before.items more.items)
