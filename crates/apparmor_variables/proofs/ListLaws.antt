-- A variable has one list.
use Rattle.std.proofs.Common.{◌≡◌, ◌+◌, List, Some, arith}
use Rattle.apparmor_pieces.specs.Pieces.{Text}
use Rattle.apparmor_variables.specs.Variables.{Variable, HasList, list_at}
use Rattle.apparmor_variables.proofs.KnownLists.{levels}

pub one_list : (variables : List Variable) (name : Text) (one other : List Text) → HasList variables name one →
    HasList variables name other → one ≡ other
one_list variables name one other a b =
    let all = a.0 + b.0 in
    let e : list_at all variables name ≡ Some one = levels variables b.0 a.0 all (omega arith) name one a.1 in
    let f : list_at all variables name ≡ Some other = levels variables a.0 b.0 all (omega arith) name other b.1 in
    cc
