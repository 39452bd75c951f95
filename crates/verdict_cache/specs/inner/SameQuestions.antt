-- The test of questions decides their equality.
use Rattle.std.specs.Prelude.{◌≡◌, Bool, true, false, ◌&&◌, nat_eq}
use Rattle.std.specs.Bool.{Decides}
use Rattle.std.specs.Cmp.{IsEquivalence, IsPartialEquivalence, partial_equiv_from_equiv, decided, first_so, second_so}
use Rattle.std.specs.Cmp.{booleans_Decides, unsigned_Decides}
use Rattle.std.specs.Cmp.Lexicographic.{pointwise, bytes_decides}
use Rattle.std.proofs.Math.Bool.{beq}
use Rattle.std.proofs.Common.{ap, subst}
use Rattle.names.specs.declared.permissions.Perms.{Perms}
use Rattle.names.specs.contracts.permissions.PermsPartialEq.TheImpl as perms
use Rattle.verdict_cache.specs.Questions.{Asked, asks}
use Rattle.verdict_cache.specs.inner.QuestionHashes.{writes}

both : (s t : Bool) → s ≡ true → t ≡ true → (s && t) ≡ true
both true t h k = k
both false t h k = h

equal_sets : (p q : Perms) → perms.ghosts.eq p q ≡ true → p ≡ q
equal_sets p q h =
    let from_write = second_so (beq p.read q.read) _ h in
    let from_link = second_so (beq p.write q.write) _ from_write in
    let from_lock = second_so (beq p.link q.link) _ from_link in
    let read = (booleans_Decides p.read q.read).0 (first_so (beq p.read q.read) _ h) in
    let write = (booleans_Decides p.write q.write).0 (first_so (beq p.write q.write) _ from_write) in
    let link = (booleans_Decides p.link q.link).0 (first_so (beq p.link q.link) _ from_link) in
    let lock = (booleans_Decides p.lock q.lock).0 (first_so (beq p.lock q.lock) _ from_lock) in
    let from_map = second_so (beq p.lock q.lock) _ from_lock in
    let map = (booleans_Decides p.map q.map).0 (first_so (beq p.map q.map) _ from_map) in
    let append = (booleans_Decides p.append q.append).0 (second_so (beq p.map q.map) (beq p.append q.append) from_map) in
    λ i. record { read = read i; write = write i; link = link i; lock = lock i; map = map i; append = append i }

own_bit : (b : Bool) → beq b b ≡ true
own_bit b = (booleans_Decides b b).1 (λ i. b)

own_set : (p : Perms) → perms.ghosts.eq p p ≡ true
own_set p = both (beq p.read p.read) _ (own_bit p.read) (both (beq p.write p.write) _ (own_bit p.write)
    (both (beq p.link p.link) _ (own_bit p.link) (both (beq p.lock p.lock) _ (own_bit p.lock)
    (both (beq p.map p.map) _ (own_bit p.map) (own_bit p.append)))))

pub equal_questions : (p q : Asked) → asks p q ≡ true → p ≡ q
equal_questions p q h =
    let from_policy = second_so (nat_eq p.tree q.tree) _ h in
    let from_path = second_so (nat_eq p.policy q.policy) _ from_policy in
    let from_profile = second_so (pointwise nat_eq p.path q.path) _ from_path in
    let tree = (unsigned_Decides p.tree q.tree).0 (first_so (nat_eq p.tree q.tree) _ h) in
    let policy = (unsigned_Decides p.policy q.policy).0 (first_so (nat_eq p.policy q.policy) _ from_policy) in
    let path = (bytes_decides p.path q.path).0 (first_so (pointwise nat_eq p.path q.path) _ from_path) in
    let profile = (bytes_decides p.profile q.profile).0 (first_so (pointwise nat_eq p.profile q.profile) _ from_profile) in
    let ask = equal_sets p.ask q.ask (second_so (pointwise nat_eq p.profile q.profile) (perms.ghosts.eq p.ask q.ask) from_profile) in
    λ i. record { path = path i; profile = profile i; ask = ask i; tree = tree i; policy = policy i }

own_question : (p : Asked) → asks p p ≡ true
own_question p = both (nat_eq p.tree p.tree) _ ((unsigned_Decides p.tree p.tree).1 (λ i. p.tree))
    (both (nat_eq p.policy p.policy) _ ((unsigned_Decides p.policy p.policy).1 (λ i. p.policy))
    (both (pointwise nat_eq p.path p.path) _ ((bytes_decides p.path p.path).1 (λ i. p.path))
    (both (pointwise nat_eq p.profile p.profile) _ ((bytes_decides p.profile p.profile).1 (λ i. p.profile)) (own_set p.ask))))

pub asks_Decides : (p q : Asked) → Decides (asks p q) (p ≡ q)
asks_Decides p q = (equal_questions p q, λ e. subst (λ r. asks p r ≡ true) e (own_question p))

pub asks_equiv : IsEquivalence asks
asks_equiv = decided asks asks_Decides

pub asks_per : IsPartialEquivalence asks
asks_per = partial_equiv_from_equiv asks_equiv

pub same_writes : (p q : Asked) → asks p q ≡ true → writes p ≡ writes q
same_writes p q h = ap writes (equal_questions p q h)
