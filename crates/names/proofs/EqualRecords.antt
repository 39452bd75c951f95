-- Records that a comparison finds equal are the same.
use Rattle.std.proofs.Common.{◌≡◌, ◌<◌, ℕ, true, refl, ap, get_or, rules}
use Rattle.std.proofs.lemmas.Slice.Eq.{slice_eq-Decides}
use Rattle.std.specs.Bool.{Decides}
use Rattle.names.specs.declared.permissions.Permission.{Permission}
use Rattle.names.specs.Permissions.{all_permissions, index, permission_count}
use Rattle.names.specs.declared.record.LeastHits.{LeastHits}
use Rattle.names.specs.declared.record.Record.{Record}
use Rattle.names.specs.contracts.record.LeastHitsPartialEq.TheImpl as hits_impl
use Rattle.names.specs.contracts.record.RecordPartialEq.TheImpl as record_impl
use Rattle.names.specs.Least.{no_hit}
use Rattle.names.specs.laws.Records.{same_record}

hits_decided : (h k : LeastHits) → Decides (hits_impl.eq-value.it h k) (h ≡ k)
hits_decided h k = (λ e. search rules, λ e. search rules)

pub equal_one : ((k : ℕ) (other : Permission) → k < permission_count → index (get_or all_permissions k other) ≡ k) →
    (r s : Record) → record_impl.eq-value.it r s ≡ true → r ≡ s
equal_one only r s e =
    let lists : r.hits ≡ s.hits = (slice_eq-Decides hits_decided r.hits s.hits (record_impl.eq-value.it r s) refl).0 e in
    same_record only r s (λ p. ap (λ l. get_or l (index p) no_hit) lists)
