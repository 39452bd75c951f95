-- Records by their hits for each permission.
use Rattle.std.proofs.Common.{◌≡◌, ℕ, ◌<◌, length, get_or, sym, ap, ◌∙◌, arith}
use Rattle.std.proofs.lemmas.List.{ext_get_or, get_or-map}
use Rattle.std.proofs.Math.Nat.{ℕ_set}
use mathlib.Core.HLevel.{is_prop→PathP}
use Rattle.names.specs.declared.permissions.Permission.{Permission}
use Rattle.names.specs.declared.permissions.Permission.TheVariants.{Read}
use Rattle.names.specs.Permissions.{all_permissions, index, permission_count}
use Rattle.names.specs.declared.record.LeastHits.{LeastHits}
use Rattle.names.specs.declared.record.Record.{Record}
use Rattle.names.specs.Least.{hits_of, no_hit, record_of}

module _ (only : (k : ℕ) (other : Permission) → k < permission_count → index (get_or all_permissions k other) ≡ k) where
  same_hits : (r s : Record) → ((p : Permission) → hits_of r p ≡ hits_of s p) → r.hits ≡ s.hits
  same_hits r s same = ext_get_or no_hit r.hits s.hits (r.each ∙ sym s.each) (λ k lt.
      let here : (p : Permission) → index p ≡ k → get_or r.hits k no_hit ≡ get_or s.hits k no_hit =
      λ p is. ap (λ z. get_or r.hits z no_hit) (sym is) ∙ same p ∙ ap (λ z. get_or s.hits z no_hit) is in
      here (get_or all_permissions k Read) (only k Read (omega (arith, lt, r.each))))

  pub same_record : (r s : Record) → ((p : Permission) → hits_of r p ≡ hits_of s p) → r ≡ s
  same_record r s same = λ i. record {
    hits = same_hits r s same i;
    each = is_prop→PathP (λ j. length (same_hits r s same j) ≡ permission_count)
        (λ j. ℕ_set (length (same_hits r s same j)) permission_count) r.each s.each i;
  }

module _ (below : (p : Permission) → index p < permission_count) (there : (p other : Permission) →
    get_or all_permissions (index p) other ≡ p) where
  pub hits_made : (hits : Permission → LeastHits) (p : Permission) → hits_of (record_of hits) p ≡ hits p
  hits_made hits p = get_or-map hits all_permissions (index p) p no_hit (below p) ∙ ap hits (there p p)
