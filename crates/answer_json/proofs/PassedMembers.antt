-- The values of a list's members that pass a test, after one more member.
use Rattle.std.proofs.Common.{◌≡◌, ℕ, ◌+◌, ◌<◌, Bool, true, false, List, [], ◌∷◌, ◌++◌, take, filter, get_or, length, map, cond}
use Rattle.std.proofs.Common.{sym, ap, ◌∙◌, append-nil}
use Rattle.std.proofs.lemmas.List.{map-append}
use Rattle.std.proofs.lemmas.List.Elements.{filter_more}
use Rattle.names.specs.declared.permissions.Permission.{Permission}
use Rattle.serde_json.specs.Data.{Data}
use Rattle.serde_json.specs.View.{view}
use Rattle.serde_json.specs.declared.value.Value.{Value}

module _ (f : Permission → Data) (test : Permission → Bool) (ps : List Permission) (i : ℕ) (d : Permission) (lt : i < length ps) where
  more : (b : Bool) → test (get_or ps i d) ≡ b → map f (filter test (take (i + 1) ps))
      ≡ map f (filter test (take i ps)) ++ map f (cond b (get_or ps i d ∷ []) [])
  more b is = ap (map f) (filter_more test ps i d lt)
      ∙ map-append f (filter test (take i ps)) (cond (test (get_or ps i d)) (get_or ps i d ∷ []) [])
      ∙ ap (λ (x : Bool). map f (filter test (take i ps)) ++ map f (cond x (get_or ps i d ∷ []) [])) is

  pub passed : (old new : List Value) (v : Value) → test (get_or ps i d) ≡ true → map view old ≡ map f (filter test (take i ps)) →
      new ≡ old ++ v ∷ [] → view v ≡ f (get_or ps i d) → map view new ≡ map f (filter test (take (i + 1) ps))
  passed old new v is so_far e value = ap (map view) e ∙ map-append view old (v ∷ []) ∙ ap (λ (x : List Data). x ++ view v ∷ []) so_far
      ∙ ap (λ (x : Data). map f (filter test (take i ps)) ++ x ∷ []) value ∙ sym (more true is)

  pub failed : (old new : List Value) → test (get_or ps i d) ≡ false → map view old ≡ map f (filter test (take i ps)) →
      new ≡ old → map view new ≡ map f (filter test (take (i + 1) ps))
  failed old new is so_far e = ap (map view) e ∙ so_far ∙ sym (append-nil (map f (filter test (take i ps)))) ∙ sym (more false is)
