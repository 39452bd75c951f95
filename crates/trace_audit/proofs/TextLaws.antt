-- Texts that were read, one more at a time.
use Rattle.std.proofs.Common.{◌≡◌, ◌∙◌, ◌<◌, ◌≤◌, ◌+◌, ℕ, List, [], ◌∷◌, ◌++◌, Bor, Option, Vec, Global, ap, get_or, length, map}
use Rattle.std.proofs.Common.{refl, subst, sym, take}
use Rattle.std.proofs.lemmas.List.{map-append, take_all, take_more}
use Rattle.std.proofs.lemmas.List.Elements.{All-nil, All-push}
use Rattle.trace_report.specs.Streams.{IsTextOf}
use Rattle.trace_audit.specs.Audit.{AreTexts}
use Rattle.trace_audit.specs.Lookups.{TextValue}
use Rattle.trace_audit.specs.declared.lookup.ProfileText.{ProfileText}
use Rattle.trace_audit.specs.inner.FoundValues.{text_value}

module _ (known : List ℕ → Option (List ℕ)) where
  abbrev IsKnown : TextValue → Type 0
  IsKnown t = IsTextOf (known t.name) t.text

  pub none_read : (texts : List TextValue) → texts ≡ [] → AreTexts known [] texts
  none_read texts e = subst (AreTexts known []) (sym e) record { named = refl; are = All-nil IsKnown }

  abbrev names_of : List (Bor (List ℕ)) → List (List ℕ)
  names_of names = map (λ n. n.now) names

  pub one_more_text : (names : List (Bor (List ℕ))) (i : ℕ) (d : Bor (List ℕ)) (read new : List ProfileText) (text : Vec ℕ Global)
      → i < length names → AreTexts known (map (λ n. n.now) (take i names)) (map text_value read)
      → IsTextOf (known (get_or names i d).now) text.items → new ≡ read ++ (record { name = get_or names i d; text = text } ∷ [])
      → AreTexts known (map (λ n. n.now) (take (i + 1) names)) (map text_value new)
  one_more_text names i d read new text lt before one e =
      let t : TextValue = record { name = (get_or names i d).now; text = text.items } in
      let texts = map text_value read in
      let more : names_of (take (i + 1) names) ≡ names_of (take i names) ++ (t.name ∷ []) =
      ap names_of (take_more names i d lt) ∙ map-append (λ n. n.now) (take i names) (get_or names i d ∷ []) in
      let added : map text_value new ≡ texts ++ (t ∷ []) =
      ap (map text_value) e ∙ map-append text_value read (record { name = get_or names i d; text = text } ∷ []) in
      subst (AreTexts known (names_of (take (i + 1) names))) (sym added) record {
        named = map-append (λ x. x.name) texts (t ∷ []) ∙ ap (λ (l : List (List ℕ)). l ++ (t.name ∷ [])) before.named ∙ sym more;
        are = All-push IsKnown texts t before.are one;
      }

  pub all_read : (names : List (Bor (List ℕ))) (i : ℕ) (texts : List TextValue) → length names ≤ i
      → AreTexts known (map (λ n. n.now) (take i names)) texts → AreTexts known (map (λ n. n.now) names) texts
  all_read names i texts le h = subst (λ (l : List (Bor (List ℕ))). AreTexts known (names_of l) texts) (take_all i names le) h
