-- Each image has one answer.
use Rattle.std.proofs.Common.{arith, ◌≡◌, ◌≤◌, ℕ, Bool, true, false, List, [], ◌++◌, Result, Ok, Err, Some, refl, sym, ap, subst}
use Rattle.std.proofs.Common.{◌∙◌, inl, inr}
use Rattle.std.proofs.Common.{append_assoc, length}
use Rattle.std.proofs.lemmas.List.{append-nil}
use Rattle.std.specs.Prelude.{Option, None, ◌==◌, codes, decimal, if◌then◌else◌}
use Rattle.std.proofs.lemmas.Option.{same_Some}
use Rattle.names.specs.Records.{IsTold}
use Rattle.names.specs.Bytes.{are_bytes}
use Rattle.names.specs.declared.record.Record.{Record}
use Rattle.table_verifier.specs.AcceptedImages.{IsLoaded, IsLoadFault}
use Rattle.matcher.specs.TableVerdicts.{TellsLeastHits, TellsVerdicts}
use Rattle.names.specs.declared.permissions.Perms.{Perms}
use Rattle.rule_globs.specs.PlainVerdict.{verdict}
use Rattle.rule_profile.specs.Profile.{ProfileValue, RuleValue}
use Rattle.names.specs.VerdictText.{verdict_text}
use Rattle.names.specs.declared.verdict.Verdict.{Verdict}
use Rattle.tables.specs.Bounds.{InBounds, IsFirstFault}
use Rattle.tables.specs.Images.{IsFirstImageFault, IsImageOf}
use Rattle.tables.specs.Tables.{Table, look_ups_after, record_after}
use Rattle.tables.specs.declared.fault.ImageFault.{ImageFault}
use Rattle.answer_json.specs.Lines.{json_line}
use Rattle.answer_json.specs.Values.{match_object}
use Rattle.trace_commands.specs.inner.Counts.{counted_text}
use Rattle.trace_report.specs.ReadStreams.{ask_of}
use Rattle.trace_report.specs.Output.{Output, fault, image_refusal, line, whole_answer}
use Rattle.trace_commands.specs.Tables.{IsCheckOutput, IsImageOutput, IsImageRefused, IsMatchOutput, IsMatchOutputOf, IsMatchedOutput}
use Rattle.trace_commands.specs.Tables.{IsVerdictOf, counts_text, look_ups_of, match_lines, match_text, steps_text}
use Rattle.trace_report.specs.declared.format.Format.{Format}
use Rattle.trace_report.specs.declared.format.Format.TheVariants.{Text, Json}
use Rattle.trace_report.specs.declared.status.Status.TheVariants.{Refused}

-- nothing is written of look-ups where states have no depth
pub flat_text : (t : Table) (name : List ℕ) (v : Verdict) → t.depth_bound ≡ 0 → match_text t name v ≡ steps_text name v
flat_text t name v none = rw none (append-nil (steps_text name v))

flat_look_ups : (t : Table) (name : List ℕ) → t.depth_bound ≡ 0 → look_ups_of t name ≡ None
flat_look_ups t name none = rw none refl

-- what is written of the numbers
pub counted : (t : Table) (name : List ℕ) (v : Verdict) → counted_text v (length name) (look_ups_of t name) ≡ match_text t name v
counted t name v = at (t.depth_bound == 0)
  where
    looked : List ℕ
    looked = codes "lookups " ++ (decimal (look_ups_after t name) ++ codes "\n")

    at : (b : Bool) → counted_text v (length name) (if b then None else Some (look_ups_after t name))
        ≡ steps_text name v ++ (if b then [] else looked)
    at true = sym (append-nil (steps_text name v))
    at false = sym (append_assoc (verdict_text v) (codes "\nsteps " ++ (decimal (length name) ++ codes "\n")) looked
        ∙ ap (λ (l : List ℕ). verdict_text v ++ (codes "\nsteps " ++ l)) (append_assoc (decimal (length name)) (codes "\n") looked))

-- what the laws of images, of tables and of records say
module _
    (one_table : (bytes : List ℕ) (t u : Table) → IsImageOf bytes t → IsImageOf bytes u → t ≡ u)
    (no_image : (bytes : List ℕ) (t : Table) (f : ImageFault) → IsImageOf bytes t → ¬ (IsFirstImageFault bytes f))
    (one_image_fault : (bytes : List ℕ) (f g : ImageFault) → IsFirstImageFault bytes f → IsFirstImageFault bytes g → f ≡ g)
    (no_bounds : (t : Table) (f : ImageFault) → InBounds t → ¬ (IsFirstFault t f))
    (one_fault : (t : Table) (f g : ImageFault) → IsFirstFault t f → IsFirstFault t g → f ≡ g) where
  -- an image that is loaded has no fault
  loaded_or_refused : (image : List ℕ) (t : Table) (f : ImageFault) → IsLoaded image t → IsLoadFault image f → ⊥
  loaded_or_refused image t f loaded (inl first) = no_image image t f loaded.0 first
  loaded_or_refused image t f loaded (inr (u, is, first)) =
      no_bounds t f loaded.1 (subst (λ (v : Table). IsFirstFault v f) (one_table image u t is loaded.0) first)

  one_load_fault : (image : List ℕ) (f g : ImageFault) → IsLoadFault image f → IsLoadFault image g → f ≡ g
  one_load_fault image f g (inl first) (inl other) = one_image_fault image f g first other
  one_load_fault image f g (inl first) (inr (u, is, other)) = absurd (no_image image u f is first)
  one_load_fault image f g (inr (t, is, first)) (inl other) = absurd (no_image image t g is other)
  one_load_fault image f g (inr (t, is, first)) (inr (u, so, other)) =
      one_fault t f g first (subst (λ (v : Table). IsFirstFault v g) (one_table image u t so is) other)

  one_refusal : (image : List ℕ) (one other : Output) → IsImageRefused image one → IsImageRefused image other → one ≡ other
  one_refusal image one other (f, first, e) (g, second, h) =
      e ∙ ap (λ (k : ImageFault). fault (image_refusal k) Refused) (one_load_fault image f g first second) ∙ sym h

  pub one_check : (image : List ℕ) (one other : Output) → IsCheckOutput image one → IsCheckOutput image other → one ≡ other
  one_check image one other (inl (t, loaded, e)) (inl (u, so, h)) =
      e ∙ ap (λ (v : Table). whole_answer (line (counts_text v))) (one_table image t u loaded.0 so.0) ∙ sym h
  one_check image one other (inl (t, loaded, e)) (inr (g, first, h)) = absurd (loaded_or_refused image t g loaded first)
  one_check image one other (inr (f, first, e)) (inl (u, so, h)) = absurd (loaded_or_refused image u f so first)
  one_check image one other (inr refused) (inr second) = one_refusal image one other refused second

  module _ (one_verdict : (r : Record) (ask : Perms) (first second : Verdict) → IsTold r ask first → IsTold r ask second →
      first ≡ second) where
    verdict_of_one : (t : Table) (name : List ℕ) (ask : Perms) (v w : Verdict) → IsVerdictOf t name ask v →
        IsVerdictOf t name ask w → v ≡ w
    verdict_of_one t name ask v w (r, at, told) (s, there, so) =
        one_verdict r ask v w told (subst (λ (q : Record). IsTold q ask w) (same_Some s r (sym there ∙ at)) so)

    one_matched : (format : Format) (ask : Perms) (name image : List ℕ) (one other : Output) → IsMatchedOutput format ask name image one →
        IsMatchedOutput format ask name image other → one ≡ other
    one_matched format ask name image one other (inl (t, loaded, v, told, e)) (inl (u, so, w, second, h)) =
        let here : IsVerdictOf t name ask w = subst (λ (x : Table). IsVerdictOf x name ask w) (one_table image u t so.0 loaded.0) second in
        e ∙ ap (λ (x : Verdict). whole_answer (match_lines format t name x)) (verdict_of_one t name ask v w told here)
        ∙ ap (λ (x : Table). whole_answer (match_lines format x name w)) (one_table image t u loaded.0 so.0) ∙ sym h
    one_matched format ask name image one other (inl (t, loaded, v, told, e)) (inr (g, first, h)) =
        absurd (loaded_or_refused image t g loaded first)
    one_matched format ask name image one other (inr (f, first, e)) (inl (u, so, w, second, h)) =
        absurd (loaded_or_refused image u f so first)
    one_matched format ask name image one other (inr refused) (inr second) = one_refusal image one other refused second

    one_asked : (format : Format) (asked : Result Perms (List ℕ)) (name image : List ℕ) (one other : Output)
        → IsMatchOutputOf format asked name image one →
        IsMatchOutputOf format asked name image other → one ≡ other
    one_asked format (Err told) name image one other e h = e ∙ sym h
    one_asked format (Ok ask) name image one other e h = one_matched format ask name image one other e h

    pub one_match : (format : Format) (perms name image : List ℕ) (one other : Output) → IsMatchOutput format perms name image one →
        IsMatchOutput format perms name image other → one ≡ other
    one_match format perms name image one other e h = one_asked format (ask_of perms name) name image one other e h

  module _ (right : (rules : List RuleValue) (t : Table) → TellsLeastHits rules t → TellsVerdicts rules t) where
    matched_right : (format : Format) (profile : ProfileValue) (bytes : List ℕ) (t : Table) (matched : Output) (ask : Perms)
        (name : List ℕ) → are_bytes name
        → TellsLeastHits profile.rules t → IsLoaded bytes t → IsMatchedOutput format ask name bytes matched
        → matched ≡ whole_answer (match_lines format t name (verdict profile.rules name ask))
    matched_right format profile bytes t matched ask name small least loaded (inl (u, so, v, (r, at, told), e)) =
        let same : u ≡ t = one_table bytes u t so.0 loaded.0 in
        let there : record_after t name ≡ Some r = subst (λ (x : Table). record_after x name ≡ Some r) same at in
        e ∙ ap (λ (x : Table). whole_answer (match_lines format x name v)) same
        ∙ ap (λ (x : Verdict). whole_answer (match_lines format t name x)) (right profile.rules t least name r ask v small there told)
    matched_right format profile bytes t matched ask name small least loaded (inr (f, first, e)) =
        absurd (loaded_or_refused bytes t f loaded first)

    pub matched_by_image : (format : Format) (depth : ℕ) (profile : ProfileValue) (image matched : Output) (ask : Perms)
        (name : List ℕ) → are_bytes name
        → IsImageOutput depth profile image → IsMatchedOutput format ask name image.answers matched
        → (t : Table) × IsLoaded image.answers t × (t.depth_bound ≤ depth)
        × (matched ≡ whole_answer (match_lines format t name (verdict profile.rules name ask)))
    matched_by_image format depth profile image matched ask name small made wanted =
        let loaded : IsLoaded made.bytes made.table = ((made.version, made.image), made.bounds) in (
          made.table,
          subst (λ (o : Output). IsLoaded o.answers made.table) (sym made.is) loaded,
          made.depth_asked,
          matched_right format profile made.bytes made.table matched ask name small made.of_rules.least loaded
              (subst (λ (o : Output). IsMatchedOutput format ask name o.answers matched) made.is wanted),
        )

    pub matched_by_first : (profile : ProfileValue) (image matched : Output) (ask : Perms) (name : List ℕ) → are_bytes name
        → IsImageOutput 0 profile image → IsMatchedOutput Text ask name image.answers matched
        → matched ≡ whole_answer (steps_text name (verdict profile.rules name ask))
    matched_by_first profile image matched ask name small made wanted =
        let (t, loaded, low, told) = matched_by_image Text 0 profile image matched ask name small made wanted in
        told ∙ ap whole_answer (flat_text t name (verdict profile.rules name ask) (omega (arith, low)))

    pub matched_flat : (profile : ProfileValue) (image matched : Output) (ask : Perms) (name : List ℕ) → are_bytes name
        → IsImageOutput 0 profile image → IsMatchedOutput Json ask name image.answers matched
        → matched ≡ whole_answer (json_line (match_object (verdict profile.rules name ask) (length name) None))
    matched_flat profile image matched ask name small made wanted =
        let (t, loaded, low, told) = matched_by_image Json 0 profile image matched ask name small made wanted in
        told ∙ ap (λ (o : Option ℕ). whole_answer (json_line (match_object (verdict profile.rules name ask) (length name) o)))
        (flat_look_ups t name (omega (arith, low)))
