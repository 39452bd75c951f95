-- What is found about all parts of rules that decide nothing.
use Rattle.std.proofs.Common.{◌≡◌, ⊎_elim, ℕ, zero, suc, ◌+◌, ◌<◌, ◌≤◌, Bool, true, false, List, [], ◌∷◌, ◌++◌, Some, None, Vec, Global}
use Rattle.std.proofs.Common.{length}
use Rattle.std.proofs.Common.{map, take, get_or, slice_get, refl, sym, ap, ◌∙◌, arith, append-nil, if◌then◌else◌}
use Rattle.std.specs.List.{All, flat_map, range_with_len}
use Rattle.std.proofs.lemmas.List.{get_or-map, length-map, take_all}
use Rattle.std.proofs.lemmas.List.Concat.{flat_map-append}
use Rattle.std.proofs.lemmas.List.Elements.{All-append, All-cons, All-nil, Contains-get_or}
use Rattle.std.proofs.lemmas.Option.{slice_get-get_or}
use Rattle.names.specs.declared.permissions.Permission.{Permission}
use Rattle.names.specs.declared.permissions.Perms.{Perms}
use Rattle.rule_globs.specs.Rules.{RuleValue}
use Rattle.rule_influence.specs.StandIns.{AreStandIns, AreTheStandIns}
use Rattle.rule_influence.specs.declared.substitutes.IdleCase.{IdleCase}
use Rattle.trace_lint.specs.Findings.{AreFindings, FindingValue, first_idle}
use Rattle.trace_lint.specs.Parts.{case_of, decided_by, decides_nothing, idle_letters, idle_parts, letters_of, parts_of_rule}
use Rattle.trace_lint.specs.declared.findings.Part.{Part}
use Rattle.trace_lint.specs.inner.Found.{AreNumbers, HaveNumbers, IsNumber, ListsHaveNumbers, all_found, found_of}

-- ---- the numbers of rules

module _ (count : ℕ) where
  abbrev Numbered : Part → Type 0
  Numbered part = IsNumber count part.rule

  letters_numbered : (n : ℕ) → IsNumber count n → (letters : List Permission) →
      All Numbered (map (λ letter. record { rule = n; letter = Some letter }) letters)
  letters_numbered n is [] = All-nil Numbered
  letters_numbered n is (p ∷ letters) = All-cons Numbered (record { rule = n; letter = Some p }) _ is (letters_numbered n is letters)

  rule_numbered : (n : ℕ) (letters decided : Perms) → IsNumber count n → All Numbered (parts_of_rule n letters decided)
  rule_numbered n letters decided is = by_test (decides_nothing decided)
    where
      by_test : (b : Bool) → All Numbered (if b then record { rule = n; letter = None } ∷ []
          else map (λ letter. record { rule = n; letter = Some letter }) (idle_letters letters decided))
      by_test true = All-cons Numbered (record { rule = n; letter = None }) [] is (All-nil Numbered)
      by_test false = letters_numbered n is (idle_letters letters decided)

  module _ (rules : List RuleValue) (decided : List Perms) where
    rules_numbered : (a n : ℕ) → 1 ≤ a → a + n ≤ count + 1 →
        All Numbered (flat_map (λ n. parts_of_rule n (letters_of rules n) (decided_by decided n)) (range_with_len a n))
    rules_numbered a zero ge le = All-nil Numbered
    rules_numbered a (suc n) ge le = All-append Numbered (parts_of_rule a (letters_of rules a) (decided_by decided a)) _
        (rule_numbered a (letters_of rules a) (decided_by decided a) (ge, omega (arith, le)))
        (rules_numbered (a + 1) n (omega (arith, ge)) (omega (arith, le)))

pub parts_numbered : (rules : List RuleValue) (decided : List Perms) → HaveNumbers (length rules) (idle_parts rules decided)
parts_numbered rules decided = rules_numbered (length rules) rules decided 1 (length rules) (omega arith) (omega arith)

pub list_numbered : (rules : List RuleValue) (idle : IdleCase) (list : List ℕ) → AreTheStandIns rules idle list →
    AreNumbers (length rules) list
list_numbered rules idle list are k d lt =
    let by = (are.members (get_or list k d)).0 (Contains-get_or list k d lt) in
    let hit = ⊎_elim (λ l. l.0) (λ both. both.1.0) by.2.4.1 in
    (hit.1.0, hit.1.1)

pub lists_numbered : (rules : List RuleValue) (cases : List IdleCase) (lists : List (Vec ℕ Global)) →
    AreStandIns rules cases (map (λ list. list.items) lists) → ListsHaveNumbers (length rules) lists
lists_numbered rules cases lists are k d lt =
    let inside : k < length (map (λ (list : Vec ℕ Global). list.items) lists) =
    omega (arith, lt, length-map lists (λ (list : Vec ℕ Global). list.items)) in
    let there : slice_get (map (λ (list : Vec ℕ Global). list.items) lists) k ≡ Some (get_or lists k d).items =
    slice_get-get_or (map (λ (list : Vec ℕ Global). list.items) lists) k [] inside
    ∙ ap Some (get_or-map (λ (list : Vec ℕ Global). list.items) lists k d [] lt) in
    let idle : IdleCase = get_or cases k (record { rule = 0; perms = letters_of [] 0 }) in
    list_numbered rules idle (get_or lists k d).items
    (are.stand_in k idle (get_or lists k d).items
    (slice_get-get_or cases k (record { rule = 0; perms = letters_of [] 0 }) (omega (arith, inside, are.each))) there)

-- ---- what is found

module _ (rules : List RuleValue) (decided : List Perms) where
  abbrev pub perms_of : Part → Perms
  perms_of part = (case_of rules part).perms

  abbrev IsFirst : FindingValue → Type 0
  IsFirst f = f.idle ≡ first_idle decided (case_of rules f.part).perms f.stand_ins

  parts_found : (parts : List Part) (lists : List (List ℕ)) → length lists ≡ length parts →
      map (λ (f : FindingValue). f.part) (all_found rules decided parts lists) ≡ parts
  parts_found [] lists same = refl
  parts_found (part ∷ parts) [] same = absurd (omega (arith, same))
  parts_found (part ∷ parts) (list ∷ lists) same = ap (λ z. part ∷ z) (parts_found parts lists (omega (arith, same)))

  idle_found : (parts : List Part) (lists : List (List ℕ)) → All IsFirst (all_found rules decided parts lists)
  idle_found [] lists = All-nil IsFirst
  idle_found (part ∷ parts) [] = All-nil IsFirst
  idle_found (part ∷ parts) (list ∷ lists) = All-cons IsFirst (found_of decided part (perms_of part) list)
      (all_found rules decided parts lists) refl (idle_found parts lists)

  stand_ins_found : (parts : List Part) (lists : List (List ℕ)) →
      ((i : ℕ) (idle : IdleCase) (list : List ℕ) → slice_get (map (case_of rules) parts) i ≡ Some idle → slice_get lists i ≡ Some list →
      AreTheStandIns rules idle list) →
      All (λ (f : FindingValue). AreTheStandIns rules (case_of rules f.part) f.stand_ins) (all_found rules decided parts lists)
  stand_ins_found [] lists are = All-nil (λ (f : FindingValue). AreTheStandIns rules (case_of rules f.part) f.stand_ins)
  stand_ins_found (part ∷ parts) [] are = All-nil (λ (f : FindingValue). AreTheStandIns rules (case_of rules f.part) f.stand_ins)
  stand_ins_found (part ∷ parts) (list ∷ lists) are =
      All-cons (λ (f : FindingValue). AreTheStandIns rules (case_of rules f.part) f.stand_ins)
      (found_of decided part (perms_of part) list) (all_found rules decided parts lists) (are 0 (case_of rules part) list refl refl)
      (stand_ins_found parts lists (λ i idle other at there. are (suc i) idle other at there))

  pub are_findings : (parts : List Part) (lists : List (List ℕ)) → parts ≡ idle_parts rules decided →
      AreStandIns rules (map (case_of rules) parts) lists → AreFindings rules decided (all_found rules decided parts lists)
  are_findings parts lists is are = record {
    parts = parts_found parts lists (are.each ∙ length-map parts (case_of rules)) ∙ is;
    stand_ins = stand_ins_found parts lists are.stand_in;
    idle = idle_found parts lists;
  }

  -- ---- one after another

  abbrev pub found_at : List Part → List (List ℕ) → ℕ → Part → List ℕ → FindingValue
  found_at parts lists i d e = found_of decided (get_or parts i d) (perms_of (get_or parts i d)) (get_or lists i e)

  found_more : (parts : List Part) (lists : List (List ℕ)) (i : ℕ) (d : Part) (e : List ℕ) → i < length parts → i < length lists →
      all_found rules decided (take (i + 1) parts) (take (i + 1) lists)
      ≡ all_found rules decided (take i parts) (take i lists) ++ found_at parts lists i d e ∷ []
  found_more [] lists i d e lt within = absurd (omega (arith, lt))
  found_more (part ∷ parts) [] i d e lt within = absurd (omega (arith, within))
  found_more (part ∷ parts) (list ∷ lists) zero d e lt within = refl
  found_more (part ∷ parts) (list ∷ lists) (suc i) d e lt within =
      let more : suc i + 1 ≡ suc (i + 1) = omega arith in
      ap (λ z. all_found rules decided (take z (part ∷ parts)) (take z (list ∷ lists))) more
      ∙ ap (λ z. found_of decided part (perms_of part) list ∷ z)
      (found_more parts lists i d e (omega (arith, lt)) (omega (arith, within)))

  module _ (line : FindingValue → List ℕ) where
    pub line_more : (parts : List Part) (lists : List (List ℕ)) (i : ℕ) (d : Part) (e : List ℕ) (f : FindingValue) (old new : List ℕ) →
        i < length parts → i < length lists → f ≡ found_at parts lists i d e →
        old ≡ flat_map line (all_found rules decided (take i parts) (take i lists)) → new ≡ old ++ line f →
        new ≡ flat_map line (all_found rules decided (take (i + 1) parts) (take (i + 1) lists))
    line_more parts lists i d e f old new lt within is so_far added =
        added ∙ ap (λ z. z ++ line f) so_far
        ∙ ap (λ z. flat_map line (all_found rules decided (take i parts) (take i lists)) ++ z)
        (ap line is ∙ sym (append-nil (line (found_at parts lists i d e))))
        ∙ sym (flat_map-append line (all_found rules decided (take i parts) (take i lists)) (found_at parts lists i d e ∷ []))
        ∙ ap (flat_map line) (sym (found_more parts lists i d e lt within))

    pub line_all : (parts : List Part) (lists : List (List ℕ)) (i : ℕ) (text : List ℕ) → length parts ≤ i → length lists ≤ i →
        text ≡ flat_map line (all_found rules decided (take i parts) (take i lists)) →
        text ≡ flat_map line (all_found rules decided parts lists)
    line_all parts lists i text past over so_far =
        so_far ∙ ap (λ z. flat_map line (all_found rules decided z (take i lists))) (take_all i parts past)
        ∙ ap (λ z. flat_map line (all_found rules decided parts z)) (take_all i lists over)
