-- Items have one first fault or none.
use Rattle.std.proofs.Common.{◌≡◌, ◌<◌, ◌≤◌, ◌+◌, ℕ, Bool, true, false, List, [], ◌∷◌, length, drop, Result, Ok, Err, Option, Some}
use Rattle.std.proofs.Common.{None, refl, sym, ap, ap₂, ◌∙◌, subst, ◌⊎◌, inl, inr, ⊎_elim, arith}
use Rattle.std.proofs.lemmas.Bool.{cases_lt}
use Rattle.apparmor_text.specs.declared.part.ItemKind.{ItemKind}
use Rattle.apparmor_text.specs.declared.part.ItemKind.TheVariants as items
use Rattle.apparmor_text.specs.Parts.{PartValue, ItemValue}
use Rattle.apparmor_variables.specs.Problems.{Problem}
use Rattle.apparmor_variables.proofs.CountLaws.{some_count, one_count}
use Rattle.apparmor_variables.proofs.PathLaws.{one_path_problem, one_text, text_excludes, some_text}
use Rattle.apparmor_variables.specs.Variables.{Variable}
use Rattle.import_scope.specs.FirstFaults.{Question, Counted, question_of, most_together, nothing_counted, is_last, CountBefore}
use Rattle.import_scope.specs.FirstFaults.{too_much_at, Answers, lists_too_long, no_text, text_too_long, answered, IsPast}
use Rattle.import_scope.specs.FirstFaults.{FirstFaultFrom, none_left}
use Rattle.import_scope.specs.FirstFaults.{at_head, at_path, later, FirstFault}
use Rattle.import_scope.specs.Scopes.{ScopeState, Fault, in_path, behind, head_fault}

-- an item doesn't have faults of both sorts
apart : (kind : ItemKind) (s : ScopeState) (parts : List PartValue) (fault : Fault) (q : Question) → head_fault kind s parts ≡ Some fault →
    question_of kind s parts ≡ Some q → ⊥
apart items.Assignment s parts fault q e f = absurd cc
apart items.Profile s parts fault q e f = absurd cc
apart items.Hat s parts fault q e f = absurd cc
apart items.Close s parts fault q e f = absurd cc
apart items.Blank s parts fault q e f = absurd cc
apart items.Statement s parts fault q e f = absurd cc
apart items.Rule s parts fault q e f = absurd cc

-- ---- what was counted with a path

one_before : (last : Bool) (variables : List Variable) (n m : ℕ) → CountBefore last variables n → CountBefore last variables m → n ≡ m
one_before true variables n m a b = a ∙ sym b
one_before false variables n m a b = one_count variables (drop 1 variables) n m a b

some_before : (last : Bool) (variables : List Variable) → (n : ℕ) × CountBefore last variables n
some_before true variables = (0, refl)
some_before false variables = some_count variables (drop 1 variables)

module _ (c : Counted) (q : Question) where
  abbrev Before : ℕ → Type 0
  Before n = CountBefore (is_last c.profile q.profile) q.variables n

  same_before : (n m : ℕ) → Before n → Before m → n ≡ m
  same_before n m a b = one_before (is_last c.profile q.profile) q.variables n m a b

  -- both counts at once
  not_both : (n m more : ℕ) → Before n → Before m → most_together < c.bytes + n → c.bytes + m + more ≤ most_together → ⊥
  not_both n m more a b long short = let same = same_before n m a b in omega (arith, same, long, short)

  abbrev refused : Problem → Result Counted Fault
  refused problem = Err (record { kind = in_path problem; place = q.place })

  abbrev counted : ℕ → List ℕ → Result Counted Fault
  counted n text = Ok (record { bytes = c.bytes + n + length text; profile = Some q.profile })

  same_problem : (problem other : Problem) → problem ≡ other → refused problem ≡ refused other
  same_problem problem other e = ap refused e

  same_text : (n m : ℕ) (text other : List ℕ) → n ≡ m → text ≡ other → counted n text ≡ counted m other
  same_text n m text other e f = ap₂ counted e f

  pub one_answer : (one other : Result Counted Fault) → Answers c q one → Answers c q other → one ≡ other
  one_answer _ _ (lists_too_long n a long) (lists_too_long m b more) = refl
  one_answer _ _ (lists_too_long n a long) (no_text m problem b short has) =
      absurd (not_both n m 0 a b long (omega (arith, short)))
  one_answer _ _ (lists_too_long n a long) (text_too_long m text b is more) = refl
  one_answer _ _ (lists_too_long n a long) (answered m text b is short) = absurd (not_both n m (length text) a b long short)
  one_answer _ _ (no_text n problem a short has) (lists_too_long m b long) =
      absurd (not_both m n 0 b a long (omega (arith, short)))
  one_answer _ _ (no_text n problem a short has) (no_text m other b less had) =
      same_problem problem other (one_path_problem q.variables q.path problem other has had)
  one_answer _ _ (no_text n problem a short has) (text_too_long m text b is more) =
      absurd (text_excludes q.variables q.path text problem is has)
  one_answer _ _ (no_text n problem a short has) (answered m text b is less) =
      absurd (text_excludes q.variables q.path text problem is has)
  one_answer _ _ (text_too_long n text a is long) (lists_too_long m b more) = refl
  one_answer _ _ (text_too_long n text a is long) (no_text m problem b short has) =
      absurd (text_excludes q.variables q.path text problem is has)
  one_answer _ _ (text_too_long n text a is long) (text_too_long m other b was more) = refl
  one_answer _ _ (text_too_long n text a is long) (answered m other b was short) =
      let same = same_before n m a b in
      let alike = ap length (one_text q.variables q.path text other is was) in
      absurd (omega (arith, same, alike, long, short))
  one_answer _ _ (answered n text a is short) (lists_too_long m b long) = absurd (not_both m n (length text) b a long short)
  one_answer _ _ (answered n text a is short) (no_text m problem b less has) =
      absurd (text_excludes q.variables q.path text problem is has)
  one_answer _ _ (answered n text a is short) (text_too_long m other b was long) =
      let same = same_before n m a b in
      let alike = ap length (one_text q.variables q.path text other is was) in
      absurd (omega (arith, same, alike, long, short))
  one_answer _ _ (answered n text a is short) (answered m other b was less) =
      same_text n m text other (same_before n m a b) (one_text q.variables q.path text other is was)

  some_answer : (r : Result Counted Fault) × Answers c q r
  some_answer =
      let n = some_before (is_last c.profile q.profile) q.variables in
      ⊎_elim
      (λ long. (Err (too_much_at q), lists_too_long n.0 n.1 long))
      (λ short. ⊎_elim
      (λ t. ⊎_elim
      (λ long. (Err (too_much_at q), text_too_long n.0 t.0 n.1 t.1 long))
      (λ fits. (Ok (record { bytes = c.bytes + n.0 + length t.0; profile = Some q.profile }), answered n.0 t.0 n.1 t.1 fits))
      (cases_lt most_together (c.bytes + n.0 + length t.0)))
      (λ p. (Err (record { kind = in_path p.0; place = q.place }), no_text n.0 p.0 n.1 short p.1))
      (some_text q.variables q.path))
      (cases_lt most_together (c.bytes + n.0))

-- ---- the first fault

no_such : (fault : Fault) (next : Counted) → Err fault ≡ Ok next → ⊥
no_such fault next e = absurd cc

past_or_not : (c next : Counted) (o : Option Question) (q : Question) (fault : Fault) → o ≡ Some q → Answers c q (Err fault) →
    IsPast c o next → ⊥
past_or_not c next o q fault e f a =
    no_such fault next (one_answer c q (Err fault) (Ok next) f (subst (λ (x : Option Question). IsPast c x next) e a))

one_path_fault : (c : Counted) (q other : Question) (fault last : Fault) → q ≡ other → Answers c q (Err fault) →
    Answers c other (Err last) → fault ≡ last
one_path_fault c q other fault last e a b =
    let same : Err fault ≡ Err last = one_answer c q (Err fault) (Err last) a
    (subst (λ (x : Question). Answers c x (Err last)) (sym e) b) in
    cc

one_past : (c next other : Counted) (o : Option Question) → IsPast c o next → IsPast c o other → next ≡ other
one_past c next other None a b = a ∙ sym b
one_past c next other (Some q) a b = let same : Ok next ≡ Ok other = one_answer c q (Ok next) (Ok other) a b in cc

pub one_fault_from : (s : ScopeState) (c : Counted) (all : List ItemValue) (one other : Option Fault) → FirstFaultFrom s c all one →
    FirstFaultFrom s c all other → one ≡ other
one_fault_from s c all one other (none_left t k) (none_left u l) = refl
one_fault_from s c all one other (at_head t k item others fault e) (at_head u l item_2 others_2 fault_2 f) = cc
one_fault_from s c all one other (at_head t k item others fault e) (at_path u l item_2 others_2 q fault_2 f g) =
    absurd (apart item.kind t item.parts fault q e f)
one_fault_from s c all one other (at_head t k item others fault e) (later u l next item_2 others_2 end f g h) = absurd cc
one_fault_from s c all one other (at_path t k item others q fault e f) (at_head u l item_2 others_2 fault_2 g) =
    absurd (apart item.kind t item.parts fault_2 q g e)
one_fault_from s c all one other (at_path t k item others q fault e f) (at_path u l item_2 others_2 q_2 fault_2 g h) =
    let same : q ≡ q_2 = cc in
    ap (λ (x : Fault). Some x) (one_path_fault k q q_2 fault fault_2 same f h)
one_fault_from s c all one other (at_path t k item others q fault e f) (later u l next item_2 others_2 end g h r) =
    absurd (past_or_not k next (question_of item.kind t item.parts) q fault e f h)
one_fault_from s c all one other (later t k next item others end e f r) (at_head u l item_2 others_2 fault_2 g) = absurd cc
one_fault_from s c all one other (later t k next item others end e f r) (at_path u l item_2 others_2 q_2 fault_2 g h) =
    absurd (past_or_not k next (question_of item.kind t item.parts) q_2 fault_2 g h f)
one_fault_from s c all one other (later t k next item others end e f r) (later u l next_2 item_2 others_2 end_2 g h r_2) =
    let same : next ≡ next_2 = one_past k next next_2 (question_of item.kind t item.parts) f h in
    one_fault_from (behind t item) next others end end_2 r
    (subst (λ (x : Counted). FirstFaultFrom (behind t item) x others end_2) (sym same) r_2)

pub one_fault : (s : ScopeState) (all : List ItemValue) (one other : Option Fault) → FirstFault s all one →
    FirstFault s all other → one ≡ other
one_fault s all one other a b = one_fault_from s nothing_counted all one other a b

-- an item has a path with a fault, or this was counted with it
abbrev Asked : Counted → Option Question → Type 0
Asked c o = ((q : Question) × (fault : Fault) × (o ≡ Some q) × Answers c q (Err fault)) ⊎ ((next : Counted) × IsPast c o next)

of_answer : (c : Counted) (q : Question) (r : Result Counted Fault) → Answers c q r → Asked c (Some q)
of_answer c q (Err fault) a = inl (q, fault, refl, a)
of_answer c q (Ok next) a = inr (next, a)

asked : (c : Counted) (o : Option Question) → Asked c o
asked c None = inr (c, refl)
asked c (Some q) = let r = some_answer c q in of_answer c q r.0 r.1

abbrev Outcome : ScopeState → Counted → List ItemValue → Type 0
Outcome s c all = (end : Option Fault) × FirstFaultFrom s c all end

some_fault_from : (s : ScopeState) (c : Counted) (all : List ItemValue) → Outcome s c all
some_fault_from s c [] = (None, none_left s c)
some_fault_from s c (item ∷ others) =
    elim (head_fault item.kind s item.parts) as (λ (o : Option Fault). head_fault item.kind s item.parts ≡ o →
    Outcome s c (item ∷ others)) [
      | None ↦ λ e. ⊎_elim
          (λ p. (Some p.1, at_path s c item others p.0 p.1 p.2 p.3))
          (λ a. let r = some_fault_from (behind s item) a.0 others in (r.0, later s c a.0 item others r.0 e a.1 r.1))
          (asked c (question_of item.kind s item.parts))
      | Some fault ↦ λ e. (Some fault, at_head s c item others fault e)
    ] refl

pub some_fault : (s : ScopeState) (all : List ItemValue) → (end : Option Fault) × FirstFault s all end
some_fault s all = some_fault_from s nothing_counted all
