-- A path's text, by what is known of the variables that it uses.
use Rattle.std.proofs.Common.{◌≡◌, ℕ, ◌<◌, ◌≤◌, Bool, List, [], ◌∷◌, ◌++◌, length, length-append, Option, Some, None, refl, ap, subst}
use Rattle.std.proofs.Common.{arith}
use Rattle.std.specs.Prelude.{IsSome, option_and_then, Err}
use Rattle.names.specs.Paths.{ends_with_slash}
use Rattle.apparmor_variables.specs.declared.fault.ExpandFault.{ExpandFault}
use Rattle.apparmor_variables.specs.declared.fault.ExpandFault.TheVariants as faults
use Rattle.apparmor_variables.specs.declared.refusal.Refusal.{Refusal}
use Rattle.apparmor_variables.specs.declared.refusal.Refusal.TheVariants as refusals
use Rattle.apparmor_pieces.specs.Pieces.{Text, Piece, byte, escaped, use_of, pieces, names_in, used_names}
use Rattle.apparmor_variables.specs.Variables.{Variable, Known, piece_texts, list_at, most_bytes}
use Rattle.apparmor_variables.specs.Problems.{Problem}
use Rattle.apparmor_variables.specs.PathTexts.{in_place, begins_with_slash, text_of, path_text, PathProblem, TextTooLong}
use Rattle.apparmor_variables.specs.Faults.{Tells}
use Rattle.apparmor_variables.specs.inner.Way.{KnowsAll, AreKnown}
use Rattle.apparmor_variables.specs.inner.AddedBytes.{AddsPiece, Exceeds}
use Rattle.apparmor_variables.specs.inner.Gives.{fault_of}
use Rattle.apparmor_variables.proofs.KnownLists.{both_steps, and_both, piece_more}

-- the text so far with the texts of a piece put in place
abbrev pub further : Text → List Piece → List Text → Text
further so_far more texts = so_far ++ in_place (ends_with_slash so_far) (begins_with_slash more) texts

-- what it results in, together with the pieces that follow
abbrev pub gone_on : Known → Text → List Piece → List Text → Option Text
gone_on known so_far more texts = text_of known (further so_far more texts) more

-- ---- more that is known

module _ (old new : Known) (more : KnowsAll old new) where
  pub text_more : (so_far : Text) (ps : List Piece) (text : Text) → text_of old so_far ps ≡ Some text → text_of new so_far ps ≡ Some text
  text_more so_far [] text e = e
  text_more so_far (p ∷ ps) text e =
      let a = both_steps (gone_on old so_far ps) (piece_texts old p) text e in
      and_both (gone_on new so_far ps) (piece_texts new p) a.0 text (piece_more old new more p a.0 a.1)
      (text_more (further so_far ps a.0) ps text a.2)

-- ---- where all is known there is a text

found : {A : Type 0} (o : Option A) → IsSome o → (x : A) × (o ≡ Some x)
found None h = absurd cc
found (Some x) h = (x, refl)

pub there_is_a_text : (known : Known) (so_far : Text) (ps : List Piece) → AreKnown known (names_in ps) → (text : Text)
    × (text_of known so_far ps ≡ Some text)
there_is_a_text known so_far [] h = (so_far, refl)
there_is_a_text known so_far (byte b ∷ ps) h = there_is_a_text known (further so_far ps ((b ∷ []) ∷ [])) ps h
there_is_a_text known so_far (escaped b ∷ ps) h = there_is_a_text known (further so_far ps ((92 ∷ b ∷ []) ∷ [])) ps h
there_is_a_text known so_far (use_of name ∷ ps) h =
    let t = found (known name) h.0 in
    let r = there_is_a_text known (further so_far ps t.0) ps h.1 in
    (r.0, and_both (gone_on known so_far ps) (known name) t.0 r.0 t.1 r.1)

-- ---- a piece in its place

-- no text is shorter than the text so far
no_shorter : (known : Known) (so_far : Text) (ps : List Piece) (text : Text) → text_of known so_far ps ≡ Some text →
    length so_far ≤ length text
no_shorter known so_far [] text e =
    let same : so_far ≡ text = cc in
    let long = ap length same in
    omega (arith, long)
no_shorter known so_far (p ∷ ps) text e =
    let a = both_steps (gone_on known so_far ps) (piece_texts known p) text e in
    let rest = no_shorter known (further so_far ps a.0) ps text a.2 in
    let longer = length-append so_far (in_place (ends_with_slash so_far) (begins_with_slash ps) a.0) in
    omega (arith, rest, longer)

-- where a piece exceeds the limit, the whole does
pub piece_refused : (refusal : Refusal) (known : Known) (Holds : Text → Type 0) (now : Text) (ps : List Piece) (before behind : Bool)
    (o : Option (List Text)) (text : Text)
    → before ≡ ends_with_slash now → behind ≡ begins_with_slash ps → AddsPiece {X = Unit {0}} (Err refusal) Holds now before behind o →
    option_and_then (gone_on known now ps) o ≡ Some text → Exceeds refusal text
piece_refused refusal known Holds now ps before behind None text front back h e = absurd cc
piece_refused refusals.Nothing known Holds now ps before behind (Some texts) text front back h e =
    let long = subst (λ (t : Bool). most_bytes < length (now ++ in_place t (begins_with_slash ps) texts)) front
    (subst (λ (t : Bool). most_bytes < length (now ++ in_place before t texts)) back h) in
    let rest = no_shorter known (further now ps texts) ps text e in
    omega (arith, long, rest)
piece_refused refusals.NoMemory known Holds now ps before behind (Some texts) text front back h e = tt

-- ---- what is reported

pub tells_more : (P Q : Problem → Type 0) (fault : ExpandFault) → ((problem : Problem) → P problem → Q problem) →
    Tells P fault → Tells Q fault
tells_more P Q (faults.Undefined name) f h = f _ h
tells_more P Q (faults.Cycle name) f h = f _ h
tells_more P Q faults.TooLong f h = f _ h
tells_more P Q faults.NoMemory f h = tt

pub told_of_text : (variables : List Variable) (path : Text) (known : Known) (n : ℕ) → KnowsAll known (list_at n variables) →
    AreKnown known (used_names path) → (refusal : Refusal)
    → ((text : Text) → path_text known path ≡ Some text → Exceeds refusal text) → Tells (PathProblem variables path) (fault_of refusal)
told_of_text variables path known n right all refusals.Nothing h =
    let t = there_is_a_text known [] (pieces path) all in
    TextTooLong n t.0 (text_more known (list_at n variables) right [] (pieces path) t.0 t.1) (h t.0 t.1)
told_of_text variables path known n right all refusals.NoMemory h = tt
