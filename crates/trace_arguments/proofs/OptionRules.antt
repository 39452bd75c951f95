-- The parser's rules of a list of options, and the rows of those that are given.
use Rattle.std.proofs.Common.{◌≡◌, ◌∙◌, ◌&&◌, ◌||◌, ◌++◌, ℕ, Bool, cond, true, false, not, List, [], ◌∷◌, map, Option, Some, None, refl}
use Rattle.std.proofs.Common.{ap, sym, subst, append-nil}
use Rattle.std.specs.Prelude.{codes, if◌then◌else◌, find, is_some, nat_lt, option_map, pos, unwrap_or}
use Rattle.std.specs.List.{filter}
use Rattle.std.specs.Option.{option_or}
use Rattle.std.specs.Str.{bytes_eq}
use Rattle.std.proofs.lemmas.List.{map-append}
use Rattle.std.proofs.lemmas.List.Elements.{filter-append}
use Rattle.std.proofs.lemmas.List.Folds.{find-append}
use Rattle.std.proofs.lemmas.Slice.Eq.{bytes_eq-Decides}
use Rattle.clap.specs.Faults.{repeat_fault, use_fault, values_fault}
use Rattle.clap.specs.Simple.{new_rule}
use Rattle.clap.specs.Walk.{Row, Rule, Text, has_row, more_values, reading_by}
use Rattle.clap.specs.Walk.{stronger, used, with_values, without}
use Rattle.clap.specs.declared.builder.action.ArgAction.{ArgAction}
use Rattle.clap.specs.declared.builder.action.ArgAction.TheVariants.{Append, Set, SetTrue}
use Rattle.clap.specs.declared.builder.value_parser.Reading.{Reading}
use Rattle.clap.specs.declared.builder.value_parser.ValueParser.{ValueParser}
use Rattle.clap.specs.declared.builder.value_parser.ValueParser.TheVariants as vp
use Rattle.clap.specs.declared.error.kind.ErrorKind.TheVariants.{ArgumentConflict, InvalidValue, ValueValidation, WrongNumberOfValues}
use Rattle.clap.specs.declared.parser.matches.ValueSource.{ValueSource}
use Rattle.clap.specs.declared.parser.matches.ValueSource.TheVariants.{CommandLine}
use Rattle.clap.proofs.WalkLemmas.{both}
use Rattle.trace_arguments.specs.Given.{Given, is_number_of, may_come, one_more, option_named, text_given, texts_given}
use Rattle.trace_forms.specs.Forms.{NumberOption, OptionForm, Wants, many_texts, no_text, one_number, one_text}
use Rattle.trace_arguments.proofs.Named.{same_name}
use Rattle.trace_arguments.proofs.LeafWalk.{Some_of, help, in_second}

-- ---- the rules

-- how many values a use has
abbrev pub count_by : Wants → ℕ
count_by no_text = 0
count_by _ = 1

abbrev pub action_by : Wants → ArgAction
action_by many_texts = Append
action_by no_text = SetTrue
action_by _ = Set

abbrev pub defaults_by : Wants → List Text
defaults_by (one_number option) = option.default ∷ []
defaults_by no_text = codes "false" ∷ []
defaults_by _ = []

abbrev missing_by : Wants → List Text
missing_by no_text = codes "true" ∷ []
missing_by _ = []

abbrev parser_by : Wants → ValueParser
parser_by (one_number option) = vp.Signed (pos option.least) (pos option.most)
parser_by no_text = vp.Bool
parser_by _ = vp.String

-- an option as it is built
abbrev pub built_rule : OptionForm → Rule
built_rule option = record (new_rule option.name) {
  long = Some option.name;
  action = Some (action_by option.wants);
  range = Some (record { start_inclusive = count_by option.wants; end_inclusive = count_by option.wants });
  value_names = count_by option.wants;
  defaults = defaults_by option.wants;
  missing = missing_by option.wants;
  parser = Some (parser_by option.wants);
}

abbrev pub built_rules : List OptionForm → List Rule
built_rules options = map built_rule options ++ help ∷ []

-- ---- options of different names, whose defaults are numbers of theirs

abbrev pub is_sound : Wants → Bool
is_sound (one_number option) = is_number_of option option.default && nat_lt option.most 4294967296
is_sound _ = true

abbrev pub are_sound : List OptionForm → Bool
are_sound [] = true
are_sound (o ∷ options) = is_sound o.wants && (not (is_some (option_named options o.name)) && are_sound options)

pub sound_named : (options : List OptionForm) (o : OptionForm) → are_sound options ≡ true → option_named options o.name ≡ Some o →
    is_sound o.wants ≡ true
sound_named [] o sound e = absurd (cc e)
sound_named (p ∷ options) o sound e =
    let here = both (is_sound p.wants) (not (is_some (option_named options p.name)) && are_sound options) sound in
    let rest = both (not (is_some (option_named options p.name))) (are_sound options) here.1 in
    go (bytes_eq p.name o.name) here.0 (λ is. sound_named options o rest.1 is) e
  where
    go : (same : Bool) → is_sound p.wants ≡ true → (option_named options o.name ≡ Some o → is_sound o.wants ≡ true)
        → cond same (Some p) (option_named options o.name) ≡ Some o → is_sound o.wants ≡ true
    go true first behind is = let it : p ≡ o = cc is in ap (λ (x : OptionForm). is_sound x.wants) (sym it) ∙ first
    go false first behind is = behind is

-- ---- rows

abbrev pub row_named : List Row → Text → Option Row
row_named rows name = find (λ r. bytes_eq r.id name) rows

pub found_row : (name : Text) (rows : List Row) → has_row name rows ≡ is_some (row_named rows name)
found_row name [] = refl
found_row name (r ∷ rows) = go (bytes_eq r.id name) (found_row name rows)
  where
    go : (b : Bool) → has_row name rows ≡ is_some (row_named rows name) → (b || has_row name rows)
        ≡ is_some (cond b (Some r) (row_named rows name))
    go true e = refl
    go false e = e

-- where there is no row, none is taken out
none_without : (id : Text) (rows : List Row) → has_row id rows ≡ false → without id rows ≡ rows
none_without id [] e = refl
none_without id (r ∷ rows) e = go (bytes_eq r.id id) (λ fresh. none_without id rows fresh) e
  where
    go : (b : Bool) → (has_row id rows ≡ false → without id rows ≡ rows) → (b || has_row id rows) ≡ false →
        cond b ([] ++ rows) (r ∷ without id rows) ≡ r ∷ rows
    go true behind e = absurd (cc e)
    go false behind e = ap (λ (rs : List Row). r ∷ rs) (behind e)

-- the row of an id after more values
abbrev pub row_with : Text → Reading → ValueSource → List Text → Option Row → Row
row_with id how s values None = record { id = id; values = values; count = None; source = Some s; reading = how }
row_with id how s values (Some r) = record r { values = r.values ++ values; source = Some (stronger r.source s) }

pub with_same : (id : Text) (how : Reading) (s : ValueSource) (values : List Text) (rows : List Row)
    → row_named (with_values id how s values rows) id ≡ Some (row_with id how s values (row_named rows id))
with_same id how s values [] = rw (same_name id) refl
with_same id how s values (r ∷ rows) = go (bytes_eq r.id id) refl (with_same id how s values rows)
  where
    go : (b : Bool) → bytes_eq r.id id ≡ b → row_named (with_values id how s values rows) id
        ≡ Some (row_with id how s values (row_named rows id))
        → row_named (cond b (more_values s values r ++ rows) (r ∷ with_values id how s values rows)) id
        ≡ Some (row_with id how s values (cond b (Some r) (row_named rows id)))
    go true is behind = rw is refl
    go false is behind = rw is behind

pub with_other : (id : Text) (how : Reading) (s : ValueSource) (values : List Text) (name : Text) (rows : List Row) →
    bytes_eq id name ≡ false
    → row_named (with_values id how s values rows) name ≡ row_named rows name
with_other id how s values name [] other = rw other refl
with_other id how s values name (r ∷ rows) other = go (bytes_eq r.id id) refl (with_other id how s values name rows other)
  where
    go : (b : Bool) → bytes_eq r.id id ≡ b → row_named (with_values id how s values rows) name ≡ row_named rows name
        → row_named (cond b (more_values s values r ++ rows) (r ∷ with_values id how s values rows)) name ≡ cond (bytes_eq r.id name)
        (Some r) (row_named rows name)
    go true is behind =
        let none : bytes_eq r.id name ≡ false = ap (λ (i : Text). bytes_eq i name) ((bytes_eq-Decides r.id id).0 is) ∙ other in
        rw none refl
    go false is behind = ap (λ (o : Option Row). cond (bytes_eq r.id name) (Some r) o) behind

-- ---- what is given

-- what a use of an option leaves in its row
abbrev stored : Wants → Text → List Text
stored no_text text = codes "true" ∷ []
stored _ text = text ∷ []

abbrev new_row : Text → Wants → List Text → Row
new_row name wants values = row_with name (reading_by (built_rule (record { name = name; wants = wants }))) CommandLine values None

abbrev pub rows_once : Text → Wants → Option Text → Option Row
rows_once name wants said = option_map (λ text. new_row name wants (stored wants text)) said

abbrev pub rows_often : Text → Wants → List Text → Option Row
rows_often name wants [] = None
rows_often name wants (text ∷ texts) = Some (new_row name wants (text ∷ texts))

-- the row of an option by what is given
abbrev pub row_by : Text → Wants → Given → Option Row
row_by name many_texts given = rows_often name many_texts (texts_given given name)
row_by name wants given = rows_once name wants (text_given given name)

-- the text that is given, or the default in its place, is one that the option accepts
abbrev pub is_passed : Wants → Option Text → Bool
is_passed (one_number option) said = is_number_of option (unwrap_or said option.default)
is_passed _ said = true

-- the rows are those of what is given
abbrev pub Are : List OptionForm → List Row → Given → Type 0
Are options rows given = (o : OptionForm) → option_named options o.name ≡ Some o
    → (row_named rows o.name ≡ row_by o.name o.wants given) × (is_passed o.wants (text_given given o.name) ≡ true)

-- nothing is given
no_row : (name : Text) (wants : Wants) → is_sound wants ≡ true → (None ≡ row_by name wants []) × (is_passed wants None ≡ true)
no_row name (one_number n) sound = (refl, (both (is_number_of n n.default) (nat_lt n.most 4294967296) sound).0)
no_row name one_text sound = (refl, refl)
no_row name many_texts sound = (refl, refl)
no_row name no_text sound = (refl, refl)

pub none_are : (options : List OptionForm) → are_sound options ≡ true → Are options [] []
none_are options sound o is = no_row o.name o.wants (sound_named options o sound is)

-- one more is given, of this name and of others
pub text_new : (given : Given) (name text : Text) → text_given given name ≡ None → text_given (given ++ (name, text) ∷ []) name ≡ Some text
text_new given name text none =
    rw (find-append (λ (pair : Text × Text). bytes_eq pair.0 name) given ((name, text) ∷ []))
    (go (find (λ pair. bytes_eq pair.0 name) given) none)
  where
    go : (found : Option (Text × Text)) → option_map (λ pair. pair.1) found ≡ None
        → option_map (λ pair. pair.1) (option_or found (find (λ (pair : Text × Text). bytes_eq pair.0 name) ((name, text) ∷ [])))
        ≡ Some text
    go None e = rw (same_name name) refl
    go (Some pair) e = absurd (cc e)

pub text_other : (given : Given) (name text other : Text) → bytes_eq name other ≡ false → text_given (given ++ (name, text) ∷ []) other
    ≡ text_given given other
text_other given name text other is =
    rw (find-append (λ (pair : Text × Text). bytes_eq pair.0 other) given ((name, text) ∷ []), is)
    (go (find (λ pair. bytes_eq pair.0 other) given))
  where
    go : (found : Option (Text × Text)) → option_map (λ pair. pair.1) (option_or found None) ≡ option_map (λ pair. pair.1) found
    go None = refl
    go (Some pair) = refl

texts_new : (given : Given) (name text : Text) → texts_given (given ++ (name, text) ∷ []) name ≡ texts_given given name ++ text ∷ []
texts_new given name text =
    rw (filter-append (λ (pair : Text × Text). bytes_eq pair.0 name) given ((name, text) ∷ []), same_name name)
    (map-append (λ (pair : Text × Text). pair.1) (filter (λ pair. bytes_eq pair.0 name) given) ((name, text) ∷ []))

texts_other : (given : Given) (name text other : Text) → bytes_eq name other ≡ false → texts_given (given ++ (name, text) ∷ []) other
    ≡ texts_given given other
texts_other given name text other is =
    rw (filter-append (λ (pair : Text × Text). bytes_eq pair.0 other) given ((name, text) ∷ []), is)
    (ap (map (λ (pair : Text × Text). pair.1)) (append-nil (filter (λ pair. bytes_eq pair.0 other) given)))

row_other : (wants : Wants) (given : Given) (name text other : Text) → bytes_eq name other ≡ false
    → row_by other wants (given ++ (name, text) ∷ []) ≡ row_by other wants given
row_other (one_number option) given name text other is = ap (rows_once other (one_number option)) (text_other given name text other is)
row_other one_text given name text other is = ap (rows_once other one_text) (text_other given name text other is)
row_other many_texts given name text other is = ap (rows_often other many_texts) (texts_other given name text other is)
row_other no_text given name text other is = ap (rows_once other no_text) (text_other given name text other is)

-- ---- one use

abbrev pub reading_to : OptionForm → Reading
reading_to o = reading_by (built_rule o)

-- the rows after one more use
more_rows : (options : List OptionForm) (given : Given) (rows : List Row) (o : OptionForm) (text : Text) (values : List Text) →
    option_named options o.name ≡ Some o
    → Are options rows given
    → Some (row_with o.name (reading_to o) CommandLine values (row_named rows o.name)) ≡ row_by o.name o.wants
    (given ++ (o.name, text) ∷ []) → is_passed o.wants (text_given (given ++ (o.name, text) ∷ []) o.name) ≡ true
    → Are options (with_values o.name (reading_to o) CommandLine values rows) (given ++ (o.name, text) ∷ [])
more_rows options given rows o text values at are row passed = λ p is. go p is (bytes_eq o.name p.name) refl
  where
    more : Given
    more = given ++ (o.name, text) ∷ []

    here : row_named (with_values o.name (reading_to o) CommandLine values rows) o.name ≡ row_by o.name o.wants more
    here = with_same o.name (reading_to o) CommandLine values rows ∙ row

    go : (p : OptionForm) → option_named options p.name ≡ Some p → (same : Bool) → bytes_eq o.name p.name ≡ same
        → (row_named (with_values o.name (reading_to o) CommandLine values rows) p.name ≡ row_by p.name p.wants more)
        × (is_passed p.wants (text_given more p.name) ≡ true)
    go p is true same =
        let name : o.name ≡ p.name = (bytes_eq-Decides o.name p.name).0 same in
        let found : Some o ≡ Some p = sym at ∙ ap (option_named options) name ∙ is in
        let it : o ≡ p = cc found in
        subst (λ (x : OptionForm). (row_named (with_values o.name (reading_to o) CommandLine values rows) x.name
        ≡ row_by x.name x.wants more)
        × (is_passed x.wants (text_given more x.name) ≡ true)) it (here, passed)
    go p is false other = (
      with_other o.name (reading_to o) CommandLine values p.name rows other ∙ (are p is).0
          ∙ sym (row_other p.wants given o.name text p.name other),
      ap (is_passed p.wants) (text_other given o.name text p.name other) ∙ (are p is).1,
    )

-- the values of a use
abbrev pub said_values : Option Text → List Text
said_values None = []
said_values (Some text) = text ∷ []

abbrev pub more_given : Given → OptionForm → Option Text → Given
more_given given o said = given ++ (o.name, unwrap_or said []) ∷ []

-- the outcome of a use
pub data Use (options : List OptionForm) (given : Given) (rows : List Row) (o : OptionForm) (said : Option Text) : Type 0 where
  good : one_more options given (Some o.name) said ≡ Some (more_given given o said) → use_fault false (built_rule o)
      (said_values said) rows ≡ []
      → Are options (used (built_rule o) (said_values said) rows) (more_given given o said) → Use options given rows o said
  bad : one_more options given (Some o.name) said ≡ None → Some_of (use_fault false (built_rule o) (said_values said) rows) →
      Use options given rows o said

pub one_more_if : (options : List OptionForm) (given : Given) (o : OptionForm) (said : Option Text) (may : Bool) →
    option_named options o.name ≡ Some o
    → may_come given said o ≡ may → one_more options given (Some o.name) said ≡ (if may then Some (more_given given o said) else None)
one_more_if options given o said may at is = rw (at, is) refl

module _ (options : List OptionForm) (given : Given) (rows : List Row) where
  abbrev Comes : Text → Wants → Option Text → Type 0
  Comes name wants said =
      let o : OptionForm = record { name = name; wants = wants } in
      option_named options name ≡ Some o → Are options rows given → Use options given rows o said

  -- an option that is given once, and wasn't yet
  once_rows : (name : Text) (wants : Wants) (text : Text) → option_named options name ≡ Some (record { name = name; wants = wants }) →
      Are options rows given
      → ((g : Given) → row_by name wants g ≡ rows_once name wants (text_given g name)) → text_given given name ≡ None →
      is_passed wants (Some text) ≡ true → Are options (with_values name (reading_to (record { name = name; wants = wants })) CommandLine
      (stored wants text) rows) (given ++ (name, text) ∷ [])
  once_rows name wants text at are once none passed =
      let o : OptionForm = record { name = name; wants = wants } in
      let new : text_given (given ++ (name, text) ∷ []) name ≡ Some text = text_new given name text none in
      let before : row_named rows name ≡ None = (are o at).0 ∙ once given ∙ ap (rows_once name wants) none in
      more_rows options given rows o text (stored wants text) at are
      (ap (λ (r : Option Row). Some (row_with name (reading_to o) CommandLine (stored wants text) r)) before
      ∙ sym (once (given ++ (name, text) ∷ []) ∙ ap (rows_once name wants) new))
      (ap (is_passed wants) new ∙ passed)

  rows_said : (name : Text) (wants : Wants) (said : Option Text) → is_some (rows_once name wants said) ≡ is_some said
  rows_said name wants None = refl
  rows_said name wants (Some text) = refl

  -- whether it has a row
  has_once : (name : Text) (wants : Wants) (said : Option Text) → option_named options name
      ≡ Some (record { name = name; wants = wants }) → Are options rows given
      → ((g : Given) → row_by name wants g ≡ rows_once name wants (text_given g name)) → text_given given name ≡ said →
      has_row name rows ≡ is_some said
  has_once name wants said at are once is =
      found_row name rows ∙ ap is_some ((are (record { name = name; wants = wants }) at).0 ∙ once given ∙ ap (rows_once name wants) is)
      ∙ rows_said name wants said

  number_comes : (name : Text) (n : NumberOption) (text : Text) (number : Bool) (before : Option Text) → is_number_of n text ≡ number →
      text_given given name ≡ before
      → Comes name (one_number n) (Some text)
  number_comes name n text true None number before at are =
      let o : OptionForm = record { name = name; wants = one_number n } in
      let fresh : has_row name rows ≡ false = has_once name (one_number n) None at are (λ g. refl) before in
      let after = once_rows name (one_number n) text at are (λ g. refl) before number in
      good (one_more_if options given o (Some text) true at (rw (number, before) refl)) (rw (fresh, number) refl)
      (subst (λ (rs : List Row). Are options (with_values name (reading_to o) CommandLine (text ∷ []) rs) (given ++ (name, text) ∷ []))
      (sym (none_without name rows fresh)) after)
  number_comes name n text true (Some said) number before at are =
      let o : OptionForm = record { name = name; wants = one_number n } in
      let there : has_row name rows ≡ true = has_once name (one_number n) (Some said) at are (λ g. refl) before in
      bad (one_more_if options given o (Some text) false at (rw (number, before) refl)) (rw there (ArgumentConflict, [], refl))
  number_comes name n text false before number is at are =
      let o : OptionForm = record { name = name; wants = one_number n } in
      let refused : values_fault (built_rule o) (text ∷ []) ≡ ValueValidation ∷ [] = rw number refl in
      bad (one_more_if options given o (Some text) false at (rw number refl))
      (in_second (repeat_fault false name rows) (values_fault (built_rule o) (text ∷ [])) (ValueValidation, [], refused))

  text_comes : (name : Text) (text : Text) (before : Option Text) → text_given given name ≡ before → Comes name one_text (Some text)
  text_comes name text None before at are =
      let o : OptionForm = record { name = name; wants = one_text } in
      let fresh : has_row name rows ≡ false = has_once name one_text None at are (λ g. refl) before in
      let after = once_rows name one_text text at are (λ g. refl) before refl in
      good (one_more_if options given o (Some text) true at (rw before refl)) (rw fresh refl)
      (subst (λ (rs : List Row). Are options (with_values name (reading_to o) CommandLine (text ∷ []) rs) (given ++ (name, text) ∷ []))
      (sym (none_without name rows fresh)) after)
  text_comes name text (Some said) before at are =
      let o : OptionForm = record { name = name; wants = one_text } in
      let there : has_row name rows ≡ true = has_once name one_text (Some said) at are (λ g. refl) before in
      bad (one_more_if options given o (Some text) false at (rw before refl)) (rw there (ArgumentConflict, [], refl))

  one_text_more : (name text : Text) (texts : List Text)
      → Some (row_with name (reading_to (record { name = name; wants = many_texts })) CommandLine (text ∷ [])
      (rows_often name many_texts texts))
      ≡ rows_often name many_texts (texts ++ text ∷ [])
  one_text_more name text [] = refl
  one_text_more name text (first ∷ texts) = refl

  texts_comes : (name : Text) (text : Text) → Comes name many_texts (Some text)
  texts_comes name text at are =
      let o : OptionForm = record { name = name; wants = many_texts } in
      good (one_more_if options given o (Some text) true at refl) refl
      (more_rows options given rows o text (text ∷ []) at are
      (ap (λ (r : Option Row). Some (row_with name (reading_to o) CommandLine (text ∷ []) r)) (are o at).0 ∙ one_text_more name text
      (texts_given given name)
      ∙ sym (ap (rows_often name many_texts) (texts_new given name text))) refl)

  flag_comes : (name : Text) (before : Option Text) → text_given given name ≡ before → Comes name no_text None
  flag_comes name None before at are =
      let o : OptionForm = record { name = name; wants = no_text } in
      let fresh : has_row name rows ≡ false = has_once name no_text None at are (λ g. refl) before in
      let after = once_rows name no_text [] at are (λ g. refl) before refl in
      good (one_more_if options given o None true at (rw before refl)) (rw fresh refl)
      (subst (λ (rs : List Row). Are options (with_values name (reading_to o) CommandLine (codes "true" ∷ []) rs)
      (given ++ (name, []) ∷ [])) (sym (none_without name rows fresh)) after)
  flag_comes name (Some said) before at are =
      let o : OptionForm = record { name = name; wants = no_text } in
      let there : has_row name rows ≡ true = has_once name no_text (Some said) at are (λ g. refl) before in
      bad (one_more_if options given o None false at (rw before refl)) (rw there (ArgumentConflict, [], refl))

  use_by : (name : Text) (wants : Wants) (said : Option Text) → Comes name wants said
  use_by name (one_number n) None at are = bad (one_more_if options given (record { name = name; wants = one_number n }) None false at
      refl) (InvalidValue, [], refl)
  use_by name (one_number n) (Some text) at are = number_comes name n text (is_number_of n text) (text_given given name) refl refl at are
  use_by name one_text None at are = bad (one_more_if options given (record { name = name; wants = one_text }) None false at refl)
      (InvalidValue, [], refl)
  use_by name one_text (Some text) at are = text_comes name text (text_given given name) refl at are
  use_by name many_texts None at are = bad (one_more_if options given (record { name = name; wants = many_texts }) None false at refl)
      (InvalidValue, [], refl)
  use_by name many_texts (Some text) at are = texts_comes name text at are
  use_by name no_text None at are = flag_comes name (text_given given name) refl at are
  use_by name no_text (Some text) at are =
      bad (one_more_if options given (record { name = name; wants = no_text }) (Some text) false at refl) (WrongNumberOfValues, [], refl)

  pub use_of : (o : OptionForm) (said : Option Text) → option_named options o.name ≡ Some o → Are options rows given →
      Use options given rows o said
  use_of o said at are = use_by o.name o.wants said at are
