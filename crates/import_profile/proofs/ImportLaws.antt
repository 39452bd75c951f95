-- The laws of imported paths.
use Rattle.std.proofs.Common.{◌≡◌, ◌≢◌, ◌↔◌, ℕ, Bool, true, false, ◌&&◌, List, [], ◌∷◌, map, Option, Some, None, if◌then◌else◌, refl, sym}
use Rattle.std.proofs.Common.{ap, subst, ◌∙◌}
use Rattle.std.specs.List.{list_all}
use Rattle.std.specs.Str.{bytes_eq}
use Rattle.std.proofs.lemmas.Bool.{and_parts, and_from}
use Rattle.std.proofs.lemmas.Slice.Eq.{bytes_eq-Decides}
use Rattle.rule_globs.specs.Glob.{Takes}
use Rattle.rule_globs.specs.Meaning.{meaning_of, alt_all}
use Rattle.rule_globs.specs.Tokens.{Token, byte, any_byte, bracket, stars, opening, between, closing, pattern_of}
use Rattle.rule_globs.specs.laws.TokenLaws.{same_pattern}
use Rattle.rule_reader.specs.PathText.{text_tokens}
use Rattle.rule_profile.specs.Readable.{begins_with_slash, is_path}
use Rattle.rule_writer.proofs.CanonItems.{path_parts}
use Rattle.apparmor_pieces.specs.Slashes.{one_slash}
use Rattle.rule_making.specs.Leads.{led}
use Rattle.rule_making.specs.laws.SameNames.{led_same}
use Rattle.import_profile.specs.Groups.{groups_choose, leads_from, led_from}
use Rattle.import_profile.specs.ImportedPaths.{settled_leads, leads_of_read, leads_of_text, imported_paths}
use Rattle.import_profile.specs.OneWay.{is_read_one_way}
use Rattle.import_profile.specs.Settled.{path_text, is_settled_text, is_settled}
use Rattle.import_profile.proofs.GroupLaws.{same_leads}
use Rattle.import_profile.proofs.MadeItems.{ItemsOf, items_made}
use Rattle.import_profile.proofs.Reread.{text_again, IsRead, as_read}

-- ---- each path passes the tests

abbrev Paths : Type 0
Paths = List (List Token)

-- of paths that pass a test or are none
if_passed : (test : List Token → Bool) (b : Bool) (paths : Paths) → (b ≡ true → list_all test paths ≡ true) →
    list_all test (if b then paths else []) ≡ true
if_passed test true paths h = h refl
if_passed test false paths h = refl

led_pass : (path : List Token) → list_all is_path (led_from path) ≡ true
led_pass path = if_passed is_path (list_all is_path (leads_from path)) (leads_from path) (λ h. h)

of_text : (test : List Token → Bool) → ((path : List Token) → list_all test (settled_leads path) ≡ true) → (text : List ℕ) →
    list_all test (imported_paths text) ≡ true
of_text test h text =
    let P : Option (List Token) → Type 0 = λ o. list_all test (leads_of_read o) ≡ true in
    let read : P (text_tokens (one_slash text)) = elim (text_tokens (one_slash text)) as P [ None ↦ refl | Some path ↦ h path ] in
    if_passed test (is_read_one_way (one_slash text)) (leads_of_read (text_tokens (one_slash text))) (λ e. read)

all_readable : (path : List Token) → list_all is_path (settled_leads path) ≡ true
all_readable path = if_passed is_path (groups_choose path && list_all is_settled (led_from path)) (led_from path) (λ e. led_pass path)

all_settled : (path : List Token) → list_all is_settled (settled_leads path) ≡ true
all_settled path =
    if_passed is_settled (groups_choose path && list_all is_settled (led_from path)) (led_from path)
    (λ e. (and_parts (groups_choose path) (list_all is_settled (led_from path)) e).1)

pub imported_readable : (text : List ℕ) → list_all is_path (imported_paths text) ≡ true
imported_readable = of_text is_path all_readable

pub imported_settled : (text : List ℕ) → list_all is_settled (imported_paths text) ≡ true
imported_settled = of_text is_settled all_settled

-- ---- the names

abbrev TakesTheSame : List Token → Paths → List ℕ → Type 0
TakesTheSame path paths name = Takes (pattern_of path) name ↔ Takes (alt_all (map pattern_of paths)) name

by_items : (path : List Token) (name : List ℕ) → ItemsOf path → led_from path ≢ [] → TakesTheSame path (led_from path) name
by_items path name made some =
    let same : led_from path ≡ led made.items = ap led_from (sym made.tokens) ∙ same_leads made.items made.full in
    let pattern : meaning_of made.items ≡ pattern_of path = same_pattern made.items made.full ∙ ap pattern_of made.tokens in
    let more : led made.items ≢ [] = λ e. some (same ∙ e) in
    subst (λ g. Takes g name ↔ Takes (alt_all (map pattern_of (led_from path))) name) pattern
    (subst (λ paths. Takes (meaning_of made.items) name ↔ Takes (alt_all (map pattern_of paths)) name) (sym same)
    (led_same made.items made.full more name))

only_if : (path : List Token) (name : List ℕ) (b : Bool) (paths : Paths) → (paths ≢ [] → TakesTheSame path paths name) →
    (if b then paths else []) ≢ [] →
    TakesTheSame path (if b then paths else []) name
only_if path name true paths h some = h some
only_if path name false paths h some = absurd (some refl)

settled_same : (path : List Token) (name : List ℕ) → IsRead path → settled_leads path ≢ [] → TakesTheSame path (settled_leads path) name
settled_same path name read some =
    only_if path name (groups_choose path && list_all is_settled (led_from path)) (led_from path)
    (by_items path name (items_made path read.few read.stands)) some

-- A name is matched by one of the paths exactly if the text's own pattern matches it.
pub imported_same : (text name : List ℕ) (path : List Token) → text_tokens (one_slash text) ≡ Some path → imported_paths text ≢ [] →
    TakesTheSame path (imported_paths text) name
imported_same text name path e some =
    let read : leads_of_read (text_tokens (one_slash text)) ≡ settled_leads path = ap leads_of_read e in
    only_if path name (is_read_one_way (one_slash text)) (leads_of_read (text_tokens (one_slash text)))
    (subst (λ paths. paths ≢ [] → TakesTheSame path paths name) (sym read) (settled_same path name (as_read (one_slash text) path e))) some

-- ---- paths imported as they are

if_true : (b : Bool) (paths : Paths) → b ≡ true → (if b then paths else []) ≡ paths
if_true true paths h = refl
if_true false paths h = absurd cc

own_lead : (path : List Token) → begins_with_slash path ≡ true → leads_from path ≡ path ∷ []
own_lead [] h = absurd cc
own_lead (byte b ∷ path) h = if_true (begins_with_slash (byte b ∷ path)) ((byte b ∷ path) ∷ []) h
own_lead (any_byte ∷ path) h = absurd cc
own_lead (bracket negated ranges ∷ path) h = absurd cc
own_lead (stars crosses strict ∷ path) h = absurd cc
own_lead (opening ∷ path) h = absurd cc
own_lead (between ∷ path) h = absurd cc
own_lead (closing ∷ path) h = absurd cc

own_led : (path : List Token) → is_path path ≡ true → led_from path ≡ path ∷ []
own_led path h =
    let one : list_all is_path (path ∷ []) ≡ true = and_from (is_path path) true h refl in
    ap (λ paths. if list_all is_path paths then paths else []) (own_lead path (path_parts path h).0)
    ∙ if_true (list_all is_path (path ∷ [])) (path ∷ []) one

own_settled : (path : List Token) → is_path path ≡ true → is_settled path ≡ true → groups_choose path ≡ true →
    settled_leads path ≡ path ∷ []
own_settled path h settled choose =
    let one : list_all is_settled (path ∷ []) ≡ true = and_from (is_settled path) true settled refl in
    ap (λ paths. if groups_choose path && list_all is_settled paths then paths else []) (own_led path h)
    ∙ if_true (groups_choose path && list_all is_settled (path ∷ [])) (path ∷ [])
    (and_from (groups_choose path) (list_all is_settled (path ∷ [])) choose one)

-- A settled path is imported as it is.
pub imported_as_it_is : (path : List Token) → is_path path ≡ true → is_settled path ≡ true → imported_paths (path_text path) ≡ path ∷ []
imported_as_it_is path h settled =
    let text = path_text path in
    let p = and_parts (groups_choose path) (is_settled_text text) settled in
    let q = and_parts (bytes_eq (one_slash text) text) _ p.1 in
    let one : one_slash text ≡ text = (bytes_eq-Decides (one_slash text) text).0 q.0 in
    let way = and_parts (is_read_one_way text) _ q.1 in
    ap leads_of_text one ∙ if_true (is_read_one_way text) (leads_of_read (text_tokens text)) way.0
    ∙ ap leads_of_read (text_again path h) ∙ own_settled path h settled p.0
