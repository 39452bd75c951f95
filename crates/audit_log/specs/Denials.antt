-- Which denial of a file a line of a log reports.
use Rattle.std.specs.Prelude.{ℕ, Bool, false, not, ◌==◌, ◌||◌, List, ◌++◌, length, bytes_eq, codes}
use Rattle.std.specs.Prelude.{Option, Some, None, if◌then◌else◌, option_map}
use Rattle.std.specs.List.{list_all, list_any}
use Rattle.audit_log.specs.Fields.{given_text, text_of, word_of}
use Rattle.audit_log.specs.declared.denial.Denial.{Denial}

pub record DenialValue : Type 0 where
  -- the full name of the profile
  pub profile : List ℕ
  -- the name of the file
  pub name : List ℕ
  -- what was denied
  pub mask : List ℕ
  -- the subject is known to own the file
  pub by_owner : Bool
  -- why the kernel refused it, if not by the rules alone
  pub info : Option (List ℕ)

abbrev pub denial_value : Denial → DenialValue
denial_value d = record {
  profile = d.profile.items;
  name = d.name.items;
  mask = d.mask.items;
  by_owner = d.by_owner;
  info = option_map (λ text. text.items) d.info;
}

-- `apparmor="DENIED"`; `"KILLED"` of a profile whose processes are killed for it, `"ALLOWED"` of one in complain mode
-- (security/apparmor/audit.c, aa_audit_type)
abbrev pub is_denial : List ℕ → Bool
is_denial line = elim (word_of (codes "apparmor=") line) [
  | None ↦ false
  | Some kind ↦ bytes_eq kind (codes "DENIED") || bytes_eq kind (codes "KILLED") || bytes_eq kind (codes "ALLOWED")
]

-- the letters of what is denied of files (security/apparmor/file.c, map_mask_to_chr_mask)
abbrev pub is_mask_letter : ℕ → Bool
is_mask_letter b = list_any (λ letter. letter == b) (codes "rwalkmcdx")

abbrev pub is_file_mask : List ℕ → Bool
is_file_mask mask = if length mask == 0 then false else list_all is_mask_letter mask

-- what was denied, or else what was requested
abbrev pub denied_mask : List ℕ → Option (List ℕ)
denied_mask line = elim (word_of (codes "denied_mask=") line) [
  | Some mask ↦ Some mask
  | None ↦ word_of (codes "requested_mask=") line
]

-- the subject's user and the file's are the same
abbrev pub is_by_owner : List ℕ → Bool
is_by_owner line = elim (word_of (codes "fsuid=") line) [
  | None ↦ false
  | Some subject ↦ elim (word_of (codes "ouid=") line) [ None ↦ false | Some owner ↦ bytes_eq subject owner ]
]

-- the full name of a profile: `:NAMESPACE://PROFILE` outside of the root namespace (apparmor(7)), where alone the kernel writes
-- the namespace (security/apparmor/audit.c, audit_pre)
abbrev pub full_name : Option (List ℕ) → List ℕ → List ℕ
full_name None profile = profile
full_name (Some namespace) profile = codes ":" ++ (namespace ++ (codes "://" ++ profile))

abbrev pub profile_of : List ℕ → Option (List ℕ)
profile_of line = elim (text_of (codes "profile=") line) [
  | None ↦ None
  | Some profile ↦ option_map (λ namespace. full_name namespace profile) (given_text (codes "namespace=") line)
]

-- what the line reports, given what was denied
abbrev pub denial_of : List ℕ → List ℕ → Option DenialValue
denial_of mask line = elim (profile_of line) [
  | None ↦ None
  | Some profile ↦ elim (text_of (codes "name=") line) [
    | None ↦ None
    | Some name ↦ option_map (λ info. record { profile = profile; name = name; mask = mask; by_owner = is_by_owner line; info = info })
        (given_text (codes "info=") line)
  ]
]

-- the denial of a file that a line reports; none if it reports something else
abbrev pub denial : List ℕ → Option DenialValue
denial line = if not (is_denial line) then None else elim (denied_mask line) [
  | None ↦ None
  | Some mask ↦ if is_file_mask mask then denial_of mask line else None
]
