-- A path whose items begin with a group, brought to paths that begin with a slash and match the same names (our choice:
-- AppArmor reads such a path as it is, and the grammar of profile texts requires a slash first).
use Rattle.std.specs.Prelude.{List, [], ◌∷◌, ◌++◌, Bool, false, not, ◌&&◌, if◌then◌else◌, length, map, drop, nat_le}
use Rattle.std.specs.List.{list_all}
use Rattle.names.specs.Ascii as ascii
use Rattle.rule_globs.specs.declared.items.Item.{Item, out-Item}
use Rattle.rule_globs.specs.declared.items.Item.TheOpen.{Item-F}
use Rattle.rule_globs.specs.Tokens.{Token, byte, opening, closing, with_commas, tokens_of}
use Rattle.rule_profile.specs.PathTokens.{is_plain_slash}
use Rattle.rule_profile.specs.Readable.{is_run, begins_with_run, begins_with_slash, is_path}

-- the last token is of this kind
abbrev pub ends_with : (Token → Bool) → List Token → Bool
ends_with kind [] = false
ends_with kind (t ∷ []) = kind t
ends_with kind (t ∷ u ∷ tokens) = ends_with kind (u ∷ tokens)

-- A slash is first, with no run of stars directly after it: the slash can go before the group.
abbrev pub gives_slash : List Token → Bool
gives_slash [] = false
gives_slash (t ∷ tokens) = is_plain_slash t && not (begins_with_run tokens)

-- the slash before the group, out of each alternative
abbrev pub slash_before : List (List Token) → List Token → List Token
slash_before alternatives follow = byte ascii.slash ∷ opening ∷ (with_commas (map (drop 1) alternatives) ++ (closing ∷ follow))

-- An alternative makes a path with what follows the group: one that begins with a slash, and there is neither a run of
-- stars at the seam nor a slash on each side of it.
abbrev pub stands_alone : List Token → List Token → Bool
stands_alone follow alternative =
    begins_with_slash (alternative ++ follow)
    && (not (ends_with is_run alternative) && (not (begins_with_run follow)
    && not (ends_with is_plain_slash alternative && begins_with_slash follow)))

-- Each alternative makes such a path. There are not many of them, since what follows the group is copied for each.
abbrev pub can_be_split : List (List Token) → List Token → Bool
can_be_split alternatives follow = nat_le (length alternatives) 16 && list_all (stands_alone follow) alternatives

-- The paths of a group and what follows it: one, or else one for each alternative, or none.
abbrev pub group_leads : List (List Token) → List Token → List (List Token)
group_leads alternatives follow =
    if list_all gives_slash alternatives then slash_before alternatives follow ∷ []
    else if can_be_split alternatives follow then map (λ alternative. alternative ++ follow) alternatives
    else []

-- a path that begins with a slash is left as it is
abbrev pub slash_leads : List Token → List (List Token)
slash_leads tokens = if begins_with_slash tokens then tokens ∷ [] else []

-- The first item and what follows it.
abbrev pub front_leads : Item-F Item → List Token → List Token → List (List Token)
front_leads (Item-F.Group alternatives) tokens follow = group_leads (map (λ items. tokens_of items.items) alternatives.items) follow
front_leads (Item-F.Byte b) tokens follow = slash_leads tokens
front_leads Item-F.AnyByte tokens follow = slash_leads tokens
front_leads (Item-F.Class c) tokens follow = slash_leads tokens
front_leads (Item-F.Stars s) tokens follow = slash_leads tokens

abbrev pub leads : List Item → List (List Token)
leads [] = []
leads (item ∷ items) = front_leads (out-Item item) (tokens_of (item ∷ items)) (tokens_of items)

-- these paths, if each can be read
abbrev pub led : List Item → List (List Token)
led items = if list_all is_path (leads items) then leads items else []
