-- The tests of a path's tokens, in one pass from left to right: what is still required after each place.
use Rattle.std.specs.Prelude.{ℕ, suc, ◌-◌, List, [], ◌∷◌, length, option_and_then, Option, Some, None, Bool, true, false, not, ◌&&◌, ◌||◌}
use Rattle.std.specs.Prelude.{◌==◌, nat_lt, if◌then◌else◌}
use Rattle.std.specs.List.{list_all}
use Rattle.rule_globs.specs.Glob.{is_slash}
use Rattle.rule_globs.specs.Tokens.{Token, byte, any_byte, bracket, stars, opening, between, closing}
use Rattle.rule_profile.specs.Limits.{most_nested, most_items}
use Rattle.rule_profile.specs.Readable.{can_stand, is_range}
use Rattle.rule_making.specs.declared.place.Place.{Place}
use Rattle.rule_making.specs.declared.place.Wanted.{Wanted}
use Rattle.rule_making.specs.declared.place.Wanted.TheVariants.{FirstSlash, Anything, NoRun, SlashOrEnd, Other}

-- a token that is no run may be where this is required
abbrev pub can_begin : Wanted → Bool → Bool
can_begin FirstSlash slash = slash
can_begin Anything slash = true
can_begin NoRun slash = true
can_begin SlashOrEnd slash = slash
can_begin Other slash = not slash

-- a run may
abbrev pub run_can_begin : Wanted → Bool
run_can_begin FirstSlash = false
run_can_begin Anything = true
run_can_begin NoRun = false
run_can_begin SlashOrEnd = false
run_can_begin Other = false

-- the path may end there
abbrev pub can_end : Wanted → Bool
can_end FirstSlash = false
can_end Anything = true
can_end NoRun = true
can_end SlashOrEnd = true
can_end Other = false

-- after a token that is no run
abbrev pub passed : Place → Bool → ℕ → Option Place
passed p slash depth =
    if p.room == 0 || not (can_begin p.wanted slash) then None
    else Some (record { wanted = Anything; after_slash = slash; depth = depth; room = p.room - 1 })

-- what a run requires after it: is it strict, and is a plain slash before it
abbrev pub behind_run : Bool → Bool → Wanted
behind_run true after_slash = SlashOrEnd
behind_run false true = Other
behind_run false false = NoRun

-- after one more token, if it is allowed there
abbrev pub step : Token → Place → Option Place
step (byte b) p = if can_stand b then passed p (is_slash b) p.depth else None
step any_byte p = passed p false p.depth
step (bracket negated ranges) p = if not (length ranges == 0) && list_all is_range ranges then passed p false p.depth else None
step (stars crosses_slashes strict) p =
    if p.room == 0 || not (run_can_begin p.wanted && (not strict || p.after_slash)) then None
    else Some (record { wanted = behind_run strict p.after_slash; after_slash = false; depth = p.depth; room = p.room - 1 })
step opening p = if nat_lt p.depth most_nested then passed p false (suc p.depth) else None
step between p = if nat_lt 0 p.depth then passed p false p.depth else None
step closing p = if nat_lt 0 p.depth then passed p false (p.depth - 1) else None

-- after these tokens
abbrev pub walk : List Token → Place → Option Place
walk [] p = Some p
walk (t ∷ tokens) p = option_and_then (walk tokens) (step t p)

-- the path may end at this place
abbrev pub is_end : Place → Bool
is_end p = p.depth == 0 && can_end p.wanted

-- before a path's first token
abbrev pub start : Place
start = record { wanted = FirstSlash; after_slash = false; depth = 0; room = most_items }
