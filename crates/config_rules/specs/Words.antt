-- The words of a directive, and what stands in them.
use Rattle.std.specs.Prelude.{ℕ, ◌+◌, Bool, ◌==◌, nat_eq, List, [], ◌∷◌, Option, None, Some, length, take, drop, codes, is_some, unwrap_or, not, if◌then◌else◌}
use Rattle.std.specs.Option.{option_map, option_and_then}
use Rattle.std.specs.List.{list_any, find, position, prefix_len, starts_with}
use Rattle.std.specs.Str.{str_eq_ignore_ascii_case}
use Rattle.zone_key.specs.Expr.{is_same}
use Rattle.directive_text.specs.declared.tree.Directive.{Directive}
use Rattle.directive_text.specs.declared.tree.Directive.TheViews.{out-Directive}

-- the first word, or an empty one where there is none
abbrev pub first_of : List (List ℕ) → List ℕ
first_of [] = []
first_of (w ∷ ws) = w

-- the words behind the first
abbrev pub behind_first : List (List ℕ) → List (List ℕ)
behind_first [] = []
behind_first (w ∷ ws) = ws

-- a directive's name: its first word
abbrev pub name_of : Directive → List ℕ
name_of d = first_of (out-Directive d).words

-- a directive's arguments: the words behind its name
abbrev pub arguments_of : Directive → List (List ℕ)
arguments_of d = behind_first (out-Directive d).words

-- the line of a directive
abbrev pub line_of : Directive → ℕ
line_of d = (out-Directive d).line

-- whether a directive has a block
abbrev pub has_block : Directive → Bool
has_block d = is_some (out-Directive d).block

-- the directives of its block
abbrev pub inner_of : Directive → List Directive
inner_of d = unwrap_or (out-Directive d).block []

-- whether a directive has this name
abbrev pub is_called : List ℕ → Directive → Bool
is_called name d = is_same (name_of d) name

-- whether a block has a directive of this name
abbrev pub has_called : List ℕ → List Directive → Bool
has_called name ds = list_any (is_called name) ds

-- what stands in a word behind this prefix, if it begins so
abbrev pub value_of : List ℕ → List ℕ → Option (List ℕ)
value_of prefix w = if starts_with nat_eq w prefix then Some (drop (length prefix) w) else None

-- the value of the first argument that begins with this prefix
abbrev pub parameter : List ℕ → List (List ℕ) → Option (List ℕ)
parameter prefix words = option_and_then (value_of prefix) (find (λ w. is_some (value_of prefix w)) words)

-- a zone as a directive declares it: its name and its size
pub record Declared : Type 0 where
  pub name : List ℕ
  pub size : List ℕ

-- NAME:SIZE, cut at the first colon
abbrev pub cut : List ℕ → Option Declared
cut w = option_map (λ i. record { name = take i w; size = drop (i + 1) w }) (position (λ b. b == 58) w)

-- `zone=NAME:SIZE`
abbrev pub declared_in : List ℕ → Option Declared
declared_in w = option_and_then cut (value_of (codes "zone=") w)

-- the first argument that is `zone=NAME:SIZE`
abbrev pub declared_by : List (List ℕ) → Option Declared
declared_by words = option_and_then declared_in (find (λ w. is_some (declared_in w)) words)

-- a parameter's name: a word up to its first `=`
abbrev pub is_name_byte : ℕ → Bool
is_name_byte b = not (b == 61)

-- the name of a parameter: what stands before its first `=`
abbrev pub parameter_name : List ℕ → List ℕ
parameter_name w = take (prefix_len is_name_byte w) w

-- whether two names differ at most in the case of ASCII letters
abbrev pub is_same_name : List ℕ → List ℕ → Bool
is_same_name = str_eq_ignore_ascii_case

-- what stands behind the first `://`
abbrev pub behind_scheme : List ℕ → Option (List ℕ)
behind_scheme [] = None
behind_scheme (b ∷ bs) = if starts_with nat_eq (b ∷ bs) (codes "://") then Some (drop 3 (b ∷ bs)) else behind_scheme bs

-- the host of a URL: what stands behind its first `://`, up to the next `/`
abbrev pub is_host_byte : ℕ → Bool
is_host_byte b = not (b == 47)

-- what stands before the first `/`
abbrev pub up_to_slash : List ℕ → List ℕ
up_to_slash w = take (prefix_len is_host_byte w) w

-- the host that an address names, where the address has a scheme
abbrev pub host_of : List ℕ → Option (List ℕ)
host_of w = option_map up_to_slash (behind_scheme w)
