-- The name of a file that a `uri` spells (glTF 2.0, section 3.6.1.1; RFC 3986, section 2.1).
use Rattle.std.specs.Prelude.{ℕ, Bool, not, ◌&&◌, ◌==◌, nat_eq, nat_lt, if◌then◌else◌, List, [], ◌∷◌, length, codes, Some, None}
use Rattle.std.specs.declared.option.Option.{Option}
use Rattle.std.specs.List.{list_all, list_any, starts_with, slice_split}
use Rattle.std.specs.Str.{bytes_eq}
use Rattle.percent_encoding.specs.Percent.{percent_decode}

-- `/`
abbrev pub is_slash : ℕ → Bool
is_slash byte = byte == 47

-- printable ASCII without `:` and `\`, which are 58 and 92
abbrev pub is_name_byte : ℕ → Bool
is_name_byte byte = nat_lt 31 byte && nat_lt byte 127 && not (byte == 58) && not (byte == 92)

-- a piece between slashes that leads out of a folder
abbrev pub leads_out : List ℕ → Bool
leads_out piece = bytes_eq piece (codes "..")

-- the name is there, has no bytes but these, doesn't begin at the root, and leads out of no folder
abbrev pub is_safe : List ℕ → Bool
is_safe name = not (length name == 0) && list_all is_name_byte name && not (starts_with nat_eq name (codes "/")) && not (list_any leads_out (slice_split is_slash name))

abbrev pub if_safe : List ℕ → Option (List ℕ)
if_safe name = if is_safe name then Some name else None

-- the name that a URI spells which is no data URI, each escape decoded once; none where it isn't safe
unfoldable pub name_of : List ℕ → Option (List ℕ)
name_of uri = if starts_with nat_eq uri (codes "data:") then None else if_safe (percent_decode uri)

-- a name up to and with its last slash
unfoldable pub front_of : List ℕ → List ℕ
front_of [] = []
front_of (byte ∷ name) = if list_any is_slash (byte ∷ name) then byte ∷ front_of name else []
