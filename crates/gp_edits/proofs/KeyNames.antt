-- The names of members that the edits speak of.
use Rattle.std.specs.Prelude.{codes}
use Rattle.std.specs.Str.{chars}
use Rattle.std.proofs.Common.{ℕ, List, refl}
use Rattle.gp_edits.specs.Edits.{extension_name}
use Rattle.gp_edits.proofs.Members.{IsOwn}

abbrev pub extensions_key : List ℕ
extensions_key = codes "extensions"

abbrev pub used_key : List ℕ
used_key = codes "extensionsUsed"

abbrev pub required_key : List ℕ
required_key = codes "extensionsRequired"

abbrev pub buffers_key : List ℕ
buffers_key = codes "buffers"

abbrev pub views_key : List ℕ
views_key = codes "bufferViews"

abbrev pub buffer_key : List ℕ
buffer_key = codes "buffer"

abbrev pub offset_key : List ℕ
offset_key = codes "byteOffset"

abbrev pub length_key : List ℕ
length_key = codes "byteLength"

-- each stands for itself where it is set
pub buffers_is_own : IsOwn buffers_key
unfolding chars
buffers_is_own = refl

pub buffer_is_own : IsOwn buffer_key
unfolding chars
buffer_is_own = refl

pub offset_is_own : IsOwn offset_key
unfolding chars
offset_is_own = refl

pub length_is_own : IsOwn length_key
unfolding chars
length_is_own = refl

pub extensions_is_own : IsOwn extensions_key
unfolding chars
extensions_is_own = refl

pub used_is_own : IsOwn used_key
unfolding chars
used_is_own = refl

pub required_is_own : IsOwn required_key
unfolding chars
required_is_own = refl

pub name_is_own : IsOwn extension_name
unfolding chars
name_is_own = refl
