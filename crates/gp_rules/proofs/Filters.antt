-- What NONE, the filter of an extension object that names none, is found to be.
use Rattle.std.proofs.Common.{◌≡◌, ℕ, true, false, not, List, codes, refl}
use Rattle.std.specs.Str.{chars}
use Rattle.gp_tree.specs.Find.{is_named}
use Rattle.gp_rules.specs.Views.{is_filter}

pub none_is_none : (filter : List ℕ) → filter ≡ codes "NONE" → false ≡ not (is_named (codes "NONE") filter)
unfolding chars
none_is_none filter none = rw none refl

pub none_is_filter : (filter : List ℕ) → filter ≡ codes "NONE" → true ≡ is_filter filter
unfolding chars
none_is_filter filter none = rw none refl
