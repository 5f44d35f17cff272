-- The files of the buffers before `at` are there.
use Rattle.std.proofs.Common.{map, option_map, string_bytes}
use Rattle.gp_tree.specs.Plain.{plain}
use Rattle.gp_pair.proofs.Externals.{AreFirst}
use Rattle.gp_pair.proofs.external.files_of.Given as goal

abbrev pub invariant-buffers : goal.invariant-buffers
invariant-buffers l = AreFirst l.front (plain l.buffers) (map (λ o. option_map string_bytes o) l.files.items) l.at
