-- The files before `at` were taken.
use Rattle.std.proofs.Common.{map, option_map, string_bytes}
use Rattle.gp_pair.proofs.Takes.{SoFar}
use Rattle.gp_pair.proofs.taking.take_files.Given as goal

abbrev pub invariant-files : goal.invariant-files
invariant-files g l = SoFar (g.F.Folder.state l.initial.folder) (g.F.Folder.state l.folder) (map (λ o. option_map string_bytes o) l.names) l.contents.items l.limit l.count l.at
