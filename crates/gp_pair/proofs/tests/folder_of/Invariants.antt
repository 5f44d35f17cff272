use Rattle.gp_folder.specs.Files.{AreNamed}
use Rattle.gp_pair.proofs.tests.folder_of.Given as goal

abbrev pub invariant-files : goal.invariant-files
invariant-files l = AreNamed l.list
