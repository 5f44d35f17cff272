-- The source and the sinks of a run in memory, for contracts within the crate.
use Rattle.std.specs.Prelude.{ℕ, List, codes, None, Some}
use Rattle.gp_host.specs.Sink.{SinkAt}
use Rattle.gp_host.specs.Source.{SourceAt}
use Rattle.gp_app.specs.declared.commands.Command.{Command}
use Rattle.gp_app.specs.declared.commands.Command.TheVariants.{Pack, Unpack, Analyse}
use Rattle.gp_library_c.specs.declared.source.Given.{Given}
use Rattle.gp_library_c.specs.declared.sink.Kept.{Kept}
use Rattle.gp_library_c.specs.declared.running.Task.{Task}
use Rattle.gp_library_c.specs.declared.running.Task.TheVariants as task

-- it never fails
abbrev pub given_at : Given → SourceAt
given_at source = record { left = Some source.left.now; faults = 0; calls = 0 }

abbrev pub kept_at : Kept → SinkAt
kept_at sink = record { held = Some sink.bytes.items; settled = None; faults = sink.faults }

abbrev pub word_of : Task → List ℕ
word_of task.Pack = codes "pack"
word_of task.Unpack = codes "unpack"
word_of task.Analyse = codes "analyse"

abbrev pub command_of : Task → Command
command_of task.Pack = Pack
command_of task.Unpack = Unpack
command_of task.Analyse = Analyse
