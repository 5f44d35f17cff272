-- What is known of a folder, the input, the output and the report at one moment.
use Rattle.std.specs.Prelude.{ℕ, ◌≤◌}
use Rattle.gp_host.specs.Source.{SourceAt}
use Rattle.gp_host.specs.Sink.{SinkAt}
use Rattle.gp_folder.specs.Folder.{FolderAt}
use Rattle.gp_app.specs.Moment.{Moment, moment, Later, IsSteady, NoneRose}

pub record WideMoment : Type 0 where
  pub folder : FolderAt
  pub streams : Moment

abbrev pub wide_moment : FolderAt → SourceAt → SinkAt → SinkAt → WideMoment
wide_moment folder input output report = record { folder = folder; streams = moment input output report }

-- no count of faults falls
pub record WideLater (before after : WideMoment) : Type 0 where
  pub folder : before.folder.faults ≤ after.folder.faults
  pub streams : Later before.streams after.streams

-- no count of faults has risen
pub record NoneRoseWidely (before after : WideMoment) : Type 0 where
  pub folder : IsSteady before.folder.faults after.folder.faults
  pub streams : NoneRose before.streams after.streams
