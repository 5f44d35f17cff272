use Rattle.gp_packed.proofs.FieldsKnown.{parts_stand}
use Rattle.gp_packed.proofs.meshes_back.parts_stand_for_fields.Goals as goal

pub returns : goal.returns
returns c = parts_stand
