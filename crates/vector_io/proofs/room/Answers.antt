use mathlib.Core.Path.{refl}
use Rattle.vector_io.proofs.room.Goals as goal

pub returns : goal.returns
returns c = (refl, refl)
