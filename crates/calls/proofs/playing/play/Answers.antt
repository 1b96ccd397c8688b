use Rattle.std.proofs.Common.{refl}
use Rattle.calls.proofs.Editing.{edit_played}
use Rattle.calls.proofs.playing.play.Goals as goal

pub returns-in-Divide : goal.returns-in-Divide
returns-in-Divide g c = rw (c.in-Divide.is, ← c.as_slice-in-Divide.ensures) (edit_played c.divide.ensures.edited c.done-in-Divide.ensures refl)

pub returns-in-Dissolve : goal.returns-in-Dissolve
returns-in-Dissolve g c = rw c.in-Dissolve.is (edit_played c.dissolve.ensures.edited c.done-in-Dissolve.ensures refl)

pub returns-in-Join : goal.returns-in-Join
returns-in-Join g c = rw c.in-Join.is (edit_played c.join.ensures.edited c.done-in-Join.ensures refl)
