-- `con_in` meets its contract, by the laws of proofs/. Assumes nothing.
use mir.ValLaws.{to_z-of_z}
use mir.Syntax.{w64}
use Rattle.layout.specs.Taken.{con_at}
use Rattle.layout.proofs.taken.con_in.Goals as goal

pub returns : goal.returns
unfolding con_at
returns c = cc (to_z-of_z w64 c.id-2.result (record { sfits = c.id-2.type_inv }), to_z-of_z w64 c.id.result (record { sfits = c.id.type_inv }))
