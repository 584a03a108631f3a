-- `code` meets its contract, by the laws of proofs/. Assumes nothing.
use mir.ValLaws.{to_z-of_z}
use mir.Syntax.{w32}
use Rattle.layout.proofs.taken.code.Goals as goal

pub returns : goal.returns
returns c = cc (to_z-of_z w32 c.signed32_of.result (record { sfits = c.signed32_of.type_inv }))
