-- `status_rsp_in` meets its contract, by the laws of proofs/. Assumes nothing.
use Rattle.layout.specs.Taken.{status_rsp_at}
use mir.ValLaws.{to_z-of_z}
use mir.Syntax.{w32}
use Rattle.layout.proofs.taken.status_rsp_in.Goals as goal

pub returns : goal.returns
unfolding status_rsp_at
returns c = cc (to_z-of_z w32 c.code.result (record { sfits = c.code.type_inv }))
