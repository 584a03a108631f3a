-- `put_status_rsp` meets its contract, by the laws of proofs/. Assumes nothing.
use Rattle.layout.specs.Image.{laid, status_rsp_lies}
use mir.ValLaws.{to_z-of_z}
use mir.Syntax.{w32}
use borrow.Author.Rules.{rules}
use Rattle.layout.proofs.put.put_status_rsp.Goals as goal

pub returns : goal.returns
unfolding laid status_rsp_lies
returns c = cc (to_z-of_z w32 c.args.x.code (search (c.struct_told-1.given, rules)))
