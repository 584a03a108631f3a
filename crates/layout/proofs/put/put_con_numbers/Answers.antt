-- `put_con_numbers` meets its contract, by the laws of proofs/. Assumes nothing.
use mir.ValLaws.{to_z-of_z}
use mir.Syntax.{w64}
use Rattle.layout.specs.Image.{laid, con_lies}
use borrow.Author.Rules.{rules}
use Rattle.layout.proofs.put.put_con_numbers.Goals as goal

pub returns : goal.returns
unfolding laid con_lies
returns c = let x = c.args.x in cc (to_z-of_z w64 x.sn_bs_op_id.value (search (c.struct_told-1.given, rules)), to_z-of_z w64 x.sn_sc_op_id.value (search (c.struct_told-2-1.given, rules)))
