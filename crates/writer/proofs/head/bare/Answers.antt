-- `bare` meets its contract, by the laws of proofs/Bodies. Assumes nothing.
use Rattle.names.specs.Names.{commands, name_at}
use Rattle.writer.proofs.Bodies.{bares}
use Rattle.writer.proofs.head.bare.Goals as goal

pub returns-in-8 : goal.returns-in-8
unfolding commands name_at
returns-in-8 c = search bares

pub returns-in-9 : goal.returns-in-9
unfolding commands name_at
returns-in-9 c = search bares

pub returns-in-10 : goal.returns-in-10
unfolding commands name_at
returns-in-10 c = search bares

pub returns-in-11 : goal.returns-in-11
unfolding commands name_at
returns-in-11 c = search bares

pub returns-in-12 : goal.returns-in-12
unfolding commands name_at
returns-in-12 c = search bares

pub returns-in-13 : goal.returns-in-13
unfolding commands name_at
returns-in-13 c = search bares

pub returns-in-14 : goal.returns-in-14
unfolding commands name_at
returns-in-14 c = search bares

pub returns-in-15 : goal.returns-in-15
unfolding commands name_at
returns-in-15 c = search bares

pub returns-in-16 : goal.returns-in-16
unfolding commands name_at
returns-in-16 c = search bares

pub returns-in-17 : goal.returns-in-17
unfolding commands name_at
returns-in-17 c = search bares

pub returns-in-18 : goal.returns-in-18
unfolding commands name_at
returns-in-18 c = search bares

pub returns-in-19 : goal.returns-in-19
unfolding commands name_at
returns-in-19 c = search bares

pub returns-in-20 : goal.returns-in-20
unfolding commands name_at
returns-in-20 c = search bares

pub returns-in-22 : goal.returns-in-22
unfolding commands name_at
returns-in-22 c = search bares

pub returns-in_default : goal.returns-in_default
unfolding commands name_at
returns-in_default c = search bares
