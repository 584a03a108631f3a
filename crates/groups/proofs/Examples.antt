-- Worked examples, by computation: document 02's 300, the least number and the greatest, and what is refused. Assumes nothing.
use mathlib.Core.{Path.◌≡◌, Path.refl, List.[], List.◌∷◌}
use Prim.Native.Nat.{◌-◌, ◌^◌}
use Rattle.std.specs.Prelude.{Ok, Err}
use Rattle.refusal.specs.declared.Refusal.{TheVariants.NotShortest, TheVariants.InputEnds}
use Rattle.groups.specs.Groups.{groups_of, number_bytes, last_group, tenth_group, behind, groups_at, number_at}

-- document 02: "300 is AC 02"
pub written_300 : number_bytes 300 ≡ 0xAC ∷ 0x02 ∷ []
unfolding groups_of
written_300 = refl

pub written_0 : number_bytes 0 ≡ 0 ∷ []
unfolding groups_of
written_0 = refl

pub written_most : number_bytes (2 ^ 64 - 1) ≡ 0xFF ∷ 0xFF ∷ 0xFF ∷ 0xFF ∷ 0xFF ∷ 0xFF ∷ 0xFF ∷ 0xFF ∷ 0xFF ∷ 0x01 ∷ []
unfolding groups_of
written_most = refl

pub read_300 : number_at (0xAC ∷ 0x02 ∷ []) 0 ≡ Ok (last_group 300 2)
unfolding groups_at behind
read_300 = refl

pub read_most : number_at (0xFF ∷ 0xFF ∷ 0xFF ∷ 0xFF ∷ 0xFF ∷ 0xFF ∷ 0xFF ∷ 0xFF ∷ 0xFF ∷ 0x01 ∷ []) 0 ≡ Ok (last_group (2 ^ 64 - 1) 10)
unfolding groups_at behind tenth_group
read_most = refl

-- 0 in two bytes, and a number that is not below 2 ^ 64
pub longer_refused : number_at (0x80 ∷ 0x00 ∷ []) 0 ≡ Err NotShortest
unfolding groups_at behind
longer_refused = refl

pub over_refused : number_at (0xFF ∷ 0xFF ∷ 0xFF ∷ 0xFF ∷ 0xFF ∷ 0xFF ∷ 0xFF ∷ 0xFF ∷ 0xFF ∷ 0x02 ∷ []) 0 ≡ Err NotShortest
unfolding groups_at behind tenth_group
over_refused = refl

-- a number that is cut, and no byte
pub cut_refused : number_at (0x80 ∷ []) 0 ≡ Err InputEnds
unfolding groups_at behind
cut_refused = refl

pub none_refused : number_at [] 0 ≡ Err InputEnds
unfolding groups_at
none_refused = refl
