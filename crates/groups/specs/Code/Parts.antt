-- A number as it is written part by part: each group is one.
use Rattle.std.specs.Prelude.{ℕ, List, [], ◌∷◌, map}
use Rattle.groups.specs.Groups.{groups_of}

abbrev pub group_parts : ℕ → ℕ → List (List ℕ)
group_parts most n = map (λ b. b ∷ []) (groups_of most n)
