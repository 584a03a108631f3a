-- The limits matter: changed forms of one ping, with 1,024 elements and with 1,025. The theorem speaks of the first; the second has lawful
-- bytes, no `Carries` holds of it, and it is refused, so it is not read like the ping. By computation. Assumes nothing.
use mathlib.Core.Path.{◌≡◌, refl, ap}
use mathlib.Core.List.{List, [], ◌∷◌, ◌++◌}
use Prim.Native.Nat.{ℕ, zero, suc, ◌/◌, ◌%◌, ◌≤◌}
use native.Mathlib.Omega.{arith}
use lib.ListN.{length, drop, replicate}
use Rattle.octets.specs.{Number.big_at, Size.is_size}
use Rattle.refusal.specs.declared.Refusal.TheVariants.{TooManyElements}
use Rattle.element.specs.{Lead.lead_bytes, Lead.row_in, Lead.head_of, Tree.Tree.array, Tree.Tree.map, Tree.Trees.none, Tree.Trees.some}
use Rattle.element.specs.Form.{broken, fault_of, body_of, span_of, times, element_of, walk_of}
use Rattle.element.specs.Tree.{Tree, Trees, Pairs, bytes_of, count_of, depth_of, part_count, pair_count, Lawful}
use Rattle.message.specs.Fields.{lists, list_in}
use Rattle.record.specs.Meant.{Answered, refusal_told, lent_size, Meant}
use Rattle.promises.specs.Steady.{Changed, Carries, Alike}
use Rattle.promises.proofs.Tested.{is_lawful, lawful, is_payload, says}
use Rattle.promises.proofs.Moves.{behind, put_in}
use Rattle.promises.proofs.Instances.{Instance, alike, answered, text, lone, P, ping, ping_said, ping_known, ping_1, added_read}

abbrev ones : ℕ → Trees
ones zero = none
ones (suc n) = some (lone 1) (ones n)

-- the array of n times 1
abbrev heap : ℕ → Tree
heap n = array 0xDC (n / 256 ∷ n % 256 ∷ []) (ones n)

-- P with the strange key `x` and that array: 7 elements and n
abbrev pub P-heaped : ℕ → List ℕ
P-heaped n = 0x83 ∷ drop 1 P ++ 0xA1 ∷ 0x78 ∷ 0xDC ∷ n / 256 ∷ n % 256 ∷ replicate n 1

abbrev pub ping_heaped : ℕ → Pairs
ping_heaped n = behind 2 (text "x") (heap n) ping

-- a changed form of ping, whatever n
pub heaped_change : (n : ℕ) → Changed 9 ping (ping_heaped n)
unfolding lists list_in
heaped_change n = Changed.rearranged (put_in 9 2 (text "x") (heap n) ping tt)

-- 1,024 elements: the theorem holds
pub full : Instance 9 P (P-heaped 1017) ping (ping_heaped 1017)
unfolding is_payload is_lawful head_of row_in lead_bytes bytes_of count_of depth_of part_count pair_count big_at
full = record {
  first = ping_said;
  second = says (P-heaped 1017) 0x83 [] (ping_heaped 1017) tt;
  known = ping_known;
  change = heaped_change 1017;
}

pub full_alike : (d : List ℕ) (r q : Answered) → Meant P d r → Meant (P-heaped 1017) d q → Alike r q
full_alike = alike 9 P (P-heaped 1017) ping (ping_heaped 1017) full

-- one more: a lawful tree, whose bytes these are
pub over_lawful : Lawful (map 0x83 [] (ping_heaped 1018))
unfolding is_lawful head_of row_in lead_bytes part_count pair_count big_at
over_lawful = lawful (map 0x83 [] (ping_heaped 1018)) tt

pub over_bytes : bytes_of (map 0x83 [] (ping_heaped 1018)) ≡ P-heaped 1018
unfolding bytes_of
over_bytes = refl

-- of 1,025 elements: no payload says it
pub over_unsaid : (s : List ℕ) → Carries s (ping_heaped 1018) → ⊥
unfolding count_of
over_unsaid s S = omega (arith, S.payload.count)

-- the walk breaks, with too many elements, where the last of them stands
pub over_refused : walk_of (P-heaped 1018) ≡ broken TooManyElements 1042
unfolding is_size walk_of element_of times span_of body_of fault_of head_of row_in lead_bytes big_at
over_refused = refl

-- so without the limits the theorem would be false
pub over_unlike : (d : List ℕ) → lent_size ≤ length d → (r q : Answered) → Meant P d r → Meant (P-heaped 1018) d q → Alike r q → ⊥
over_unlike d h r q M N A =
    let e : refusal_told r.told ≡ 0 = ap (λ (x : Answered). refusal_told x.told) (answered P ping ping_said ping_1 [] added_read.0 d h r M) in
    let f : refusal_told q.told ≡ 7 = ap (λ (x : Answered). refusal_told x.told) (N.broken h (record { refusal = TooManyElements; place = 1042 }) over_refused) in
    omega (arith, A.refusal)
