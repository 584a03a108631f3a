-- What is printed of a whole input is what the turns print with all of it at hand. So every input has one text and no second, and however it is cut
-- into pieces, the turns come to an end and print that text. Assumes nothing.
use mathlib.Core.Path.{◌≡◌, refl, sym}
use mathlib.Core.Bool.{true, false, and-false}
use mathlib.Core.List.{List, [], ◌++◌}
use Prim.Native.Nat.{ℕ, suc}
use lib.{Dec.eqb, ListN.drop}
use Rattle.octets.proofs.Ranges.{true_false}
use Rattle.frame.specs.Frame.{framed_of, frame_refusal}
use Rattle.turns.{specs.Turns.Turn, specs.Turns.Runs, specs.Turns.whole}
use Rattle.turns.proofs.Pieces as turns
use Rattle.lines.specs.{Prints.Prints, Runs.OneTurn}
use Rattle.lines.proofs.Running.{uses_some, Way, way_turn, turn_way, steady}

-- what the turns print is printed
ended_prints : (n : ℕ) (s : List ℕ) (t : Turn ℕ) → Way true n s t → t.ended ≡ true → Prints n s t.text
ended_prints n s t (Way.line l m g told e w) d = true_false (sym d)
ended_prints n s t (Way.end m) d = Prints.finished n
ended_prints n s t (Way.stop l m g k z c) d = Prints.stopped n s k z

passed_prints : (n : ℕ) (s out : List ℕ) (t : Turn ℕ) → Way true n s t → t.ended ≡ false → Prints t.state (drop t.used s) out → Prints n s (t.text ++ out)
passed_prints n s out t (Way.line l m g told e w) d p = Prints.framed n s out told e w p
passed_prints n s out t (Way.end m) d p = true_false d
passed_prints n s out t (Way.stop l m g k z c) d p = true_false d

whole_prints : (n m : ℕ) (s out : List ℕ) → Runs OneTurn true n s [] out m → Prints n s out
whole_prints n m s out (Runs.ends l x g qs t o d) = ended_prints n s t (turn_way true n s t o) d
whole_prints n m s out (Runs.passes l x y g qs rest t o d z r) =
    passed_prints n s rest t (turn_way true n s t o) d (whole_prints t.state m (drop t.used s) rest r)
whole_prints n m s out (Runs.closes l x y g rest t o d z r) = true_false (steady.waits true n s t o d z).0

-- and what is printed they print
prints_whole : (n : ℕ) (s out : List ℕ) → Prints n s out → (m : ℕ) × Runs OneTurn true n s [] out m
prints_whole n s out (Prints.finished k) = (n, Runs.ends true n [] [] _ (way_turn true n [] _ (Way.end n)) refl)
prints_whole n s out (Prints.framed k g rest t e w p) =
    let r = prints_whole (suc n) _ rest p in
    (r.0, Runs.passes true n r.0 s [] rest _ (way_turn true n s _ (Way.line true n s t e w)) refl (uses_some s e) r.1)
prints_whole n s out (Prints.stopped k g l e) = (n, Runs.ends true n s [] _ (way_turn true n s _ (Way.stop true n s l e (and-false (eqb (frame_refusal (framed_of s)) 1)))) refl)

pub prints_once : (n : ℕ) (s a b : List ℕ) → Prints n s a → Prints n s b → a ≡ b
prints_once n s a b p q =
    let r = prints_whole n s a p in
    let t = prints_whole n s b q in
    (turns.whole_once OneTurn steady n r.0 t.0 s a b r.1 t.1).0

pub prints_all : (n : ℕ) (s : List ℕ) → (out : List ℕ) × Prints n s out
prints_all n s = let r = turns.runs_last OneTurn steady n s in (r.0, whole_prints n r.1.0 s r.0 r.1.1)

-- from the start: no bytes at hand, the first frame's number is 0
pub pieces_print : (ps : List (List ℕ)) (out : List ℕ) (m : ℕ) → Runs OneTurn false 0 [] ps out m → Prints 0 (whole ps) out
pieces_print ps out m r = whole_prints 0 m (whole ps) out (turns.run_whole OneTurn steady false 0 m [] ps out r (λ e. true_false (sym e)))

pub pieces_run : (ps : List (List ℕ)) → (out : List ℕ) × ((m : ℕ) × Runs OneTurn false 0 [] ps out m)
pieces_run ps = turns.runs_open OneTurn steady ps 0 []

-- and two cuttings of one input print the same
pub pieces_once : (ps qs : List (List ℕ)) → whole ps ≡ whole qs → (a b : List ℕ) (m k : ℕ) → Runs OneTurn false 0 [] ps a m → Runs OneTurn false 0 [] qs b k → (a ≡ b) × (m ≡ k)
pieces_once ps qs e a b m k r q = turns.pieces_once OneTurn steady ps qs e 0 m k a b r q
