-- What the program prints of both files is settled: there is one text, and no second. Assumes nothing.
use mathlib.Core.{Path.◌≡◌, Path.subst, List.List, List.[], List.◌∷◌}
use Prim.Native.Nat.{ℕ}
use Rattle.meters.specs.Columns.{Columns}
use Rattle.day.specs.{Enrolments.empty_table, Replay.Enrols, Replay.ReplaysTrace, Replay.daybreak, Replay.Prints}
use Rattle.day.proofs.{EnrolWays.some_bytes, Printing.enrols_once, Printing.enrols_all, Printing.replays_once, Printing.replays_all}

pub prints_once : (s t a b : List ℕ) → Prints s t a → Prints s t b → a ≡ b
prints_once s t a b (Prints.refused s' t' o c m n) (Prints.refused s'' t'' p e k l) = (enrols_once empty_table c e s a b m k).0
prints_once s t a b (Prints.refused s' t' o c m n) (Prints.replayed s'' t'' p e y k l) = absurd (n (enrols_once empty_table c e s a [] m k).0)
prints_once s t a b (Prints.replayed s' t' o c y m n) (Prints.refused s'' t'' p e k l) = absurd (l (enrols_once empty_table e c s b [] k m).0)
prints_once s t a b (Prints.replayed s' t' o c y m n) (Prints.replayed s'' t'' p e z k l) =
    let q = (enrols_once empty_table c e s [] [] m k).1 in
    (replays_once (daybreak e) y z t a b (subst (λ (g : Columns). ReplaysTrace (daybreak g) t a y) q n) l).0

pub prints_all : (s t : List ℕ) → (out : List ℕ) × Prints s t out
prints_all s t = go (enrols_all empty_table s).0 (enrols_all empty_table s).1.0 (enrols_all empty_table s).1.1
  where
    go : (o : List ℕ) (c : Columns) → Enrols empty_table s o c → (out : List ℕ) × Prints s t out
    go [] c m = let r = replays_all (daybreak c) t in (r.0, Prints.replayed s t r.0 c r.1.0 m r.1.1)
    go (b ∷ o) c m = (b ∷ o, Prints.refused s t (b ∷ o) c m (some_bytes b o))
