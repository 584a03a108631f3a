-- Larger steps of `Rearranged`, made of its own: a pair moved behind others, pairs turned round, a strange pair put in anywhere or with any other
-- value, pairs that mean the same, and a step behind others. Assumes nothing.
use mathlib.Core.Path.{◌≡◌, refl}
use Prim.Native.Nat.{ℕ, zero, suc}
use native.Mathlib.Omega.{arith}
use lib.Dec.{T}
use Rattle.element.specs.{Tree.Tree, Tree.Pairs, Tree.Pairs.end, Tree.Pairs.pair, Meaning.key_of, Meaning.meaning_of, Meaning.meaning_of_pairs}
use Rattle.message.specs.Fields.{fields_of}
use Rattle.promises.specs.Steady.{Rearranged}
use Rattle.promises.proofs.Tested.{is_strange, strange}

-- a pair put in behind n others, or last
abbrev pub behind : ℕ → Tree → Tree → Pairs → Pairs
behind zero k v ps = pair k v ps
behind (suc n) k v end = pair k v end
behind (suc n) k v (pair j w ps) = pair j w (behind n k v ps)

-- the pairs turned round, in front of others
abbrev pub turned : Pairs → Pairs → Pairs
turned end qs = qs
turned (pair k v ps) qs = turned ps (pair k v qs)

-- the pairs as they are, in front of others
abbrev pub before : Pairs → Pairs → Pairs
before end qs = qs
before (pair k v ps) qs = pair k v (before ps qs)

module _ (c : ℕ) where
  pub moved : (n : ℕ) (k v : Tree) (ps : Pairs) → Rearranged c (pair k v ps) (behind n k v ps)
  moved zero k v ps = Rearranged.same
  moved (suc n) k v end = Rearranged.same
  moved (suc n) k v (pair j w ps) = Rearranged.next Rearranged.swapped (Rearranged.behind (moved n k v ps))

  pub put_in : (n : ℕ) (k v : Tree) (ps : Pairs) → T (is_strange (fields_of c) (key_of k)) → Rearranged c ps (behind n k v ps)
  put_in n k v ps t = Rearranged.next (Rearranged.added (strange (fields_of c) (key_of k) t)) (moved n k v ps)

  -- under a strange key any value may stand for any other
  pub replaced : (k v w : Tree) (ps : Pairs) → T (is_strange (fields_of c) (key_of k)) → Rearranged c (pair k v ps) (pair k w ps)
  replaced k v w ps t = let s = strange (fields_of c) (key_of k) t in Rearranged.next (Rearranged.back (Rearranged.added s)) (Rearranged.added s)

  pub inside : (fs : Pairs) {ps qs : Pairs} → Rearranged c ps qs → Rearranged c (before fs ps) (before fs qs)
  inside end r = r
  inside (pair k v fs) r = Rearranged.behind (inside fs r)

  past : (ps : Pairs) (k v : Tree) (qs : Pairs) → Rearranged c (pair k v (before ps qs)) (before ps (pair k v qs))
  past end k v qs = Rearranged.same
  past (pair j w ps) k v qs = Rearranged.next Rearranged.swapped (Rearranged.behind (past ps k v qs))

  turned_onto : (ps qs : Pairs) → Rearranged c (before ps qs) (turned ps qs)
  turned_onto end qs = Rearranged.same
  turned_onto (pair k v ps) qs = Rearranged.next (past ps k v qs) (turned_onto ps (pair k v qs))

  before_end : (ps : Pairs) → before ps end ≡ ps
  before_end end = refl
  before_end (pair k v ps) = rw (before_end ps)

  pub turn : (ps : Pairs) → Rearranged c ps (turned ps end)
  turn ps = rw (before_end ps) at (turned_onto ps end)

  -- other widths throughout
  pub respelled : (ps qs : Pairs) → meaning_of_pairs ps ≡ meaning_of_pairs qs → Rearranged c ps qs
  unfolding meaning_of
  respelled end end e = Rearranged.same
  respelled end (pair j w qs) e = let z : ◌≡◌ {A = ℕ} 0 1 = cc in absurd (omega arith)
  respelled (pair k v ps) end e = let z : ◌≡◌ {A = ℕ} 0 1 = cc in absurd (omega arith)
  respelled (pair k v ps) (pair j w qs) e =
      let u : key_of k ≡ key_of j = cc in
      let x : meaning_of v ≡ meaning_of w = cc in
      let f : meaning_of_pairs ps ≡ meaning_of_pairs qs = cc in
      Rearranged.next (Rearranged.widened u x) (Rearranged.behind (respelled ps qs f))
