-- However an input is cut into pieces, the turns print the same and leave the same state: what they print and leave with all of it at hand. Assumes nothing.
use mathlib.Core.{Path.◌≡◌, Path.refl, Path.sym, Path.ap, Path.subst, Path.◌∙◌}
use mathlib.Core.{Bool.Bool, Bool.true, Bool.false}
use mathlib.Core.List.{List, [], ◌∷◌, ◌++◌, append_assoc}
use Prim.Native.Nat.{ℕ, zero, suc, ◌+◌, ◌-◌, ◌≤◌, ◌<◌}
use native.Mathlib.Omega.{arith}
use lib.{ListN.length, ListN.drop, ListN.length-drop, Seq.drop-append-le, Dec.eqb}
use borrow.Author.Tests.{eqb-true, eqb-false}
use Rattle.octets.proofs.{Ranges.true_false, Places.append-nil}
use Rattle.turns.specs.Turns.{Turn, Runs, whole}
use Rattle.turns.proofs.Steady.{Steady}

module _ {S : Type 0} (T : Bool → S → List ℕ → Turn S → Type 0) (law : Steady T) where
  -- a turn that does not wait, with all that is to come at hand
  with_all : (last : Bool) (x : S) (h w : List ℕ) → (last ≡ true → w ≡ []) → (t : Turn S) → T last x h t → (t.ended ≡ false → t.used ≡ 0 → ⊥) → T true x (h ++ w) t
  with_all true x h w seen t s n = subst (λ (l : List ℕ). T true x l t) (sym (ap (λ (l : List ℕ). h ++ l) (seen refl) ∙ append-nil h)) s
  with_all false x h w seen t s n = law.stays x h w true t s n

  pub run_whole : (last : Bool) (x y : S) (h : List ℕ) (ps : List (List ℕ)) (out : List ℕ) → Runs T last x h ps out y → (last ≡ true → ps ≡ []) → Runs T true x (h ++ whole ps) [] out y
  run_whole last x y h ps out (Runs.ends l a g qs t s d) seen =
      Runs.ends true x (h ++ whole ps) [] t (with_all last x h (whole ps) (λ e. ap whole (seen e)) t s (λ e. true_false (sym d ∙ e))) d
  run_whole last x y h ps out (Runs.passes l a b g qs rest t s d z r) seen =
      Runs.passes true x y (h ++ whole ps) [] rest t (with_all last x h (whole ps) (λ e. ap whole (seen e)) t s (λ e u. z u)) d z
      (subst (λ (k : List ℕ). Runs T true t.state k [] rest y) (sym (drop-append-le t.used h (whole ps) (law.within last x h t s)))
      (run_whole last t.state y (drop t.used h) ps rest r seen))
  run_whole last x y h ps out (Runs.joins l a b g p qs rest t s d z r) seen =
      let w = law.waits last x h t s d z in
      let i : Runs T true t.state ((h ++ p) ++ whole qs) [] rest y = run_whole last t.state y (h ++ p) qs rest r (λ e. true_false (sym e ∙ w.0)) in
      rw w.1.0 (rw (append_assoc, w.1.1) at i)
  run_whole last x y h ps out (Runs.closes l a b g rest t s d z r) seen =
      let w = law.waits last x h t s d z in
      let i : Runs T true t.state (h ++ []) [] rest y = run_whole true t.state y h [] rest r (λ e. refl) in
      rw w.1.0 (rw w.1.1 at i)

  -- with all at hand no turn waits, so there is one run
  pub whole_once : (x y z : S) (s a b : List ℕ) → Runs T true x s [] a y → Runs T true x s [] b z → (a ≡ b) × (y ≡ z)
  whole_once x y z s a b (Runs.ends l v g qs t m d) (Runs.ends l' v' g' qs' u n e) =
      let q = law.once true x s t u m n in (ap (λ (k : Turn S). k.text) q, ap (λ (k : Turn S). k.state) q)
  whole_once x y z s a b (Runs.ends l v g qs t m d) (Runs.passes l' v' w' g' qs' rest u n e f r) =
      let q = law.once true x s t u m n in true_false (sym d ∙ ap (λ (k : Turn S). k.ended) q ∙ e)
  whole_once x y z s a b (Runs.ends l v g qs t m d) (Runs.closes l' v' w' g' rest u n e f r) = true_false (law.waits true x s u n e f).0
  whole_once x y z s a b (Runs.passes l v w g qs rest t m d f r) (Runs.ends l' v' g' qs' u n e) =
      let q = law.once true x s t u m n in true_false (sym e ∙ sym (ap (λ (k : Turn S). k.ended) q) ∙ d)
  whole_once x y z s a b (Runs.passes l v w g qs rest t m d f r) (Runs.passes l' v' w' g' qs' rest' u n e f' r') =
      let q = law.once true x s t u m n in
      let i = whole_once t.state y z (drop t.used s) rest rest' r (subst (λ (k : Turn S). Runs T true k.state (drop k.used s) [] rest' z) (sym q) r') in
      (λ j. (q j).text ++ i.0 j, i.1)
  whole_once x y z s a b (Runs.passes l v w g qs rest t m d f r) (Runs.closes l' v' w' g' rest' u n e f' r') = true_false (law.waits true x s u n e f').0
  whole_once x y z s a b (Runs.closes l v w g rest t m d f r) q = true_false (law.waits true x s t m d f).0

  -- turns come to an end, whatever arrives and however it is cut
  abbrev Ran : Bool → S → List ℕ → List (List ℕ) → Type 0
  Ran last x h ps = (out : List ℕ) × ((y : S) × Runs T last x h ps out y)

  abbrev Waited : Bool → List (List ℕ) → Type 0
  Waited last ps = (x : S) (h : List ℕ) (t : Turn S) → T last x h t → last ≡ false → t.ended ≡ false → t.used ≡ 0 → Ran last x h ps

  module _ (last : Bool) (ps : List (List ℕ)) (wait : Waited last ps) where
    -- one turn, by what the bytes behind it lead to
    turn_on : (x : S) (h : List ℕ) (t : Turn S) → T last x h t → (t.ended ≡ false → (t.used ≡ 0 → ⊥) → Ran last t.state (drop t.used h) ps) → Ran last x h ps
    turn_on x h t s more = go t.ended refl
      where
        goes : t.ended ≡ false → (b : Bool) → eqb t.used 0 ≡ b → Ran last x h ps
        goes d true e = wait x h t s (law.waits last x h t s d (eqb-true t.used 0 e)).0 d (eqb-true t.used 0 e)
        goes d false e =
            let r = more d (eqb-false t.used 0 e) in
            (t.text ++ r.0, (r.1.0, Runs.passes last x r.1.0 h ps r.0 t s d (eqb-false t.used 0 e) r.1.1))

        go : (b : Bool) → t.ended ≡ b → Ran last x h ps
        go true d = (t.text, (t.state, Runs.ends last x h ps t s d))
        go false d = goes d (eqb t.used 0) refl

    runs_within : (most : ℕ) (x : S) (h : List ℕ) → length h ≤ most → Ran last x h ps
    runs_within zero x h l =
        let s = law.told last x h in
        turn_on x h s.0 s.1 (λ d z. absurd (z (let w : s.0.used ≤ length h = law.within last x h s.0 s.1 in omega arith)))
    runs_within (suc most) x h l =
        let s = law.told last x h in
        turn_on x h s.0 s.1
        (λ d z. runs_within most s.0.state (drop s.0.used h)
        (let w : s.0.used ≤ length h = law.within last x h s.0 s.1 in let k : s.0.used ≡ 0 → ⊥ = z in omega (arith, length-drop s.0.used h)))

  -- the end was seen: no turn waits
  pub runs_last : (x : S) (h : List ℕ) → Ran true x h []
  runs_last x h = runs_within true [] (λ y g t s l d z. true_false l) (length h) x h (omega arith)

  -- by how many pieces are to come
  pub runs_open : (ps : List (List ℕ)) (x : S) (h : List ℕ) → Ran false x h ps
  runs_open [] x h =
      runs_within false []
      (λ y g t s l d z. let r = runs_last t.state g in (t.text ++ r.0, (r.1.0, Runs.closes false y r.1.0 g r.0 t s d z r.1.1)))
      (length h) x h (omega arith)
  runs_open (p ∷ ps) x h =
      runs_within false (p ∷ ps)
      (λ y g t s l d z. let r = runs_open ps t.state (g ++ p) in (t.text ++ r.0, (r.1.0, Runs.joins false y r.1.0 g p ps r.0 t s d z r.1.1)))
      (length h) x h (omega arith)

  -- and two cuttings of one input print the same and leave the same
  pub pieces_once : (ps qs : List (List ℕ)) → whole ps ≡ whole qs → (x y z : S) (a b : List ℕ) → Runs T false x [] ps a y → Runs T false x [] qs b z → (a ≡ b) × (y ≡ z)
  pieces_once ps qs e x y z a b r q =
      whole_once x y z (whole qs) a b
      (subst (λ (s : List ℕ). Runs T true x s [] a y) e (run_whole false x y [] ps a r (λ f. true_false (sym f))))
      (run_whole false x z [] qs b q (λ f. true_false (sym f)))
